-- A call's outcome: what it tells where it is not refused, and else the fault.
use Rattle.std.specs.Prelude.{Some, None, Ok, Err, Option, Result}
use Rattle.base.specs.declared.fault.Fault.{Fault}

abbrev pub settled : {A : Type 0} → Option Fault → A → Result A Fault
settled None told = Ok told
settled (Some fault) told = Err fault

-- a refused call leaves what it was given
abbrev pub unless_refused : {A : Type 0} → Option Fault → A → A → A
unless_refused None after before = after
unless_refused (Some fault) after before = before
