-- What a caller gets for a record: nothing to say, or the fault with the first wrong field.
use Rattle.std.specs.Prelude.{ℕ, Some, None, Ok, Err, Option, Result}
use Rattle.base.specs.declared.fault.Fault.{Fault}
use Rattle.base.specs.Faults.{misfit_at}

abbrev pub accepted : Option ℕ → Result (Unit {0}) Fault
accepted None = Ok tt
accepted (Some f) = Err (misfit_at f)
