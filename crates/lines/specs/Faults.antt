-- The refusals of the text layer.
use Rattle.std.specs.Prelude.{ℕ, Some}
use Rattle.base.specs.declared.fault.Fault.{Fault}
use Rattle.base.specs.declared.fault.Layer.TheVariants.{Text}
use Rattle.base.specs.declared.fault.Refusal.{Refusal}
use Rattle.base.specs.declared.fault.Refusal.TheVariants.{BadField}
use Rattle.base.specs.Faults.{plain}

-- a refusal about the whole line or buffer
abbrev pub refused : Refusal → Fault
refused n = plain n Text

-- the field at `place` has not its form; the letter is at place 1
abbrev pub bad_field : ℕ → Fault
bad_field place = record { number = BadField; field = Some place; layer = Text }
