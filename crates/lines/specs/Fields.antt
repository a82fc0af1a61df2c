-- The rest of a line as it is seen between its fields, and what its next field is.
use Rattle.std.specs.Prelude.{◌≡◌, ℕ, ◌+◌, Bool, List, Ok, Result, ◌<◌}
use Rattle.base.specs.declared.fault.Fault.{Fault}
use Rattle.terms.specs.declared.voters.Voters.{Voters}
use Rattle.lines.specs.declared.field.Rest.{Rest}
use Rattle.lines.specs.Forms.{back, front, number, set}
use Rattle.lines.specs.Reading.{with_field, flag}

abbrev pub left : Rest → List ℕ
left r = r.bytes.now

-- one field more was taken; the count of places stops at 255, and a line has no field so far on
abbrev pub Moves : Rest → Rest → Type 0
Moves r s = (left s ≡ back (left r)) × (r.place < 255 → s.place ≡ r.place + 1)

-- what a field at `place` is as a number, as a flag and as a set, where the bytes begin with it
abbrev pub number_field : List ℕ → ℕ → Result ℕ Fault
number_field bs place = with_field place (number (front bs)) Ok

abbrev pub flag_field : List ℕ → ℕ → Result Bool Fault
flag_field bs place = with_field place (number (front bs)) (λ n. with_field place (flag n) Ok)

abbrev pub set_field : List ℕ → ℕ → Result Voters Fault
set_field bs place = with_field place (set (front bs)) Ok
