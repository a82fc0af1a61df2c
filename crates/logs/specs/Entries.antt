-- A log as a list of numbers with a limit on its length.
use Rattle.std.specs.Prelude.{ℕ, ◌-◌, cond, ◌&&◌, List, [], ◌∷◌, ◌++◌, length, Some, None, Ok, Err, Option, Result, ◌==◌, nat_le, slice_index}
use Rattle.base.specs.declared.fault.Fault.{Fault}
use Rattle.base.specs.Faults.{log_full}

-- the list after an addition: a full log stays as it is
abbrev pub added : ℕ → List ℕ → ℕ → List ℕ
added limit xs n = cond (length xs == limit) xs (xs ++ n ∷ [])

abbrev pub added_outcome : ℕ → List ℕ → Result (Unit {0}) Fault
added_outcome limit xs = cond (length xs == limit) (Err log_full) (Ok tt)

-- the number at a place, counted from 1
abbrev pub at_place : List ℕ → ℕ → Option ℕ
at_place xs place = cond (nat_le 1 place && nat_le place (length xs)) (Some (slice_index xs (place - 1))) None
