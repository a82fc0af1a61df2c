-- Tables: functions from a number, changed at one place, and counts over them.
use Rattle.std.specs.Prelude.{ℕ, zero, suc, Bool, cond, ◌==◌}

-- the table with another value at one place
abbrev pub put : {A : Type 0} → (ℕ → A) → ℕ → A → ℕ → A
put f place value k = cond (k == place) value (f k)

-- how many of the numbers below n pass
unfoldable pub tally : ℕ → (ℕ → Bool) → ℕ
tally zero p = 0
tally (suc n) p = cond (p n) (suc (tally n p)) (tally n p)
