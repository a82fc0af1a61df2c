-- The two limits of the text form.
use Rattle.std.specs.Prelude.{ℕ}

-- the most bytes that a line has, with its end
abbrev pub longest : ℕ
longest = 40

-- the largest number that a line holds
abbrev pub largest : ℕ
largest = 999999
