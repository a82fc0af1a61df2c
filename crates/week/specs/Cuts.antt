-- A file cut into lines, each with its end, byte 10; the last may lack it.
use Rattle.std.specs.Prelude.{ℕ, cond, List, [], ◌∷◌, ◌==◌}

-- a byte before the first line
abbrev pub led_by : ℕ → List (List ℕ) → List (List ℕ)
led_by c [] = (c ∷ []) ∷ []
led_by c (line ∷ lines) = (c ∷ line) ∷ lines

abbrev pub lines_in : List ℕ → List (List ℕ)
lines_in [] = []
lines_in (c ∷ cs) = cond (c == 10) ((c ∷ []) ∷ lines_in cs) (led_by c (lines_in cs))

-- the first line, and what comes after it
abbrev pub first_line : List ℕ → List ℕ
first_line [] = []
first_line (c ∷ cs) = cond (c == 10) (c ∷ []) (c ∷ first_line cs)

abbrev pub after_first : List ℕ → List ℕ
after_first [] = []
after_first (c ∷ cs) = cond (c == 10) cs (after_first cs)
