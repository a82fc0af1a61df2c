-- Numbers as decimal lines, and such lines read as numbers.
use Rattle.std.specs.Prelude.{ℕ, ◌+◌, ◌-◌, ◌*◌, Bool, true, cond, ◌&&◌, List, [], ◌∷◌, ◌++◌, decimal, nat_lt}
use Rattle.std.specs.Char.{is_ascii_digit}

-- each number's decimal digits, with no zero in front, and byte 10
abbrev pub lines_of : List ℕ → List ℕ
lines_of [] = []
lines_of (n ∷ ns) = decimal n ++ (10 ∷ lines_of ns)

-- the numbers of lines whose first goes on from n: a digit adds to the number, any other byte ends it
abbrev pub read_on : ℕ → List ℕ → List ℕ
read_on n [] = []
read_on n (b ∷ bs) = cond (is_ascii_digit b) (read_on (n * 10 + (b - 48)) bs) (n ∷ read_on 0 bs)

abbrev pub numbers_in : List ℕ → List ℕ
numbers_in bs = read_on 0 bs

-- each number has sixteen bits
abbrev pub all_fit : List ℕ → Bool
all_fit [] = true
all_fit (n ∷ ns) = nat_lt n 65536 && all_fit ns
