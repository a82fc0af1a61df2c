-- A log that goes on in a second one once the first is full.
use Rattle.std.specs.Prelude.{ℕ, ◌+◌, min, cond, List, ◌++◌, length, take, nat_lt}

-- no log holds more
abbrev pub most : ℕ
most = 4096

-- the capacity of both as one log
abbrev pub joint : ℕ → ℕ → ℕ
joint first second = min (first + second) most

-- What both hold as one log: what the first holds until it is at its limit, and then both.
abbrev pub continued : ℕ → List ℕ → List ℕ → List ℕ
continued limit xs ys = cond (nat_lt (length xs) limit) xs (take most (xs ++ ys))
