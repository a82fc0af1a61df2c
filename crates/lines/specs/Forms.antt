-- What a line is made of, over lists of bytes.
use Rattle.std.specs.Prelude.{ℕ, ◌+◌, ◌-◌, ◌*◌, Bool, false, cond, not, ◌&&◌, ◌||◌, List, [], ◌∷◌, length, Some, None, Option, ◌==◌, nat_le, slice_index}
use Rattle.terms.specs.declared.voters.Voters.{Voters}
use Rattle.terms.specs.Votes.{no_voters, with_voter}
use Rattle.lines.specs.Limits.{longest, largest}

-- the bytes before the first tab, and those after it
abbrev pub front : List ℕ → List ℕ
front [] = []
front (c ∷ cs) = cond (c == 9) [] (c ∷ front cs)

abbrev pub back : List ℕ → List ℕ
back [] = []
back (c ∷ cs) = cond (c == 9) cs (back cs)

-- how many tabs there are: one fewer than fields
abbrev pub tabs : List ℕ → ℕ
tabs [] = 0
tabs (c ∷ cs) = cond (c == 9) (1 + tabs cs) (tabs cs)

-- a digit 0 to 9
abbrev pub digit : ℕ → Bool
digit c = nat_le 48 c && nat_le c 57

-- the bytes that a line may have before its end: a tab, a digit, a capital
abbrev pub allowed : ℕ → Bool
allowed c = c == 9 || digit c || (nat_le 65 c && nat_le c 90)

-- allowed bytes and then the end, byte 10, which is the last
abbrev pub ended : List ℕ → Bool
ended [] = false
ended (c ∷ cs) = cond (c == 10) (length cs == 0) (allowed c && ended cs)

abbrev pub fits : List ℕ → Bool
fits line = nat_le (length line) longest && ended line

-- the bytes before the end
abbrev pub body : List ℕ → List ℕ
body [] = []
body (c ∷ cs) = cond (c == 10) [] (c ∷ body cs)

-- the number that digits make after n; it never passes the largest
abbrev pub digits_after : ℕ → List ℕ → Option ℕ
digits_after n [] = Some n
digits_after n (c ∷ cs) =
    cond (digit c) (cond (nat_le (n * 10 + (c - 48)) largest) (digits_after (n * 10 + (c - 48)) cs) None) None

-- one byte or more, and no zero in front of others
abbrev pub led : List ℕ → Bool
led bs = nat_le 1 (length bs) && (length bs == 1 || not (slice_index bs 0 == 48))

abbrev pub number : List ℕ → Option ℕ
number bs = cond (led bs) (digits_after 0 bs) None

-- a digit of a set: at least `low`, which is one more than the digit before it
abbrev pub rises : ℕ → ℕ → Bool
rises low c = digit c && nat_le low (c - 48)

-- the voters v and those that ascending digits add; no digit at all is no set
abbrev pub set_after : ℕ → Voters → List ℕ → Option Voters
set_after low v [] = cond (low == 0) None (Some v)
set_after low v (c ∷ cs) = cond (rises low c) (set_after (c - 48 + 1) (with_voter v (c - 48)) cs) None

abbrev pub set : List ℕ → Option Voters
set bs = set_after 0 no_voters bs
