-- What the fields of a line add to it as it is made, and what it means that a line was made.
use Rattle.std.specs.Prelude.{◌≡◌, ℕ, ◌+◌, ◌<◌, ◌≤◌, true, false, List, ◌∷◌, ◌++◌, length, Some, None, decimal, Option, Result, MatchResult}
use Rattle.arrayvec.specs.ArrayString.{ArrayString, array_string_len}
use Rattle.base.specs.declared.fault.Fault.{Fault}
use Rattle.terms.specs.declared.voters.Voters.{Voters}
use Rattle.lines.specs.Faults.{bad_field}
use Rattle.lines.specs.Limits.{largest}
use Rattle.lines.specs.Writing.{nobody, set_of, letter_of, fields_of, tabbed}
use Rattle.lines.specs.declared.step.Step.{Step}

-- a number after a tab, or its fault if it is too large
abbrev pub PutNumber : ℕ → ℕ → ArrayString → ArrayString → Result (Unit {0}) Fault → Type 0
PutNumber n place t u r =
    MatchResult r (λ _. (n ≤ largest) × (u.bytes ≡ t.bytes ++ 9 ∷ decimal n) × (array_string_len u ≤ array_string_len t + 7))
    (λ e. (largest < n) × (e ≡ bad_field place))

-- the digits of voters after a tab, or the fault if there are none
abbrev pub PutVoters : Voters → ℕ → ArrayString → ArrayString → Result (Unit {0}) Fault → Type 0
PutVoters v place t u r =
    MatchResult r (λ _. (nobody v ≡ false) × (u.bytes ≡ t.bytes ++ 9 ∷ set_of v) × (array_string_len u ≤ array_string_len t + 11))
    (λ e. (nobody v ≡ true) × (e ≡ bad_field place))

-- a step's line without its end
abbrev pub front_of : Step → List ℕ
front_of s = letter_of s ∷ tabbed (fields_of s)

-- with no bad field the text is `front`, of at most `most` bytes; with one, the answer is its fault
abbrev pub Begun : Option ℕ → List ℕ → ℕ → Result ArrayString Fault → Type 0
Begun bad front most r =
    MatchResult r (λ t. (bad ≡ None) × (t.bytes ≡ front) × (length t.bytes ≤ most))
    (λ e. (place : ℕ) × (bad ≡ Some place) × (e ≡ bad_field place))
