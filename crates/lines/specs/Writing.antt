-- The line of a step, which steps have none, and what the writer does to a buffer.
use Rattle.std.specs.Prelude.{ℕ, zero, suc, ◌+◌, Bool, cond, List, [], ◌∷◌, ◌++◌, length, drop, Some, None, Ok, Err, decimal, Option, Result, ◌==◌, nat_lt}
use Rattle.base.specs.declared.fault.Fault.{Fault}
use Rattle.base.specs.declared.fault.Refusal.TheVariants.{ShortBuffer}
use Rattle.terms.specs.declared.calls.Call.TheVariants.{Propose, Receive, Hear, Sync, Notice, Change, Query}
use Rattle.terms.specs.declared.voters.Voters.{Voters}
use Rattle.terms.specs.Votes.{votes}
use Rattle.lines.specs.declared.step.Step.{Step}
use Rattle.lines.specs.declared.step.Step.TheVariants.{Start, Call as Asks}
use Rattle.lines.specs.Faults.{refused, bad_field}
use Rattle.lines.specs.Letters.{setting_letter, propose_letter, receive_letter, hear_letter, notice_letter, sync_letter, change_letter, query_letter}
use Rattle.lines.specs.Limits.{longest, largest}

-- the digits of the voters among the k numbers from d up
abbrev pub members : ℕ → ℕ → Voters → List ℕ
members zero d v = []
members (suc k) d v = cond (votes v d) ((48 + d) ∷ members k (d + 1) v) (members k (d + 1) v)

-- the digits of a set; shut, since it would open to ten tests
unfoldable pub set_of : Voters → List ℕ
set_of v = members 10 0 v

-- no voter is named
abbrev pub nobody : Voters → Bool
nobody v = length (set_of v) == 0

abbrev pub bit : Bool → ℕ
bit b = cond b 1 0

abbrev pub letter_of : Step → ℕ
letter_of (Start s) = setting_letter
letter_of (Asks (Propose r)) = propose_letter
letter_of (Asks (Receive replica job)) = receive_letter
letter_of (Asks (Hear replica job)) = hear_letter
letter_of (Asks Sync) = sync_letter
letter_of (Asks (Notice replica job)) = notice_letter
letter_of (Asks (Change leader voters)) = change_letter
letter_of (Asks (Query job)) = query_letter

-- the fields after the letter
abbrev pub fields_of : Step → List (List ℕ)
fields_of (Start s) = decimal s.size ∷ decimal s.leader ∷ decimal (bit s.fast) ∷ []
fields_of (Asks (Propose r)) = decimal r.book ∷ decimal r.act ∷ decimal r.x ∷ decimal r.y ∷ decimal r.z ∷ []
fields_of (Asks (Receive replica job)) = decimal replica ∷ decimal job ∷ []
fields_of (Asks (Hear replica job)) = decimal replica ∷ decimal job ∷ []
fields_of (Asks Sync) = []
fields_of (Asks (Notice replica job)) = decimal replica ∷ decimal job ∷ []
fields_of (Asks (Change leader voters)) = decimal leader ∷ set_of voters ∷ []
fields_of (Asks (Query job)) = decimal job ∷ []

-- each field after a tab
abbrev pub tabbed : List (List ℕ) → List ℕ
tabbed [] = []
tabbed (f ∷ fs) = 9 ∷ (f ++ tabbed fs)

abbrev pub line_of : Step → List ℕ
line_of s = letter_of s ∷ (tabbed (fields_of s) ++ 10 ∷ [])

-- the place of the first number that is too large, counted from `place`
abbrev pub first_large : ℕ → List ℕ → Option ℕ
first_large place [] = None
first_large place (n ∷ ns) = cond (nat_lt largest n) (Some place) (first_large (place + 1) ns)

-- the place of the first field that has no form: a number too large, or voters of whom there are none
abbrev pub unwritable : Step → Option ℕ
unwritable (Start s) = first_large 2 (s.size ∷ s.leader ∷ [])
unwritable (Asks (Propose r)) = first_large 2 (r.book ∷ r.act ∷ r.x ∷ r.y ∷ r.z ∷ [])
unwritable (Asks (Receive replica job)) = first_large 2 (replica ∷ job ∷ [])
unwritable (Asks (Hear replica job)) = first_large 2 (replica ∷ job ∷ [])
unwritable (Asks Sync) = None
unwritable (Asks (Notice replica job)) = first_large 2 (replica ∷ job ∷ [])
unwritable (Asks (Change leader voters)) = cond (nat_lt largest leader) (Some 2) (cond (nobody voters) (Some 3) None)
unwritable (Asks (Query job)) = first_large 2 (job ∷ [])

-- x where every field has its form, and else the fault of the first that has none
abbrev pub if_writable : {A : Type 0} → Option ℕ → A → Result A Fault
if_writable None x = Ok x
if_writable (Some place) x = Err (bad_field place)

-- what the writer answers, for a buffer of `room` bytes: how long the line is, or why there is none
abbrev pub outcome : Step → ℕ → Result ℕ Fault
outcome s room = cond (nat_lt room longest) (Err (refused ShortBuffer)) (if_writable (unwritable s) (length (line_of s)))

-- the buffer after an answer: the line is at its front, and what comes after it is as it was
abbrev pub filled : Result ℕ Fault → Step → List ℕ → List ℕ
filled (Ok n) s out = line_of s ++ drop n out
filled (Err e) s out = out

abbrev pub written : Step → List ℕ → List ℕ
written s out = filled (outcome s (length out)) s out
