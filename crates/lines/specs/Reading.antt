-- The one step or the one fault that a line has.
use Rattle.std.specs.Prelude.{ℕ, ◌+◌, Bool, true, false, cond, List, length, Some, None, Ok, Err, Option, Result, ◌==◌, slice_index}
use Rattle.base.specs.declared.fault.Fault.{Fault}
use Rattle.base.specs.declared.fault.Refusal.TheVariants.{BadLine, UnknownLetter, WrongFieldCount}
use Rattle.base.specs.Faults.{number_of}
use Rattle.terms.specs.declared.calls.Call.TheVariants.{Propose, Receive, Hear, Sync, Notice, Change, Query}
use Rattle.lines.specs.declared.step.Step.{Step}
use Rattle.lines.specs.declared.step.Step.TheVariants.{Start, Call as Asks}
use Rattle.lines.specs.Faults.{refused, bad_field}
use Rattle.lines.specs.Letters.{setting_letter, propose_letter, receive_letter, hear_letter, notice_letter, sync_letter, change_letter, query_letter}
use Rattle.lines.specs.Forms.{front, back, tabs, fits, body, number, set}

-- what is made of the field at `place`, if that has its form
abbrev pub with_field : {A T : Type 0} → ℕ → Option A → (A → Result T Fault) → Result T Fault
with_field place None make = Err (bad_field place)
with_field place (Some x) make = make x

-- a flag is 0 or 1
abbrev pub flag : ℕ → Option Bool
flag n = cond (n == 0) (Some false) (cond (n == 1) (Some true) None)

-- the fields after the letter, for each kind of step
abbrev pub setting : List ℕ → Result Step Fault
setting bs =
    with_field 2 (number (front bs)) (λ size.
    with_field 3 (number (front (back bs))) (λ leader.
    with_field 4 (number (front (back (back bs)))) (λ n.
    with_field 4 (flag n) (λ fast. Ok (Start (record { size = size; leader = leader; fast = fast }))))))

abbrev pub proposal : List ℕ → Result Step Fault
proposal bs =
    with_field 2 (number (front bs)) (λ book.
    with_field 3 (number (front (back bs))) (λ act.
    with_field 4 (number (front (back (back bs)))) (λ x.
    with_field 5 (number (front (back (back (back bs))))) (λ y.
    with_field 6 (number (front (back (back (back (back bs)))))) (λ z.
    Ok (Asks (Propose (record { book = book; act = act; x = x; y = y; z = z }))))))))

-- a replica and a job
abbrev pub pair : List ℕ → Result (ℕ × ℕ) Fault
pair bs = with_field 2 (number (front bs)) (λ replica. with_field 3 (number (front (back bs))) (λ job. Ok (replica, job)))

abbrev pub change : List ℕ → Result Step Fault
change bs =
    with_field 2 (number (front bs)) (λ leader.
    with_field 3 (set (front (back bs))) (λ voters. Ok (Asks (Change leader voters))))

abbrev pub query : List ℕ → Result Step Fault
query bs = with_field 2 (number (front bs)) (λ job. Ok (Asks (Query job)))

abbrev pub from_pair : Result (ℕ × ℕ) Fault → (ℕ → ℕ → Step) → Result Step Fault
from_pair (Ok p) make = Ok (make p.0 p.1)
from_pair (Err e) make = Err e

-- r, if there are as many fields as there should be
abbrev pub counted : ℕ → ℕ → Result Step Fault → Result Step Fault
counted have want r = cond (have == want) r (Err (refused WrongFieldCount))

-- the letter, the number of fields, and what comes after the letter
abbrev pub step_of : ℕ → ℕ → List ℕ → Result Step Fault
step_of letter n bs =
    cond (letter == setting_letter) (counted n 4 (setting bs))
    (cond (letter == propose_letter) (counted n 6 (proposal bs))
    (cond (letter == receive_letter) (counted n 3 (from_pair (pair bs) (λ replica job. Asks (Receive replica job))))
    (cond (letter == hear_letter) (counted n 3 (from_pair (pair bs) (λ replica job. Asks (Hear replica job))))
    (cond (letter == notice_letter) (counted n 3 (from_pair (pair bs) (λ replica job. Asks (Notice replica job))))
    (cond (letter == sync_letter) (counted n 1 (Ok (Asks Sync)))
    (cond (letter == change_letter) (counted n 3 (change bs))
    (cond (letter == query_letter) (counted n 2 (query bs))
    (Err (refused UnknownLetter)))))))))

-- the letter, or 0, which is none, where the first field is not one byte
abbrev pub letter : List ℕ → ℕ
letter bs = cond (length bs == 1) (slice_index bs 0) 0

abbrev pub parse : List ℕ → Result Step Fault
parse line =
    cond (fits line)
    (step_of (letter (front (body line))) (1 + tabs (body line)) (back (body line)))
    (Err (refused BadLine))

-- the answer of the check: 0, or the refusal's number
abbrev pub answer : Result Step Fault → ℕ
answer (Ok s) = 0
answer (Err e) = number_of e.number
