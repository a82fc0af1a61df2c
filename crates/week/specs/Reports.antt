-- The report's line for each line run: its number, then fields, each after a tab, then byte 10.
use Rattle.std.specs.Prelude.{ℕ, cond, List, [], ◌∷◌, ◌++◌, length, drop, Some, None, Ok, Err, decimal, Option, Result, nat_lt}
use Rattle.base.specs.declared.fault.Fault.{Fault}
use Rattle.base.specs.declared.fault.Refusal.TheVariants.{ShortBuffer}
use Rattle.base.specs.Faults.{number_of}
use Rattle.terms.specs.declared.calls.Call.{Call}
use Rattle.terms.specs.Written.{phase_letter, received_letter}
use Rattle.lines.specs.declared.step.Step.TheVariants.{Call as Asks}
use Rattle.lines.specs.Faults.{refused}
use Rattle.lines.specs.Letters.{setting_letter, propose_letter, receive_letter, hear_letter, notice_letter, sync_letter, change_letter, query_letter}
use Rattle.lines.specs.Writing.{letter_of, tabbed}
use Rattle.week.specs.declared.event.Outcome.{Outcome}
use Rattle.week.specs.declared.event.Outcome.TheVariants.{Started, Proposed, Received, Heard, Synced, Noticed, Changed, Queried}
use Rattle.week.specs.declared.event.Event.{Event}
use Rattle.week.specs.declared.event.Event.TheVariants.{Told, Refused, Ended}

-- a field of one byte
abbrev pub sign : ℕ → List ℕ
sign c = c ∷ []

-- a number, or - where there is none
abbrev pub or_dash : Option ℕ → List ℕ
or_dash (Some n) = decimal n
or_dash None = sign 45

-- the letter, and what was told
abbrev pub told_fields : Outcome → List (List ℕ)
told_fields (Started q) = sign setting_letter ∷ decimal q.fast ∷ decimal q.recovery ∷ decimal q.blocking ∷ []
told_fields (Proposed job) = sign propose_letter ∷ decimal job ∷ []
told_fields (Received r) = sign receive_letter ∷ sign (received_letter r) ∷ []
told_fields (Heard phase) = sign hear_letter ∷ sign (phase_letter phase) ∷ []
told_fields (Synced y) = sign sync_letter ∷ decimal y.job ∷ decimal y.result ∷ []
told_fields (Noticed pooled) = sign notice_letter ∷ decimal pooled ∷ []
told_fields (Changed l) = sign change_letter ∷ decimal l.epoch ∷ decimal l.recovered ∷ []
told_fields (Queried q) =
    sign query_letter ∷ sign (phase_letter q.phase) ∷ or_dash q.told ∷ or_dash q.place ∷ or_dash q.given ∷ []

-- a refused call's letter, !, the refusal's number, and its field if it has one
abbrev pub refused_fields : Call → Fault → Option ℕ → List (List ℕ)
refused_fields call fault None = sign (letter_of (Asks call)) ∷ sign 33 ∷ decimal (number_of fault.number) ∷ []
refused_fields call fault (Some field) = sign (letter_of (Asks call)) ∷ sign 33 ∷ decimal (number_of fault.number) ∷ decimal field ∷ []

-- a fault's field, or 0
abbrev pub or_zero : Option ℕ → ℕ
or_zero (Some n) = n
or_zero None = 0

-- #, the number and the field of what ended the run
abbrev pub event_fields : Event → List (List ℕ)
event_fields (Told outcome) = told_fields outcome
event_fields (Refused call fault) = refused_fields call fault fault.field
event_fields (Ended fault) = sign 35 ∷ decimal (number_of fault.number) ∷ decimal (or_zero fault.field) ∷ []

abbrev pub row : ℕ → List (List ℕ) → List ℕ
row n fields = decimal n ++ (tabbed fields ++ 10 ∷ [])

abbrev pub line_for : ℕ → Event → List ℕ
line_for n event = row n (event_fields event)

-- a buffer is refused that has less than 40 bytes, or less than the line
abbrev pub short_buffer : ℕ
short_buffer = 40

abbrev pub written_length : List ℕ → ℕ → Result ℕ Fault
written_length line buffer =
    cond (nat_lt buffer short_buffer) (Err (refused ShortBuffer))
    (cond (nat_lt buffer (length line)) (Err (refused ShortBuffer)) (Ok (length line)))

-- the buffer after an answer: the line is at its front, and what comes after it is as it was
abbrev pub filled : Result ℕ Fault → List ℕ → List ℕ → List ℕ
filled (Ok n) line out = line ++ drop n out
filled (Err e) line out = out
