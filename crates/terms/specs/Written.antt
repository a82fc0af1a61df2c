-- What the cases of an answer are known by: a number, a letter, the told result.
use Rattle.std.specs.Prelude.{ℕ, Some, None, Option}
use Rattle.terms.specs.declared.answers.Phase.{Phase}
use Rattle.terms.specs.declared.answers.Phase.TheVariants.{Waiting, Slow, Fast}
use Rattle.terms.specs.declared.answers.Reply.{Reply}
use Rattle.terms.specs.declared.answers.Reply.TheVariants.{No as NoAt, Yes as YesAt, Told}
use Rattle.terms.specs.declared.calls.Received.{Received}
use Rattle.terms.specs.declared.calls.Received.TheVariants.{Yes, No, Dropped}

abbrev pub phase_number : Phase → ℕ
phase_number Waiting = 0
phase_number Slow = 1
phase_number (Fast t e) = 2

-- w, s, f
abbrev pub phase_letter : Phase → ℕ
phase_letter Waiting = 119
phase_letter Slow = 115
phase_letter (Fast t e) = 102

abbrev pub received_number : Received → ℕ
received_number Yes = 0
received_number No = 1
received_number Dropped = 2

-- what a box has said by its reply
abbrev pub verdict : Reply → Received
verdict (NoAt e) = No
verdict (YesAt e) = Yes
verdict (Told e t) = Yes

-- y, n, d
abbrev pub received_letter : Received → ℕ
received_letter Yes = 121
received_letter No = 110
received_letter Dropped = 100

-- the result that the client of a confirmed job was told
abbrev pub told_of : Phase → Option ℕ
told_of Waiting = None
told_of Slow = None
told_of (Fast t e) = Some t
