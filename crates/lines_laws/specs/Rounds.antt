-- What comes of a step that is written and read, and of a line that is read and written.
use Rattle.std.specs.Prelude.{ℕ, cond, List, ◌++◌, length, drop, Ok, Err, Result, nat_lt}
use Rattle.base.specs.declared.fault.Fault.{Fault}
use Rattle.base.specs.declared.fault.Refusal.TheVariants.{ShortBuffer}
use Rattle.lines.specs.declared.step.Step.{Step}
use Rattle.lines.specs.Faults.{refused}
use Rattle.lines.specs.Limits.{longest}
use Rattle.lines.specs.Writing.{unwritable, if_writable}

-- the step itself, or the writer's fault, for a buffer of `room` bytes
abbrev pub echoed : Step → ℕ → Result Step Fault
echoed s room = cond (nat_lt room longest) (Err (refused ShortBuffer)) (if_writable (unwritable s) s)

-- the line's length, or the fault of the reader or of a buffer that is short
abbrev pub copied : Result Step Fault → List ℕ → ℕ → Result ℕ Fault
copied (Ok s) line room = cond (nat_lt room longest) (Err (refused ShortBuffer)) (Ok (length line))
copied (Err e) line room = Err e

-- the line at the front, and what comes after it as it was; or all as it was
abbrev pub copied_buffer : Result ℕ Fault → List ℕ → List ℕ → List ℕ
copied_buffer (Ok n) line out = line ++ drop n out
copied_buffer (Err e) line out = out
