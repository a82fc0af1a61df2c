-- A step and its line belong to each other.
use Rattle.std.specs.Prelude.{◌≡◌, ℕ, List, length, None, Ok}
use Rattle.terms.specs.declared.calls.Call.TheVariants.{Propose, Receive, Hear, Sync, Notice, Change, Query}
use Rattle.lines.specs.declared.step.Step.{Step}
use Rattle.lines.specs.declared.step.Step.TheVariants.{Start, Call as Asks}
use Rattle.lines.specs.Reading.{parse}
use Rattle.lines.specs.Writing.{line_of, unwritable}

-- a set of voters has a place for each of ten digits; in code this is its type
abbrev pub Sound : Step → Type 0
Sound (Start s) = Unit {0}
Sound (Asks (Propose r)) = Unit {0}
Sound (Asks (Receive replica job)) = Unit {0}
Sound (Asks (Hear replica job)) = Unit {0}
Sound (Asks Sync) = Unit {0}
Sound (Asks (Notice replica job)) = Unit {0}
Sound (Asks (Change leader voters)) = length voters.named ≡ 10
Sound (Asks (Query job)) = Unit {0}

-- a step that the writer takes
pub record Writable (s : Step) : Type 0 where
  pub sound : Sound s
  pub no_bad_field : unwritable s ≡ None

-- what the writer gives is read as that very step
abbrev pub ReadsBack : Type 0
ReadsBack = (s : Step) → Writable s → parse (line_of s) ≡ Ok s

-- a step that is read from a line can be written, and its line is that line
pub record Gives (line : List ℕ) (s : Step) : Type 0 where
  pub writable : Writable s
  pub same_line : line_of s ≡ line

abbrev pub WritesBack : Type 0
WritesBack = (line : List ℕ) (s : Step) → parse line ≡ Ok s → Gives line s

-- two steps with one line are one step
abbrev pub OneStep : Type 0
OneStep = (s t : Step) → Writable s → Writable t → line_of s ≡ line_of t → s ≡ t
