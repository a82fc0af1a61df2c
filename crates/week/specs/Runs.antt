-- What a call tells, what a line comes to, and the report of a whole file.
use Rattle.std.specs.Prelude.{ℕ, ◌+◌, Bool, true, false, cond, List, [], ◌∷◌, ◌++◌, length, Ok, Err, Result, nat_lt}
use Rattle.base.specs.declared.fault.Fault.{Fault}
use Rattle.base.specs.declared.fault.Refusal.TheVariants.{MisplacedSetting, LongFile}
use Rattle.base.specs.Meaning.{Meaning}
use Rattle.protocol.specs.declared.setting.Setting.{Setting}
use Rattle.terms.specs.declared.calls.Call.{Call}
use Rattle.terms.specs.declared.calls.Call.TheVariants.{Propose, Receive, Hear, Sync, Notice, Change, Query}
use Rattle.protocol.specs.State.{State, new_group}
use Rattle.protocol.specs.Settings.{setting_refusal}
use Rattle.protocol.specs.Outcomes.{settled}
use Rattle.protocol.specs.Reported.{quorums}
use Rattle.protocol.specs.Steps.{received, phase_after, synced, note, pool_size, changed, status}
use Rattle.protocol.specs.Histories.{refusal, step}
use Rattle.lines.specs.declared.step.Step.{Step}
use Rattle.lines.specs.declared.step.Step.TheVariants.{Start, Call as Asks}
use Rattle.lines.specs.Faults.{refused}
use Rattle.lines.specs.Reading.{parse}
use Rattle.week.specs.declared.event.Outcome.{Outcome}
use Rattle.week.specs.declared.event.Outcome.TheVariants.{Started, Proposed, Received, Heard, Synced, Noticed, Changed, Queried}
use Rattle.week.specs.declared.event.Event.{Event}
use Rattle.week.specs.declared.event.Event.TheVariants.{Told, Refused, Ended}
use Rattle.week.specs.Reports.{line_for}
use Rattle.week.specs.Cuts.{lines_in}

-- the most bytes that a file has
abbrev pub longest_file : ℕ
longest_file = 60000

abbrev pub misplaced : Fault
misplaced = refused MisplacedSetting

-- a call's event: what it told, or its refusal
abbrev pub answered : Call → Result Outcome Fault → Event
answered call (Ok outcome) = Told outcome
answered call (Err fault) = Refused call fault

-- whether an event ends the run
abbrev pub ends : Event → Bool
ends (Told outcome) = false
ends (Refused call fault) = false
ends (Ended fault) = true

-- the setting that the first line gives, or why it gives none
abbrev pub opening : Result Step Fault → Result Setting Fault
opening (Ok (Start k)) = settled (setting_refusal k) k
opening (Ok (Asks call)) = Err misplaced
opening (Err fault) = Err fault

module _ {S : Type 0} (m : Meaning S) where
  abbrev pub told : Call → State S → Outcome
  told (Propose x) s = Proposed s.jobs.count
  told (Receive r c) s = Received (received m r c s)
  told (Hear r c) s = Heard (phase_after s r c)
  told Sync s = Synced (synced m s.lead.waiting s)
  told (Notice r c) s = Noticed (pool_size (note r c s) r)
  told (Change l voters) s = Changed (changed voters s)
  told (Query c) s = Queried (status c s)

  -- what a call gives in a state: what it tells, or why it is refused
  abbrev pub outcome : Call → State S → Result Outcome Fault
  outcome call s = settled (refusal m call s) (told call s)

  -- what a later line comes to in a state, and the state after it
  abbrev pub comes_to : Result Step Fault → State S → Event
  comes_to (Ok (Asks call)) s = answered call (outcome call s)
  comes_to (Ok (Start k)) s = Ended misplaced
  comes_to (Err fault) s = Ended fault

  abbrev pub state_after : Result Step Fault → State S → State S
  state_after (Ok (Asks call)) s = step m call s
  state_after (Ok (Start k)) s = s
  state_after (Err fault) s = s

  -- the report of the lines from number n on; the line that ends the run is its last
  abbrev pub later : ℕ → State S → List (List ℕ) → List ℕ
  later n s [] = []
  later n s (line ∷ lines) =
      line_for n (comes_to (parse line) s)
      ++ cond (ends (comes_to (parse line) s)) [] (later (n + 1) (state_after (parse line) s) lines)

  -- the report that begins with the first line's setting; lines are counted from 1
  abbrev pub opened : ℕ → Result Setting Fault → List (List ℕ) → List ℕ
  opened limit (Ok k) lines = line_for 1 (Told (Started (quorums k.size))) ++ later 2 (new_group m limit k) lines
  opened limit (Err fault) lines = line_for 1 (Ended fault)

  abbrev pub report_of : ℕ → List (List ℕ) → List ℕ
  report_of limit [] = line_for 1 (Ended misplaced)
  report_of limit (line ∷ lines) = opened limit (opening (parse line)) lines

  -- the report of a file
  abbrev pub week_report : ℕ → List ℕ → List ℕ
  week_report limit file = cond (nat_lt longest_file (length file)) (line_for 0 (Ended (refused LongFile))) (report_of limit (lines_in file))
