-- Calls, and histories of them. A refused call leaves the state as it is.
use Rattle.std.specs.Prelude.{ℕ, List, [], ◌∷◌, Option}
use Rattle.base.specs.declared.fault.Fault.{Fault}
use Rattle.base.specs.Meaning.{Meaning}
use Rattle.protocol.specs.declared.setting.Setting.{Setting}
use Rattle.terms.specs.declared.calls.Call.{Call}
use Rattle.terms.specs.declared.calls.Call.TheVariants.{Propose, Receive, Hear, Sync, Notice, Change, Query}
use Rattle.protocol.specs.Outcomes.{unless_refused}
use Rattle.protocol.specs.State.{State, new_group}
use Rattle.protocol.specs.Refusals.{propose_refusal, receive_refusal, hear_refusal, sync_refusal, notice_refusal, change_refusal, query_refusal}
use Rattle.protocol.specs.Steps.{propose, receive, hear, sync, note, change}

module _ {S : Type 0} (m : Meaning S) where
  abbrev pub refusal : Call → State S → Option Fault
  refusal (Propose x) s = propose_refusal (m.misfit x) s
  refusal (Receive r c) s = receive_refusal r c s
  refusal (Hear r c) s = hear_refusal r c s
  refusal Sync s = sync_refusal s.lead.waiting s
  refusal (Notice r c) s = notice_refusal r c s
  refusal (Change l voters) s = change_refusal l voters s
  refusal (Query c) s = query_refusal c s

  abbrev pub moved : Call → State S → State S
  moved (Propose x) s = propose x s
  moved (Receive r c) s = receive m r c s
  moved (Hear r c) s = hear r c s
  moved Sync s = sync m s.lead.waiting s
  moved (Notice r c) s = note r c s
  moved (Change l voters) s = change l voters s
  moved (Query c) s = s

  abbrev pub step : Call → State S → State S
  step call s = unless_refused (refusal call s) (moved call s) s

  abbrev pub run : List Call → State S → State S
  run [] s = s
  run (call ∷ calls) s = run calls (step call s)

  -- the state after a list of calls on a new group
  abbrev pub history : ℕ → Setting → List Call → State S
  history capacity k calls = run calls (new_group m capacity k)
