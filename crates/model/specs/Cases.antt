-- A worked case: two commands of one key on three replicas, with a change of leader between.
use Rattle.std.specs.Prelude.{◌≡◌, ℕ, true, false, List, [], ◌∷◌, ◌++◌}
use Rattle.protocol.specs.declared.setting.Setting.{Setting}
use Rattle.terms.specs.declared.calls.Call.{Call}
use Rattle.terms.specs.declared.calls.Call.TheVariants.{Propose, Receive, Sync, Notice, Change}
use Rattle.terms.specs.declared.voters.Voters.{Voters}
use Rattle.protocol.specs.State.{blank}
use Rattle.protocol.specs.Confirms.{counter}
use Rattle.model.specs.Variables.{Constants, Model}
use Rattle.model.specs.Reading.{constants}
use Rattle.model.specs.Follows.{model_after}
use Rattle.model.specs.Stability.{Accepted, idx, prev_exec_cmds}
use Rattle.model.specs.Sets.{GetIdxInSeq}
use Rattle.model.specs.Amendments.{same_key}

abbrev pub three : Setting
three = record { size = 3; leader = 0; fast = true }

abbrev pub C : Constants
C = constants 9 three

-- the first command is committed, and every replica has taken its commit message
abbrev pub first : List Call
first = Propose blank ∷ Receive 0 0 ∷ Sync ∷ Notice 0 0 ∷ Notice 1 0 ∷ Notice 2 0 ∷ []

-- the second is accepted by all three
abbrev pub second : List Call
second = first ++ Propose blank ∷ Receive 0 1 ∷ Receive 1 1 ∷ Receive 2 1 ∷ []

-- replicas 1 and 2
abbrev pub others : Voters
others = record { named = false ∷ true ∷ true ∷ false ∷ false ∷ false ∷ false ∷ false ∷ false ∷ false ∷ [] }

-- replica 2 leads, having asked replicas 1 and 2
abbrev pub changed : List Call
changed = second ++ Change 2 others ∷ []

abbrev pub at : List Call → Model ℕ
at calls = model_after counter 9 three calls

pub record Cases : Type 0 where
  -- it is accepted in epoch 1, the first stands before it, at index 1, and it waits
  pub accepted : Accepted counter C (at second) 1 1
  pub records : (at second).spec_exec_prev_cmd 1 ≡ 1
  pub waits : (at second).uncommitted_cmds ≡ 1 ∷ []
  -- the new leader recovers it, in epoch 2, and the record stays
  pub leads : (at changed).leader 2 ≡ 2
  pub recovers : (at changed).uncommitted_cmds ≡ 1 ∷ []
  pub keeps : (at changed).spec_exec_prev_cmd 1 ≡ 1
  -- committed, it is second, and the last of its key before it is the one recorded
  pub commits_second : idx counter C (at (changed ++ Sync ∷ [])) 1 ≡ 2
  pub before_it : GetIdxInSeq (prev_exec_cmds counter C (at (changed ++ Sync ∷ [])) 1) (same_key counter (at (changed ++ Sync ∷ [])) 1) ≡ 1
