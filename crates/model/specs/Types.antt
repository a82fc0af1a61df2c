-- The published TypeOK.
use Rattle.std.specs.Prelude.{◌≡◌, ℕ, ◌≤◌, true, List, ◌++◌, None}
use Rattle.base.specs.Meaning.{Meaning}
use Rattle.protocol.specs.declared.setting.Setting.{Setting}
use Rattle.terms.specs.declared.calls.Call.{Call}
use Rattle.protocol.specs.Settings.{setting_refusal}
use Rattle.terms.specs.Tests.{mem, distinct}
use Rattle.model.specs.Sets.{◌∈◌, ◌⊆◌, ◌∪◌, ｛◌｝}
use Rattle.model.specs.Variables.{Constants, replicas, commands, no_leader, Model}
use Rattle.model.specs.Reading.{constants}
use Rattle.model.specs.Follows.{model_after}

pub record TypeOK {S : Type 0} (C : Constants) (s : Model S) : Type 0 where
  pub leader_in : (e : ℕ) → s.leader e ∈ replicas C ∪ ｛ no_leader C ｝
  pub proposed_cmds_in : s.proposed_cmds ⊆ commands C
  pub propose_requests_in : (r : ℕ) → s.propose_requests r ⊆ commands C
  pub propose_responses_in : (cmd e : ℕ) → s.propose_responses cmd e ⊆ replicas C
  pub spec_pools_in : (r : ℕ) → s.spec_pools r ⊆ commands C
  -- the two sequences together: commands, none of them twice
  pub cmds_in : (λ cmd. mem cmd (s.committed_cmds ++ s.uncommitted_cmds)) ⊆ commands C
  pub cmds_once : distinct (s.committed_cmds ++ s.uncommitted_cmds) ≡ true
  pub commit_msgs_in : (r : ℕ) → s.commit_msgs r ⊆ commands C
  pub spec_exec_prev_cmd_in : (cmd : ℕ) → s.spec_exec_prev_cmd cmd ≤ C.command_count

-- at every point of every history
abbrev pub TypesHold : {S : Type 0} → Meaning S → ℕ → Type 0
TypesHold m capacity = (k : Setting) → setting_refusal k ≡ None → (calls : List Call) → TypeOK (constants capacity k) (model_after m capacity k calls)
