-- The published property Stability, and what holds of it at every point.
use Rattle.std.specs.Prelude.{◌≡◌, ℕ, zero, suc, ◌-◌, ◌≢◌, List, [], ◌∷◌, ◌++◌, length, take, nat_eq}
use Rattle.base.specs.Meaning.{Meaning}
use Rattle.protocol.specs.declared.setting.Setting.{Setting}
use Rattle.terms.specs.declared.calls.Call.{Call}
use Rattle.terms.specs.declared.calls.Call.TheVariants.{Sync}
use Rattle.protocol.specs.Histories.{history}
use Rattle.protocol.specs.Promise.{Confirmed}
use Rattle.model.specs.Sets.{◌∈◌, GetIdxInSeq}
use Rattle.model.specs.Variables.{Constants, Model, super_quorums}
use Rattle.model.specs.Amendments.{same_key}
use Rattle.model.specs.Reading.{constants}
use Rattle.model.specs.Follows.{model_after}

module _ {S : Type 0} (m : Meaning S) (C : Constants) (s : Model S) where
  -- committed by CURP: accepted in epoch e by a super quorum that its leader belongs to
  pub record Accepted (cmd e : ℕ) : Type 0 where
    pub by_leader : s.leader e ∈ s.propose_responses cmd e
    pub by_super_quorum : s.propose_responses cmd e ∈ super_quorums C

  -- the place in the committed sequence; 0 where it is not in it
  abbrev pub idx : ℕ → ℕ
  idx cmd = GetIdxInSeq s.committed_cmds (nat_eq cmd)

  -- SubSeq(committedCmds, 1, idx - 1)
  abbrev pub prev_exec_cmds : ℕ → List ℕ
  prev_exec_cmds cmd = take (idx cmd - 1) s.committed_cmds

  -- the published formula
  abbrev pub Stability : Type 0
  Stability = (cmd e : ℕ) → Accepted cmd e → (idx cmd ≢ 0) × (GetIdxInSeq (prev_exec_cmds cmd) (same_key m s cmd) ≡ s.spec_exec_prev_cmd cmd)

  -- Of an accepted command, at every point.
  pub record Stable (cmd : ℕ) : Type 0 where
    -- committed, it follows the one recorded, with none of its key between
    pub committed : idx cmd ≢ 0 → GetIdxInSeq (prev_exec_cmds cmd) (same_key m s cmd) ≡ s.spec_exec_prev_cmd cmd
    -- until then the last of its key that is committed is the one recorded
    pub open_place : idx cmd ≡ 0 → GetIdxInSeq s.committed_cmds (same_key m s cmd) ≡ s.spec_exec_prev_cmd cmd
    -- and it waits, with none of its key ahead of it
    pub next_in_turn : idx cmd ≡ 0 →
        (ahead : List ℕ) × (behind : List ℕ) × (s.uncommitted_cmds ≡ ahead ++ cmd ∷ behind) × (GetIdxInSeq ahead (same_key m s cmd) ≡ 0)

-- so many commits, one after the other
abbrev pub commits : ℕ → List Call
commits zero = []
commits (suc n) = Sync ∷ commits n

pub record StabilityHolds {S : Type 0} (m : Meaning S) (capacity : ℕ) : Type 0 where
  -- a job that its client has as confirmed is such a command
  pub confirmed_accepted : (k : Setting) (calls : List Call) (c t e : ℕ) →
      Confirmed m (history m capacity k calls) c t e → Accepted m (constants capacity k) (model_after m capacity k calls) c e
  pub always : (k : Setting) (calls : List Call) (cmd e : ℕ) →
      Accepted m (constants capacity k) (model_after m capacity k calls) cmd e → Stable m (constants capacity k) (model_after m capacity k calls) cmd
  -- Eventually: as many commits as commands wait lead from every point to one where the published formula holds.
  pub eventually : (k : Setting) (calls : List Call) →
      Stability m (constants capacity k) (model_after m capacity k (calls ++ commits (length (model_after m capacity k calls).uncommitted_cmds)))
