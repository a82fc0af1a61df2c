-- The theorem that ties a group to the published model: every accepted call is the action of its name, and only that.
use Rattle.std.specs.Prelude.{◌≡◌, ℕ, List, [], ◌∷◌, ◌++◌, None, ◌≢◌}
use Rattle.base.specs.Meaning.{Meaning}
use Rattle.protocol.specs.declared.setting.Setting.{Setting}
use Rattle.terms.specs.declared.calls.Call.{Call}
use Rattle.protocol.specs.Settings.{setting_refusal}
use Rattle.protocol.specs.Histories.{refusal, history}
use Rattle.model.specs.Variables.{Model}
use Rattle.model.specs.Next.{Init, Enabled, Action}
use Rattle.model.specs.Reading.{constants, trace, reading}

module _ {S : Type 0} (m : Meaning S) (capacity : ℕ) (k : Setting) where
  abbrev pub model_after : List Call → Model S
  model_after calls = reading (trace m capacity k calls)

  -- Of one call after a list of calls.
  pub record FollowsStep (calls : List Call) (call : Call) : Type 0 where
    -- the call is refused exactly where its action is not enabled
    pub accepted_enabled : refusal m call (history m capacity k calls) ≡ None → Enabled m (constants capacity k) call (model_after calls)
    pub enabled_accepted : Enabled m (constants capacity k) call (model_after calls) → refusal m call (history m capacity k calls) ≡ None
    -- a call that is accepted is the action
    pub takes_action : refusal m call (history m capacity k calls) ≡ None →
        Action m (constants capacity k) call (model_after calls) (model_after (calls ++ call ∷ []))
    -- and the action leads nowhere else
    pub no_other : Enabled m (constants capacity k) call (model_after calls) → (s : Model S) →
        Action m (constants capacity k) call (model_after calls) s → s ≡ model_after (calls ++ call ∷ [])
    -- a call that is refused changes nothing
    pub refused_stays : (refusal m call (history m capacity k calls) ≢ None) → trace m capacity k (calls ++ call ∷ []) ≡ trace m capacity k calls

-- The whole, of a book and a log's capacity.
pub record FollowsModel {S : Type 0} (m : Meaning S) (capacity : ℕ) : Type 0 where
  -- a trace is the group's own history, with its past
  pub own_history : (k : Setting) (calls : List Call) → (trace m capacity k calls).present ≡ history m capacity k calls
  -- a new group is the one initial state with its leader
  pub starts : (k : Setting) → setting_refusal k ≡ None → Init m (constants capacity k) k.leader (model_after m capacity k [])
  pub no_other_start : (k : Setting) (s : Model S) → Init m (constants capacity k) k.leader s → s ≡ model_after m capacity k []
  -- every call after every list of calls
  pub every_step : (k : Setting) (calls : List Call) (call : Call) → FollowsStep m capacity k calls call
