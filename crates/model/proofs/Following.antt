-- The theorem that a group follows the published model.
use Rattle.std.proofs.Common.{◌≡◌, ℕ, ◌<◌, Bool, true, false, cond, List, [], ◌∷◌, ◌++◌, Some, None, Option, sym, refl, ap, ◌∙◌, subst, arith}
use mathlib.Core.Path.{subst₃, fun_ext}
use Rattle.std.proofs.lemmas.Bool.Decides.{nat_tests}
use Rattle.base.specs.declared.fault.Fault.{Fault}
use Rattle.base.specs.Meaning.{Meaning, Laws}
use Rattle.protocol.specs.declared.setting.Setting.{Setting}
use Rattle.terms.specs.declared.calls.Call.{Call}
use Rattle.terms.specs.declared.calls.Call.TheVariants.{Propose, Receive, Hear, Sync, Notice, Change, Query}
use Rattle.protocol.specs.Outcomes.{unless_refused}
use Rattle.protocol.specs.State.{State}
use Rattle.protocol.specs.Steps.{drops, dropped, take, sync}
use Rattle.protocol.specs.Histories.{refusal, moved, step, run, history}
use Rattle.protocol.proofs.Invariant.{Inv}
use Rattle.model.specs.Variables.{Constants, Model}
use Rattle.model.specs.Next.{Init, Enabled, Action}
use Rattle.model.specs.Reading.{constants, Trace, noted, onward, traced, new_trace, trace, reading}
use Rattle.model.specs.Follows.{model_after, FollowsStep, FollowsModel}
use Rattle.model.proofs.Past.{Ties, present_run, ties_trace, inv_trace}
use Rattle.model.proofs.Enabling.{constants_of, accepted_enabled, enabled_accepted}
use Rattle.model.proofs.Effects.{takes_action, phase_only}
use Rattle.model.proofs.Only.{only, only_init}

module _ {S : Type 0} (m : Meaning S) where
  pub traced_append : (a b : List Call) (t : Trace S) → traced m (a ++ b) t ≡ traced m b (traced m a t)
  traced_append [] b t = refl
  traced_append (call ∷ a) b t = traced_append a b (onward m call t)

  -- no call changes what is fixed
  fixed_moved : (call : Call) (s : State S) → (moved m call s).fixed ≡ s.fixed
  fixed_moved (Propose x) s = refl
  fixed_moved (Receive r c) s = go (drops s r c)
    where
      go : (b : Bool) → (cond b (dropped r c s) (take m r c s)).fixed ≡ s.fixed
      go true = refl
      go false = refl
  fixed_moved (Hear r c) s = refl
  fixed_moved Sync s = go s.lead.waiting
    where
      go : (ws : List ℕ) → (sync m ws s).fixed ≡ s.fixed
      go [] = refl
      go (c ∷ cs) = refl
  fixed_moved (Notice r c) s = refl
  fixed_moved (Change l voters) s = refl
  fixed_moved (Query c) s = refl

  pub fixed_step : (call : Call) (s : State S) → (step m call s).fixed ≡ s.fixed
  fixed_step call s = go (refusal m call s)
    where
      go : (o : Option Fault) → (unless_refused o (moved m call s) s).fixed ≡ s.fixed
      go None = fixed_moved call s
      go (Some fault) = refl

  fixed_run : (calls : List Call) (s : State S) → (run m calls s).fixed ≡ s.fixed
  fixed_run [] s = refl
  fixed_run (call ∷ calls) s = fixed_run calls (step m call s) ∙ fixed_step call s

  pub own_history : (capacity : ℕ) (k : Setting) (calls : List Call) → (trace m capacity k calls).present ≡ history m capacity k calls
  own_history capacity k calls = present_run m calls (new_trace m capacity k)

  pub constants_same : (capacity : ℕ) (k : Setting) (calls : List Call) → constants_of (trace m capacity k calls).present.fixed ≡ constants capacity k
  constants_same capacity k calls =
      ap constants_of (ap (λ (s : State S). s.fixed) (own_history capacity k calls) ∙ fixed_run calls (history m capacity k []))

  -- what is to show of a call, over the constants, the state that it is refused by, and the trace before and after it
  pub record Facts (call : Call) (t : Trace S) (C : Constants) (s : State S) (t' : Trace S) : Type 0 where
    pub on : refusal m call s ≡ None → Enabled m C call (reading t)
    pub ok : Enabled m C call (reading t) → refusal m call s ≡ None
    pub does : refusal m call s ≡ None → Action m C call (reading t) (reading t')
    pub alone : Enabled m C call (reading t) → (a : Model S) → Action m C call (reading t) a → a ≡ reading t'
    pub stays : (refusal m call s ≡ None → ⊥) → t' ≡ t

  onward_moved : (call : Call) (t : Trace S) → refusal m call t.present ≡ None →
      onward m call t ≡ record { present = moved m call t.present; past = noted m call t.present t.past }
  onward_moved call t fine = rw fine

  onward_stays : (call : Call) (t : Trace S) → (refusal m call t.present ≡ None → ⊥) → onward m call t ≡ t
  onward_stays call t refused = go (refusal m call t.present) refl
    where
      go : (o : Option Fault) → refusal m call t.present ≡ o →
          unless_refused o (record { present = moved m call t.present; past = noted m call t.present t.past }) t ≡ t
      go None fine = absurd (refused fine)
      go (Some fault) e = refl

  facts : (call : Call) (t : Trace S) → Inv m t.present → Ties m t.present t.past →
      Facts call t (constants_of t.present.fixed) t.present (onward m call t)
  facts call t i ties =
      let s = t.present in
      let p = t.past in
      let act = takes_action m s p i ties call in
      record {
        on = accepted_enabled m s p i ties call;
        ok = enabled_accepted m s p i ties call;
        does = λ fine. subst (λ t'. Action m (constants_of s.fixed) call (reading t) (reading t')) (sym (onward_moved call t fine)) (act fine);
        alone = λ enabled a other.
            let fine = enabled_accepted m s p i ties call enabled in
            only m (constants_of s.fixed) (reading t) a _ call (phase_only m s p i ties call a other) other (act fine) ∙ ap reading (sym (onward_moved call t fine));
        stays = onward_stays call t;
      }

  module _ (laws : Laws m) (capacity : ℕ) where
    follows_step : (k : Setting) (calls : List Call) (call : Call) → FollowsStep m capacity k calls call
    follows_step k calls call =
        let t = trace m capacity k calls in
        let all =
        subst₃ (Facts call t) (constants_same capacity k calls) (own_history capacity k calls) (sym (traced_append calls (call ∷ []) (new_trace m capacity k)))
        (facts call t (inv_trace m laws capacity k calls) (ties_trace m laws capacity k calls)) in
        record { accepted_enabled = all.on; enabled_accepted = all.ok; takes_action = all.does; no_other = all.alone; refused_stays = all.stays }

    starts : (k : Setting) → k.leader < k.size → Init m (constants capacity k) k.leader (model_after m capacity k [])
    starts k inside = record {
      inside = grind (arith, nat_tests);
      leader_is = refl;
      epoch_is = refl;
      proposed_cmds_is = fun_ext (λ c. grind (arith, nat_tests));
      propose_requests_is = refl;
      propose_responses_is = refl;
      spec_pools_is = refl;
      uncommitted_cmds_is = refl;
      committed_cmds_is = refl;
      commit_msgs_is = refl;
      spec_exec_prev_cmd_is = refl;
      commits_taken_is = refl;
      content_is = refl;
      book_is = refl;
      given_is = refl;
      answers_is = refl;
      phase_is = refl;
    }

    pub follows : FollowsModel m capacity
    follows = record {
      own_history = own_history capacity;
      starts = λ k fine. starts k (grind (arith, nat_tests));
      no_other_start = λ k s start. only_init m (constants capacity k) s s (model_after m capacity k []) k.leader start
          (starts k (let inside = start.inside in grind (arith, nat_tests)));
      every_step = follows_step;
    }
