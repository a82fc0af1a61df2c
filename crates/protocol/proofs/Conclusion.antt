-- The theorem, from the invariant.
use Rattle.std.proofs.Common.{◌≡◌, ℕ, Bool, true, false, cond, ◌≢◌, ◌⊎◌, List, [], ◌∷◌, ◌++◌, Some, None, Option, refl, ap, inl, inr, arith}
use Rattle.base.specs.declared.fault.Fault.{Fault}
use Rattle.protocol.specs.Outcomes.{unless_refused}
use Rattle.terms.specs.Tests.{mem}
use Rattle.terms.specs.declared.answers.Reply.TheVariants.{Told}
use Rattle.terms.specs.declared.answers.Answer.TheVariants.{Transit}
use Rattle.terms.specs.declared.answers.Phase.TheVariants.{Fast}
use Rattle.base.specs.Meaning.{Meaning, Laws}
use Rattle.protocol.specs.declared.setting.Setting.{Setting}
use Rattle.protocol.specs.State.{State, meets}
use Rattle.terms.specs.declared.calls.Call.{Call}
use Rattle.terms.specs.declared.calls.Call.TheVariants.{Receive}
use Rattle.protocol.proofs.Said.{said}
use Rattle.protocol.specs.Answers.{agrees}
use Rattle.protocol.specs.Steps.{drops, dropped, take}
use Rattle.protocol.specs.Histories.{refusal, step, run, history}
use Rattle.protocol.specs.Promise.{WaitsFirst, Kept, NeverOvertaken, StaysConfirmed, Reached, ConfirmationsStand}
use Rattle.protocol.proofs.Sharing.{shared}
use Rattle.protocol.proofs.Room.{few_distinct}
use Rattle.terms.proofs.Lists.{distinct_left, clear_split}
use Rattle.protocol.proofs.Invariant.{Firm, Inv, told_agrees}
use Rattle.protocol.proofs.Runs.{inv_run, inv_history, epoch_run, live_run, fast_run, in_turn_run}

module _ {S : Type 0} (m : Meaning S) where
  -- what a client has as fast is firm
  fast_firm : (s : State S) → Inv m s → (c t e : ℕ) → s.jobs.phase c ≡ Fast t e → Firm m s c t
  fast_firm s i c t e h = let why = i.confirmed c t e h in i.firm why.0 c e t why.1 (inr why.2)

  firm_order : (s : State S) (c t : ℕ) → Firm m s c t → (mem c s.lead.log ≡ true) ⊎ WaitsFirst m s c
  firm_order s c t (inl p) = inl p.0
  firm_order s c t (inr q) = inr (clear_split (meets m s.jobs.job) c s.lead.waiting q.1)

  firm_given : (s : State S) (c t : ℕ) → Firm m s c t → mem c s.lead.log ≡ true → s.jobs.given c ≡ Some t
  firm_given s c t (inl p) h = p.1
  firm_given s c t (inr q) h = grind arith

  kept : (s : State S) → Inv m s → Kept m s
  kept s i = record {
    in_place = λ c t e h. firm_order s c t (fast_firm s i c t e h);
    pooled = λ c t e h out v many.
        let why = i.confirmed c t e h in
        shared s.fixed.size (λ r. agrees e (said (s.boxes.answer r c))) v (λ r. s.boxes.pool r c) why.2 many (λ r a. i.held r c e a (inr why.2) out);
    once = distinct_left s.lead.log s.lead.waiting i.once;
    roomy =
        let most = few_distinct s.jobs.count (s.lead.log ++ s.lead.waiting) i.once i.known in
        let limit = i.few in
        omega arith;
    answered = λ c t e h. firm_given s c t (fast_firm s i c t e h);
  }

  run_append : (a b : List Call) (s : State S) → run m (a ++ b) s ≡ run m b (run m a s)
  run_append [] b s = refl
  run_append (call ∷ a) b s = run_append a b (step m call s)

  -- a receipt leaves the log alone
  receive_log : (r c : ℕ) (s : State S) → (step m (Receive r c) s).lead.log ≡ s.lead.log
  receive_log r c s = go (refusal m (Receive r c) s) (drops s r c)
    where
      go : (o : Option Fault) (gone : Bool) → (unless_refused o (cond gone (dropped r c s) (take m r c s)) s).lead.log ≡ s.lead.log
      go None true = refl
      go None false = refl
      go (Some fault) b = refl

  module _ (laws : Laws m) where
    overtaken_from : (s : State S) → Inv m s → (h₂ h₃ : List Call) (r c e t u : ℕ) →
        (step m (Receive r c) s).boxes.answer r c ≡ Transit (Told e t) →
        (run m h₃ (run m h₂ (step m (Receive r c) s))).jobs.phase c ≡ Fast u e →
        mem c (run m h₂ (step m (Receive r c) s)).lead.log ≡ false →
        (d : ℕ) → d ≢ c →
        mem d (run m h₂ (step m (Receive r c) s)).lead.log ≡ true →
        meets m (run m h₂ (step m (Receive r c) s)).jobs.job c d ≡ true →
        mem d s.lead.log ≡ true
    overtaken_from s i h₂ h₃ r c e t u told fast out d other h meet =
        let s₁ = step m (Receive r c) s in
        let s₂ = run m h₂ s₁ in
        let i₁ = inv_run m laws (Receive r c ∷ []) s i in
        let i₂ = inv_run m laws h₂ s₁ i₁ in
        let i₃ = inv_run m laws h₃ s₂ i₂ in
        let says : said (s₁.boxes.answer r c) ≡ Told e t = ap said told in
        let past = i₁.past r c e (told_agrees (s₁.boxes.answer r c) e t says) in
        let later = epoch_run m laws h₂ s₁ i₁ in
        let live = live_run m laws h₃ s₂ i₂ e c (omega arith) (inr (i₃.confirmed c u e fast).2) in
        let in_log = in_turn_run m laws h₂ s₁ i₁ r c e t says live out d other h meet in
        rw (receive_log r c s) at in_log

    never_overtaken : (capacity : ℕ) (k : Setting) → NeverOvertaken m capacity k
    never_overtaken capacity k h₁ h₂ h₃ r c e t u =
        simp run_append (overtaken_from (history m capacity k h₁) (inv_history m laws capacity k h₁) h₂ h₃ r c e t u)

    stays_confirmed : (capacity : ℕ) (k : Setting) → StaysConfirmed m capacity k
    stays_confirmed capacity k h₁ h₂ c t e h =
        simp run_append (fast_run m laws h₂ (history m capacity k h₁) (inv_history m laws capacity k h₁) c t e h)

pub stands : {S : Type 0} (m : Meaning S) → Laws m → (capacity : ℕ) → ConfirmationsStand m capacity
stands m laws capacity = record {
  every_point = λ k calls. kept m (history m capacity k calls) (inv_history m laws capacity k calls);
  never_overtaken = never_overtaken m laws capacity;
  stays_confirmed = stays_confirmed m laws capacity;
}

-- For code that meets the definitions: what is promised holds of every state that calls led to.
pub reached_kept : {S : Type 0} (m : Meaning S) → Laws m → (capacity : ℕ) (s : State S) → Reached m capacity s → Kept m s
reached_kept m laws capacity s (k, calls, e) = rw e (kept m (history m capacity k calls) (inv_history m laws capacity k calls))
