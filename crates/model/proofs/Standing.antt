-- The published Stability, from the invariants.
use Rattle.std.proofs.Common.{◌≡◌, ℕ, zero, suc, Bool, true, false, eqb, ◌≢◌, List, [], ◌∷◌, ◌++◌, length, sym, refl, ap, ◌∙◌, subst, subst₂, inl, inr, arith}
use Rattle.std.proofs.lemmas.Bool.Decides.{nat_tests}
use Rattle.std.proofs.lemmas.Bool.{leb-true}
use Rattle.base.specs.Meaning.{Meaning, Laws}
use Rattle.protocol.specs.declared.setting.Setting.{Setting}
use Rattle.terms.specs.declared.answers.Reply.{Reply}
use Rattle.terms.specs.declared.answers.Reply.TheVariants.{No, Yes, Told}
use Rattle.terms.specs.declared.answers.Answer.{Answer}
use Rattle.terms.specs.declared.answers.Phase.TheVariants.{Fast}
use Rattle.terms.specs.declared.calls.Call.{Call}
use Rattle.terms.specs.declared.calls.Call.TheVariants.{Sync}
use Rattle.protocol.specs.Answers.{agrees}
use Rattle.protocol.specs.Counts.{confirming}
use Rattle.terms.specs.Tests.{tally, mem}
use Rattle.protocol.specs.State.{State, meets}
use Rattle.protocol.specs.Histories.{step, run, history}
use Rattle.protocol.proofs.Said.{said}
use Rattle.terms.proofs.Counting.{tally_le}
use Rattle.terms.proofs.Lists.{distinct_left, clear_split}
use Rattle.protocol.proofs.Invariant.{Quorum, Firm, Inv}
use Rattle.protocol.proofs.Runs.{inv_run}
use Rattle.model.specs.Sets.{GetIdxInSeq}
use Rattle.model.specs.Variables.{Model}
use Rattle.model.specs.Reading.{constants, Past, Trace, yes_of, reading, new_trace, trace}
use Rattle.model.specs.Stability.{Accepted, idx, Stable, Stability, commits, StabilityHolds}
use Rattle.model.specs.Follows.{model_after}
use Rattle.model.proofs.Sequences.{idx_none, before, before_out, take_before}
use Rattle.model.proofs.Past.{Ties, present_run, ties_trace, inv_trace}
use Rattle.model.proofs.Enabling.{constants_of, sync_ok}
use Rattle.model.proofs.Following.{traced_append, own_history, constants_same}

yes_said : (e : ℕ) (a : Answer) → yes_of e a ≡ agrees e (said a)
yes_said e a = grind arith

module _ {S : Type 0} (m : Meaning S) (s : State S) (p : Past) (i : Inv m s) (ties : Ties m s p) where
  abbrev here : Model S
  here = reading (record { present = s; past = p })

  -- the leader's yes in its own epoch tells a result
  leader_told : (c e : ℕ) (x : Reply) → said (s.boxes.answer (p.led e) c) ≡ x → agrees e x ≡ true → (t : ℕ) × (said (s.boxes.answer (p.led e) c) ≡ Told e t)
  leader_told c e (No d) is yes_so = absurd (grind arith)
  leader_told c e (Yes d) is yes_so =
      let same : d ≡ e = grind (arith, nat_tests) in
      absurd (ties.yes_other (p.led e) c e (rw same at is) refl)
  leader_told c e (Told d t) is yes_so = let same : d ≡ e = grind (arith, nat_tests) in (t, rw same at is)

  module _ (c e : ℕ) (a : Accepted m (constants_of s.fixed) here c e) where
    told : (t : ℕ) × (said (s.boxes.answer (p.led e) c) ≡ Told e t)
    told = leader_told c e (said (s.boxes.answer (p.led e) c)) refl (sym (yes_said e (s.boxes.answer (p.led e) c)) ∙ a.by_leader)

    quorum : Quorum s.fixed.size s.boxes.answer e c
    quorum =
        let most = leb-true (confirming s.fixed.size) (tally s.fixed.size (λ r. yes_of e (s.boxes.answer r c))) a.by_super_quorum in
        let same = tally_le s.fixed.size (λ r. yes_of e (s.boxes.answer r c)) (λ r. agrees e (said (s.boxes.answer r c)))
        (λ r h. sym (yes_said e (s.boxes.answer r c)) ∙ h) in
        omega arith

    firm : Firm m s c told.0
    firm = i.firm (p.led e) c e told.0 told.1 (inr quorum)

    recorded_is : GetIdxInSeq (before c s.lead.log) (meets m s.jobs.job c) ≡ p.recorded c
    recorded_is = ties.index (p.led e) c e told.0 told.1 (inr quorum)

    out : GetIdxInSeq s.lead.log (eqb c) ≡ 0 → mem c s.lead.log ≡ false
    out none = let at = idx_none (eqb c) s.lead.log in grind (arith, nat_tests)

    turn : Firm m s c told.0 → mem c s.lead.log ≡ false →
        (ahead : List ℕ) × (behind : List ℕ) × (s.lead.waiting ≡ ahead ++ c ∷ behind) × (GetIdxInSeq ahead (meets m s.jobs.job c) ≡ 0)
    turn (inl logged) none = absurd (let there = logged.0 in grind arith)
    turn (inr waits) none =
        let split = clear_split (meets m s.jobs.job) c s.lead.waiting waits.1 in
        let at = idx_none (meets m s.jobs.job c) split.0 in
        let ClearOf = split.3 in
        (split.0, split.1, split.2, grind (arith, nat_tests))

    there : GetIdxInSeq s.lead.log (eqb c) ≢ 0 → mem c s.lead.log ≡ true
    there some = go (mem c s.lead.log) refl
      where
        go : (b : Bool) → mem c s.lead.log ≡ b → b ≡ true
        go true e = refl
        go false e = absurd (some (let at = idx_none (eqb c) s.lead.log in grind (arith, nat_tests)))

    stable : Stable m (constants_of s.fixed) here c
    stable = record {
      committed = λ some. rw (take_before c s.lead.log (distinct_left s.lead.log s.lead.waiting i.once) (there some)) recorded_is;
      open_place = λ none. rw (before_out c s.lead.log (out none)) at recorded_is;
      next_in_turn = λ none. turn firm (out none);
    }

  confirmed_accepted : (c t e : ℕ) → s.jobs.phase c ≡ Fast t e → Accepted m (constants_of s.fixed) here c e
  confirmed_accepted c t e fast =
      let why = i.confirmed c t e fast in
      let box = ties.told_led why.0 c e t why.1 in
      let yes_so : yes_of e (s.boxes.answer why.0 c) ≡ true = let says = why.1 in grind (arith, nat_tests) in
      let more = tally_le s.fixed.size (λ r. agrees e (said (s.boxes.answer r c))) (λ r. yes_of e (s.boxes.answer r c)) (λ r h. yes_said e (s.boxes.answer r c) ∙ h) in
      let most = why.2 in
      record { by_leader = rw box yes_so; by_super_quorum = grind (arith, nat_tests) }

-- Commits empty the waiting list.
module _ {S : Type 0} (m : Meaning S) (laws : Laws m) where
  sync_waiting : (s : State S) → Inv m s → (c : ℕ) (cs : List ℕ) → s.lead.waiting ≡ c ∷ cs → (step m Sync s).lead.waiting ≡ cs
  sync_waiting s i c cs e =
      let fine = sync_ok m s i (c ∷ cs) e (λ none. grind arith) in
      rw (e, fine)

  drained : (n : ℕ) (s : State S) → Inv m s → (ws : List ℕ) → s.lead.waiting ≡ ws → length ws ≡ n → (run m (commits n) s).lead.waiting ≡ []
  drained zero s i [] e long = e
  drained zero s i (c ∷ cs) e long = absurd (grind arith)
  drained (suc n) s i [] e long = absurd (grind arith)
  drained (suc n) s i (c ∷ cs) e long = drained n (step m Sync s) (inv_run m laws (Sync ∷ []) s i) cs (sync_waiting s i c cs e) (omega arith)

  module _ (capacity : ℕ) where
    always : (k : Setting) (calls : List Call) (cmd e : ℕ) →
        Accepted m (constants capacity k) (model_after m capacity k calls) cmd e → Stable m (constants capacity k) (model_after m capacity k calls) cmd
    always k calls cmd e =
        let t = trace m capacity k calls in
        subst (λ C. Accepted m C (reading t) cmd e → Stable m C (reading t) cmd) (constants_same m capacity k calls)
        (stable m t.present t.past (inv_trace m laws capacity k calls) (ties_trace m laws capacity k calls) cmd e)

    confirmed : (k : Setting) (calls : List Call) (c t e : ℕ) →
        (history m capacity k calls).jobs.phase c ≡ Fast t e → Accepted m (constants capacity k) (model_after m capacity k calls) c e
    confirmed k calls c t e =
        let now = trace m capacity k calls in
        subst₂ (λ C (s : State S). s.jobs.phase c ≡ Fast t e → Accepted m C (reading now) c e) (constants_same m capacity k calls) (own_history m capacity k calls)
        (confirmed_accepted m now.present now.past (inv_trace m laws capacity k calls) (ties_trace m laws capacity k calls) c t e)

    -- where nothing waits, what is accepted is committed
    settled : (k : Setting) (calls : List Call) → (model_after m capacity k calls).uncommitted_cmds ≡ [] → Stability m (constants capacity k) (model_after m capacity k calls)
    settled k calls empty cmd e accepted =
        let so = always k calls cmd e accepted in
        let some : idx m (constants capacity k) (model_after m capacity k calls) cmd ≢ 0 = λ none. let turn = so.next_in_turn none in no_place turn.0 turn.1 (sym empty ∙ turn.2) in
        (some, so.committed some)
      where
        no_place : (ahead behind : List ℕ) → [] ≡ ahead ++ cmd ∷ behind → ⊥
        no_place [] behind e = grind arith
        no_place (x ∷ ahead) behind e = grind arith

    all_committed : (k : Setting) (calls : List Call) →
        (model_after m capacity k (calls ++ commits (length (model_after m capacity k calls).uncommitted_cmds))).uncommitted_cmds ≡ []
    all_committed k calls =
        let t = trace m capacity k calls in
        let n = length t.present.lead.waiting in
        ap (λ (x : Trace S). x.present.lead.waiting) (traced_append m calls (commits n) (new_trace m capacity k)) ∙
        ap (λ (x : State S). x.lead.waiting) (present_run m (commits n) t) ∙
        drained n t.present (inv_trace m laws capacity k calls) t.present.lead.waiting refl refl

    pub holds : StabilityHolds m capacity
    holds = record {
      confirmed_accepted = confirmed;
      always = always;
      eventually = λ k calls. settled k (calls ++ commits (length (model_after m capacity k calls).uncommitted_cmds)) (all_committed k calls);
    }
