-- What ties a state to its past: who led when, and the indices that were recorded.
use Rattle.std.proofs.Common.{◌≡◌, ℕ, ◌<◌, ◌≤◌, Bool, true, false, cond, ◌||◌, eqb, ◌⊎◌, List, [], ◌∷◌, ◌++◌, Some, None, Option, sym, refl, ◌∙◌, inl, inr, arith, length-append}
use Rattle.std.proofs.lemmas.Bool.Decides.{nat_tests}
use Rattle.std.proofs.lemmas.Bool.{cases_eq}
use Rattle.base.specs.declared.«record».Record.{Record}
use Rattle.base.specs.declared.fault.Fault.{Fault}
use Rattle.base.specs.Meaning.{Meaning, Laws}
use Rattle.protocol.specs.declared.setting.Setting.{Setting}
use Rattle.terms.specs.declared.voters.Voters.{Voters}
use Rattle.terms.specs.declared.answers.Reply.TheVariants.{Yes, Told}
use Rattle.terms.specs.declared.answers.Answer.{Answer}
use Rattle.terms.specs.declared.calls.Call.{Call}
use Rattle.terms.specs.declared.calls.Call.TheVariants.{Propose, Receive, Hear, Sync, Notice, Change, Query}
use Rattle.protocol.specs.Answers.{agrees}
use Rattle.protocol.specs.Outcomes.{unless_refused}
use Rattle.terms.specs.Tests.{mem, put}
use Rattle.protocol.specs.State.{State, meets}
use Rattle.protocol.specs.Steps.{drops, reply, propose, dropped, take, hear, note, log_job, sync, change}
use Rattle.protocol.specs.Histories.{refusal, moved, step, run}
use Rattle.protocol.proofs.Said.{said}
use Rattle.terms.proofs.Lists.{any_append}
use Rattle.protocol.proofs.Room.{few_distinct}
use Rattle.protocol.proofs.Invariant.{Live, Firm, Inv, answered, told_agrees}
use Rattle.protocol.proofs.Runs.{inv_run, inv_history, live_run}
use Rattle.model.specs.Sets.{GetIdxInSeq}
use Rattle.model.specs.Reading.{Past, Trace, is_told, noted, onward, traced, new_trace, trace}
use Rattle.model.proofs.Sequences.{idx_length, idx_same, idx_miss, before, before_in, before_out, before_new, before_mem}

yes_agrees : (a : Answer) (e : ℕ) → said a ≡ Yes e → agrees e (said a) ≡ true
yes_agrees a e h = grind (arith, nat_tests)

module _ {S : Type 0} (m : Meaning S) where
  pub record Ties (s : State S) (p : Past) : Type 0 where
    pub leads : p.led s.lead.epoch ≡ s.lead.leader
    -- a request is of a job
    pub of_job : (r c : ℕ) → s.boxes.request r c ≡ true → c < s.jobs.count
    -- a yes that tells is the leader's, and no other yes is
    pub told_led : (r c e t : ℕ) → said (s.boxes.answer r c) ≡ Told e t → p.led e ≡ r
    pub inside : (r c e : ℕ) → agrees e (said (s.boxes.answer r c)) ≡ true → r < s.fixed.size
    pub yes_other : (r c e : ℕ) → said (s.boxes.answer r c) ≡ Yes e → p.led e ≡ r → ⊥
    -- an index is within the log
    pub low : (c : ℕ) → p.recorded c ≤ s.jobs.count
    -- the last job before c that meets it is the one recorded
    pub index : (r c e t : ℕ) → said (s.boxes.answer r c) ≡ Told e t → Live s e c → GetIdxInSeq (before c s.lead.log) (meets m s.jobs.job c) ≡ p.recorded c

  module _ (s : State S) (p : Past) (i : Inv m s) (h : Ties s p) where
    ties_propose : (x : Record) → Ties (propose x s) p
    ties_propose x = record {
      leads = h.leads;
      of_job = λ r c asks. let old = h.of_job r c in grind (arith, nat_tests);
      told_led = h.told_led;
      inside = h.inside;
      yes_other = h.yes_other;
      low = λ c. let old = h.low c in omega arith;
      index = λ r c e t told live.
          let job = answered m s i r c e (told_agrees (s.boxes.answer r c) e t told) in
          idx_same (meets m (put s.jobs.job s.jobs.count x) c) (meets m s.jobs.job c) (before c s.lead.log)
          (λ d there.
          let logged = before_mem c d s.lead.log there in
          let known = i.known d (let split = any_append (eqb d) s.lead.log s.lead.waiting in grind arith) in
          grind (arith, nat_tests)) ∙
          h.index r c e t told live;
    }

    ties_dropped : (r₀ c₀ : ℕ) → Ties (dropped r₀ c₀ s) p
    ties_dropped r₀ c₀ = record {
      leads = h.leads;
      of_job = λ r c asks. h.of_job r c (grind (arith, nat_tests));
      told_led = h.told_led;
      inside = h.inside;
      yes_other = h.yes_other;
      low = h.low;
      index = h.index;
    }

    ties_note : (r₀ c₀ : ℕ) → Ties (note r₀ c₀ s) p
    ties_note r₀ c₀ = record { leads = h.leads; of_job = h.of_job; told_led = h.told_led; inside = h.inside; yes_other = h.yes_other; low = h.low; index = h.index }

    hear_said : (r₀ c₀ r c : ℕ) → said ((hear r₀ c₀ s).boxes.answer r c) ≡ said (s.boxes.answer r c)
    hear_said r₀ c₀ r c = grind (arith, nat_tests)

    ties_hear : (r₀ c₀ : ℕ) → ((e c : ℕ) → e ≤ s.lead.epoch → Live (hear r₀ c₀ s) e c → Live s e c) → Ties (hear r₀ c₀ s) p
    ties_hear r₀ c₀ back = record {
      leads = h.leads;
      of_job = h.of_job;
      told_led = λ r c e t told. h.told_led r c e t (sym (hear_said r₀ c₀ r c) ∙ told);
      inside = λ r c e agreed. h.inside r c e (rw (hear_said r₀ c₀ r c) at agreed);
      yes_other = λ r c e yes_so. h.yes_other r c e (sym (hear_said r₀ c₀ r c) ∙ yes_so);
      low = h.low;
      index = λ r c e t told live.
          let was = sym (hear_said r₀ c₀ r c) ∙ told in
          h.index r c e t was (back e c (i.past r c e (told_agrees (s.boxes.answer r c) e t was)) live);
    }

    ties_change : (l : ℕ) (voters : Voters) → ((e c : ℕ) → e ≤ s.lead.epoch → Live (change l voters s) e c → Live s e c) →
        Ties (change l voters s) (noted m (Change l voters) s p)
    ties_change l voters back = record {
      leads = grind (arith, nat_tests);
      of_job = h.of_job;
      told_led = λ r c e t told.
          let past = i.past r c e (told_agrees (s.boxes.answer r c) e t told) in
          let old = h.told_led r c e t told in
          grind (arith, nat_tests);
      inside = h.inside;
      yes_other = λ r c e yes_so led.
          let past = i.past r c e (yes_agrees (s.boxes.answer r c) e yes_so) in
          h.yes_other r c e yes_so (grind (arith, nat_tests));
      low = h.low;
      index = λ r c e t told live. h.index r c e t told (back e c (i.past r c e (told_agrees (s.boxes.answer r c) e t told)) live);
    }

    module _ (c₀ : ℕ) (cs : List ℕ) (front : s.lead.waiting ≡ c₀ ∷ cs) where
      grown : (c : ℕ) → mem c (s.lead.log ++ c₀ ∷ []) ≡ mem c s.lead.log || eqb c c₀
      grown c = let split = any_append (eqb c) s.lead.log (c₀ ∷ []) in grind arith

      -- a job that is told does not see the log grow by another that it meets
      index_log : (c t : ℕ) → Firm m s c t → GetIdxInSeq (before c s.lead.log) (meets m s.jobs.job c) ≡ p.recorded c →
          GetIdxInSeq (before c (s.lead.log ++ c₀ ∷ [])) (meets m s.jobs.job c) ≡ p.recorded c
      index_log c t (inl logged) old = rw (before_in c s.lead.log (c₀ ∷ []) logged.0) old
      index_log c t (inr waits) old = go (cases_eq c c₀)
        where
          whole : GetIdxInSeq s.lead.log (meets m s.jobs.job c) ≡ p.recorded c
          whole = rw (before_out c s.lead.log waits.0) at old

          go : (c ≡ c₀) ⊎ (c ≡ c₀ → ⊥) → GetIdxInSeq (before c (s.lead.log ++ c₀ ∷ [])) (meets m s.jobs.job c) ≡ p.recorded c
          go (inl same) = rw (← same, before_new c s.lead.log waits.0) whole
          go (inr other) =
              let more = grown c in
              rw (before_out c (s.lead.log ++ c₀ ∷ []) (let out = waits.0 in grind (arith, nat_tests)))
              (idx_miss (meets m s.jobs.job c) c₀ s.lead.log (let ClearOf = waits.1 in grind (arith, nat_tests)) ∙ whole)

      ties_sync : Ties (log_job m c₀ cs s) p
      ties_sync = record {
        leads = h.leads;
        of_job = h.of_job;
        told_led = h.told_led;
        inside = h.inside;
        yes_other = h.yes_other;
        low = h.low;
        index = λ r c e t told live. index_log c t (i.firm r c e t told live) (h.index r c e t told live);
      }

    -- an index in the log is at most the number of jobs
    index_low : (c : ℕ) → GetIdxInSeq s.lead.log (meets m s.jobs.job c) ≤ s.jobs.count
    index_low c =
        let within = idx_length (meets m s.jobs.job c) s.lead.log in
        let most = few_distinct s.jobs.count (s.lead.log ++ s.lead.waiting) i.once i.known in
        let split = length-append s.lead.log s.lead.waiting in
        omega arith

    module _ (r₀ c₀ : ℕ) (here : r₀ < s.fixed.size) (kept : drops s r₀ c₀ ≡ false) (back : (e c : ℕ) → e ≤ s.lead.epoch → Live (take m r₀ c₀ s) e c → Live s e c) where
      abbrev now_recorded : ℕ → ℕ
      now_recorded = put p.recorded c₀ (cond (is_told (reply m s r₀ c₀)) (GetIdxInSeq s.lead.log (meets m s.jobs.job c₀)) (p.recorded c₀))

      index_take : (r c e t : ℕ) → said ((take m r₀ c₀ s).boxes.answer r c) ≡ Told e t → Live (take m r₀ c₀ s) e c →
          GetIdxInSeq (before c s.lead.log) (meets m s.jobs.job c) ≡ now_recorded c
      index_take r c e t told live = go (cases_eq c c₀) (is_told (reply m s r₀ c₀)) refl
        where
          old : said (s.boxes.answer r c) ≡ Told e t → GetIdxInSeq (before c s.lead.log) (meets m s.jobs.job c) ≡ p.recorded c
          old was = h.index r c e t was (back e c (i.past r c e (told_agrees (s.boxes.answer r c) e t was)) live)

          go : (c ≡ c₀) ⊎ (c ≡ c₀ → ⊥) → (b : Bool) → is_told (reply m s r₀ c₀) ≡ b → GetIdxInSeq (before c s.lead.log) (meets m s.jobs.job c) ≡ now_recorded c
          go (inr other) b e₀ = old (grind (arith, nat_tests)) ∙ grind (arith, nat_tests)
          go (inl same) false e₀ = old (grind (arith, nat_tests)) ∙ grind (arith, nat_tests)
          go (inl same) true e₀ =
              rw (same, before_out c₀ s.lead.log (grind (arith, nat_tests))) (grind (arith, nat_tests))

      ties_take : Ties (take m r₀ c₀ s) (record { led = p.led; recorded = now_recorded })
      ties_take = record {
        leads = h.leads;
        of_job = λ r c asks. h.of_job r c (grind (arith, nat_tests));
        told_led = λ r c e t told. let old = h.told_led r c e t in let now = h.leads in grind (arith, nat_tests);
        inside = λ r c e agreed. let old = h.inside r c e in grind (arith, nat_tests);
        yes_other = λ r c e yes_so. let old = h.yes_other r c e in let now = h.leads in grind (arith, nat_tests);
        low = λ c. let old = h.low c in let new = index_low c₀ in grind (arith, nat_tests);
        index = index_take;
      }

  ties_new : (capacity : ℕ) (k : Setting) → Ties (new_trace m capacity k).present (new_trace m capacity k).past
  ties_new capacity k = record {
    leads = refl;
    of_job = λ r c asks. absurd (grind arith);
    told_led = λ r c e t told. absurd (grind arith);
    inside = λ r c e agreed. absurd (grind arith);
    yes_other = λ r c e yes_so. absurd (grind arith);
    low = λ c. omega arith;
    index = λ r c e t told. absurd (grind arith);
  }

  -- a trace goes as the run does
  pub present_onward : (call : Call) (t : Trace S) → (onward m call t).present ≡ step m call t.present
  present_onward call t = go (refusal m call t.present)
    where
      go : (o : Option Fault) →
          (unless_refused o (record { present = moved m call t.present; past = noted m call t.present t.past }) t).present ≡
          unless_refused o (moved m call t.present) t.present
      go None = refl
      go (Some fault) = refl

  pub present_run : (calls : List Call) (t : Trace S) → (traced m calls t).present ≡ run m calls t.present
  present_run [] t = refl
  present_run (call ∷ calls) t = rw (← (present_onward call t)) (present_run calls (onward m call t))

  module _ (laws : Laws m) where
    -- what is live after a call was live before it
    live_back : (call : Call) (s : State S) → Inv m s → refusal m call s ≡ None → (e c : ℕ) → e ≤ s.lead.epoch → Live (moved m call s) e c → Live s e c
    live_back call s i ok e c past live = live_run m laws (call ∷ []) s i e c past (rw ok live)

    pub inv_moved : (call : Call) (s : State S) → Inv m s → refusal m call s ≡ None → Inv m (moved m call s)
    inv_moved call s i ok = rw ok at (inv_run m laws (call ∷ []) s i)

    ties_receive : (r c : ℕ) (s : State S) (p : Past) → Inv m s → Ties s p → refusal m (Receive r c) s ≡ None → (b : Bool) → drops s r c ≡ b →
        Ties (moved m (Receive r c) s) (noted m (Receive r c) s p)
    ties_receive r c s p i h ok true e = rw e (same_record (ties_dropped s p i h r c))
      where
        same_record : Ties (dropped r c s) p → Ties (dropped r c s) (record { led = p.led; recorded = put p.recorded c (p.recorded c) })
        same_record t = record {
          leads = t.leads;
          of_job = t.of_job;
          told_led = t.told_led;
          inside = t.inside;
          yes_other = t.yes_other;
          low = λ c₁. let old = t.low c₁ in grind (arith, nat_tests);
          index = λ r₁ c₁ e₁ t₁ told live. t.index r₁ c₁ e₁ t₁ told live ∙ grind (arith, nat_tests);
        }
    ties_receive r c s p i h ok false e =
        rw e (ties_take s p i h r c (grind (arith, nat_tests)) e (λ e₁ c₁ past live. live_back (Receive r c) s i ok e₁ c₁ past (rw e live)))

    ties_commit : (s : State S) (p : Past) → Inv m s → Ties s p → (ws : List ℕ) → s.lead.waiting ≡ ws → Ties (sync m ws s) p
    ties_commit s p i h [] e = h
    ties_commit s p i h (c ∷ cs) e = ties_sync s p i h c cs e

    pub ties_moved : (call : Call) (s : State S) (p : Past) → Inv m s → Ties s p → refusal m call s ≡ None → Ties (moved m call s) (noted m call s p)
    ties_moved (Propose x) s p i h ok = ties_propose s p i h x
    ties_moved (Receive r c) s p i h ok = ties_receive r c s p i h ok (drops s r c) refl
    ties_moved (Hear r c) s p i h ok = ties_hear s p i h r c (live_back (Hear r c) s i ok)
    ties_moved Sync s p i h ok = ties_commit s p i h s.lead.waiting refl
    ties_moved (Notice r c) s p i h ok = ties_note s p i h r c
    ties_moved (Change l voters) s p i h ok = ties_change s p i h l voters (live_back (Change l voters) s i ok)
    ties_moved (Query c) s p i h ok = h

    ties_onward : (call : Call) (t : Trace S) → Inv m t.present → Ties t.present t.past → Ties (onward m call t).present (onward m call t).past
    ties_onward call t i h = go (refusal m call t.present) refl
      where
        after : Trace S
        after = record { present = moved m call t.present; past = noted m call t.present t.past }

        go : (o : Option Fault) → refusal m call t.present ≡ o → Ties (unless_refused o after t).present (unless_refused o after t).past
        go None ok = ties_moved call t.present t.past i h ok
        go (Some fault) refused = h

    ties_run : (calls : List Call) (t : Trace S) → Inv m t.present → Ties t.present t.past → Ties (traced m calls t).present (traced m calls t).past
    ties_run [] t i h = h
    ties_run (call ∷ calls) t i h =
        ties_run calls (onward m call t) (rw (present_onward call t) (inv_run m laws (call ∷ []) t.present i)) (ties_onward call t i h)

    pub ties_trace : (capacity : ℕ) (k : Setting) (calls : List Call) → Ties (trace m capacity k calls).present (trace m capacity k calls).past
    ties_trace capacity k calls = ties_run calls (new_trace m capacity k) (inv_history m laws capacity k []) (ties_new capacity k)

    pub inv_trace : (capacity : ℕ) (k : Setting) (calls : List Call) → Inv m (trace m capacity k calls).present
    inv_trace capacity k calls = rw (present_run calls (new_trace m capacity k)) (inv_history m laws capacity k calls)
