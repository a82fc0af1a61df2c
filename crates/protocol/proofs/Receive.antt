-- A receipt keeps the invariant.
use Rattle.std.proofs.Common.{◌≡◌, ℕ, ◌<◌, true, false, ◌&&◌, eqb, ◌⊎◌, [], ◌++◌, refl, inl, inr, append_assoc, arith}
use Rattle.std.proofs.lemmas.Bool.Decides.{nat_tests}
use Rattle.std.proofs.lemmas.Bool.{cases_eq}
use Rattle.terms.specs.Tests.{any_of, mem}
use Rattle.terms.specs.declared.answers.Reply.TheVariants.{Told}
use Rattle.terms.specs.declared.answers.Answer.TheVariants.{Empty}
use Rattle.base.specs.Meaning.{Meaning, Laws}
use Rattle.protocol.specs.State.{State, meets}
use Rattle.protocol.proofs.Said.{said}
use Rattle.protocol.specs.Answers.{agrees}
use Rattle.protocol.specs.Steps.{pools, reply, joins, drops, dropped, take}
use Rattle.protocol.proofs.Invariant.{Live, Firm, Inv, Onward, on_boxes}
use Rattle.terms.proofs.Counting.{tally_le}
use Rattle.terms.proofs.Lists.{any_append, none_below, none_of, distinct_join, clear_append, clear_last}

module _ {S : Type 0} (m : Meaning S) where
  -- a job that the box has no more use for
  pub inv_drop : (r₀ c₀ : ℕ) (s : State S) → Inv m s → Inv m (dropped r₀ c₀ s)
  inv_drop r₀ c₀ s i = record {
    once = i.once;
    few = i.few;
    known = i.known;
    pooled = i.pooled;
    apart = i.apart;
    asked = i.asked;
    open_request = λ r c h. i.open_request r c (grind (arith, nat_tests));
    past = i.past;
    noticed = i.noticed;
    held = i.held;
    firm = i.firm;
    confirmed = i.confirmed;
  }

  pub on_drop : (r₀ c₀ : ℕ) (s : State S) → Onward m s (dropped r₀ c₀ s)
  on_drop r₀ c₀ s = on_boxes m s _ _ _ _

  -- what the reply says
  reply_epoch : (s : State S) (r c e : ℕ) → agrees e (reply m s r c) ≡ true → (e ≡ s.lead.epoch) × (pools m s r c ≡ true)
  reply_epoch s r c e h = (grind (arith, nat_tests), grind (arith, nat_tests))

  reply_told : (s : State S) (r c e t : ℕ) → reply m s r c ≡ Told e t →
      (r ≡ s.lead.leader) × (any_of (meets m s.jobs.job c) s.lead.waiting ≡ false) × (m.result s.lead.book (s.jobs.job c) ≡ t)
  reply_told s r c e t h = (grind (arith, nat_tests), grind (arith, nat_tests), grind (arith, nat_tests))

  pools_apart : (s : State S) → Inv m s → (r c : ℕ) → pools m s r c ≡ true → (d : ℕ) → s.boxes.pool r d ≡ true → meets m s.jobs.job c d ≡ false
  pools_apart s i r c h d hd =
      let none = none_below s.jobs.count (λ d. s.boxes.pool r d && meets m s.jobs.job c d) (grind arith) d (i.pooled r d hd) in
      grind arith

  module _ (r₀ c₀ : ℕ) (s : State S) (i : Inv m s) where
    take_back : (r c e : ℕ) → (e ≡ s.lead.epoch → ⊥) → agrees e (said ((take m r₀ c₀ s).boxes.answer r c)) ≡ true → agrees e (said (s.boxes.answer r c)) ≡ true
    take_back r c e ne h = let new = reply_epoch s r₀ c₀ e in grind (arith, nat_tests)

    -- the agreements of a past epoch do not grow
    live_take : (e c : ℕ) → Live (take m r₀ c₀ s) e c → Live s e c
    live_take e c (inl p) = inl p
    live_take e c (inr q) = go (cases_eq e s.lead.epoch)
      where
        go : (e ≡ s.lead.epoch) ⊎ (e ≡ s.lead.epoch → ⊥) → Live s e c
        go (inl p) = inl p
        go (inr ne) =
            let less = tally_le s.fixed.size (λ r. agrees e (said ((take m r₀ c₀ s).boxes.answer r c))) (λ r. agrees e (said (s.boxes.answer r c)))
            (λ r h. take_back r c e ne h) in
            inr (omega arith)

    -- an answer after the call is the reply, or an earlier one
    take_said : (r c e t : ℕ) → said ((take m r₀ c₀ s).boxes.answer r c) ≡ Told e t →
        ((r ≡ r₀) × (c ≡ c₀) × (reply m s r₀ c₀ ≡ Told e t)) ⊎ (said (s.boxes.answer r c) ≡ Told e t)
    take_said r c e t h = go (cases_eq r r₀) (cases_eq c c₀)
      where
        go : (r ≡ r₀) ⊎ (r ≡ r₀ → ⊥) → (c ≡ c₀) ⊎ (c ≡ c₀ → ⊥) → ((r ≡ r₀) × (c ≡ c₀) × (reply m s r₀ c₀ ≡ Told e t)) ⊎ (said (s.boxes.answer r c) ≡ Told e t)
        go (inl p) (inl q) = inl (p, q, grind (arith, nat_tests))
        go (inl p) (inr n) = inr (grind (arith, nat_tests))
        go (inr n) q = inr (grind (arith, nat_tests))

    firm_take : (c t : ℕ) → Firm m s c t → Firm m (take m r₀ c₀ s) c t
    firm_take c t (inl p) = inl p
    firm_take c t (inr q) =
        inr (q.0, clear_append (meets m s.jobs.job) c s.lead.waiting (joins s r₀ c₀) q.1, q.2)

    -- the leader's own word is firm: nothing that waits meets the job, and it stands last
    firm_told : (e t : ℕ) → drops s r₀ c₀ ≡ false → reply m s r₀ c₀ ≡ Told e t → Firm m (take m r₀ c₀ s) c₀ t
    firm_told e t kept h =
        let told = reply_told s r₀ c₀ e t h in
        let new : mem c₀ s.lead.waiting ≡ false = let none = none_of (meets m s.jobs.job c₀) s.lead.waiting told.1 c₀ in grind (arith, nat_tests) in
        let last = clear_last (meets m s.jobs.job) c₀ s.lead.waiting [] told.1 in
        inr (grind (arith, nat_tests), grind (arith, nat_tests), told.2)

    take_agrees : s.boxes.answer r₀ c₀ ≡ Empty → (r c e : ℕ) → agrees e (said (s.boxes.answer r c)) ≡ true → agrees e (said ((take m r₀ c₀ s).boxes.answer r c)) ≡ true
    take_agrees fresh r c e h = grind (arith, nat_tests)

    module _ (laws : Laws m) (job : c₀ < s.jobs.count) (asks : s.boxes.request r₀ c₀ ≡ true) (kept : drops s r₀ c₀ ≡ false) where
      joined : (d : ℕ) → mem d (joins s r₀ c₀) ≡ true → (d ≡ c₀) × (mem d (s.lead.log ++ s.lead.waiting) ≡ false)
      joined d h = let split = any_append (eqb d) s.lead.log s.lead.waiting in (grind (arith, nat_tests), grind (arith, nat_tests))

      firm_after : (r c e t : ℕ) → said ((take m r₀ c₀ s).boxes.answer r c) ≡ Told e t → Live (take m r₀ c₀ s) e c → Firm m (take m r₀ c₀ s) c t
      firm_after r c e t h l = go (take_said r c e t h)
        where
          go : ((r ≡ r₀) × (c ≡ c₀) × (reply m s r₀ c₀ ≡ Told e t)) ⊎ (said (s.boxes.answer r c) ≡ Told e t) → Firm m (take m r₀ c₀ s) c t
          go (inl new) = rw new.1 (firm_told e t kept new.2)
          go (inr old) = firm_take c t (i.firm r c e t old (live_take e c l))

      pub inv_take : Inv m (take m r₀ c₀ s)
      inv_take = record {
        once = rw (← append_assoc) (distinct_join (s.lead.log ++ s.lead.waiting) (joins s r₀ c₀) i.once (grind arith) (λ d h. let j = joined d in grind arith));
        few = i.few;
        known = λ c h.
            let split = any_append (eqb c) s.lead.log (s.lead.waiting ++ joins s r₀ c₀) in
            let split₂ = any_append (eqb c) s.lead.waiting (joins s r₀ c₀) in
            let split₃ = any_append (eqb c) s.lead.log s.lead.waiting in
            let old = i.known c in
            let new = joined c in
            grind arith;
        pooled = λ r c h. let old = i.pooled r c in grind (arith, nat_tests);
        apart = λ r c d hc hd h.
            let old = i.apart r c d in
            let new = λ (p : pools m s r₀ c₀ ≡ true). pools_apart s i r₀ c₀ p in
            let swap = laws.symmetric (s.jobs.job c) (s.jobs.job d) in
            grind (arith, nat_tests);
        asked = λ r c h. let old = i.asked r c h in grind (arith, nat_tests);
        open_request = λ r c h. let old = i.open_request r c in grind (arith, nat_tests);
        past = λ r c e h. let old = i.past r c e in let new = reply_epoch s r₀ c₀ e in grind (arith, nat_tests);
        noticed = i.noticed;
        held = λ r c e h l g.
            let old = λ (a : agrees e (said (s.boxes.answer r c)) ≡ true). i.held r c e a (live_take e c l) g in
            let new = reply_epoch s r₀ c₀ e in
            grind (arith, nat_tests);
        firm = firm_after;
        confirmed = λ c t e h.
            let old = i.confirmed c t e h in
            let free = i.open_request r₀ c₀ asks in
            let more = tally_le s.fixed.size (λ r. agrees e (said (s.boxes.answer r c))) (λ r. agrees e (said ((take m r₀ c₀ s).boxes.answer r c)))
            (λ r a. take_agrees free r c e a) in
            (old.0, grind (arith, nat_tests), omega (arith, old.2));
      }

      pub on_take : Onward m s (take m r₀ c₀ s)
      on_take = record {
        epoch_up = omega arith;
        count_up = omega arith;
        job_on = λ c h. refl;
        log_on = λ c h. h;
        told_on = λ r c e t h. let free = i.open_request r₀ c₀ asks in grind (arith, nat_tests);
        fast_on = λ c t e h. h;
        live_back = λ e c past l. live_take e c l;
        in_turn = λ c d t f out h other meet. h;
      }
