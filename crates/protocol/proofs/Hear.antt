-- An answer that is heard keeps the invariant.
use Rattle.std.proofs.Common.{◌≡◌, ℕ, zero, suc, ◌≤◌, Bool, true, false, cond, leb, ◌⊎◌, sym, refl, ◌∙◌, inl, inr, arith}
use Rattle.std.proofs.lemmas.Bool.Decides.{nat_tests}
use Rattle.std.proofs.lemmas.Bool.{cases_eq, leb-true}
use Rattle.terms.specs.Tests.{tally}
use Rattle.terms.specs.declared.answers.Reply.{Reply}
use Rattle.terms.specs.declared.answers.Reply.TheVariants.{No, Yes, Told}
use Rattle.terms.specs.declared.answers.Answer.{Answer}
use Rattle.terms.specs.declared.answers.Phase.{Phase}
use Rattle.terms.specs.declared.answers.Phase.TheVariants.{Waiting, Slow, Fast}
use Rattle.base.specs.Meaning.{Meaning}
use Rattle.protocol.specs.State.{State}
use Rattle.protocol.specs.Counts.{confirming, blocking_number}
use Rattle.protocol.proofs.Said.{said}
use Rattle.protocol.specs.Answers.{heard, agrees, declined, by_told, by_any_told, decide}
use Rattle.protocol.specs.Steps.{hear}
use Rattle.protocol.proofs.Invariant.{Quorum, Live, Inv, Onward}
use Rattle.terms.proofs.Counting.{tally_le}

-- a job becomes fast only by a told result that was heard, with the answers that confirm it
abbrev Proof : ℕ → (ℕ → Answer) → ℕ → ℕ → Type 0
Proof n row t e = (r : ℕ) × (heard (row r) ≡ Told e t) × (confirming n ≤ tally n (λ b. agrees e (heard (row b))))

told_fast : (n : ℕ) (row : ℕ → Answer) (x : Reply) (other : Phase) (t e : ℕ) → by_told n row x other ≡ Fast t e →
    ((x ≡ Told e t) × (confirming n ≤ tally n (λ b. agrees e (heard (row b))))) ⊎ (other ≡ Fast t e)
told_fast n row (No d) other t e h = inr h
told_fast n row (Yes d) other t e h = inr h
told_fast n row (Told d u) other t e h = go (leb (confirming n) (tally n (λ b. agrees d (heard (row b))))) refl
  where
    go : (b : Bool) → leb (confirming n) (tally n (λ b. agrees d (heard (row b)))) ≡ b →
        ((Told d u ≡ Told e t) × (confirming n ≤ tally n (λ b. agrees e (heard (row b))))) ⊎ (other ≡ Fast t e)
    go true yes-it-is =
        let same : d ≡ e = grind arith in
        let most = leb-true (confirming n) (tally n (λ b. agrees d (heard (row b)))) yes-it-is in
        inl (grind arith, rw same at most)
    go false not_so = inr (grind arith)

settle_fast : (n : ℕ) (row : ℕ → Answer) (j : ℕ) (other : Phase) (t e : ℕ) → by_any_told n row j other ≡ Fast t e → (other ≡ Fast t e → ⊥) → Proof n row t e
settle_fast n row zero other t e h not_yet = absurd (not_yet h)
settle_fast n row (suc j) other t e h not_yet =
    go (settle_fast n row j other t e) (told_fast n row (heard (row j)) (by_any_told n row j other) t e h)
  where
    go : (by_any_told n row j other ≡ Fast t e → (other ≡ Fast t e → ⊥) → Proof n row t e) →
        ((heard (row j) ≡ Told e t) × (confirming n ≤ tally n (λ b. agrees e (heard (row b))))) ⊎ (by_any_told n row j other ≡ Fast t e) → Proof n row t e
    go rest (inl found) = (j, found.0, found.1)
    go rest (inr earlier) = rest earlier not_yet

decide_fast : (n : ℕ) (row : ℕ → Answer) (now : Phase) (t e : ℕ) → decide n row now ≡ Fast t e → Proof n row t e ⊎ (now ≡ Fast t e)
decide_fast n row Waiting t e h =
    inl (settle_fast n row n (cond (leb (blocking_number n) (tally n (λ r. declined (row r)))) Slow Waiting) t e h (λ no_way. grind arith))
decide_fast n row Slow t e h = inr h
decide_fast n row (Fast u d) t e h = inr h

decide_stays : (n : ℕ) (row : ℕ → Answer) (now : Phase) (t e : ℕ) → now ≡ Fast t e → decide n row now ≡ Fast t e
decide_stays n row now t e h = rw h

-- what is heard was said
heard_told : (a : Answer) (e t : ℕ) → heard a ≡ Told e t → said a ≡ Told e t
heard_told a e t h = grind arith

heard_agrees : (a : Answer) (e : ℕ) → agrees e (heard a) ≡ true → agrees e (said a) ≡ true
heard_agrees a e h = grind arith

module _ {S : Type 0} (m : Meaning S) where
  -- an answer says the same when it is heard
  hear_said : (r₀ c₀ : ℕ) (s : State S) (r c : ℕ) → said ((hear r₀ c₀ s).boxes.answer r c) ≡ said (s.boxes.answer r c)
  hear_said r₀ c₀ s r c = grind (arith, nat_tests)

  live_hear : (r₀ c₀ : ℕ) (s : State S) (e c : ℕ) → Live (hear r₀ c₀ s) e c → Live s e c
  live_hear r₀ c₀ s e c (inl p) = inl p
  live_hear r₀ c₀ s e c (inr q) =
      let less = tally_le s.fixed.size (λ r. agrees e (said ((hear r₀ c₀ s).boxes.answer r c))) (λ r. agrees e (said (s.boxes.answer r c)))
      (λ r h. let same = hear_said r₀ c₀ s r c in cc) in
      inr (omega arith)

  module _ (r₀ c₀ : ℕ) (s : State S) (i : Inv m s) where
    -- what the client has as fast now was fast before, or is by what it has heard
    fast_hear : (c t e : ℕ) → (hear r₀ c₀ s).jobs.phase c ≡ Fast t e → Proof s.fixed.size (λ r. (hear r₀ c₀ s).boxes.answer r c) t e ⊎ (s.jobs.phase c ≡ Fast t e)
    fast_hear c t e h = go (cases_eq c c₀)
      where
        go : (c ≡ c₀) ⊎ (c ≡ c₀ → ⊥) → Proof s.fixed.size (λ r. (hear r₀ c₀ s).boxes.answer r c) t e ⊎ (s.jobs.phase c ≡ Fast t e)
        go (inl same) =
            rw same (decide_fast s.fixed.size (λ b. (hear r₀ c₀ s).boxes.answer b c₀) (s.jobs.phase c₀) t e (grind (arith, nat_tests)))
        go (inr other) = inr (grind (arith, nat_tests))

    confirmed_hear : (c t e : ℕ) → (hear r₀ c₀ s).jobs.phase c ≡ Fast t e →
        (r : ℕ) × (said ((hear r₀ c₀ s).boxes.answer r c) ≡ Told e t) × Quorum s.fixed.size (hear r₀ c₀ s).boxes.answer e c
    confirmed_hear c t e h = go (fast_hear c t e h)
      where
        answer' : ℕ → ℕ → Answer
        answer' = (hear r₀ c₀ s).boxes.answer

        go : Proof s.fixed.size (λ r. answer' r c) t e ⊎ (s.jobs.phase c ≡ Fast t e) → (r : ℕ) × (said (answer' r c) ≡ Told e t) × Quorum s.fixed.size answer' e c
        go (inl new) =
            let more = tally_le s.fixed.size (λ r. agrees e (heard (answer' r c))) (λ r. agrees e (said (answer' r c))) (λ r a. heard_agrees (answer' r c) e a) in
            (new.0, heard_told (answer' new.0 c) e t new.1, omega (arith, new.2))
        go (inr before) =
            let old = i.confirmed c t e before in
            let same = tally_le s.fixed.size (λ r. agrees e (said (s.boxes.answer r c))) (λ r. agrees e (said (answer' r c)))
            (λ r a. let b = hear_said r₀ c₀ s r c in cc) in
            (old.0, hear_said r₀ c₀ s old.0 c ∙ old.1, omega (arith, old.2))

    pub inv_hear : Inv m (hear r₀ c₀ s)
    inv_hear = record {
      once = i.once;
      few = i.few;
      known = i.known;
      pooled = i.pooled;
      apart = i.apart;
      asked = λ r c h. let old = i.asked r c h in grind (arith, nat_tests);
      open_request = λ r c h. let old = i.open_request r c h in grind (arith, nat_tests);
      past = λ r c e h. i.past r c e (let same = hear_said r₀ c₀ s r c in cc);
      noticed = i.noticed;
      held = λ r c e h l g. i.held r c e (let same = hear_said r₀ c₀ s r c in cc) (live_hear r₀ c₀ s e c l) g;
      firm = λ r c e t h l. i.firm r c e t (sym (hear_said r₀ c₀ s r c) ∙ h) (live_hear r₀ c₀ s e c l);
      confirmed = confirmed_hear;
    }

    pub on_hear : Onward m s (hear r₀ c₀ s)
    on_hear = record {
      epoch_up = omega arith;
      count_up = omega arith;
      job_on = λ c h. refl;
      log_on = λ c h. h;
      told_on = λ r c e t h. hear_said r₀ c₀ s r c ∙ h;
      fast_on = λ c t e h. let same = decide_stays s.fixed.size (λ b. (hear r₀ c₀ s).boxes.answer b c₀) (s.jobs.phase c₀) t e in grind (arith, nat_tests);
      live_back = λ e c past l. live_hear r₀ c₀ s e c l;
      in_turn = λ c d t f out h other meet. h;
    }
