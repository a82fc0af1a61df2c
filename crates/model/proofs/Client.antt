-- The client's decision is the one that the amendments describe.
use Rattle.std.proofs.Common.{◌≡◌, ℕ, zero, suc, ◌<◌, ◌≤◌, Bool, true, false, cond, ◌&&◌, leb, ◌⊎◌, sym, refl, ap, ◌∙◌, inl, inr, arith}
use Rattle.std.proofs.lemmas.Bool.Decides.{nat_tests}
use Rattle.std.proofs.lemmas.Bool.{cases_lt, leb-true}
use Rattle.terms.specs.declared.answers.Reply.{Reply}
use Rattle.terms.specs.declared.answers.Reply.TheVariants.{No, Yes, Told}
use Rattle.terms.specs.declared.answers.Answer.{Answer}
use Rattle.terms.specs.declared.answers.Answer.TheVariants.{Heard}
use Rattle.terms.specs.declared.answers.Phase.{Phase}
use Rattle.terms.specs.declared.answers.Phase.TheVariants.{Waiting, Slow, Fast}
use Rattle.protocol.specs.Answers.{agrees, heard, agreeing, by_told, by_any_told, declining, decide}
use Rattle.protocol.specs.Counts.{confirming, blocking_number}
use Rattle.terms.proofs.Counting.{overlap, tally_all, tally_some}
use Rattle.model.specs.Variables.{Constants}
use Rattle.model.specs.Amendments.{Confirms, Decides}

-- two epochs cannot both have a quorum of the same answers
one_epoch : (n : ℕ) (row : ℕ → Answer) (d e : ℕ) → confirming n ≤ agreeing n row d → confirming n ≤ agreeing n row e → d ≡ e
one_epoch n row d e hd he =
    let all = tally_all n in
    let both = overlap n (λ r. agrees d (heard (row r))) (λ r. agrees e (heard (row r))) (λ _. true) (λ _ _. refl) (λ _ _. refl) in
    let found = tally_some n (λ r. agrees d (heard (row r)) && agrees e (heard (row r))) (omega arith) in
    same (heard (row found.0)) found.1
  where
    same : (x : Reply) → agrees d x && agrees e x ≡ true → d ≡ e
    same x h = grind (arith, nat_tests)

heard_is : (a : Answer) (e t : ℕ) → heard a ≡ Told e t → a ≡ Heard (Told e t)
heard_is a e t h = grind arith

module _ (n : ℕ) (row : ℕ → Answer) where
  -- a told result that the answers of its epoch confirm
  abbrev Proof : ℕ → ℕ → Type 0
  Proof e t = (r : ℕ) × (heard (row r) ≡ Told e t) × (confirming n ≤ agreeing n row e)

  -- what the boxes below k come to: one of them has such a result, or none has, and the other phase stands
  abbrev Looked : ℕ → Phase → Type 0
  Looked k other =
      ((e : ℕ) × (t : ℕ) × (by_any_told n row k other ≡ Fast t e) × Proof e t) ⊎
      ((by_any_told n row k other ≡ other) × ((r e t : ℕ) → r < k → heard (row r) ≡ Told e t → confirming n ≤ agreeing n row e → ⊥))

  look : (k : ℕ) (other : Phase) → Looked k other
  look zero other = inr (refl, λ r e t below. absurd (omega arith))
  look (suc k) other = at (heard (row k)) refl (look k other)
    where
      none_here : (x : Reply) → heard (row k) ≡ x → by_told n row x (by_any_told n row k other) ≡ by_any_told n row k other →
          ((e t : ℕ) → x ≡ Told e t → confirming n ≤ agreeing n row e → ⊥) → Looked k other → Looked (suc k) other
      none_here x is skips none (inl (e, t, fast, why)) = inl (e, t, rw (is, skips) fast, why)
      none_here x is skips none (inr (stays, before)) = inr (
        rw (is, skips) stays,
        λ r e t below told. go r e t told (before r e t) (none e t) (cases_lt r k) below,
      )
        where
          go : (r e t : ℕ) → heard (row r) ≡ Told e t → (r < k → heard (row r) ≡ Told e t → confirming n ≤ agreeing n row e → ⊥) →
              (x ≡ Told e t → confirming n ≤ agreeing n row e → ⊥) → (r < k) ⊎ (k ≤ r) → r < suc k → confirming n ≤ agreeing n row e → ⊥
          go r e t told earlier here (inl low) below = earlier low told
          go r e t told earlier here (inr high) below =
              let same : r ≡ k = omega arith in
              here (sym is ∙ rw same at told)

      at : (x : Reply) → heard (row k) ≡ x → Looked k other → Looked (suc k) other
      at (No d) is rest = none_here (No d) is refl (λ e t no_told. absurd (grind arith)) rest
      at (Yes d) is rest = none_here (Yes d) is refl (λ e t no_told. absurd (grind arith)) rest
      at (Told d u) is rest = test (leb (confirming n) (agreeing n row d)) refl
        where
          test : (b : Bool) → leb (confirming n) (agreeing n row d) ≡ b → Looked (suc k) other
          test true most = inl (d, u, rw (is, most), (k, is, leb-true (confirming n) (agreeing n row d) most))
          test false few =
              none_here (Told d u) is (rw few)
              (λ e t told enough. let same : d ≡ e = grind arith in grind (arith, nat_tests)) rest

module _ (C : Constants) (leader : ℕ → ℕ) (answers : ℕ → ℕ → Answer) (cmd : ℕ)
    (by_leader : (r e t : ℕ) → heard (answers r cmd) ≡ Told e t → (leader e ≡ r) × (r < C.replica_count)) where
  abbrev n : ℕ
  n = C.replica_count

  abbrev row : ℕ → Answer
  row r = answers r cmd

  abbrev otherwise : Phase
  otherwise = cond (leb (blocking_number n) (declining n row)) Slow Waiting

  proof_confirms : (e t : ℕ) → Proof n row e t → Confirms answers cmd C leader e t
  proof_confirms e t why = record {
    led = rw (by_leader why.0 e t why.1).0 (heard_is (row why.0) e t why.1);
    enough = let most = why.2 in grind (arith, nat_tests);
  }

  told_heard : (e t : ℕ) → Confirms answers cmd C leader e t → heard (row (leader e)) ≡ Told e t
  told_heard e t c = ap heard c.led

  enough_agree : (e t : ℕ) → Confirms answers cmd C leader e t → confirming n ≤ agreeing n row e
  enough_agree e t c = leb-true (confirming n) (agreeing n row e) c.enough

  same_proof : (d u e t : ℕ) → Proof n row d u → Confirms answers cmd C leader e t → Fast u d ≡ Fast t e
  same_proof d u e t why c =
      let epochs = one_epoch n row d e why.2 (enough_agree e t c) in
      let box = (by_leader why.0 d u why.1).0 in
      let one : heard (row (leader d)) ≡ Told d u = rw box why.1 in
      let two = told_heard e t c in
      cc

  -- the waiting client: by what was looked at
  module _ (found : Looked n row n otherwise) where
    fast_is : (e t : ℕ) → Confirms answers cmd C leader e t → decide n row Waiting ≡ Fast t e
    fast_is e t c = go found
      where
        go : Looked n row n otherwise → decide n row Waiting ≡ Fast t e
        go (inl (d, u, fast, why)) = fast ∙ same_proof d u e t why c
        go (inr (stays, none)) =
            absurd (none (leader e) e t (by_leader (leader e) e t (told_heard e t c)).1 (told_heard e t c) (enough_agree e t c))

    other_is : ((e t : ℕ) → Confirms answers cmd C leader e t → ⊥) → decide n row Waiting ≡ otherwise
    other_is none = go found
      where
        go : Looked n row n otherwise → decide n row Waiting ≡ otherwise
        go (inl (d, u, fast, why)) = absurd (none d u (proof_confirms d u why))
        go (inr (stays, never)) = stays

    waiting_only : (after : Phase) → Decides answers cmd C leader Waiting after → after ≡ decide n row Waiting
    waiting_only after d = go found
      where
        by_count : ((e t : ℕ) → Confirms answers cmd C leader e t → ⊥) → (b : Bool) → leb (blocking_number n) (declining n row) ≡ b → after ≡ otherwise
        by_count none true e = d.slow refl none e ∙ rw e
        by_count none false e = d.waits refl none e ∙ rw e

        go : Looked n row n otherwise → after ≡ decide n row Waiting
        go (inl (e, t, fast, why)) = d.fast refl e t (proof_confirms e t why) ∙ sym fast
        go (inr (stays, never)) =
            by_count (λ e t c. never (leader e) e t (by_leader (leader e) e t (told_heard e t c)).1 (told_heard e t c) (enough_agree e t c)) (leb (blocking_number n) (declining n row)) refl ∙
            sym stays

  pub decide_fits : (now : Phase) → Decides answers cmd C leader now (decide n row now)
  decide_fits Waiting = record {
    settled = λ other. absurd (other refl);
    fast = λ _. fast_is (look n row n otherwise);
    slow = λ _ none GivesUp. other_is (look n row n otherwise) none ∙ rw GivesUp;
    waits = λ _ none goes_on. other_is (look n row n otherwise) none ∙ rw goes_on;
  }
  decide_fits Slow = record {
    settled = λ _. refl;
    fast = λ same. absurd (grind arith);
    slow = λ same. absurd (grind arith);
    waits = λ same. absurd (grind arith);
  }
  decide_fits (Fast u d) = record {
    settled = λ _. refl;
    fast = λ same. absurd (grind arith);
    slow = λ same. absurd (grind arith);
    waits = λ same. absurd (grind arith);
  }

  pub decide_only : (now after : Phase) → Decides answers cmd C leader now after → after ≡ decide n row now
  decide_only Waiting after d = waiting_only (look n row n otherwise) after d
  decide_only Slow after d = d.settled (λ same. grind arith)
  decide_only (Fast u e) after d = d.settled (λ same. grind arith)
