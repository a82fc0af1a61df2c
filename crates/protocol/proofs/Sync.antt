-- The leader moves the first waiting job to the log.
use Rattle.std.proofs.Common.{◌≡◌, ℕ, true, false, ◌||◌, eqb, ◌≢◌, ◌⊎◌, List, [], ◌∷◌, ◌++◌, refl, inl, inr, append_assoc, arith}
use Rattle.std.proofs.lemmas.Bool.Decides.{nat_tests}
use Rattle.std.proofs.lemmas.Bool.{cases_eq}
use Rattle.terms.specs.Tests.{mem}
use Rattle.base.specs.Meaning.{Meaning, Laws}
use Rattle.protocol.specs.State.{State, meets}
use Rattle.protocol.specs.Steps.{sync}
use Rattle.protocol.proofs.Invariant.{Firm, Inv, Onward}
use Rattle.terms.proofs.Lists.{any_append, distinct_apart}

module _ {S : Type 0} (m : Meaning S) where
  module _ (laws : Laws m) (c₀ : ℕ) (cs : List ℕ) (s : State S) (i : Inv m s) (front : s.lead.waiting ≡ c₀ ∷ cs) where
    logged : (c : ℕ) → mem c s.lead.log ≡ true → eqb c c₀ ≡ false
    logged c h = let away = distinct_apart s.lead.log s.lead.waiting i.once c h in grind arith

    grown : (c : ℕ) → mem c (s.lead.log ++ c₀ ∷ []) ≡ mem c s.lead.log || eqb c c₀
    grown c = let split = any_append (eqb c) s.lead.log (c₀ ∷ []) in grind arith

    firm_sync : (c t : ℕ) → Firm m s c t → Firm m (sync m (c₀ ∷ cs) s) c t
    firm_sync c t (inl p) = let away = logged c p.0 in let more = grown c in inl (grind arith, grind (arith, nat_tests))
    firm_sync c t (inr q) = go (cases_eq c c₀)
      where
        go : (c ≡ c₀) ⊎ (c ≡ c₀ → ⊥) → Firm m (sync m (c₀ ∷ cs) s) c t
        go (inl same) = let more = grown c in inl (grind (arith, nat_tests), grind (arith, nat_tests))
        go (inr other) =
            let more = grown c in
            let kept = laws.apart s.lead.book (s.jobs.job c) (s.jobs.job c₀) in
            inr (grind (arith, nat_tests), grind (arith, nat_tests), grind (arith, nat_tests))

    pub inv_sync : Inv m (sync m (c₀ ∷ cs) s)
    inv_sync = record {
      once = rw append_assoc (rw front at i.once);
      few = i.few;
      known = λ c h. i.known c (rw front (rw append_assoc at h));
      pooled = i.pooled;
      apart = i.apart;
      asked = i.asked;
      open_request = i.open_request;
      past = i.past;
      noticed = λ r c h. let old = i.noticed r c in let more = grown c in grind (arith, nat_tests);
      held = λ r c e h l g. i.held r c e h l (let more = grown c in grind arith);
      firm = λ r c e t h l. firm_sync c t (i.firm r c e t h l);
      confirmed = i.confirmed;
    }

    in_turn_sync : (c d t : ℕ) → Firm m s c t → mem c (s.lead.log ++ c₀ ∷ []) ≡ false → mem d (s.lead.log ++ c₀ ∷ []) ≡ true →
        d ≢ c → meets m s.jobs.job c d ≡ true → mem d s.lead.log ≡ true
    in_turn_sync c d t (inl p) out h other meet = let more = grown c in grind arith
    in_turn_sync c d t (inr q) out h other meet = let more = grown c in let more₂ = grown d in grind (arith, nat_tests)

    pub on_sync : Onward m s (sync m (c₀ ∷ cs) s)
    on_sync = record {
      epoch_up = omega arith;
      count_up = omega arith;
      job_on = λ c h. refl;
      log_on = λ c h. let more = grown c in grind arith;
      told_on = λ r c e t h. h;
      fast_on = λ c t e h. h;
      live_back = λ e c past l. l;
      in_turn = in_turn_sync;
    }
