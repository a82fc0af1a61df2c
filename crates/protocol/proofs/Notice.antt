-- A notice keeps the invariant: it empties a pool only of a job that is in the log.
use Rattle.std.proofs.Common.{◌≡◌, ℕ, true, arith}
use Rattle.std.proofs.lemmas.Bool.Decides.{nat_tests}
use Rattle.base.specs.Meaning.{Meaning}
use Rattle.protocol.specs.State.{State}
use Rattle.protocol.specs.Steps.{note}
use Rattle.protocol.proofs.Invariant.{Inv, Onward, on_boxes}

module _ {S : Type 0} (m : Meaning S) where
  pub inv_note : (r₀ c₀ : ℕ) (s : State S) → Inv m s → s.boxes.notice r₀ c₀ ≡ true → Inv m (note r₀ c₀ s)
  inv_note r₀ c₀ s i sent = record {
    once = i.once;
    few = i.few;
    known = i.known;
    pooled = λ r c h. i.pooled r c (grind (arith, nat_tests));
    apart = λ r c d hc hd h. i.apart r c d (grind (arith, nat_tests)) (grind (arith, nat_tests)) h;
    asked = i.asked;
    open_request = i.open_request;
    past = i.past;
    noticed = λ r c h. i.noticed r c (grind (arith, nat_tests));
    held = λ r c e h l g. let old = i.held r c e h l g in let in_log = i.noticed r₀ c₀ sent in grind (arith, nat_tests);
    firm = i.firm;
    confirmed = i.confirmed;
  }

  pub on_note : (r₀ c₀ : ℕ) (s : State S) → Onward m s (note r₀ c₀ s)
  on_note r₀ c₀ s = on_boxes m s _ _ _ _
