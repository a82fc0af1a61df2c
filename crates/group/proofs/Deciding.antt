-- A client's decision looks at the answers of the group's boxes alone.
use Rattle.std.proofs.Common.{◌≡◌, ℕ, zero, suc, ◌<◌, ◌≤◌, Bool, cond, leb, List, length, get_or, take, refl, ap, ◌∙◌, arith, length-take-le, get_or-take}
use Rattle.terms.specs.declared.answers.Answer.{Answer}
use Rattle.terms.specs.declared.answers.Answer.TheVariants.{Empty}
use Rattle.terms.specs.declared.answers.Reply.{Reply}
use Rattle.terms.specs.declared.answers.Reply.TheVariants.{No, Yes, Told}
use Rattle.terms.specs.declared.answers.Phase.{Phase}
use Rattle.terms.specs.declared.answers.Phase.TheVariants.{Waiting, Slow, Fast}
use Rattle.terms.specs.Tests.{tally}
use Rattle.protocol.specs.Counts.{confirming, blocking_number}
use Rattle.protocol.specs.Answers.{heard, agrees, declined, agreeing, declining, by_told, by_any_told, decide}

tally_same : (n : ℕ) (p q : ℕ → Bool) → ((b : ℕ) → b < n → p b ≡ q b) → tally n p ≡ tally n q
tally_same zero p q same = refl
tally_same (suc n) p q same =
    let rest = tally_same n p q (λ b h. same b (omega arith)) in
    let here = same n (omega arith) in
    grind arith

module _ (n : ℕ) (f g : ℕ → Answer) (same : (b : ℕ) → b < n → f b ≡ g b) where
  agreeing_same : (e : ℕ) → agreeing n f e ≡ agreeing n g e
  agreeing_same e = tally_same n _ _ (λ b h. ap (λ a. agrees e (heard a)) (same b h))

  told_same : (x : Reply) (p : Phase) → by_told n f x p ≡ by_told n g x p
  told_same (No e) p = refl
  told_same (Yes e) p = refl
  told_same (Told e t) p = ap (λ m. cond (leb (confirming n) m) (Fast t e) p) (agreeing_same e)

  any_told_same : (k : ℕ) → k ≤ n → (p : Phase) → by_any_told n f k p ≡ by_any_told n g k p
  any_told_same zero h p = refl
  any_told_same (suc k) h p =
      ap (λ a. by_told n f (heard a) (by_any_told n f k p)) (same k (omega arith)) ∙
      ap (by_told n f (heard (g k))) (any_told_same k (omega arith) p) ∙
      told_same (heard (g k)) (by_any_told n g k p)

  pub decide_same : (p : Phase) → decide n f p ≡ decide n g p
  decide_same Waiting =
      ap (λ m. by_any_told n f n (cond (leb (blocking_number n) m) Slow Waiting)) (tally_same n _ _ (λ b h. ap declined (same b h))) ∙
      any_told_same n (omega arith) (cond (leb (blocking_number n) (declining n g)) Slow Waiting)
  decide_same Slow = refl
  decide_same (Fast t e) = refl

-- the first so many answers of a list
pub decide_first : (answers : List Answer) (n : ℕ) (p : Phase) → n ≤ length answers →
    decide (length (take n answers)) (λ b. get_or (take n answers) b Empty) p ≡ decide n (λ b. get_or answers b Empty) p
decide_first answers n p h =
    ap (λ m. decide m (λ b. get_or (take n answers) b Empty) p) (length-take-le n answers h) ∙
    decide_same n (λ b. get_or (take n answers) b Empty) (λ b. get_or answers b Empty) (λ b l. get_or-take n answers b Empty l) p
