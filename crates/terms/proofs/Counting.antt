-- How many numbers below a bound pass a test.
use Rattle.std.proofs.Common.{◌≡◌, ℕ, zero, suc, ◌+◌, ◌<◌, ◌≤◌, Bool, true, false, cond, ◌&&◌, ◌⊎◌, refl, ap, inl, inr, add-one, arith}
use Rattle.std.proofs.lemmas.Bool.{cases_eq}
use Rattle.terms.specs.Tests.{tally}

-- more pass a weaker test
pub tally_le : (n : ℕ) (p q : ℕ → Bool) → ((r : ℕ) → p r ≡ true → q r ≡ true) → tally n p ≤ tally n q
tally_le zero p q h = omega arith
tally_le (suc n) p q h =
    let rest = tally_le n p q h in
    let here = h n in
    grind arith

-- two tests within a third overlap
pub overlap : (n : ℕ) (p q v : ℕ → Bool) → ((r : ℕ) → p r ≡ true → v r ≡ true) → ((r : ℕ) → q r ≡ true → v r ≡ true) →
    tally n p + tally n q ≤ tally n v + tally n (λ r. p r && q r)
overlap zero p q v hp hq = omega arith
overlap (suc n) p q v hp hq =
    let rest = overlap n p q v hp hq in
    let at_p = hp n in
    let at_q = hq n in
    grind arith

pub tally_all : (n : ℕ) → tally n (λ _. true) ≡ n
tally_all zero = refl
tally_all (suc n) = ap suc (tally_all n)

pub tally_some : (n : ℕ) (p : ℕ → Bool) → 0 < tally n p → (r : ℕ) × (p r ≡ true)
tally_some zero p h = absurd (omega arith)
tally_some (suc n) p h = go (p n) refl (tally_some n p)
  where
    go : (b : Bool) → p n ≡ b → (0 < tally n p → (r : ℕ) × (p r ≡ true)) → (r : ℕ) × (p r ≡ true)
    go true e rest = (n, e)
    go false e rest = rest (grind arith)

-- one box more, as a loop counts
pub tally_more : (n : ℕ) (p : ℕ → Bool) → tally (n + 1) p ≡ cond (p n) (tally n p + 1) (tally n p)
tally_more n p = simp add-one

-- fewer boxes, fewer that pass
tally_up : (j n : ℕ) (p : ℕ → Bool) → j ≤ n → tally j p ≤ tally n p
tally_up j zero p h = let e : j ≡ 0 = omega arith in rw e (omega arith)
tally_up j (suc n) p h = go (cases_eq j (suc n)) (tally_up j n p)
  where
    go : (j ≡ suc n) ⊎ (j ≡ suc n → ⊥) → (j ≤ n → tally j p ≤ tally n p) → tally j p ≤ tally (suc n) p
    go (inl same) rest = rw same (omega arith)
    go (inr other) rest = let less = rest (omega arith) in grind arith

-- where nothing from n on passes, no more pass below k than below n
tally_within : (k n : ℕ) (p : ℕ → Bool) → ((d : ℕ) → n ≤ d → p d ≡ false) → tally k p ≤ tally n p
tally_within zero n p beyond = omega arith
tally_within (suc k) n p beyond =
    let rest = tally_within k n p beyond in
    let here = beyond k in
    let up = tally_up (suc k) n p in
    grind arith

pub tally_same_bound : (k n : ℕ) (p : ℕ → Bool) → ((d : ℕ) → n ≤ d → p d ≡ false) → ((d : ℕ) → k ≤ d → p d ≡ false) → tally n p ≡ tally k p
tally_same_bound k n p beyond-n beyond-k =
    let one = tally_within k n p beyond-n in
    let two = tally_within n k p beyond-k in
    omega arith

pub tally_bound : (n : ℕ) (p : ℕ → Bool) → tally n p ≤ n
tally_bound zero p = omega arith
tally_bound (suc n) p = let rest = tally_bound n p in grind arith

pub tally_hit : (n : ℕ) (p : ℕ → Bool) (x : ℕ) → x < n → p x ≡ true → 0 < tally n p
tally_hit n p x h e = let up = tally_up (suc x) n p (omega arith) in grind arith
