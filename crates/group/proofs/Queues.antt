-- Lists of different jobs below 256.
use Rattle.std.proofs.Common.{◌≡◌, ℕ, zero, suc, ◌<◌, ◌≤◌, Bool, true, false, cond, List, [], ◌∷◌, ◌++◌, length, refl, arith}
use Rattle.std.proofs.lemmas.Bool.Decides.{nat_tests}
use Rattle.terms.specs.Tests.{mem, distinct, all_below, ascending}
use Rattle.terms.proofs.Lists.{distinct_join}
use Rattle.protocol.proofs.Room.{few_distinct}

pub below_mem : (n : ℕ) (xs : List ℕ) → all_below n xs ≡ true → (c : ℕ) → mem c xs ≡ true → c < n
below_mem n [] below c h = absurd (grind arith)
below_mem n (x ∷ xs) below c h = let rest = below_mem n xs in grind (arith, nat_tests)

pub below_append : (n : ℕ) (xs ys : List ℕ) → all_below n xs ≡ true → all_below n ys ≡ true → all_below n (xs ++ ys) ≡ true
below_append n [] ys hx hy = hy
below_append n (x ∷ xs) ys hx hy = let rest = below_append n xs ys in grind arith

pub below_more : (n k : ℕ) (xs : List ℕ) → n ≤ k → all_below n xs ≡ true → all_below k xs ≡ true
below_more n k [] le below = refl
below_more n k (x ∷ xs) le below = let rest = below_more n k xs in grind (arith, nat_tests)

pub below_ascending : (n k : ℕ) (p : ℕ → Bool) → n ≤ k → all_below k (ascending n p) ≡ true
below_ascending zero k p le = refl
below_ascending (suc n) k p le =
    below_append k (ascending n p) (cond (p n) (n ∷ []) []) (below_ascending n k p (omega arith)) (grind (arith, nat_tests))

module _ (xs : List ℕ) (c : ℕ) (once : distinct xs ≡ true) (below : all_below 256 xs ≡ true) (new : mem c xs ≡ false) (small : c < 256) where
  -- a job more finds room
  pub room_for : length xs < 256
  room_for =
      let all = few_distinct 256 (c ∷ xs) (grind arith) (λ d h. let old = below_mem 256 xs below d in grind (arith, nat_tests)) in
      omega arith

  pub joined_once : distinct (xs ++ c ∷ []) ≡ true
  joined_once = distinct_join xs (c ∷ []) once (grind arith) (λ d h. grind (arith, nat_tests))

  pub joined_below : all_below 256 (xs ++ c ∷ []) ≡ true
  joined_below = below_append 256 xs (c ∷ []) below (grind (arith, nat_tests))
