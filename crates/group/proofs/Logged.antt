-- The place of a job in the log, found place by place.
use Rattle.std.proofs.Common.{◌≡◌, ℕ, zero, suc, ◌+◌, ◌-◌, ◌<◌, ◌≤◌, Bool, true, false, cond, ◌&&◌, eqb, leb, List, [], ◌∷◌, length, get_or, drop, is_some, Some, None, sym, refl, ap, ◌∙◌, add-one, arith, drop-cons}
use Rattle.std.specs.List.{range_with_len, find}
use Rattle.std.proofs.lemmas.List.{drop_all}
use Rattle.std.proofs.lemmas.Bool.Decides.{nat_tests}
use Rattle.terms.specs.Tests.{mem}
use Rattle.protocol.specs.Steps.{place_after}

abbrev pub stands : List ℕ → ℕ → ℕ → Bool
stands xs place c = leb 1 place && leb place (length xs) && eqb c (get_or xs (place - 1) 0)

module _ (xs : List ℕ) (k c : ℕ) (h : k < length xs) where
  next_place : place_after k c (drop k xs) ≡ cond (eqb c (get_or xs k 0)) (Some (suc k)) (place_after (suc k) c (drop (suc k) xs))
  next_place = rw (drop-cons xs k 0 h)

  here : eqb c (get_or xs k 0) ≡ stands xs (k + 1) c
  here = let e : k + 1 - 1 ≡ k = omega arith in rw e (grind (arith, nat_tests))

  pub found : stands xs (k + 1) c ≡ true → Some (k + 1) ≡ place_after k c (drop k xs)
  found t = let e = next_place in let f = here in let n : k + 1 ≡ suc k = add-one k in grind arith

  pub not_here : stands xs (k + 1) c ≡ false → place_after k c (drop k xs) ≡ place_after (k + 1) c (drop (k + 1) xs)
  not_here t = simp add-one (let e = next_place in let f = here in grind arith)

pub place_none : (xs : List ℕ) (k c : ℕ) → length xs ≤ k → None ≡ place_after k c (drop k xs)
place_none xs k c h = rw (drop_all k xs h)

-- the first place at which the job stands
pub find_place : (xs : List ℕ) (c n k : ℕ) → n + k ≡ length xs → find (λ place. stands xs place c) (range_with_len (k + 1) n) ≡ place_after k c (drop k xs)
find_place xs c zero k h = place_none xs k c (omega arith)
find_place xs c (suc n) k h = go (stands xs (k + 1) c) refl (find_place xs c n (k + 1) (omega arith))
  where
    within : k < length xs
    within = omega arith

    go : (b : Bool) → stands xs (k + 1) c ≡ b →
        find (λ place. stands xs place c) (range_with_len (k + 1 + 1) n) ≡ place_after (k + 1) c (drop (k + 1) xs) →
        cond (stands xs (k + 1) c) (Some (k + 1)) (find (λ place. stands xs place c) (range_with_len (k + 1 + 1) n)) ≡ place_after k c (drop k xs)
    go true t later = ap (λ b. cond b (Some (k + 1)) (find (λ place. stands xs place c) (range_with_len (k + 1 + 1) n))) t ∙ found xs k c within t
    go false t later =
        ap (λ b. cond b (Some (k + 1)) (find (λ place. stands xs place c) (range_with_len (k + 1 + 1) n))) t ∙ later ∙ sym (not_here xs k c within t)

-- a job has a place exactly where it is in the log
pub has_place : (n c : ℕ) (xs : List ℕ) → is_some (place_after n c xs) ≡ mem c xs
has_place n c [] = refl
has_place n c (x ∷ xs) = let rest = has_place (suc n) c xs in grind arith
