-- One box or one job written: what is read afterwards at every place.
use Rattle.std.proofs.Common.{◌≡◌, ℕ, zero, suc, ◌<◌, ◌≤◌, ◌⊎◌, List, [], ◌∷◌, ◌++◌, length, get_or, set, refl, ap, inl, inr, arith, get_or-set_other, get_or-set_same}
use Rattle.std.proofs.lemmas.Bool.Decides.{nat_tests}
use Rattle.std.proofs.lemmas.Bool.{cases_eq}
use Rattle.terms.specs.Tests.{put, put2}

-- the default does not matter in range, and stands beyond it
pub read_any : {A : Type 0} (xs : List A) (i : ℕ) (d d' : A) → i < length xs → get_or xs i d ≡ get_or xs i d'
read_any [] i d d' h = absurd (omega arith)
read_any (x ∷ xs) zero d d' h = refl
read_any (x ∷ xs) (suc i) d d' h = read_any xs i d d' (omega arith)

pub read_none : {A : Type 0} (xs : List A) (i : ℕ) (d : A) → length xs ≤ i → get_or xs i d ≡ d
read_none [] i d h = refl
read_none (x ∷ xs) zero d h = absurd (omega arith)
read_none (x ∷ xs) (suc i) d h = read_none xs i d (omega arith)

module _ {A : Type 0} (xs : List A) (i₀ : ℕ) (q d : A) (h : i₀ < length xs) where
  pub read_set : (i : ℕ) → get_or (set xs i₀ q) i d ≡ put (λ j. get_or xs j d) i₀ q i
  read_set i = go (cases_eq i i₀)
    where
      go : (i ≡ i₀) ⊎ (i ≡ i₀ → ⊥) → get_or (set xs i₀ q) i d ≡ put (λ j. get_or xs j d) i₀ q i
      go (inl same) = let e = get_or-set_same xs i₀ q d h in grind (arith, nat_tests)
      go (inr other) = let e = get_or-set_other xs i₀ i q d other in grind (arith, nat_tests)

  -- a field that the new element has as the old one
  pub kept : {B : Type 0} (f : A → B) → f q ≡ f (get_or xs i₀ d) → (i : ℕ) → f (get_or (set xs i₀ q) i d) ≡ f (get_or xs i d)
  kept f same i = let e = ap f (read_set i) in grind (arith, nat_tests)

  -- a field that the new element has otherwise
  pub changed : {B : Type 0} (f : A → B) (v : B) → f q ≡ v → (i : ℕ) → f (get_or (set xs i₀ q) i d) ≡ put (λ j. f (get_or xs j d)) i₀ v i
  changed f v new i = let e = ap f (read_set i) in grind (arith, nat_tests)

  -- a field that is a function, changed at one place
  pub changed_at : {B : Type 0} (f : A → ℕ → B) (c : ℕ) (v : B) → ((y : ℕ) → f q y ≡ put (f (get_or xs i₀ d)) c v y) →
      (x y : ℕ) → f (get_or (set xs i₀ q) x d) y ≡ put2 (λ x y. f (get_or xs x d) y) i₀ c v x y
  changed_at f c v new x y =
      let e = ap (λ a. f a y) (read_set x) in
      let n = new y in
      grind (arith, nat_tests)

  pub kept_at : {B : Type 0} (f : A → ℕ → B) → ((y : ℕ) → f q y ≡ f (get_or xs i₀ d) y) → (x y : ℕ) → f (get_or (set xs i₀ q) x d) y ≡ f (get_or xs x d) y
  kept_at f same x y = kept (λ a. f a y) (same y) x

-- one element more at the end
pub read_append : {A : Type 0} (xs : List A) (q d : A) (i : ℕ) → get_or (xs ++ q ∷ []) i d ≡ put (λ j. get_or xs j d) (length xs) q i
read_append [] q d zero = refl
read_append [] q d (suc i) = grind (arith, nat_tests)
read_append (x ∷ xs) q d zero = grind (arith, nat_tests)
read_append (x ∷ xs) q d (suc i) = let rest = read_append xs q d i in grind (arith, nat_tests)

module _ {A : Type 0} (xs : List A) (q d : A) where
  pub appended : {B : Type 0} (f : A → B) (v : B) → f q ≡ v → (i : ℕ) → f (get_or (xs ++ q ∷ []) i d) ≡ put (λ j. f (get_or xs j d)) (length xs) v i
  appended f v new i = let e = ap f (read_append xs q d i) in grind (arith, nat_tests)

  -- a field that the new element has as one that is not there
  pub appended_kept : {B : Type 0} (f : A → B) → f q ≡ f d → (i : ℕ) → f (get_or (xs ++ q ∷ []) i d) ≡ f (get_or xs i d)
  appended_kept f new i =
      let e = ap f (read_append xs q d i) in
      let beyond = ap f (read_none xs (length xs) d (omega arith)) in
      grind (arith, nat_tests)
