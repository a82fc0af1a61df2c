-- Lists of job numbers: members, and what stands ahead of a job.
use Rattle.std.proofs.Common.{◌≡◌, ℕ, zero, suc, ◌<◌, Bool, true, false, cond, not, ◌&&◌, ◌||◌, eqb, ◌⊎◌, List, [], ◌∷◌, ◌++◌, refl, inl, inr, arith}
use Rattle.std.proofs.lemmas.Bool.Decides.{nat_tests}
use Rattle.std.proofs.lemmas.Bool.{cases_eq}
use Rattle.terms.specs.Tests.{any_below, any_of, ascending, mem, distinct}

pub any_append : (p : ℕ → Bool) (xs ys : List ℕ) → any_of p (xs ++ ys) ≡ any_of p xs || any_of p ys
any_append p [] ys = refl
any_append p (x ∷ xs) ys = let rest = any_append p xs ys in grind arith

pub none_below : (n : ℕ) (p : ℕ → Bool) → any_below n p ≡ false → (d : ℕ) → d < n → p d ≡ false
none_below zero p h d l = absurd (omega arith)
none_below (suc n) p h d l = let rest = none_below n p in grind (arith, nat_tests)

pub none_of : (p : ℕ → Bool) (xs : List ℕ) → any_of p xs ≡ false → (d : ℕ) → mem d xs ≡ true → p d ≡ false
none_of p [] h d i = grind arith
none_of p (x ∷ xs) h d i = let rest = none_of p xs in grind (arith, nat_tests)

-- a list made by `ascending` has what passes, once
pub ascending_mem : (n : ℕ) (p : ℕ → Bool) (c : ℕ) → mem c (ascending n p) ≡ true → (c < n) × (p c ≡ true)
ascending_mem zero p c h = grind arith
ascending_mem (suc n) p c h =
    let split = any_append (eqb c) (ascending n p) (cond (p n) (n ∷ []) []) in
    let rest = ascending_mem n p c in
    grind (arith, nat_tests)

pub mem_ascending : (n : ℕ) (p : ℕ → Bool) (c : ℕ) → c < n → p c ≡ true → mem c (ascending n p) ≡ true
mem_ascending zero p c l h = grind arith
mem_ascending (suc n) p c l h =
    let split = any_append (eqb c) (ascending n p) (cond (p n) (n ∷ []) []) in
    let rest = mem_ascending n p c in
    grind (arith, nat_tests)

pub distinct_join : (xs ys : List ℕ) → distinct xs ≡ true → distinct ys ≡ true →
    ((d : ℕ) → mem d xs ≡ true → mem d ys ≡ false) → distinct (xs ++ ys) ≡ true
distinct_join [] ys hx hy apart = hy
distinct_join (x ∷ xs) ys hx hy apart =
    let split = any_append (eqb x) xs ys in
    let here = apart x in
    let rest = distinct_join xs ys (grind arith) hy (λ d i. apart d (grind arith)) in
    grind (arith, nat_tests)

pub distinct_left : (xs ys : List ℕ) → distinct (xs ++ ys) ≡ true → distinct xs ≡ true
distinct_left [] ys h = refl
distinct_left (x ∷ xs) ys h =
    let split = any_append (eqb x) xs ys in
    let rest = distinct_left xs ys in
    grind arith

pub distinct_apart : (xs ys : List ℕ) → distinct (xs ++ ys) ≡ true → (d : ℕ) → mem d xs ≡ true → mem d ys ≡ false
distinct_apart [] ys h d i = grind arith
distinct_apart (x ∷ xs) ys h d i =
    let split = any_append (eqb x) xs ys in
    let rest = distinct_apart xs ys in
    grind (arith, nat_tests)

pub distinct_ascending : (n : ℕ) (p : ℕ → Bool) → distinct (ascending n p) ≡ true
distinct_ascending zero p = refl
distinct_ascending (suc n) p =
    distinct_join (ascending n p) (cond (p n) (n ∷ []) []) (distinct_ascending n p) (grind arith)
    (λ d i. let below = ascending_mem n p d i in grind (arith, nat_tests))

-- c is in the list, and no member ahead of it meets it
abbrev pub clear : (ℕ → ℕ → Bool) → ℕ → List ℕ → Bool
clear meets c [] = false
clear meets c (x ∷ xs) = eqb c x || (not (meets c x) && clear meets c xs)

pub clear_split : (meets : ℕ → ℕ → Bool) (c : ℕ) (xs : List ℕ) → clear meets c xs ≡ true →
    (ahead : List ℕ) × (behind : List ℕ) × (xs ≡ ahead ++ c ∷ behind) × (any_of (meets c) ahead ≡ false)
clear_split meets c [] h = absurd (grind arith)
clear_split meets c (x ∷ xs) h = go (cases_eq c x) (clear_split meets c xs)
  where
    go : (c ≡ x) ⊎ (c ≡ x → ⊥) →
        (clear meets c xs ≡ true → (ahead : List ℕ) × (behind : List ℕ) × (xs ≡ ahead ++ c ∷ behind) × (any_of (meets c) ahead ≡ false)) →
        (ahead : List ℕ) × (behind : List ℕ) × (x ∷ xs ≡ ahead ++ c ∷ behind) × (any_of (meets c) ahead ≡ false)
    go (inl same) rest = ([], xs, rw same, refl)
    go (inr other) rest =
        let later = rest (grind (arith, nat_tests)) in
        (x ∷ later.0, later.1, (let e = later.2 in cc), let ClearOf = later.3 in grind (arith, nat_tests))

-- what is ahead of a job stays so when the list grows at its end
pub clear_append : (meets : ℕ → ℕ → Bool) (c : ℕ) (xs ys : List ℕ) → clear meets c xs ≡ true → clear meets c (xs ++ ys) ≡ true
clear_append meets c [] ys h = grind arith
clear_append meets c (x ∷ xs) ys h = let rest = clear_append meets c xs ys in grind arith

-- a job that nothing in the list meets is clear behind it
pub clear_last : (meets : ℕ → ℕ → Bool) (c : ℕ) (xs ys : List ℕ) → any_of (meets c) xs ≡ false → clear meets c (xs ++ c ∷ ys) ≡ true
clear_last meets c [] ys h = grind (arith, nat_tests)
clear_last meets c (x ∷ xs) ys h = let rest = clear_last meets c xs ys in grind arith

-- a member that meets no other is clear
pub clear_alone : (meets : ℕ → ℕ → Bool) (c : ℕ) (xs : List ℕ) → mem c xs ≡ true →
    ((d : ℕ) → mem d xs ≡ true → meets c d ≡ true → c ≡ d) → clear meets c xs ≡ true
clear_alone meets c [] i alone = grind arith
clear_alone meets c (x ∷ xs) i alone =
    let here = alone x in
    let rest = λ (j : mem c xs ≡ true). clear_alone meets c xs j (λ d l. alone d (grind arith)) in
    grind (arith, nat_tests)

-- `clear` looks only at what c meets in the list
pub clear_same : (meets meets' : ℕ → ℕ → Bool) (c : ℕ) (xs : List ℕ) →
    ((d : ℕ) → mem d xs ≡ true → meets c d ≡ meets' c d) → clear meets c xs ≡ clear meets' c xs
clear_same meets meets' c [] same = refl
clear_same meets meets' c (x ∷ xs) same =
    let here = same x in
    let rest = clear_same meets meets' c xs (λ d l. same d (grind arith)) in
    grind (arith, nat_tests)
