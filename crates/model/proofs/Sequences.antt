-- The sequences of the published model: the last index that passes, what stands before a command, ascending order.
use Rattle.std.proofs.Common.{◌≡◌, ℕ, zero, suc, ◌-◌, ◌<◌, ◌≤◌, Bool, true, false, cond, not, eqb, ltb, ◌⊎◌, List, [], ◌∷◌, ◌++◌, length, take, sym, refl, ◌∙◌, inl, inr, append-nil, arith}
use Rattle.std.proofs.lemmas.Bool.Decides.{nat_tests}
use Rattle.std.proofs.lemmas.Bool.{cases_eq}
use Rattle.terms.specs.Tests.{any_below, any_of, ascending, mem, distinct, tally}
use Rattle.terms.proofs.Lists.{ascending_mem}
use Rattle.model.specs.Sets.{GetIdxInSeq}
use Rattle.model.specs.Amendments.{ascends}

-- an index is 0 where nothing passes
pub idx_none : (p : ℕ → Bool) (xs : List ℕ) → eqb (GetIdxInSeq xs p) 0 ≡ not (any_of p xs)
idx_none p [] = refl
idx_none p (x ∷ xs) = let rest = idx_none p xs in grind (arith, nat_tests)

pub idx_same : (p q : ℕ → Bool) (xs : List ℕ) → ((d : ℕ) → mem d xs ≡ true → p d ≡ q d) → GetIdxInSeq xs p ≡ GetIdxInSeq xs q
idx_same p q [] same = refl
idx_same p q (x ∷ xs) same =
    let here = same x in
    let rest = idx_same p q xs (λ d h. same d (grind arith)) in
    grind (arith, nat_tests)

pub idx_length : (p : ℕ → Bool) (xs : List ℕ) → GetIdxInSeq xs p ≤ length xs
idx_length p [] = omega arith
idx_length p (x ∷ xs) = let rest = idx_length p xs in grind arith

-- one more at the end that does not pass
pub idx_miss : (p : ℕ → Bool) (x : ℕ) (xs : List ℕ) → p x ≡ false → GetIdxInSeq (xs ++ x ∷ []) p ≡ GetIdxInSeq xs p
idx_miss p x [] h = grind arith
idx_miss p x (y ∷ xs) h = let rest = idx_miss p x xs h in grind (arith, nat_tests)

-- what stands before c; all, where c is not there
abbrev pub before : ℕ → List ℕ → List ℕ
before c [] = []
before c (x ∷ xs) = cond (eqb c x) [] (x ∷ before c xs)

pub before_in : (c : ℕ) (xs ys : List ℕ) → mem c xs ≡ true → before c (xs ++ ys) ≡ before c xs
before_in c [] ys h = grind arith
before_in c (x ∷ xs) ys h = let rest = before_in c xs ys in grind arith

pub before_out : (c : ℕ) (xs : List ℕ) → mem c xs ≡ false → before c xs ≡ xs
before_out c [] h = refl
before_out c (x ∷ xs) h = let rest = before_out c xs in grind arith

pub before_new : (c : ℕ) (xs : List ℕ) → mem c xs ≡ false → before c (xs ++ c ∷ []) ≡ xs
before_new c [] h = grind (arith, nat_tests)
before_new c (x ∷ xs) h = let rest = before_new c xs in grind arith

pub before_mem : (c d : ℕ) (xs : List ℕ) → mem d (before c xs) ≡ true → mem d xs ≡ true
before_mem c d [] h = h
before_mem c d (x ∷ xs) h = let rest = before_mem c d xs in grind arith

-- a command's place, where no command stands twice, comes right behind what stands before it
pub take_before : (c : ℕ) (xs : List ℕ) → distinct xs ≡ true → mem c xs ≡ true → take (GetIdxInSeq xs (eqb c) - 1) xs ≡ before c xs
take_before c [] once h = grind arith
take_before c (x ∷ xs) once h = go (GetIdxInSeq xs (eqb c)) refl (take_before c xs (grind arith))
  where
    go : (k : ℕ) → GetIdxInSeq xs (eqb c) ≡ k → (mem c xs ≡ true → take (GetIdxInSeq xs (eqb c) - 1) xs ≡ before c xs) →
        take (GetIdxInSeq (x ∷ xs) (eqb c) - 1) (x ∷ xs) ≡ before c (x ∷ xs)
    go zero last rest =
        let none = idx_none (eqb c) xs in
        let one : GetIdxInSeq (x ∷ xs) (eqb c) ≡ 1 = grind (arith, nat_tests) in
        rw one (grind (arith, nat_tests))
    go (suc k) later rest =
        let none = idx_none (eqb c) xs in
        let there : mem c xs ≡ true = grind (arith, nat_tests) in
        let more : GetIdxInSeq (x ∷ xs) (eqb c) - 1 ≡ suc k = grind (arith, nat_tests) in
        let less : GetIdxInSeq xs (eqb c) - 1 ≡ k = omega arith in
        let front = rw less at (rest there) in
        rw more (grind (arith, nat_tests))

-- a sequence in ascending order begins with its least member
ascends_least : (x : ℕ) (xs : List ℕ) → ascends (x ∷ xs) ≡ true → (d : ℕ) → mem d xs ≡ true → x ≤ d
ascends_least x [] up d h = absurd (grind arith)
ascends_least x (y ∷ xs) up d h =
    let rest = ascends_least y xs (grind arith) d in
    grind (arith, nat_tests)

ascends_rest : (x : ℕ) (xs : List ℕ) → ascends (x ∷ xs) ≡ true → ascends xs ≡ true
ascends_rest x [] up = refl
ascends_rest x (y ∷ xs) up = grind arith

-- the members of two sequences with the same head
tail_same : (x d : ℕ) (xs ys : List ℕ) → mem x xs ≡ false → mem x ys ≡ false → mem d (x ∷ xs) ≡ mem d (x ∷ ys) → mem d xs ≡ mem d ys
tail_same x d xs ys ox oy same = go (cases_eq d x)
  where
    go : (d ≡ x) ⊎ (d ≡ x → ⊥) → mem d xs ≡ mem d ys
    go (inl e) = rw e (grind arith)
    go (inr other) = grind (arith, nat_tests)

once_parts : (x : ℕ) (xs : List ℕ) → distinct (x ∷ xs) ≡ true → (mem x xs ≡ false) × (distinct xs ≡ true)
once_parts x xs once = (grind arith, grind arith)

heads_same : (x y : ℕ) (xs ys : List ℕ) → (mem x ys ≡ true → y ≤ x) → (mem y xs ≡ true → x ≤ y) →
    mem x (y ∷ ys) ≡ true → mem y (x ∷ xs) ≡ true → y ≡ x
heads_same x y xs ys low_x low-y at_x at_y = grind (arith, nat_tests)

mem_head : (x : ℕ) (xs : List ℕ) → mem x (x ∷ xs) ≡ true
mem_head x xs = grind (arith, nat_tests)

-- so the members alone fix it
pub ascends_one : (xs ys : List ℕ) → ascends xs ≡ true → ascends ys ≡ true → distinct xs ≡ true → distinct ys ≡ true →
    ((d : ℕ) → mem d xs ≡ mem d ys) → xs ≡ ys
ascends_one [] [] ux uy ox oy same = refl
ascends_one [] (y ∷ ys) ux uy ox oy same = absurd (let here = same y ∙ mem_head y ys in grind arith)
ascends_one (x ∷ xs) [] ux uy ox oy same = absurd (let here = sym (same x) ∙ mem_head x xs in grind arith)
ascends_one (x ∷ xs) (y ∷ ys) ux uy ox oy same =
    let first = heads_same x y xs ys (ascends_least y ys uy x) (ascends_least x xs ux y) (sym (same x) ∙ mem_head x xs) (same y ∙ mem_head y ys) in
    let on_x = once_parts x xs ox in
    let on_y = once_parts y ys oy in
    let rest = ascends_one xs ys (ascends_rest x xs ux) (ascends_rest y ys uy) on_x.1 on_y.1
    (λ d. tail_same x d xs ys on_x.0 (rw first at on_y.0) (rw first at (same d))) in
    cc

-- what `ascending` lists ascends
ascends_last : (xs : List ℕ) (n : ℕ) → ascends xs ≡ true → ((d : ℕ) → mem d xs ≡ true → d ≤ n) → ascends (xs ++ n ∷ []) ≡ true
ascends_last [] n up below = refl
ascends_last (x ∷ []) n up below = let here = below x in grind (arith, nat_tests)
ascends_last (x ∷ y ∷ xs) n up below =
    let rest = ascends_last (y ∷ xs) n (grind arith) (λ d h. below d (grind arith)) in
    grind (arith, nat_tests)

pub ascending_ascends : (n : ℕ) (p : ℕ → Bool) → ascends (ascending n p) ≡ true
ascending_ascends zero p = refl
ascending_ascends (suc n) p = go (p n) (ascending_ascends n p)
  where
    go : (b : Bool) → ascends (ascending n p) ≡ true → ascends (ascending n p ++ cond b (n ∷ []) []) ≡ true
    go true rest = ascends_last (ascending n p) n rest (λ d h. let at = ascending_mem n p d h in omega (arith, at.0))
    go false rest = rw append-nil rest

-- tests over all numbers below a bound
pub some_below : (n : ℕ) (p : ℕ → Bool) (x : ℕ) → x < n → p x ≡ true → any_below n p ≡ true
some_below zero p x h e = absurd (omega arith)
some_below (suc n) p x h e = let rest = some_below n p x in grind (arith, nat_tests)

pub any_found : (n : ℕ) (p : ℕ → Bool) → any_below n p ≡ true → (x : ℕ) × (x < n) × (p x ≡ true)
any_found zero p h = absurd (grind arith)
any_found (suc n) p h = go (p n) refl (any_found n p)
  where
    go : (b : Bool) → p n ≡ b → (any_below n p ≡ true → (x : ℕ) × (x < n) × (p x ≡ true)) → (x : ℕ) × (x < suc n) × (p x ≡ true)
    go true e rest = (n, omega arith, e)
    go false e rest = let found = rest (grind arith) in (found.0, omega (arith, found.1), found.2)

-- a bound that no member passes does not matter
pub any_bound : (j n : ℕ) (p : ℕ → Bool) → ((d : ℕ) → p d ≡ true → d < j) → ((d : ℕ) → p d ≡ true → d < n) → any_below j p ≡ any_below n p
any_bound j n p in-j in-n = go (any_below j p) (any_below n p) refl refl
  where
    go : (a b : Bool) → any_below j p ≡ a → any_below n p ≡ b → a ≡ b
    go true true ea eb = refl
    go false false ea eb = refl
    go true false ea eb = let found = any_found j p ea in let other = some_below n p found.0 (in-n found.0 found.2) found.2 in absurd (grind arith)
    go false true ea eb = let found = any_found n p eb in let other = some_below j p found.0 (in-j found.0 found.2) found.2 in absurd (grind arith)

-- how many numbers below n are below k
pub count_below : (n k : ℕ) → k ≤ n → tally n (λ c. ltb c k) ≡ k
count_below zero k h = omega arith
count_below (suc n) k h = go (cases_eq k (suc n)) (count_below n k)
  where
    all : (j : ℕ) → j ≤ k → tally j (λ c. ltb c k) ≡ j
    all zero l = refl
    all (suc j) l = let rest = all j (omega arith) in grind (arith, nat_tests)

    go : (k ≡ suc n) ⊎ (k ≡ suc n → ⊥) → (k ≤ n → tally n (λ c. ltb c k) ≡ k) → tally (suc n) (λ c. ltb c k) ≡ k
    go (inl same) rest = let most = all (suc n) (omega arith) in omega arith
    go (inr other) rest = let fewer = rest (omega arith) in grind (arith, nat_tests)
