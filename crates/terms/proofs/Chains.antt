-- What a chain over a list or a range counts and finds, in the words of Tests.
use Rattle.std.proofs.Common.{◌≡◌, ℕ, zero, suc, ◌+◌, ◌-◌, ◌≤◌, Bool, true, false, cond, Some, ◌||◌, List, [], ◌∷◌, length, get_or, filter, count_by, sym, refl, ap, ◌∙◌, subst, add-zero, arith}
use Rattle.std.specs.List.{range_with_len, list_any, zip}
use Rattle.std.proofs.lemmas.List.Sums.{length-filter}
use Rattle.std.specs.declared.ops.RangeInclusive.{RangeInclusive}
use Rattle.std.specs.Range.{range_inclusive_start, range_inclusive_end, range_inclusive_exhausted, range_inclusive_len}
use Rattle.std.proofs.iter.runs.Sources.{nat_range_inclusive_steps}
use Rattle.std.proofs.lemmas.Iterator.{YieldsList}
use Rattle.std.proofs.lemmas.Iterator.Consumers.{YieldsList-from_shown}
use Rattle.std.proofs.lemmas.List.FromFn.{length-range_with_len}
use Rattle.terms.specs.Tests.{tally, any_below, any_of}

-- the first number looked at first
pub tally_first : (n : ℕ) (p : ℕ → Bool) → tally (suc n) p ≡ cond (p 0) (suc (tally n (λ i. p (suc i)))) (tally n (λ i. p (suc i)))
tally_first zero p = refl
tally_first (suc n) p = let rest = tally_first n p in grind arith

pub any_first : (n : ℕ) (p : ℕ → Bool) → any_below (suc n) p ≡ p 0 || any_below n (λ i. p (suc i))
any_first zero p = refl
any_first (suc n) p = let rest = any_first n p in grind arith

-- over the elements of a list
filter_list : {A : Type 0} (q : A → Bool) (xs : List A) (d : A) → length (filter q xs) ≡ tally (length xs) (λ i. q (get_or xs i d))
filter_list q [] d = refl
filter_list q (x ∷ xs) d =
    let first = tally_first (length xs) (λ i. q (get_or (x ∷ xs) i d)) in
    let rest = filter_list q xs d in
    grind arith

pub count_list : {A : Type 0} (q : A → Bool) (xs : List A) (d : A) → count_by q xs ≡ tally (length xs) (λ i. q (get_or xs i d))
count_list q xs d = sym (length-filter q xs) ∙ filter_list q xs d

pub any_of_list : (p : ℕ → Bool) (xs : List ℕ) → list_any p xs ≡ any_of p xs
any_of_list p [] = refl
any_of_list p (x ∷ xs) = ap (λ b. p x || b) (any_of_list p xs)

-- over the numbers of a range
filter_from : (a n : ℕ) (p : ℕ → Bool) → length (filter p (range_with_len a n)) ≡ tally n (λ i. p (a + i))
filter_from a zero p = refl
filter_from a (suc n) p =
    let first = tally_first n (λ i. p (a + i)) in
    let rest = filter_from (a + 1) n p in
    let shift : tally n (λ i. p (a + 1 + i)) ≡ tally n (λ i. p (a + suc i)) = (λ k. tally n (λ i. p (next a i k))) in
    let start : p (a + 0) ≡ p a = ap p (add-zero a) in
    grind arith
  where
    next : (a i : ℕ) → a + 1 + i ≡ a + suc i
    next a i = omega arith

pub count_range : (n : ℕ) (p : ℕ → Bool) → count_by p (range_with_len 0 n) ≡ tally n p
count_range n p = sym (length-filter p (range_with_len 0 n)) ∙ filter_from 0 n p ∙ (λ k. tally n (λ i. p (plain i k)))
  where
    plain : (i : ℕ) → 0 + i ≡ i
    plain i = omega arith

any_from : (a n : ℕ) (p : ℕ → Bool) → list_any p (range_with_len a n) ≡ any_below n (λ i. p (a + i))
any_from a zero p = refl
any_from a (suc n) p =
    let first = any_first n (λ i. p (a + i)) in
    let rest = any_from (a + 1) n p in
    let shift : any_below n (λ i. p (a + 1 + i)) ≡ any_below n (λ i. p (a + suc i)) = (λ k. any_below n (λ i. p (next a i k))) in
    let start : p (a + 0) ≡ p a = ap p (add-zero a) in
    grind arith
  where
    next : (a i : ℕ) → a + 1 + i ≡ a + suc i
    next a i = omega arith

pub any_range : (n : ℕ) (p : ℕ → Bool) → list_any p (range_with_len 0 n) ≡ any_below n p
any_range n p = any_from 0 n p ∙ (λ k. any_below n (λ i. p (plain i k)))
  where
    plain : (i : ℕ) → 0 + i ≡ i
    plain i = omega arith

-- over the elements of a list, each with its number
filter_zip : {A : Type 0} (q : A × ℕ → Bool) (xs : List A) (a n : ℕ) (d : A) → length xs ≤ n →
    length (filter q (zip xs (range_with_len a n))) ≡ tally (length xs) (λ i. q (get_or xs i d, a + i))
filter_zip q [] a zero d h = refl
filter_zip q [] a (suc n) d h = refl
filter_zip q (x ∷ xs) a zero d h = absurd (omega arith)
filter_zip q (x ∷ xs) a (suc n) d h =
    let first = tally_first (length xs) (λ i. q (get_or (x ∷ xs) i d, a + i)) in
    let rest = filter_zip q xs (a + 1) n d (omega arith) in
    let shift : tally (length xs) (λ i. q (get_or xs i d, a + 1 + i)) ≡ tally (length xs) (λ i. q (get_or xs i d, a + suc i)) = (λ k. tally (length xs) (λ i. q (get_or xs i d, next a i k))) in
    let start : q (x, a + 0) ≡ q (x, a) = ap (λ m. q (x, m)) (add-zero a) in
    grind arith
  where
    next : (a i : ℕ) → a + 1 + i ≡ a + suc i
    next a i = omega arith

pub count_zip : {A : Type 0} (q : A × ℕ → Bool) (xs : List A) (n : ℕ) (d : A) → length xs ≤ n →
    length (filter q (zip xs (range_with_len 0 n))) ≡ tally (length xs) (λ i. q (get_or xs i d, i))
count_zip q xs n d h = filter_zip q xs 0 n d h ∙ (λ k. tally (length xs) (λ i. q (get_or xs i d, plain i k)))
  where
    plain : (i : ℕ) → 0 + i ≡ i
    plain i = omega arith

-- what `a..=b` has left, and gives
abbrev left : RangeInclusive ℕ → ℕ
left s = range_inclusive_len (λ x y. y - x) (range_inclusive_start s) (range_inclusive_end s) (range_inclusive_exhausted s)

next_left : (s t : RangeInclusive ℕ) (x : ℕ) → nat_range_inclusive_steps s (Some x) t → range_with_len (range_inclusive_start s) (left s) ≡ x ∷ range_with_len (range_inclusive_start t) (left t)
next_left s t x h =
    let more : left s ≡ suc (left t) = omega (arith, h.1.1) in
    ap (range_with_len (range_inclusive_start s)) more ∙ (λ k. sym h.1.0 k ∷ after (range_inclusive_exhausted t) refl k)
  where
    after : (b : Bool) → range_inclusive_exhausted t ≡ b → range_with_len (range_inclusive_start s + 1) (left t) ≡ range_with_len (range_inclusive_start t) (left t)
    after true e =
        let none : left t ≡ 0 = ap (range_inclusive_len (λ x y. y - x) (range_inclusive_start t) (range_inclusive_end t)) e in
        ap (range_with_len (range_inclusive_start s + 1)) none ∙ sym (ap (range_with_len (range_inclusive_start t)) none)
    after false e = ap (λ a. range_with_len a (left t)) (sym (h.1.2 e))

pub YieldsList-from_inclusive : {s : RangeInclusive ℕ} (a b : ℕ) → a ≤ b + 1 → range_inclusive_start s ≡ a → range_inclusive_end s ≡ b → range_inclusive_exhausted s ≡ false →
    YieldsList nat_range_inclusive_steps (λ x. x) s (range_with_len a (b + 1 - a))
YieldsList-from_inclusive {s} a b h from to fresh =
    let all = YieldsList-from_shown nat_range_inclusive_steps (λ x. x) (λ r. range_with_len (range_inclusive_start r) (left r)) (λ r t h. length-range_with_len (range_inclusive_start r) (left r) ∙ h.1.0) (λ r x t h. next_left r t x h) s in
    let many : left s ≡ b + 1 - a = (λ k. range_inclusive_len (λ x y. y - x) (from k) (to k) (fresh k)) ∙ omega arith in
    subst (λ xs. YieldsList nat_range_inclusive_steps (λ x. x) s xs) (λ k. range_with_len (from k) (many k)) all
