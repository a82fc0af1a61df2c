-- The digits of a number, taken one after another.
use Rattle.std.proofs.Common.{◌≡◌, ℕ, ◌+◌, ◌-◌, ◌*◌, ◌≤◌, Bool, true, false, cond, leb, List, [], ◌∷◌, Some, None, Option, MatchOption, refl, sym, ap, subst, ◌∙◌, arith, rules}
use Rattle.std.specs.Iterator.{AlwaysYields, Yields}
use Rattle.std.specs.List.{FoldsTo}
use Rattle.std.specs.Str.{all_ascii_digits}
use Rattle.std.proofs.lemmas.Iterator.{YieldsList}
use Rattle.std.proofs.lemmas.Bool.{and_parts, cond-true, le-leb, leb-true}
use Rattle.std.proofs.lemmas.Str.Parse.{IsNumeralModel, numerals_by_fold, tells_all_ascii_digits}
use Rattle.lines.specs.Forms.{digit, digits_after}
use Rattle.lines.specs.Limits.{largest}

-- the number that digits make after n, however large
abbrev pub read_on : ℕ → List ℕ → ℕ
read_on n [] = n
read_on n (c ∷ cs) = read_on (n * 10 + (c - 48)) cs

pub own : IsNumeralModel (λ ds. all_ascii_digits ds ≡ true) (read_on 0)
own = numerals_by_fold _ tells_all_ascii_digits read_on (search rules)

grows : (n : ℕ) (cs : List ℕ) → n ≤ read_on n cs
grows n [] = omega arith
grows n (c ∷ cs) = omega (arith, grows (n * 10 + (c - 48)) cs)

pub small : (n : ℕ) (cs : List ℕ) → all_ascii_digits cs ≡ true → read_on n cs ≤ largest → digits_after n cs ≡ Some (read_on n cs)
small n [] d s = refl
small n (c ∷ cs) d s =
    let m = n * 10 + (c - 48) in
    let both = and_parts (digit c) (all_ascii_digits cs) d in
    let low : m ≤ largest = omega (arith, grows m cs, s) in
    cond-true (digit c) _ _ both.0 ∙ (cond-true (leb m largest) _ _ (le-leb _ _ low) ∙ small m cs both.1 s)

pub none_either_way : {A : Type 0} (b : Bool) (o : Option A) → o ≡ None → cond b o None ≡ None
none_either_way true o e = e
none_either_way false o e = refl

-- a digit that makes m after n is one step of all the digits, and one that makes no number ends them
step : {B : Type 0} (a b : Bool) (k m : ℕ) (f : ℕ → Option B) → cond a (cond b (Some k) None) None ≡ Some m → cond a (cond b (f k) None) None ≡ f m
step true true k m f e = let same : k ≡ m = cc in ap f same
step true false k m f e = cc
step false b k m f e = cc

stop : {B : Type 0} (a b : Bool) (k : ℕ) (f : ℕ → Option B) → cond a (cond b (Some k) None) None ≡ None → cond a (cond b (f k) None) None ≡ None
stop true true k f e = cc
stop true false k f e = refl
stop false b k f e = refl

bound : (a b : Bool) (k m : ℕ) → cond a (cond b (Some k) None) None ≡ Some m → (b ≡ true → k ≤ largest) → m ≤ largest
bound true true k m e h = let same : k ≡ m = cc in rw same at (h refl)
bound true false k m e h = cc
bound false b k m e h = cc

-- R makes a number of the one before and the next digit
module _ {A F : Type 0} (R : F × ℕ → A → F × ℕ → Type 0) (v : A → ℕ)
    (tells : (p q : F × ℕ) (x : A) → R p x q → digits_after p.1 (v x ∷ []) ≡ Some q.1) where
  pub stays_small : (xs : List A) (p q : F × ℕ) → p.1 ≤ largest → FoldsTo R p xs q → q.1 ≤ largest
  stays_small [] p q h e = rw e at h
  stays_small (x ∷ xs) p q h e =
      stays_small xs e.0 q (bound (digit (v x)) (leb (p.1 * 10 + (v x - 48)) largest) _ _ (tells p e.0 x e.1) (leb-true _ _)) e.2

  -- R over the items that `steps` gives, until no item comes or one makes no number
  module _ {S : Type 0} (steps : S → Option A → S → Type 0) (r : Option ℕ) (u : S) (i : Option A) (q : F × ℕ)
      (ends : MatchOption i (r ≡ Some q.1) (λ x. (r ≡ None) × (digits_after q.1 (v x ∷ []) ≡ None))) where
    last : (o : Option A) (all : List ℕ) (s : S) → MatchOption o (r ≡ Some q.1) (λ x. (r ≡ None) × (digits_after q.1 (v x ∷ []) ≡ None))
        → AlwaysYields steps v s all → steps s o u → r ≡ digits_after q.1 all
    last None [] s d e w = d
    last None (c ∷ cs) s d e w = absurd (e.0 u w)
    last (Some x) [] s d e w = absurd (e x u w)
    last (Some x) (c ∷ cs) s d e w =
        let here : v x ≡ c = (e.1 x u w).0 in
        let none : digits_after q.1 (c ∷ []) ≡ None = rw here at d.1 in
        d.0 ∙ sym (stop (digit c) (leb (q.1 * 10 + (c - 48)) largest) _ (λ n. digits_after n cs) none)

    go : (all : List ℕ) (xs : List A) (s t : S) (p : F × ℕ) → AlwaysYields steps v s all → Yields steps s xs t → steps t i u
        → FoldsTo R p xs q → r ≡ digits_after p.1 all
    go all [] s t p e y w f = rw f (last i all s ends e (subst (λ z. steps z i u) (sym y) w))
    go [] (x ∷ xs) s t p e y w f = absurd (e x y.0 y.1)
    go (c ∷ cs) (x ∷ xs) s t p e y w f =
        let here = e.1 x y.0 y.1 in
        let made : digits_after p.1 (c ∷ []) ≡ Some f.0.1 = rw here.0 at (tells p f.0 x f.1) in
        go cs xs y.0 t f.0 here.1 y.2 w f.2 ∙ sym (step (digit c) (leb (p.1 * 10 + (c - 48)) largest) _ _ (λ n. digits_after n cs) made)

    pub all_read : (all : List ℕ) (xs : List A) (s t : S) (p : F × ℕ) → YieldsList steps v s all → Yields steps s xs t → steps t i u
        → FoldsTo R p xs q → r ≡ digits_after p.1 all
    all_read all xs s t p e y w f = go all xs s t p e.runs y w f
