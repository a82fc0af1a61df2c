-- Sets, functions and sequences of numbers, written as the published TLA+ model of CURP writes them.
use Rattle.std.specs.Prelude.{◌≡◌, ℕ, suc, Bool, true, cond, not, ◌&&◌, ◌||◌, eqb, List, [], ◌∷◌, ◌++◌, ◌==◌}
use Rattle.terms.specs.Tests.{mem, distinct}

infix 45 ◌∈◌
infix 45 ◌⊆◌
infixl 65 ◌∪◌
infixl 65 ◌∖◌
infixl 60 ◌EXCEPT![◌]=◌
infix 55 IF◌THEN◌ELSE◌
-- A set is the test of what is in it.
abbrev pub Set : Type 0
Set = ℕ → Bool

abbrev pub ◌∈◌ : {A : Type 0} → A → (A → Bool) → Type 0
x ∈ set = set x ≡ true

abbrev pub ◌⊆◌ : Set → Set → Type 0
a ⊆ b = (x : ℕ) → x ∈ a → x ∈ b

abbrev pub ◌∪◌ : Set → Set → Set
◌∪◌ a b x = a x || b x

abbrev pub ◌∖◌ : Set → Set → Set
◌∖◌ a b x = a x && not (b x)

-- {x}
abbrev pub ｛◌｝ : ℕ → Set
｛◌｝ x y = y == x

abbrev pub IF◌THEN◌ELSE◌ {ℓ} : {A : Type ℓ} → Bool → A → A → A
IF test THEN x ELSE y = cond test x y

-- [f EXCEPT ![x] = v]
abbrev pub ◌EXCEPT![◌]=◌ : {A : Type 0} → (ℕ → A) → ℕ → A → ℕ → A
◌EXCEPT![◌]=◌ f x v y = IF eqb y x THEN v ELSE f y

-- Sequences: ⟨⟩ is the empty list.
abbrev pub Append : List ℕ → ℕ → List ℕ
Append seq x = seq ++ x ∷ []

abbrev pub Head : List ℕ → ℕ
Head [] = 0
Head (x ∷ xs) = x

abbrev pub Tail : List ℕ → List ℕ
Tail [] = []
Tail (x ∷ xs) = xs

-- GetIdxInSeq(seq, Pred): the index, from 1, of the last element that passes; 0 where none does
abbrev pub GetIdxInSeq : List ℕ → (ℕ → Bool) → ℕ
GetIdxInSeq [] pred = 0
GetIdxInSeq (x ∷ xs) pred =
    IF eqb (GetIdxInSeq xs pred) 0
    THEN (IF pred x THEN 1 ELSE 0)
    ELSE suc (GetIdxInSeq xs pred)

-- seq ∈ SetToSeqs(set): the elements of the set, each exactly once, and no others
pub record SetToSeqs (set : Set) (seq : List ℕ) : Type 0 where
  pub members : (x : ℕ) → mem x seq ≡ set x
  pub once : distinct seq ≡ true
