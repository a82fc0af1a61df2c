-- A set and its digits: what is written is read, and what is read is what is written.
use Rattle.std.proofs.Common.{◌≡◌, ℕ, zero, suc, ◌+◌, ◌-◌, ◌<◌, ◌≤◌, Bool, true, false, cond, ◌&&◌, eqb, ltb, ◌⊎◌, List, [], ◌∷◌, ◌++◌, length, get_or, take, replicate, Some, None, Option, sym, refl, ap, ◌∙◌, subst, inl, inr, ⊎_elim, append_assoc, arith, length-set}
use lib.ListN as lists
use Rattle.std.specs.Str.{all_ascii_digits}
use Rattle.std.proofs.lemmas.List.{append-nil, take_all, take_more, length-take-le, set_at, get_or-set_same, get_or-set_other, get_or-replicate}
use Rattle.std.proofs.lemmas.Bool.{and_from, and_left, and_right, cases_lt, le-ltb, cases_Bool, cond-true, cond-false, le-leb, ne_eqb, lt-ltb}
use Rattle.std.proofs.lemmas.Bool.Decides.{nat_tests}
use Rattle.terms.specs.declared.voters.Voters.{Voters}
use Rattle.terms.specs.Votes.{votes, no_voters, with_voter}
use Rattle.std.proofs.lemmas.Option.{none-some}
use Rattle.lines.specs.Forms.{digit, rises, set, set_after}
use Rattle.lines.specs.Writing.{members, set_of}
use Rattle.lines.proofs.Writes.{members_on, members_past}
use Rattle.lines_laws.proofs.Numbers.{cond_some}

-- digits of a set

pub set_plain : (k d : ℕ) (v : Voters) → d + k ≤ 10 → (all_ascii_digits (members k d v) ≡ true) × (length (members k d v) ≤ k)
set_plain zero d v h = (refl, omega arith)
set_plain (suc k) d v h =
    let rest = set_plain k (d + 1) v (omega arith) in
    elim (votes v d) as (λ b. (all_ascii_digits (cond b ((48 + d) ∷ members k (d + 1) v) (members k (d + 1) v)) ≡ true)
    × (length (cond b ((48 + d) ∷ members k (d + 1) v) (members k (d + 1) v)) ≤ suc k)) [
      | true ↦ (and_from (digit (48 + d)) _ (and_from _ _ (le-leb 48 (48 + d) (omega arith)) (le-leb (48 + d) 57 (omega arith))) rest.0, omega arith)
      | false ↦ (rest.0, omega arith)
    ]

-- from voters to digits and back

votes_is : (v : Voters) (d : ℕ) → d < 10 → votes v d ≡ get_or v.named d false
votes_is v d h = ap (λ b. b && get_or v.named d false) (lt-ltb d 10 h)

-- the front of a list, one element longer
front_more : (l : List Bool) (d k : ℕ) (b : Bool) → d < length l → get_or l d false ≡ b
    → take (d + 1) l ++ replicate k false ≡ take d l ++ (b ∷ replicate k false)
front_more l d k b h e = rw (take_more l d false, append_assoc, e) refl

rises_at : (low d : ℕ) → low ≤ d → d < 10 → rises low (48 + d) ≡ true
rises_at low d a b = grind (arith, nat_tests)

set_read : (k d low : ℕ) (v acc : Voters) → d + k ≡ 10 → low ≤ d → length v.named ≡ 10
    → acc.named ≡ take d v.named ++ replicate k false → ((0 < low) ⊎ (0 < length (members k d v)))
    → set_after low acc (members k d v) ≡ Some v
set_read zero d low v acc n l t a p =
    let all : acc.named ≡ v.named = a ∙ (append-nil _ ∙ take_all d v.named (omega arith)) in
    let some : 0 < low = ⊎_elim (λ h. h) (λ h. absurd (omega arith)) p in
    cond-false (eqb low 0) _ _ (ne_eqb low 0 (λ e. omega arith)) ∙ ap (λ (x : List Bool). Some (record { named = x })) all
set_read (suc k) d low v acc n l t a p =
    let lt : d < length v.named = omega arith in
    let is = votes_is v d (omega arith) in
    let on : votes v d ≡ true → set_after low acc (members (suc k) d v) ≡ Some v =
    (λ e.
    let m = cond-true (votes v d) ((48 + d) ∷ members k (d + 1) v) (members k (d + 1) v) e in
    let off : 48 + d - 48 ≡ d = omega arith in
    let len : length (take d v.named) ≡ d = length-take-le d v.named (omega arith) in
    let w : (with_voter acc d).named ≡ take (d + 1) v.named ++ replicate k false =
    cond-true (ltb d 10) _ _ (lt-ltb d 10 (omega arith))
    ∙ (ap (λ x. lists.set x d true) a
    ∙ (set_at (take d v.named) false (replicate k false) true d len ∙ sym (front_more v.named d k true lt (sym is ∙ e)))) in
    ap (set_after low acc) m
    ∙ (cond-true (rises low (48 + d)) _ _ (rises_at low d l (omega arith))
    ∙ rw off (set_read k (d + 1) (d + 1) v (with_voter acc d) (omega arith) (omega arith) t w (inl (omega arith))))) in
    let past : votes v d ≡ false → set_after low acc (members (suc k) d v) ≡ Some v =
    (λ e.
    let m = cond-false (votes v d) ((48 + d) ∷ members k (d + 1) v) (members k (d + 1) v) e in
    ap (set_after low acc) m
    ∙ set_read k (d + 1) low v acc (omega arith) (omega arith) t (a ∙ sym (front_more v.named d k false lt (sym is ∙ e)))
    (⊎_elim (λ h. inl h) (λ h. inr (rw m at h)) p)) in
    ⊎_elim on past (cases_Bool (votes v d))

pub set_back : (v : Voters) → length v.named ≡ 10 → 0 < length (set_of v) → set (set_of v) ≡ Some v
unfolding set_of
set_back v t p = set_read 10 0 0 v no_voters refl (omega arith) t refl (inr p)

-- from digits to voters and back

votes_same : (v : Voters) (d : ℕ) → d < 10 → length v.named ≡ 10 → votes (with_voter v d) d ≡ true
votes_same v d h t =
    votes_is (with_voter v d) d h
    ∙ (ap (λ x. get_or x d false) (cond-true (ltb d 10) _ _ (lt-ltb d 10 h)) ∙ get_or-set_same v.named d true false (omega arith))

votes_other : (v : Voters) (d i : ℕ) → d < 10 → (i ≡ d → ⊥) → votes (with_voter v d) i ≡ votes v i
votes_other v d i h n =
    ap (λ x. ltb i 10 && x) (ap (λ x. get_or x i false) (cond-true (ltb d 10) _ _ (lt-ltb d 10 h)) ∙ get_or-set_other v.named d i true false n)

voters_ten : (v : Voters) (d : ℕ) → d < 10 → length v.named ≡ 10 → length (with_voter v d).named ≡ 10
voters_ten v d h t = ap length (cond-true (ltb d 10) _ _ (lt-ltb d 10 h)) ∙ (length-set v.named d true ∙ t)

-- none of the numbers from d up is a voter
none_from : (k d : ℕ) (v : Voters) → ((i : ℕ) → d ≤ i → votes v i ≡ false) → members k d v ≡ []
none_from zero d v h = refl
none_from (suc k) d v h = cond-false (votes v d) _ _ (h d (omega arith)) ∙ none_from k (d + 1) v (λ i l. h i (omega arith))

-- none of the j numbers from low up is a voter
skip : (j low : ℕ) (v : Voters) → low + j ≤ 10 → ((i : ℕ) → low ≤ i → i < low + j → votes v i ≡ false)
    → members (10 - low) low v ≡ members (10 - (low + j)) (low + j) v
skip zero low v l h = let z : low + 0 ≡ low = omega arith in rw z refl
skip (suc j) low v l h =
    let s : low + suc j ≡ (low + 1) + j = omega arith in
    members_past low v (omega arith) (sym (h low (omega arith) (omega arith)))
    ∙ rw s (skip j (low + 1) v (omega arith) (λ i a b. h i (omega arith) (omega arith)))

rises_tells : (low c : ℕ) → rises low c ≡ true → (48 ≤ c) × (c ≤ 57) × (low ≤ c - 48)
rises_tells low c e = (grind (arith, nat_tests), grind (arith, nat_tests), grind (arith, nat_tests))

pub record SetOnly (low : ℕ) (acc : Voters) (bs : List ℕ) (v : Voters) : Type 0 where
  pub ten : length v.named ≡ 10
  pub keeps : (i : ℕ) → i < low → votes v i ≡ votes acc i
  pub digits : members (10 - low) low v ≡ bs

-- a test that gave something did not pass
else_some : (b : Bool) (o : Option Voters) (v : Voters) → cond b None o ≡ Some v → o ≡ Some v
else_some true o v e = absurd (none-some v e)
else_some false o v e = e

none_voted : (i : ℕ) → votes no_voters i ≡ false
none_voted i =
    ⊎_elim (λ a. and_right (ltb i 10) _ (get_or-replicate 10 i false false a)) (λ b. and_left (ltb i 10) _ (le-ltb i 10 b)) (cases_lt i 10)

set_tells : (bs : List ℕ) (low : ℕ) (acc v : Voters) → low ≤ 10 → length acc.named ≡ 10
    → ((i : ℕ) → low ≤ i → votes acc i ≡ false) → set_after low acc bs ≡ Some v → SetOnly low acc bs v
set_tells [] low acc v l t blank e =
    let s = else_some (eqb low 0) (Some acc) v e in
    let q : acc ≡ v = cc in
    subst (λ x. SetOnly low acc [] x) q (record { ten = t; keeps = λ i h. refl; digits = none_from (10 - low) low acc blank })
set_tells (c ∷ cs) low acc v l t blank e =
    let p = cond_some (rises low c) _ v e in
    let r = rises_tells low c p.0 in
    let d : c - 48 < 10 = omega arith in
    let at : low + (c - 48 - low) ≡ c - 48 = omega arith in
    let rest = set_tells cs (c - 48 + 1) (with_voter acc (c - 48)) v (omega arith) (voters_ten acc (c - 48) d t)
    (λ i h. votes_other acc (c - 48) i d (λ x. omega arith) ∙ blank i (omega arith)) p.1 in
    let skipped : members (10 - low) low v ≡ members (10 - (c - 48)) (c - 48) v =
    rw at at (skip (c - 48 - low) low v (omega arith)
    (λ i a b. rest.keeps i (omega arith) ∙ (votes_other acc (c - 48) i d (λ x. omega arith) ∙ blank i a))) in
    let here = members_on (c - 48) v d (sym (rest.keeps (c - 48) (omega arith) ∙ votes_same acc (c - 48) d t)) in
    let byte : 48 + (c - 48) ≡ c = omega arith in
    record {
      ten = rest.ten;
      keeps = λ i h. rest.keeps i (omega arith) ∙ votes_other acc (c - 48) i d (λ x. omega arith);
      digits = skipped ∙ (here ∙ (ap (λ x. x ∷ members (10 - (c - 48 + 1)) (c - 48 + 1) v) byte ∙ ap (λ x. c ∷ x) rest.digits));
    }

pub set_only : (bs : List ℕ) (v : Voters) → set bs ≡ Some v → (length v.named ≡ 10) × (set_of v ≡ bs) × (0 < length bs)
unfolding set_of
set_only [] v e = absurd (none-some v e)
set_only (c ∷ cs) v e =
    let s = set_tells (c ∷ cs) 0 no_voters v (omega arith) refl (λ i h. none_voted i) e in
    (s.ten, s.digits, omega arith)
