-- A set of digits, each above the one before.
use Rattle.std.proofs.Common.{◌≡◌, ℕ, zero, suc, ◌+◌, ◌-◌, ◌<◌, ◌≤◌, Bool, true, false, cond, ◌&&◌, ◌⊎◌, List, [], ◌∷◌, length, get_or, fold, map, leb, eqb, Some, None, Option, refl, ◌∙◌, inl, ⊎_elim, arith}
use Rattle.std.specs.Str.{all_ascii_digits}
use Rattle.std.proofs.lemmas.Bool.{and_parts, and_from, and_right, cond-true, cond-false, ne_eqb, le-leb, lt-leb, leb-true}
use Rattle.std.proofs.lemmas.List.Recursion.{and_at}
use Rattle.terms.specs.declared.voters.Voters.{Voters}
use Rattle.terms.specs.Votes.{with_voter}
use Rattle.lines.specs.Forms.{digit, rises, set_after}
use Rattle.lines.proofs.Parsed.{none_either_way}

-- the voters v and those that the digits name
abbrev pub named : Voters → List ℕ → Voters
named v bs = fold with_voter v (map (λ b. b - 48) bs)

-- each digit is at least 48
pub least : (bs : List ℕ) → all_ascii_digits bs ≡ true → (k x : ℕ) → k < length bs → x ≡ get_or bs k x → 48 ≤ x
least bs d k x h e =
    let here : digit (get_or bs k x) ≡ true = and_at all_ascii_digits digit refl (λ _ _. refl) bs k x h d in
    let low = leb-true 48 (get_or bs k x) (and_parts (leb 48 (get_or bs k x)) _ here).0 in
    omega (arith, e, low)

-- digits that rise from `low` on are taken, one after another
pub taken : (low : ℕ) (v : Voters) (bs : List ℕ) → all_ascii_digits bs ≡ true
    → ((k : ℕ) → k + 1 < length bs → get_or bs k 0 < get_or bs (k + 1) 0)
    → (0 < length bs → low ≤ get_or bs 0 0 - 48) → (0 < low) ⊎ (0 < length bs)
    → set_after low v bs ≡ Some (named v bs)
taken low v [] d a f some =
    cond-false (eqb low 0) _ _ (ne_eqb low 0 (λ e. ⊎_elim (λ l. omega (arith, l, e)) (λ l. omega (arith, l)) some))
taken low v (c ∷ cs) d a f some =
    let both = and_parts (digit c) (all_ascii_digits cs) d in
    let next : (0 < length cs → c - 48 + 1 ≤ get_or cs 0 0 - 48) =
    λ h.
    let up : c < get_or cs 0 0 = a 0 (omega (arith, h)) in
    let low = least (c ∷ cs) d 0 c (omega arith) refl in
    omega (arith, up, low) in
    let rest : ((k : ℕ) → k + 1 < length cs → get_or cs k 0 < get_or cs (k + 1) 0) =
    λ k h. let e : suc k + 1 ≡ suc (k + 1) = omega arith in rw e at (a (suc k) (omega (arith, h))) in
    cond-true (rises low c) _ _ (and_from (digit c) _ both.0 (le-leb low (c - 48) (f (omega arith))))
    ∙ taken (c - 48 + 1) (with_voter v (c - 48)) cs both.1 rest next (inl (omega arith))

-- where a digit is not above the one before, there is no set
pub falls : (low : ℕ) (v : Voters) (bs : List ℕ) (k : ℕ) → k + 1 < length bs → get_or bs (k + 1) 0 ≤ get_or bs k 0 → set_after low v bs ≡ None
falls low v [] k h e = absurd (omega (arith, h))
falls low v (c ∷ []) zero h e = absurd (omega (arith, h))
falls low v (c ∷ (f ∷ fs)) zero h e =
    let below : f ≤ c = e in
    let past : rises (c - 48 + 1) f ≡ false = and_right (digit f) _ (lt-leb (c - 48 + 1) (f - 48) (omega (arith, below))) in
    none_either_way (rises low c) _ (cond-false (rises (c - 48 + 1) f) _ _ past)
falls low v (c ∷ cs) (suc k) h e =
    let next : suc k + 1 ≡ suc (k + 1) = omega arith in
    none_either_way (rises low c) _ (falls (c - 48 + 1) (with_voter v (c - 48)) cs k (omega (arith, h)) (rw next at e))

-- where a byte is no digit, there is none either
pub no_digits : (low : ℕ) (v : Voters) (bs : List ℕ) → all_ascii_digits bs ≡ false → set_after low v bs ≡ None
no_digits low v [] e = cc
no_digits low v (c ∷ cs) e =
    not_digit (digit c) (leb low (c - 48)) (all_ascii_digits cs) _ e (no_digits (c - 48 + 1) (with_voter v (c - 48)) cs)
  where
    not_digit : {A : Type 0} (d l r : Bool) (o : Option A) → (d && r) ≡ false → (r ≡ false → o ≡ None) → cond (d && l) o None ≡ None
    not_digit true true r o e t = t e
    not_digit true false r o e t = refl
    not_digit false l r o e t = refl
