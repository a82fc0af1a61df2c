-- What the parts of a line are, and how one field follows another.
use Rattle.std.proofs.Common.{◌≡◌, ℕ, suc, ◌+◌, ◌-◌, ◌≤◌, Bool, true, false, cond, eqb, List, [], ◌∷◌, length, take, drop, position, count_by, Some, None, Ok, Err, Option, Result, sym, refl, ap, ◌∙◌, add-one, arith}
use Rattle.std.proofs.lemmas.List.{drop_all, take_all, take_rest}
use Rattle.std.proofs.lemmas.Bool.{cond-true, ltb-false}
use Rattle.std.proofs.lemmas.Option.{cond_some}
use Rattle.std.proofs.lemmas.List.Recursion.{is_count_by, is_position_or_len}
use Rattle.std.specs.List.{position_or_len}
use Rattle.base.specs.declared.fault.Fault.{Fault}
use Rattle.lines.specs.Faults.{bad_field}
use Rattle.lines.specs.Reading.{with_field}
use Rattle.lines.specs.Forms.{front, back, tabs, digits_after, led, number}

-- a line's first field, and what comes after it, by the first field's length
pub front_is : (xs : List ℕ) → take (length (front xs)) xs ≡ front xs
front_is [] = refl
front_is (c ∷ cs) =
    elim (eqb c 9) as (λ b. take (length (cond b [] (c ∷ front cs))) (c ∷ cs) ≡ cond b [] (c ∷ front cs)) [
      | true ↦ refl
      | false ↦ ap (λ t. c ∷ t) (front_is cs)
    ]

pub back_is : (xs : List ℕ) → drop (suc (length (front xs))) xs ≡ back xs
back_is [] = refl
back_is (c ∷ cs) =
    elim (eqb c 9) as (λ b. drop (suc (length (cond b [] (c ∷ front cs)))) (c ∷ cs) ≡ cond b cs (back cs)) [
      | true ↦ refl
      | false ↦ back_is cs
    ]

-- how many bytes come before the first tab, as the library counts them
front_length : (xs : List ℕ) → length (front xs) ≡ position_or_len (λ c. eqb c 9) xs
front_length = is_position_or_len (λ xs. length (front xs)) (λ c. eqb c 9) refl step
  where
    step : (c : ℕ) (cs : List ℕ) → length (front (c ∷ cs)) ≡ cond (eqb c 9) 0 (1 + length (front cs))
    step c cs = elim (eqb c 9) as (λ b. length (cond b [] (c ∷ front cs)) ≡ cond b 0 (1 + length (front cs))) [ true ↦ refl | false ↦ omega arith ]

pub tabs_counted : (xs : List ℕ) → tabs xs ≡ count_by (λ c. eqb c 9) xs
tabs_counted = is_count_by tabs (λ c. eqb c 9) refl (λ _ _. refl)

unchosen : (b : Bool) (l : ℕ) → cond b (Some l) None ≡ None → b ≡ false
unchosen true l e = cc
unchosen false l e = refl

-- what `cut` gives, by the place of the first tab
module _ (xs : List ℕ) (n : ℕ) (e : position (λ c. eqb c 9) xs ≡ Some n) where
  at_tab : n ≡ length (front xs)
  at_tab = sym (cond_some _ _ n e).1 ∙ sym (front_length xs)

  pub cut_front : take n xs ≡ front xs
  cut_front = rw at_tab (front_is xs)

  pub cut_back : take (length xs - (n + 1)) (drop (n + 1) xs) ≡ back xs
  cut_back = take_rest xs (n + 1) ∙ rw (at_tab, add-one) (back_is xs)

module _ (xs : List ℕ) (e : position (λ c. eqb c 9) xs ≡ None) where
  no_tab : length xs ≤ length (front xs)
  no_tab = rw front_length (ltb-false _ _ (unchosen _ _ e))

  pub all_front : xs ≡ front xs
  all_front = sym (take_all (length (front xs)) xs no_tab) ∙ front_is xs

  pub no_back : [] ≡ back xs
  no_back = sym (drop_all (suc (length (front xs))) xs (omega (arith, no_tab))) ∙ back_is xs

pub number_led : (bs : List ℕ) → true ≡ led bs → number bs ≡ digits_after 0 bs
number_led bs e = cond-true (led bs) _ _ (sym e)

-- a field that has its form goes on to what is made of it, and one that has not stops with its fault
pub goes_on : {A T : Type 0} (place : ℕ) (o : Option A) (x : A) (make : A → Result T Fault) → with_field place o Ok ≡ Ok x
    → with_field place o make ≡ make x
goes_on place None x make e = cc
goes_on place (Some y) x make e = let same : y ≡ x = cc in ap make same

pub stops : {A T : Type 0} (place : ℕ) (o : Option A) (f : Fault) (make : A → Result T Fault) → with_field place o Ok ≡ Err f
    → with_field place o make ≡ Err f
stops place None f make e = let same : bad_field place ≡ f = cc in ap Err same
stops place (Some y) f make e = cc
