-- The two ways of an addition and of a look at a place, for any log.
use Rattle.std.proofs.Common.{◌≡◌, ℕ, ◌-◌, ◌<◌, ◌≤◌, List, [], ◌∷◌, ◌++◌, length, get_or, Some, None, Ok, arith}
use Rattle.std.proofs.lemmas.Bool.{cond-true, cond-false, ne_eqb, le-leb, lt-leb, and_from, and_left}
use Rattle.logs.specs.Entries.{added, added_outcome, at_place}

module _ (limit : ℕ) (xs : List ℕ) where
  pub room_outcome : length xs < limit → added_outcome limit xs ≡ Ok tt
  room_outcome h = cond-false _ _ _ (ne_eqb (length xs) limit (λ e. omega arith))

  pub room_added : (n : ℕ) → length xs < limit → added limit xs n ≡ xs ++ n ∷ []
  room_added n h = cond-false _ _ _ (ne_eqb (length xs) limit (λ e. omega arith))

module _ (xs : List ℕ) (place : ℕ) where
  pub place_within : 1 ≤ place → place ≤ length xs → at_place xs place ≡ Some (get_or xs (place - 1) 0)
  place_within h k = cond-true _ _ _ (and_from _ _ (le-leb 1 place h) (le-leb place (length xs) k))

  pub place_zero : place ≡ 0 → at_place xs place ≡ None
  place_zero e = cond-false _ _ _ (and_left _ _ (lt-leb 1 place (omega arith)))
