-- A log and its continuation as one list, by whether the first is full.
use Rattle.std.proofs.Common.{◌≡◌, ℕ, ◌+◌, ◌-◌, ◌<◌, ◌≤◌, min, true, false, cond, ltb, List, [], ◌∷◌, ◌++◌, length, get_or, take, Some, sym, refl, ap, ◌∙◌, inl, inr, append_assoc, arith}
use Rattle.std.proofs.lemmas.List.{append-nil, length-append, length_push, length-take, take_all, get_or-take, get_or_append_left, get_or-append_right}
use Rattle.std.proofs.lemmas.Bool.{cond-true, cond-false, lt-ltb, le-ltb, cases_lt, cases_eq}
use Rattle.logs.specs.Entries.{added, added_outcome, at_place}
use Rattle.logs.specs.Continuing.{continued, joint}
use Rattle.logs.proofs.Adding.{room_outcome, room_added, place_within, place_zero}

pub alone : (m : ℕ) (xs ys : List ℕ) → ys ≡ [] → length xs ≤ 4096 → continued m xs ys ≡ xs
alone m xs ys e h =
    elim (ltb (length xs) m) as (λ b. cond b xs (take 4096 (xs ++ ys)) ≡ xs) [
      | true ↦ refl
      | false ↦ rw (e, append-nil) (take_all 4096 xs h)
    ]

module _ (m : ℕ) (xs ys : List ℕ) where
  pub open_is : length xs < m → continued m xs ys ≡ xs
  open_is h = cond-true _ _ _ (lt-ltb (length xs) m h)

  pub full_is : length xs ≡ m → continued m xs ys ≡ take 4096 (xs ++ ys)
  full_is e = cond-false _ _ _ (le-ltb (length xs) m (omega arith))

  pub full_length : length xs ≡ m → length (continued m xs ys) ≡ min (m + length ys) 4096
  full_length e = ap length (full_is e) ∙ simp (length-take, length-append) (omega arith)

module _ (m : ℕ) (fits : m ≤ 4096) (xs ys : List ℕ) (n k : ℕ) where
  -- an addition to the first, with the second made empty
  module _ (h : length xs < m) where
    pub first_added : (zs : List ℕ) → zs ≡ [] → continued m (added m xs k) zs ≡ added (joint m n) (continued m xs ys) k
    first_added zs e =
        let l = length_push xs k in
        rw (open_is m xs ys h, room_added m xs k h, room_added (joint m n) xs k (omega arith)) (alone m (xs ++ k ∷ []) zs e (omega arith))

  -- an addition to the second, where there is room
  module _ (e : length xs ≡ m) (room : length (continued m xs ys) < joint m n) where
    left : (length ys < n) × (m + length ys < 4096)
    left = let l = full_length m xs ys e in (omega arith, omega arith)

    pub second_outcome : added_outcome n ys ≡ added_outcome (joint m n) (continued m xs ys)
    second_outcome = room_outcome n ys left.0 ∙ sym (room_outcome (joint m n) (continued m xs ys) room)

    more : (zs : List ℕ) → length zs ≤ 4096 - m → continued m xs zs ≡ xs ++ zs
    more zs l = full_is m xs zs e ∙ take_all 4096 (xs ++ zs) (simp length-append (omega arith))

    pub second_added : continued m xs (added n ys k) ≡ added (joint m n) (continued m xs ys) k
    second_added =
        let r = left in
        let l = length_push ys k in
        rw (room_added n ys k r.0, room_added (joint m n) (continued m xs ys) k room, more ys (omega arith), more (ys ++ k ∷ []) (omega arith)) (sym (append_assoc xs ys (k ∷ [])))

module _ (m : ℕ) (fits : m ≤ 4096) (xs ys : List ℕ) (place : ℕ) (h : length xs ≤ m) where
  -- both as one list, within the most that is held
  at_both : length xs ≡ m → 1 ≤ place → place ≤ 4096 → place ≤ length xs + length ys
      → at_place (continued m xs ys) place ≡ Some (get_or (xs ++ ys) (place - 1) 0)
  at_both e a b c =
      let l = full_length m xs ys e in
      place_within (continued m xs ys) place a (omega arith)
      ∙ ap Some (rw (full_is m xs ys e) (get_or-take 4096 (xs ++ ys) (place - 1) 0 (omega arith)))

  pub first_place : place ≤ length xs → at_place xs place ≡ at_place (continued m xs ys) place
  first_place k =
      elim (cases_lt (length xs) m) [
        | inl o ↦ rw (open_is m xs ys o) refl
        | inr f ↦ elim (cases_eq place 0) [
          | inl z ↦ place_zero xs place z ∙ sym (place_zero (continued m xs ys) place z)
          | inr z ↦ place_within xs place (omega arith) k
              ∙ sym (at_both (omega arith) (omega arith) (omega arith) (omega arith) ∙ ap Some (get_or_append_left xs ys 0 (place - 1) (omega arith)))
        ]
      ]

  pub second_place : length xs < place → place ≤ length (continued m xs ys)
      → at_place ys (place - length xs) ≡ at_place (continued m xs ys) place
  second_place k l =
      elim (cases_lt (length xs) m) [
        | inl o ↦ let s = ap length (open_is m xs ys o) in absurd (omega arith)
        | inr f ↦
            let e : length xs ≡ m = omega arith in
            let s = full_length m xs ys e in
            let i : (place - length xs) - 1 ≡ (place - 1) - length xs = omega arith in
            place_within ys (place - length xs) (omega arith) (omega arith)
            ∙ (ap Some (rw i (sym (get_or-append_right xs ys (length xs) (place - 1) 0 refl (omega arith))))
            ∙ sym (at_both e (omega arith) (omega arith) (omega arith)))
      ]
