-- Lines are read as the numbers that they were written from.
use Rattle.std.proofs.Common.{◌≡◌, ℕ, zero, suc, ◌+◌, ◌-◌, ◌*◌, ◌/◌, ◌%◌, ◌<◌, ◌≤◌, true, false, eqb, ltb, leb, List, [], ◌∷◌, ◌++◌, length, map, get_or, slice_get, decimal, Option, Some, None, option_map, Bor, sym, refl, ap, ◌∙◌, append_assoc, inl, inr, arith}
use Rattle.std.specs.Char.{is_ascii_digit}
use Rattle.std.specs.Int.{IsInRange}
use Rattle.std.specs.List.{All, slice_split}
use Rattle.std.specs.Str.Lines.{lines, lines_of_parts, strip_carriage_return}
use Rattle.std.proofs.lemmas.Fmt.{decimal_by_steps, decimal_is_IsNumeral, decimal_nonempty}
use Rattle.std.proofs.lemmas.Str.Parse.{digit_at}
use Rattle.std.proofs.lemmas.List.Elements.{All-from_get_or}
use Rattle.std.proofs.lemmas.List.Splits.{slice_split_at, length-slice_split}
use Rattle.std.proofs.lemmas.Option.{slice_get-map, slice_get_cases, get_or_from_slice_get, gets}
use Rattle.std.proofs.lemmas.Grind.{common_steps}
use Rattle.std.proofs.lemmas.Bool.{cond-true, cond-false, ne_eqb, le-leb, lt-ltb, ltb-true, and_from, and_parts}
use Rattle.logs.specs.Entries.{at_place}
use Rattle.logs.specs.Lines.{lines_of, read_on, numbers_in, all_fit}

-- one digit more, at the end of a number
on_digit : (n d : ℕ) (bs : List ℕ) → d < 10 → read_on n ((48 + d) ∷ bs) ≡ read_on (n * 10 + d) bs
on_digit n d bs h =
    let back : (48 + d) - 48 ≡ d = omega arith in
    cond-true (is_ascii_digit (48 + d)) _ _ (and_from (leb 48 (48 + d)) _ (le-leb 48 (48 + d) (omega arith)) (le-leb (48 + d) 57 (omega arith)))
    ∙ ap (λ x. read_on (n * 10 + x) bs) back

-- the digits ds are read as n, whatever follows
abbrev Reads : ℕ → List ℕ → Type 0
Reads n ds = (rest : List ℕ) → read_on 0 (ds ++ rest) ≡ read_on n rest

reads_one : (n : ℕ) → n < 10 → Reads n ((48 + n) ∷ [])
reads_one n h rest = let e : 0 * 10 + n ≡ n = omega arith in on_digit 0 n rest h ∙ ap (λ x. read_on x rest) e

reads_more : (n : ℕ) (ds : List ℕ) → 10 ≤ n → Reads (n / 10) ds → Reads n (ds ++ ((48 + n % 10) ∷ []))
reads_more n ds h front rest =
    let e : (n / 10) * 10 + n % 10 ≡ n = omega arith in
    ap (read_on 0) (append_assoc ds ((48 + n % 10) ∷ []) rest)
    ∙ (front ((48 + n % 10) ∷ rest)
    ∙ (on_digit (n / 10) (n % 10) rest (omega arith) ∙ ap (λ x. read_on x rest) e))

reads_decimal : (n : ℕ) → n < 65536 → Reads n (decimal n)
reads_decimal n h = decimal_by_steps Reads reads_one reads_more n (omega arith)

fits_first : (n : ℕ) (ns : List ℕ) → all_fit (n ∷ ns) ≡ true → (n < 65536) × (all_fit ns ≡ true)
fits_first n ns f = let p = and_parts (ltb n 65536) (all_fit ns) f in (ltb-true n 65536 p.0, p.1)

reads_back : (ns : List ℕ) → all_fit ns ≡ true → numbers_in (lines_of ns) ≡ ns
reads_back [] f = refl
reads_back (n ∷ ns) f =
    let p = fits_first n ns f in
    reads_decimal n p.0 (10 ∷ lines_of ns) ∙ ap (λ t. n ∷ t) (reads_back ns p.1)

lines_push : (ns : List ℕ) (n : ℕ) → lines_of (ns ++ n ∷ []) ≡ lines_of ns ++ (decimal n ++ 10 ∷ [])
lines_push [] n = refl
lines_push (m ∷ ns) n =
    ap (λ t. decimal m ++ (10 ∷ t)) (lines_push ns n) ∙ sym (append_assoc (decimal m) (10 ∷ lines_of ns) (decimal n ++ 10 ∷ []))

fits_push : (ns : List ℕ) (n : ℕ) → all_fit ns ≡ true → n < 65536 → all_fit (ns ++ n ∷ []) ≡ true
fits_push [] n f h = and_from (ltb n 65536) true (lt-ltb n 65536 h) refl
fits_push (m ∷ ns) n f h =
    let p = and_parts (ltb m 65536) (all_fit ns) f in and_from _ _ p.0 (fits_push ns n p.1 h)

-- the digits and the end of a line, pushed one after the other
pub appended : (was mid is ds : List ℕ) (n : ℕ) → mid ≡ was ++ ds → is ≡ mid ++ 10 ∷ [] → ds ≡ decimal n → is ≡ was ++ (decimal n ++ 10 ∷ [])
appended was mid is ds n m e d = rw (e, m, d) (append_assoc was (decimal n) (10 ∷ []))

-- a line more
module _ (was is : List ℕ) (n : ℕ) (w : was ≡ lines_of (numbers_in was)) (f : all_fit (numbers_in was) ≡ true) (small : n < 65536) (e : is ≡ was ++ (decimal n ++ 10 ∷ [])) where
  whole : is ≡ lines_of (numbers_in was ++ n ∷ [])
  whole = e ∙ (ap (λ t. t ++ (decimal n ++ 10 ∷ [])) w ∙ sym (lines_push (numbers_in was) n))

  fits : all_fit (numbers_in was ++ n ∷ []) ≡ true
  fits = fits_push (numbers_in was) n f small

  pub one_more : numbers_in is ≡ numbers_in was ++ n ∷ []
  one_more = ap numbers_in whole ∙ reads_back (numbers_in was ++ n ∷ []) fits

  pub still_written : is ≡ lines_of (numbers_in is)
  still_written = whole ∙ ap lines_of (sym one_more)

  pub still_fit : all_fit (numbers_in is) ≡ true
  still_fit = ap all_fit one_more ∙ fits

fits_at : (ns : List ℕ) (i : ℕ) → all_fit ns ≡ true → i < length ns → get_or ns i 0 < 65536
fits_at [] i f h = absurd (omega arith)
fits_at (n ∷ ns) zero f h = (fits_first n ns f).0
fits_at (n ∷ ns) (suc i) f h = fits_at ns i (fits_first n ns f).1 (omega arith)

-- Each line is the digits of its number: they have no line end among them, and no carriage return at their end.
digit_byte : (n i : ℕ) → n < 65536 → i < length (decimal n) → IsInRange 48 57 (get_or (decimal n) i 0)
digit_byte n i h l = digit_at (decimal n) i (decimal_is_IsNumeral n (omega arith)).0.1 l

no_end : (n : ℕ) → n < 65536 → All (λ b. eqb b 10 ≡ false) (decimal n)
no_end n h = All-from_get_or (λ b. eqb b 10 ≡ false) (decimal n) 0 (λ i l. let d = digit_byte n i h l in ne_eqb (get_or (decimal n) i 0) 10 (λ e. omega (arith, d.0)))

no_return : (n : ℕ) → n < 65536 → strip_carriage_return (decimal n) ≡ decimal n
no_return n h =
    let some = decimal_nonempty n (omega arith) in
    let d = digit_byte n (length (decimal n) - 1) h (omega arith) in
    cond-false _ _ _ (ne_eqb (get_or (decimal n) (length (decimal n) - 1) 0) 13 (λ e. omega (arith, d.0)))

one_part : (x : List ℕ) (parts : List (List ℕ)) → 0 < length parts → lines_of_parts (x ∷ parts) ≡ strip_carriage_return x ∷ lines_of_parts parts
one_part x [] h = absurd (omega arith)
one_part x (y ∷ more) h = refl

pub lines_written : (ns : List ℕ) → all_fit ns ≡ true → lines (lines_of ns) ≡ map decimal ns
lines_written [] f = refl
lines_written (n ∷ ns) f =
    let p = fits_first n ns f in
    let l = length-slice_split (λ b. eqb b 10) (lines_of ns) in
    ap lines_of_parts (slice_split_at (λ b. eqb b 10) (decimal n) 10 (lines_of ns) (no_end n p.0) refl)
    ∙ (one_part (decimal n) (slice_split (λ b. eqb b 10) (lines_of ns)) (omega arith)
    ∙ (ap (λ x. x ∷ lines (lines_of ns)) (no_return n p.0)
    ∙ ap (λ t. decimal n ∷ t) (lines_written ns p.1)))

place_is : (ns : List ℕ) (place : ℕ) → 1 ≤ place → at_place ns place ≡ slice_get ns (place - 1)
place_is ns place h = grind (arith, common_steps, gets)

-- What the line at a place says, where r is the line that was taken there.
module _ (bs : List ℕ) (place i : ℕ) (w : bs ≡ lines_of (numbers_in bs)) (f : all_fit (numbers_in bs) ≡ true) (h : (1 ≤ place) × (i ≡ place - 1))
    (r : Option (Bor (List ℕ))) (e : option_map (λ x. x.now) r ≡ slice_get (lines bs) i) where
  taken : option_map (λ x. x.now) r ≡ option_map decimal (slice_get (numbers_in bs) i)
  taken = e ∙ (ap (λ t. slice_get (lines t) i) w ∙ (ap (λ t. slice_get t i) (lines_written (numbers_in bs) f) ∙ slice_get-map decimal (numbers_in bs) i))

  found : at_place (numbers_in bs) place ≡ slice_get (numbers_in bs) i
  found = rw h.1 (place_is (numbers_in bs) place h.0)

  pub no_line : r ≡ None → at_place (numbers_in bs) place ≡ None
  no_line z = elim (slice_get_cases (numbers_in bs) i).1 [
    | inl s ↦ absurd (cc (taken, z, s.2))
    | inr s ↦ found ∙ s.1
  ]

  pub the_line : (line : Bor (List ℕ)) → r ≡ Some line → (n : ℕ) × (n < 65536) × (line.now ≡ decimal n) × (at_place (numbers_in bs) place ≡ Some n)
  the_line line z = elim (slice_get_cases (numbers_in bs) i).1 [
    | inl s ↦
        let small = fits_at (numbers_in bs) i f s.1 in
        let is = get_or_from_slice_get (numbers_in bs) i s.0 0 s.2 in
        (s.0, omega (arith, small, is), cc (taken, z, s.2), found ∙ s.2)
    | inr s ↦ absurd (cc (taken, z, s.1))
  ]
