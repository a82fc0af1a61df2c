-- A number and its digits: what is written is read, and what is read is what is written.
use Rattle.std.proofs.Common.{◌≡◌, ℕ, ◌+◌, ◌-◌, ◌*◌, ◌<◌, ◌≤◌, Bool, true, false, cond, leb, ◌⊎◌, List, [], ◌∷◌, length, get_or, Some, None, decimal, Option, sym, refl, ap, ◌∙◌, inl, inr, ⊎_elim, arith}
use Rattle.std.specs.Str.{all_ascii_digits}
use Rattle.std.proofs.lemmas.Fmt.{digits_decimal, digits_value-decimal, decimal_digit, decimal_nonempty, first_decimal, decimal-digits_value}
use Rattle.std.proofs.lemmas.Bool.{and_from, cond-true, leb-true, cases_lt}
use Rattle.std.proofs.lemmas.Bool.Decides.{nat_tests}
use Rattle.std.proofs.lemmas.Option.{none-some}
use Rattle.lines.proofs.Parsed.{read_on, own, small}
use Rattle.lines.specs.Forms.{digit, led, number, digits_after}
use Rattle.lines.specs.Limits.{largest}

-- a test that gave something passed
pub cond_some : {A : Type 0} (b : Bool) (o : Option A) (x : A) → cond b o None ≡ Some x → (b ≡ true) × (o ≡ Some x)
cond_some true o x e = (refl, e)
cond_some false o x e = absurd (none-some x e)

digits_tell : (n : ℕ) (bs : List ℕ) (m : ℕ) → n ≤ largest → digits_after n bs ≡ Some m
    → (all_ascii_digits bs ≡ true) × (read_on n bs ≡ m) × (m ≤ largest)
digits_tell n [] m h e = let k : n ≡ m = cc in (refl, k, omega arith)
digits_tell n (c ∷ cs) m h e =
    let p = cond_some (digit c) _ m e in
    let q = cond_some (leb (n * 10 + (c - 48)) largest) _ m p.1 in
    let r = digits_tell (n * 10 + (c - 48)) cs m (leb-true _ _ q.0) q.1 in
    (and_from _ _ p.0 r.0, r.1, r.2)

led_by : (bs : List ℕ) → 1 ≤ length bs → ((length bs ≡ 1) ⊎ (48 < get_or bs 0 0)) → led bs ≡ true
led_by bs a e = grind (arith, nat_tests)

led_tells : (bs : List ℕ) → led bs ≡ true → (0 < length bs) × (get_or bs 0 0 ≡ 48 → length bs ≡ 1)
led_tells bs e = (grind (arith, nat_tests), λ z. grind (arith, nat_tests))

pub plain : (n : ℕ) → n ≤ largest → all_ascii_digits (decimal n) ≡ true
plain n s = digits_decimal own n (omega arith)

pub number_back : (n : ℕ) → n ≤ largest → number (decimal n) ≡ Some n
number_back n s =
    let front_is : (length (decimal n) ≡ 1) ⊎ (48 < get_or (decimal n) 0 0) =
    ⊎_elim (λ h. inr (first_decimal n h (omega arith))) (λ h. inl (ap length (decimal_digit n (omega arith)))) (cases_lt 0 n) in
    let v = digits_value-decimal own n (omega arith) in
    cond-true (led (decimal n)) _ _ (led_by (decimal n) (decimal_nonempty n (omega arith)) front_is)
    ∙ (small 0 (decimal n) (plain n s) (rw v s) ∙ ap Some v)

pub number_only : (bs : List ℕ) (n : ℕ) → number bs ≡ Some n → (n ≤ largest) × (decimal n ≡ bs)
number_only bs n e =
    let p = cond_some (led bs) _ n e in
    let t = digits_tell 0 bs n (omega arith) p.1 in
    let f = led_tells bs p.0 in
    let low : read_on 0 bs ≤ largest = rw t.1 t.2 in
    (t.2, ap decimal (sym t.1) ∙ decimal-digits_value own bs t.0 f.0 f.1 (omega arith))
