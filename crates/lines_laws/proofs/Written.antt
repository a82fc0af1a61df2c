-- What is written is read back.
use Rattle.std.proofs.Common.{◌≡◌, ℕ, ◌+◌, ◌<◌, ◌≤◌, Bool, true, false, cond, ◌&&◌, eqb, ltb, List, [], ◌∷◌, ◌++◌, length, Some, None, Ok, decimal, Option, sym, refl, ap, ◌∙◌, arith}
use Rattle.std.proofs.lemmas.List.{length-append}
use Rattle.std.proofs.lemmas.Bool.{and_from, cond-true, cond-false, ne_eqb, le-leb, ltb-false, eqb-false}
use Rattle.std.proofs.lemmas.Bool.Decides.{nat_tests}
use Rattle.terms.specs.declared.voters.Voters.{Voters}
use Rattle.terms.specs.declared.calls.Call.TheVariants.{Propose, Receive, Hear, Sync, Notice, Change, Query}
use Rattle.lines.specs.declared.step.Step.TheVariants.{Start, Call as Asks}
use Rattle.std.proofs.lemmas.Option.{none-some}
use Rattle.lines.specs.Forms.{number, set, front, back, tabs, ended, body, fits, allowed}
use Rattle.lines.specs.Limits.{longest, largest}
use Rattle.lines.specs.Letters.{setting_letter, propose_letter, receive_letter, hear_letter, notice_letter, sync_letter, change_letter, query_letter}
use Rattle.lines.specs.Reading.{step_of, letter, parse, setting, proposal, pair, change, query, flag}
use Rattle.lines.specs.Writing.{set_of, nobody, bit, tabbed, line_of, first_large}
use Rattle.lines_laws.specs.Laws.{ReadsBack, OneStep}
use Rattle.lines_laws.proofs.Numbers.{plain, number_back}
use Rattle.lines.proofs.Writes.{short}
use Rattle.lines_laws.proofs.Sets.{set_plain, set_back}
use Rattle.lines_laws.proofs.Parts.{after, Plain, width, first, next, body_all, ended_all, tabs_all, width_all, front_all, back_all}

-- numbers that are not too large

abbrev pub AllSmall : List ℕ → Type 0
AllSmall [] = Unit {0}
AllSmall (n ∷ ns) = (n ≤ largest) × AllSmall ns

-- a test that gave nothing did not pass
else_none : (b : Bool) (place : ℕ) (o : Option ℕ) → cond b (Some place) o ≡ None → (b ≡ false) × (o ≡ None)
else_none true place o e = absurd (none-some place (sym e))
else_none false place o e = (refl, e)

none_large : (ns : List ℕ) (place : ℕ) → first_large place ns ≡ None → AllSmall ns
none_large [] place e = tt
none_large (n ∷ ns) place e =
    let p = else_none (ltb largest n) place _ e in
    (ltb-false largest n p.0, none_large ns (place + 1) p.1)

-- a whole line, by its letter and its fields

module _ (c : ℕ) (capital : (65 ≤ c) × (c ≤ 90)) (fs : List (List ℕ)) (p : Plain fs) (w : width fs ≤ 38) where
  no_tab : eqb c 9 ≡ false
  no_tab = ne_eqb c 9 (λ e. omega arith)

  no_end : eqb c 10 ≡ false
  no_end = ne_eqb c 10 (λ e. omega arith)

  is_allowed : allowed c ≡ true
  is_allowed = grind (arith, nat_tests)

  body_is : body (c ∷ (tabbed fs ++ (10 ∷ []))) ≡ c ∷ tabbed fs
  body_is = cond-false (eqb c 10) _ _ no_end ∙ ap (λ t. c ∷ t) (body_all fs p)

  fits_is : fits (c ∷ (tabbed fs ++ (10 ∷ []))) ≡ true
  fits_is =
      and_from _ _ (le-leb _ longest (omega (arith, length-append (tabbed fs) (10 ∷ []), width_all fs)))
      (cond-false (eqb c 10) _ _ no_end ∙ (ap (λ b. b && ended (tabbed fs ++ (10 ∷ []))) is_allowed ∙ ended_all fs p))

  parse_is : parse (c ∷ (tabbed fs ++ (10 ∷ []))) ≡ step_of c (1 + length fs) (after fs)
  parse_is =
      let f : front (c ∷ tabbed fs) ≡ c ∷ [] = cond-false (eqb c 9) _ _ no_tab ∙ ap (λ t. c ∷ t) (front_all fs) in
      let b : back (c ∷ tabbed fs) ≡ after fs = cond-false (eqb c 9) _ _ no_tab ∙ back_all fs in
      let t : tabs (c ∷ tabbed fs) ≡ length fs = cond-false (eqb c 9) _ _ no_tab ∙ tabs_all fs p in
      cond-true (fits (c ∷ (tabbed fs ++ (10 ∷ [])))) _ _ fits_is
      ∙ (ap (λ x. step_of (letter (front x)) (1 + tabs x) (back x)) body_is
      ∙ (ap (λ x. step_of (letter x) (1 + tabs (c ∷ tabbed fs)) (back (c ∷ tabbed fs))) f
      ∙ (ap (λ x. step_of c (1 + x) (back (c ∷ tabbed fs))) t ∙ ap (λ x. step_of c (1 + length fs) x) b)))

-- each kind of step, by what its fields hold

number_at : (bs : List ℕ) (n : ℕ) (fs : List (List ℕ)) → bs ≡ after (decimal n ∷ fs) → n ≤ largest
    → (number (front bs) ≡ Some n) × (back bs ≡ after fs)
number_at bs n fs e s =
    (ap (λ b. number (front b)) e ∙ (ap number (first (decimal n) fs (plain n s)) ∙ number_back n s), ap back e ∙ next (decimal n) fs (plain n s))

small_bit : (b : Bool) → bit b ≤ largest
small_bit true = omega arith
small_bit false = omega arith

flag_back : (b : Bool) → flag (bit b) ≡ Some b
flag_back true = refl
flag_back false = refl

setting_back : (bs : List ℕ) (s l : ℕ) (b : Bool) → s ≤ largest → l ≤ largest
    → bs ≡ after (decimal s ∷ decimal l ∷ decimal (bit b) ∷ []) → setting bs ≡ Ok (Start (record { size = s; leader = l; fast = b }))
setting_back bs s l b hs hl e =
    let p = number_at bs s (decimal l ∷ decimal (bit b) ∷ []) e hs in
    let q = number_at (back bs) l (decimal (bit b) ∷ []) p.1 hl in
    let r = number_at (back (back bs)) (bit b) [] q.1 (small_bit b) in
    rw (p.0, q.0, r.0, flag_back b)

proposal_back : (bs : List ℕ) (a b x y z : ℕ) → a ≤ largest → b ≤ largest → x ≤ largest → y ≤ largest → z ≤ largest
    → bs ≡ after (decimal a ∷ decimal b ∷ decimal x ∷ decimal y ∷ decimal z ∷ [])
    → proposal bs ≡ Ok (Asks (Propose (record { book = a; act = b; x = x; y = y; z = z })))
proposal_back bs a b x y z ha hb hx hy hz e =
    let p = number_at bs a (decimal b ∷ decimal x ∷ decimal y ∷ decimal z ∷ []) e ha in
    let q = number_at (back bs) b (decimal x ∷ decimal y ∷ decimal z ∷ []) p.1 hb in
    let r = number_at (back (back bs)) x (decimal y ∷ decimal z ∷ []) q.1 hx in
    let s = number_at (back (back (back bs))) y (decimal z ∷ []) r.1 hy in
    let t = number_at (back (back (back (back bs)))) z [] s.1 hz in
    rw (p.0, q.0, r.0, s.0, t.0)

pair_back : (bs : List ℕ) (a b : ℕ) → a ≤ largest → b ≤ largest → bs ≡ after (decimal a ∷ decimal b ∷ []) → pair bs ≡ Ok (a, b)
pair_back bs a b ha hb e =
    let p = number_at bs a (decimal b ∷ []) e ha in
    let q = number_at (back bs) b [] p.1 hb in
    rw (p.0, q.0)

change_back : (bs : List ℕ) (a : ℕ) (v : Voters) → a ≤ largest → length v.named ≡ 10 → 0 < length (set_of v)
    → bs ≡ after (decimal a ∷ set_of v ∷ []) → change bs ≡ Ok (Asks (Change a v))
unfolding set_of
change_back bs a v ha t h e =
    let p = number_at bs a (set_of v ∷ []) e ha in
    let digits = (set_plain 10 0 v (omega arith)).0 in
    let q : set (front (back bs)) ≡ Some v = ap (λ x. set (front x)) p.1 ∙ (ap set (first (set_of v) [] digits) ∙ set_back v t h) in
    rw (p.0, q)

query_back : (bs : List ℕ) (a : ℕ) → a ≤ largest → bs ≡ after (decimal a ∷ []) → query bs ≡ Ok (Asks (Query a))
query_back bs a ha e = let p = number_at bs a [] e ha in rw p.0

pair_line : (c : ℕ) → (65 ≤ c) × (c ≤ 90) → (a b : ℕ) → a ≤ largest → b ≤ largest
    → parse (c ∷ (tabbed (decimal a ∷ decimal b ∷ []) ++ (10 ∷ []))) ≡ step_of c 3 (after (decimal a ∷ decimal b ∷ []))
pair_line c k a b ha hb = parse_is c k (decimal a ∷ decimal b ∷ []) (plain a ha, (plain b hb, tt)) (omega (arith, short a ha, short b hb))

start_back : (s l : ℕ) (b : Bool) → s ≤ largest → l ≤ largest
    → parse (line_of (Start (record { size = s; leader = l; fast = b }))) ≡ Ok (Start (record { size = s; leader = l; fast = b }))
start_back s l b hs hl =
    parse_is setting_letter (omega arith, omega arith) (decimal s ∷ decimal l ∷ decimal (bit b) ∷ []) (plain s hs, (plain l hl, (plain (bit b) (small_bit b), tt)))
    (omega (arith, short s hs, short l hl, short (bit b) (small_bit b)))
    ∙ rw (setting_back (after (decimal s ∷ decimal l ∷ decimal (bit b) ∷ [])) s l b hs hl refl)

propose_back : (a b x y z : ℕ) → a ≤ largest → b ≤ largest → x ≤ largest → y ≤ largest → z ≤ largest
    → parse (line_of (Asks (Propose (record { book = a; act = b; x = x; y = y; z = z })))) ≡ Ok (Asks (Propose (record { book = a; act = b; x = x; y = y; z = z })))
propose_back a b x y z ha hb hx hy hz =
    parse_is propose_letter (omega arith, omega arith) (decimal a ∷ decimal b ∷ decimal x ∷ decimal y ∷ decimal z ∷ [])
    (plain a ha, (plain b hb, (plain x hx, (plain y hy, (plain z hz, tt)))))
    (omega (arith, short a ha, short b hb, short x hx, short y hy, short z hz))
    ∙ rw (proposal_back (after (decimal a ∷ decimal b ∷ decimal x ∷ decimal y ∷ decimal z ∷ [])) a b x y z ha hb hx hy hz refl)

named_line : (a : ℕ) (v : Voters) → a ≤ largest → length v.named ≡ 10 → 0 < length (set_of v)
    → parse (line_of (Asks (Change a v))) ≡ Ok (Asks (Change a v))
unfolding set_of
named_line a v ha t h =
    let s = set_plain 10 0 v (omega arith) in
    parse_is change_letter (omega arith, omega arith) (decimal a ∷ set_of v ∷ []) (plain a ha, (s.0, tt)) (omega (arith, short a ha, s.1))
    ∙ rw (change_back (after (decimal a ∷ set_of v ∷ [])) a v ha t h refl)

pub reads_back : ReadsBack
reads_back (Start s) w =
    let n = none_large (s.size ∷ s.leader ∷ []) 2 w.no_bad_field in
    start_back s.size s.leader s.fast n.0 n.1.0
reads_back (Asks (Propose r)) w =
    let n = none_large (r.book ∷ r.act ∷ r.x ∷ r.y ∷ r.z ∷ []) 2 w.no_bad_field in
    propose_back r.book r.act r.x r.y r.z n.0 n.1.0 n.1.1.0 n.1.1.1.0 n.1.1.1.1.0
reads_back (Asks (Receive a b)) w =
    let n = none_large (a ∷ b ∷ []) 2 w.no_bad_field in
    pair_line receive_letter (omega arith, omega arith) a b n.0 n.1.0 ∙ rw (pair_back (after (decimal a ∷ decimal b ∷ [])) a b n.0 n.1.0 refl)
reads_back (Asks (Hear a b)) w =
    let n = none_large (a ∷ b ∷ []) 2 w.no_bad_field in
    pair_line hear_letter (omega arith, omega arith) a b n.0 n.1.0 ∙ rw (pair_back (after (decimal a ∷ decimal b ∷ [])) a b n.0 n.1.0 refl)
reads_back (Asks Sync) w = parse_is sync_letter (omega arith, omega arith) [] tt (omega arith)
reads_back (Asks (Notice a b)) w =
    let n = none_large (a ∷ b ∷ []) 2 w.no_bad_field in
    pair_line notice_letter (omega arith, omega arith) a b n.0 n.1.0 ∙ rw (pair_back (after (decimal a ∷ decimal b ∷ [])) a b n.0 n.1.0 refl)
reads_back (Asks (Change a v)) w =
    let p = else_none (ltb largest a) 2 _ w.no_bad_field in
    let q = else_none (nobody v) 3 None p.1 in
    let some : 0 < length (set_of v) = omega (arith, eqb-false (length (set_of v)) 0 q.0) in
    named_line a v (ltb-false largest a p.0) w.sound some
reads_back (Asks (Query a)) w =
    let n = none_large (a ∷ []) 2 w.no_bad_field in
    parse_is query_letter (omega arith, omega arith) (decimal a ∷ []) (plain a n.0, tt) (omega (arith, short a n.0))
    ∙ rw (query_back (after (decimal a ∷ [])) a n.0 refl)

pub one_step : OneStep
one_step s t a b e =
    let both : Ok s ≡ Ok t = sym (reads_back s a) ∙ (ap parse e ∙ reads_back t b) in
    cc
