-- A line that is read as a step is the line of that step.
use Rattle.std.proofs.Common.{◌≡◌, ℕ, ◌+◌, ◌<◌, ◌≤◌, Bool, true, false, cond, eqb, ltb, leb, ◌⊎◌, List, [], ◌∷◌, ◌++◌, length, Some, None, Ok, Err, decimal, Option, Result, sym, refl, ap, ◌∙◌, subst, inl, inr, ⊎_elim, arith}
use Rattle.std.proofs.lemmas.Bool.{and_parts, cond-false, ne_eqb, eqb-true, le-ltb}
use Rattle.base.specs.declared.fault.Fault.{Fault}
use Rattle.base.specs.declared.fault.Refusal.TheVariants.{BadLine, UnknownLetter, WrongFieldCount}
use Rattle.terms.specs.declared.calls.Call.TheVariants.{Receive, Hear, Sync, Notice}
use Rattle.lines.specs.declared.step.Step.{Step}
use Rattle.lines.specs.declared.step.Step.TheVariants.{Call as Asks}
use Rattle.lines.specs.Faults.{refused}
use Rattle.std.proofs.lemmas.Option.{none-some}
use Rattle.lines.specs.Forms.{number, set, front, back, tabs, ended, body, fits}
use Rattle.lines.specs.Limits.{longest, largest}
use Rattle.lines.specs.Letters.{setting_letter, propose_letter, receive_letter, hear_letter, notice_letter, sync_letter, change_letter, query_letter}
use Rattle.lines.specs.Reading.{step_of, letter, with_field, from_pair, counted, setting, proposal, pair, change, query, flag}
use Rattle.lines.specs.Writing.{set_of, nobody, bit, tabbed, line_of, first_large, unwritable}
use Rattle.lines_laws.specs.Laws.{Sound, Gives, WritesBack}
use Rattle.lines_laws.proofs.Numbers.{number_only}
use Rattle.lines_laws.proofs.Sets.{set_only}
use Rattle.lines_laws.proofs.Parts.{Cut, joined, ended_line}
use Rattle.lines_laws.proofs.Written.{AllSmall}

-- what an accepted answer tells of the tests on its way

pub err_ok : {T : Type 0} (e : Fault) (x : T) → Err e ≡ Ok x → ⊥
err_ok e x p = let z : ◌≡◌ {A = ℕ} 0 1 = cc in omega arith

pub ok_same : {T : Type 0} (x y : T) → ◌≡◌ {A = Result T Fault} (Ok x) (Ok y) → x ≡ y
ok_same x y e = cc

cond_ok : {T : Type 0} (b : Bool) (r : Result T Fault) (e : Fault) (x : T) → cond b r (Err e) ≡ Ok x → (b ≡ true) × (r ≡ Ok x)
cond_ok true r e x p = (refl, p)
cond_ok false r e x p = absurd (err_ok e x p)

either : {T : Type 0} (b : Bool) (r q : Result T Fault) (x : T) → cond b r q ≡ Ok x → ((b ≡ true) × (r ≡ Ok x)) ⊎ (q ≡ Ok x)
either true r q x p = inl (refl, p)
either false r q x p = inr p

taken : {A T : Type 0} (place : ℕ) (o : Option A) (make : A → Result T Fault) (x : T) → with_field place o make ≡ Ok x
    → (a : A) × (o ≡ Some a) × (make a ≡ Ok x)
taken place None make x p = absurd (err_ok _ x p)
taken place (Some a) make x p = (a, refl, p)

paired : (r : Result (ℕ × ℕ) Fault) (make : ℕ → ℕ → Step) (s : Step) → from_pair r make ≡ Ok s
    → (a : ℕ) × (b : ℕ) × (r ≡ Ok (a, b)) × (make a b ≡ s)
paired (Ok p) make s e = (p.0, p.1, refl, ok_same _ s e)
paired (Err f) make s e = absurd (err_ok f s e)

-- the two tests of a flag
flag_tells : (x y b : Bool) → cond x (Some false) (cond y (Some true) None) ≡ Some b → ((x ≡ true) × (b ≡ false)) ⊎ ((y ≡ true) × (b ≡ true))
flag_tells true y b e = let k : b ≡ false = cc in inl (refl, k)
flag_tells false true b e = let k : b ≡ true = cc in inr (refl, k)
flag_tells false false b e = absurd (none-some b e)

flagged : (n : ℕ) (b : Bool) → flag n ≡ Some b → n ≡ bit b
flagged n b e =
    ⊎_elim (λ t. eqb-true n 0 t.0 ∙ ap bit (sym t.1)) (λ t. eqb-true n 1 t.0 ∙ ap bit (sym t.1))
    (flag_tells (eqb n 0) (eqb n 1) b e)

small_none : (ns : List ℕ) (place : ℕ) → AllSmall ns → first_large place ns ≡ None
small_none [] place a = refl
small_none (n ∷ ns) place a = cond-false (ltb largest n) _ _ (le-ltb largest n a.0) ∙ small_none ns (place + 1) a.1

-- a first field that is the letter c
letter_only : (f : List ℕ) (c : ℕ) → 0 < c → letter f ≡ c → c ∷ [] ≡ f
letter_only [] c h e = absurd (omega arith)
letter_only (x ∷ []) c h e = ap (λ y. y ∷ []) (sym e)
letter_only (x ∷ y ∷ ys) c h e =
    let z = cond-false (eqb (length (x ∷ y ∷ ys)) 1) x 0 (ne_eqb _ 1 (λ q. omega arith)) in
    absurd (omega arith)

-- the line that a letter and fields make, where these are the fields of the line
rebuilt : (line : List ℕ) (c : ℕ) (fs : List (List ℕ)) → fits line ≡ true → 0 < c → letter (front (body line)) ≡ c
    → 1 + tabs (body line) ≡ 1 + length fs → Cut fs (back (body line)) → c ∷ (tabbed fs ++ (10 ∷ [])) ≡ line
rebuilt line c fs f h l n k =
    let all = joined (c ∷ []) fs (body line) (omega arith) (letter_only (front (body line)) c h l, k) in
    ap (λ x. x ++ (10 ∷ [])) all ∙ ended_line line (and_parts (leb (length line) longest) (ended line) f).1

module _ (line : List ℕ) (s : Step) (f : fits line ≡ true) where
  -- a letter with its count of fields
  abbrev Counted : ℕ → ℕ → Type 0
  Counted c n = (letter (front (body line)) ≡ c) × (1 + tabs (body line) ≡ n)

  set_up : Counted setting_letter 4 → setting (back (body line)) ≡ Ok s → Gives line s
  set_up k e =
      let p = taken 2 (number (front (back (body line)))) _ s e in
      let q = taken 3 (number (front (back (back (body line))))) _ s p.2 in
      let r = taken 4 (number (front (back (back (back (body line)))))) _ s q.2 in
      let t = taken 4 (flag r.0) _ s r.2 in
      let a = number_only (front (back (body line))) p.0 p.1 in
      let b = number_only (front (back (back (body line)))) q.0 q.1 in
      let n = number_only (front (back (back (back (body line))))) r.0 r.1 in
      let bit_is : decimal (bit t.0) ≡ front (back (back (back (body line)))) = ap decimal (sym (flagged r.0 t.0 t.1)) ∙ n.1 in
      subst (λ x. Gives line x) (ok_same _ s t.2) (record {
        writable = record { sound = tt; no_bad_field = small_none (p.0 ∷ q.0 ∷ []) 2 (a.0, (b.0, tt)) };
        same_line = rebuilt line setting_letter (decimal p.0 ∷ decimal q.0 ∷ decimal (bit t.0) ∷ []) f (omega arith) k.0 k.1 (a.1, (b.1, (bit_is, tt)));
      })

  proposed : Counted propose_letter 6 → proposal (back (body line)) ≡ Ok s → Gives line s
  proposed k e =
      let p = taken 2 (number (front (back (body line)))) _ s e in
      let q = taken 3 (number (front (back (back (body line))))) _ s p.2 in
      let r = taken 4 (number (front (back (back (back (body line)))))) _ s q.2 in
      let t = taken 5 (number (front (back (back (back (back (body line))))))) _ s r.2 in
      let u = taken 6 (number (front (back (back (back (back (back (body line)))))))) _ s t.2 in
      let a = number_only (front (back (body line))) p.0 p.1 in
      let b = number_only (front (back (back (body line)))) q.0 q.1 in
      let x = number_only (front (back (back (back (body line))))) r.0 r.1 in
      let y = number_only (front (back (back (back (back (body line)))))) t.0 t.1 in
      let z = number_only (front (back (back (back (back (back (body line))))))) u.0 u.1 in
      subst (λ x. Gives line x) (ok_same _ s u.2) (record {
        writable = record { sound = tt; no_bad_field = small_none (p.0 ∷ q.0 ∷ r.0 ∷ t.0 ∷ u.0 ∷ []) 2 (a.0, (b.0, (x.0, (y.0, (z.0, tt))))) };
        same_line = rebuilt line propose_letter (decimal p.0 ∷ decimal q.0 ∷ decimal r.0 ∷ decimal t.0 ∷ decimal u.0 ∷ []) f (omega arith) k.0 k.1 (a.1, (b.1, (x.1, (y.1, (z.1, tt)))));
      })

  gives : {t : Step} → Sound t → unwritable t ≡ None → line_of t ≡ line → Gives line t
  gives a b l = record { writable = record { sound = a; no_bad_field = b }; same_line = l }

  -- a replica and a job, with what both tell
  pair_tells : (c : ℕ) → 0 < c → Counted c 3 → (a b : ℕ) → pair (back (body line)) ≡ Ok (a, b)
      → (a ≤ largest) × (b ≤ largest) × (c ∷ (tabbed (decimal a ∷ decimal b ∷ []) ++ (10 ∷ [])) ≡ line)
  pair_tells c h k a b e =
      let p = taken 2 (number (front (back (body line)))) _ (a, b) e in
      let q = taken 3 (number (front (back (back (body line))))) _ (a, b) p.2 in
      let both = ok_same (p.0, q.0) (a, b) q.2 in
      let x = number_only (front (back (body line))) a (p.1 ∙ ap (λ y. Some y.0) both) in
      let y = number_only (front (back (back (body line)))) b (q.1 ∙ ap (λ y. Some y.1) both) in
      (x.0, y.0, rebuilt line c (decimal a ∷ decimal b ∷ []) f h k.0 k.1 (x.1, (y.1, tt)))

  with_pair : (c : ℕ) (make : ℕ → ℕ → Step) → 0 < c
      → ((a b : ℕ) → a ≤ largest → b ≤ largest → c ∷ (tabbed (decimal a ∷ decimal b ∷ []) ++ (10 ∷ [])) ≡ line → Gives line (make a b))
      → Counted c 3 → from_pair (pair (back (body line))) make ≡ Ok s → Gives line s
  with_pair c make h good k e =
      let p = paired (pair (back (body line))) make s e in
      let t = pair_tells c h k p.0 p.1 p.2 in
      subst (λ x. Gives line x) p.3 (good p.0 p.1 t.0 t.1 t.2)

  received : Counted receive_letter 3 → from_pair (pair (back (body line))) (λ a b. Asks (Receive a b)) ≡ Ok s → Gives line s
  received = with_pair receive_letter (λ a b. Asks (Receive a b)) (omega arith) (λ a b x y. gives tt (small_none (a ∷ b ∷ []) 2 (x, (y, tt))))

  heard : Counted hear_letter 3 → from_pair (pair (back (body line))) (λ a b. Asks (Hear a b)) ≡ Ok s → Gives line s
  heard = with_pair hear_letter (λ a b. Asks (Hear a b)) (omega arith) (λ a b x y. gives tt (small_none (a ∷ b ∷ []) 2 (x, (y, tt))))

  noticed : Counted notice_letter 3 → from_pair (pair (back (body line))) (λ a b. Asks (Notice a b)) ≡ Ok s → Gives line s
  noticed = with_pair notice_letter (λ a b. Asks (Notice a b)) (omega arith) (λ a b x y. gives tt (small_none (a ∷ b ∷ []) 2 (x, (y, tt))))

  synced : Counted sync_letter 1 → ◌≡◌ {A = Result Step Fault} (Ok (Asks Sync)) (Ok s) → Gives line s
  synced k e =
      subst (λ x. Gives line x) (ok_same _ s e) (record {
        writable = record { sound = tt; no_bad_field = refl };
        same_line = rebuilt line sync_letter [] f (omega arith) k.0 k.1 tt;
      })

  changed : Counted change_letter 3 → change (back (body line)) ≡ Ok s → Gives line s
  changed k e =
      let p = taken 2 (number (front (back (body line)))) _ s e in
      let q = taken 3 (set (front (back (back (body line))))) _ s p.2 in
      let a = number_only (front (back (body line))) p.0 p.1 in
      let v = set_only (front (back (back (body line)))) q.0 q.1 in
      let some : nobody q.0 ≡ false = ne_eqb (length (set_of q.0)) 0 (λ z. omega (arith, ap length v.1)) in
      subst (λ x. Gives line x) (ok_same _ s q.2) (record {
        writable = record {
          sound = v.0;
          no_bad_field = cond-false (ltb largest p.0) _ _ (le-ltb largest p.0 a.0) ∙ cond-false (nobody q.0) _ _ some;
        };
        same_line = rebuilt line change_letter (decimal p.0 ∷ set_of q.0 ∷ []) f (omega arith) k.0 k.1 (a.1, (v.1, tt));
      })

  queried : Counted query_letter 2 → query (back (body line)) ≡ Ok s → Gives line s
  queried k e =
      let p = taken 2 (number (front (back (body line)))) _ s e in
      let a = number_only (front (back (body line))) p.0 p.1 in
      subst (λ x. Gives line x) (ok_same _ s p.2) (record {
        writable = record { sound = tt; no_bad_field = small_none (p.0 ∷ []) 2 (a.0, tt) };
        same_line = rebuilt line query_letter (decimal p.0 ∷ []) f (omega arith) k.0 k.1 (a.1, tt);
      })

  -- the letter c with its count, or another letter
  pick : (c want : ℕ) (r q : Result Step Fault) → (Counted c want → r ≡ Ok s → Gives line s) → (q ≡ Ok s → Gives line s)
      → cond (eqb (letter (front (body line))) c) (counted (1 + tabs (body line)) want r) q ≡ Ok s → Gives line s
  pick c want r q here other e =
      ⊎_elim
      (λ t.
      let n = cond_ok (eqb (1 + tabs (body line)) want) r (refused WrongFieldCount) s t.1 in
      here (eqb-true (letter (front (body line))) c t.0, eqb-true (1 + tabs (body line)) want n.0) n.1)
      other
      (either (eqb (letter (front (body line))) c) (counted (1 + tabs (body line)) want r) q s e)

  by_letter : step_of (letter (front (body line))) (1 + tabs (body line)) (back (body line)) ≡ Ok s → Gives line s
  by_letter =
      pick setting_letter 4 _ _ set_up
      (pick propose_letter 6 _ _ proposed
      (pick receive_letter 3 _ _ received
      (pick hear_letter 3 _ _ heard
      (pick notice_letter 3 _ _ noticed
      (pick sync_letter 1 _ _ synced
      (pick change_letter 3 _ _ changed
      (pick query_letter 2 _ _ queried (λ e. absurd (err_ok (refused UnknownLetter) s e)))))))))

pub writes_back : WritesBack
writes_back line s e =
    let p = cond_ok (fits line) (step_of (letter (front (body line))) (1 + tabs (body line)) (back (body line))) (refused BadLine) s e in
    by_letter line s p.0 p.1
