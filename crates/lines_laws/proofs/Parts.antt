-- A line, its fields and the tabs between them.
use Rattle.std.proofs.Common.{◌≡◌, ℕ, suc, ◌+◌, true, false, ◌&&◌, eqb, List, [], ◌∷◌, ◌++◌, length, sym, refl, ap, ◌∙◌, ⊎_elim, append_assoc, one-add, arith}
use Rattle.std.specs.Str.{all_ascii_digits}
use Rattle.std.proofs.lemmas.List.{length-append, append-nil, nil_from_length}
use Rattle.std.proofs.lemmas.Bool.{and_parts, cond-true, cond-false, cases_Bool, eqb-true}
use Rattle.std.proofs.lemmas.Bool.Decides.{nat_tests}
use Rattle.lines.specs.Forms.{digit, front, back, tabs, ended, body, allowed}
use Rattle.lines.specs.Writing.{tabbed}

-- what comes after the first tab of fields that are tabbed
abbrev pub after : List (List ℕ) → List ℕ
after [] = []
after (f ∷ fs) = f ++ tabbed fs

abbrev pub Plain : List (List ℕ) → Type 0
Plain [] = Unit {0}
Plain (f ∷ fs) = (all_ascii_digits f ≡ true) × Plain fs

-- how many bytes fields have with their tabs
abbrev pub width : List (List ℕ) → ℕ
width [] = 0
width (f ∷ fs) = 1 + length f + width fs

-- from fields to bytes: digits have no tab and no end

digit_tells : (c : ℕ) → digit c ≡ true → (eqb c 9 ≡ false) × (eqb c 10 ≡ false) × (allowed c ≡ true)
digit_tells c e = (grind (arith, nat_tests), grind (arith, nat_tests), grind (arith, nat_tests))

body_plain : (f ys : List ℕ) → all_ascii_digits f ≡ true → body (f ++ ys) ≡ f ++ body ys
body_plain [] ys p = refl
body_plain (c ∷ cs) ys p =
    let q = and_parts (digit c) (all_ascii_digits cs) p in
    cond-false (eqb c 10) _ _ (digit_tells c q.0).1 ∙ ap (λ t. c ∷ t) (body_plain cs ys q.1)

ended_plain : (f ys : List ℕ) → all_ascii_digits f ≡ true → ended (f ++ ys) ≡ ended ys
ended_plain [] ys p = refl
ended_plain (c ∷ cs) ys p =
    let q = and_parts (digit c) (all_ascii_digits cs) p in
    cond-false (eqb c 10) _ _ (digit_tells c q.0).1
    ∙ (ap (λ b. b && ended (cs ++ ys)) (digit_tells c q.0).2 ∙ ended_plain cs ys q.1)

tabs_plain : (f ys : List ℕ) → all_ascii_digits f ≡ true → tabs (f ++ ys) ≡ tabs ys
tabs_plain [] ys p = refl
tabs_plain (c ∷ cs) ys p =
    let q = and_parts (digit c) (all_ascii_digits cs) p in
    cond-false (eqb c 9) _ _ (digit_tells c q.0).0 ∙ tabs_plain cs ys q.1

pub first : (f : List ℕ) (fs : List (List ℕ)) → all_ascii_digits f ≡ true → front (f ++ tabbed fs) ≡ f
first [] [] p = refl
first [] (g ∷ fs) p = refl
first (c ∷ cs) fs p =
    let q = and_parts (digit c) (all_ascii_digits cs) p in
    cond-false (eqb c 9) _ _ (digit_tells c q.0).0 ∙ ap (λ t. c ∷ t) (first cs fs q.1)

pub next : (f : List ℕ) (fs : List (List ℕ)) → all_ascii_digits f ≡ true → back (f ++ tabbed fs) ≡ after fs
next [] [] p = refl
next [] (g ∷ fs) p = refl
next (c ∷ cs) fs p =
    let q = and_parts (digit c) (all_ascii_digits cs) p in
    cond-false (eqb c 9) _ _ (digit_tells c q.0).0 ∙ next cs fs q.1

pub body_all : (fs : List (List ℕ)) → Plain fs → body (tabbed fs ++ (10 ∷ [])) ≡ tabbed fs
body_all [] p = refl
body_all (f ∷ fs) p =
    ap (λ t. 9 ∷ t) (ap body (append_assoc f (tabbed fs) (10 ∷ [])) ∙ (body_plain f _ p.0 ∙ ap (λ t. f ++ t) (body_all fs p.1)))

pub ended_all : (fs : List (List ℕ)) → Plain fs → ended (tabbed fs ++ (10 ∷ [])) ≡ true
ended_all [] p = refl
ended_all (f ∷ fs) p = ap ended (append_assoc f (tabbed fs) (10 ∷ [])) ∙ (ended_plain f _ p.0 ∙ ended_all fs p.1)

pub tabs_all : (fs : List (List ℕ)) → Plain fs → tabs (tabbed fs) ≡ length fs
tabs_all [] p = refl
tabs_all (f ∷ fs) p = ap (λ n. 1 + n) (tabs_plain f (tabbed fs) p.0 ∙ tabs_all fs p.1) ∙ one-add (length fs)

pub width_all : (fs : List (List ℕ)) → length (tabbed fs) ≡ width fs
width_all [] = refl
width_all (f ∷ fs) = omega (arith, length-append f (tabbed fs), width_all fs)

pub front_all : (fs : List (List ℕ)) → front (tabbed fs) ≡ []
front_all [] = refl
front_all (f ∷ fs) = refl

pub back_all : (fs : List (List ℕ)) → back (tabbed fs) ≡ after fs
back_all [] = refl
back_all (f ∷ fs) = refl

-- from bytes to fields

-- with no tab the first field is all
no_tab : (bs : List ℕ) → tabs bs ≡ 0 → front bs ≡ bs
no_tab [] z = refl
no_tab (c ∷ cs) z =
    ⊎_elim
    (λ e. absurd (omega (arith, sym (cond-true (eqb c 9) (1 + tabs cs) (tabs cs) e) ∙ z)))
    (λ e. cond-false (eqb c 9) _ _ e ∙ ap (λ t. c ∷ t) (no_tab cs (sym (cond-false (eqb c 9) (1 + tabs cs) (tabs cs) e) ∙ z)))
    (cases_Bool (eqb c 9))

-- with a tab: the first field, the tab, and the rest, which has a tab fewer
one_tab : (bs : List ℕ) (n : ℕ) → tabs bs ≡ suc n → (front bs ++ (9 ∷ back bs) ≡ bs) × (tabs (back bs) ≡ n)
one_tab [] n z = absurd (omega arith)
one_tab (c ∷ cs) n z =
    ⊎_elim
    (λ e.
    let t : tabs cs ≡ n = omega (arith, sym (cond-true (eqb c 9) (1 + tabs cs) (tabs cs) e) ∙ z) in
    let f = cond-true (eqb c 9) [] (c ∷ front cs) e in
    let b = cond-true (eqb c 9) cs (back cs) e in
    (ap (λ x. x ++ (9 ∷ back (c ∷ cs))) f ∙ (ap (λ x. 9 ∷ x) b ∙ ap (λ x. x ∷ cs) (sym (eqb-true c 9 e))), ap tabs b ∙ t))
    (λ e.
    let i = one_tab cs n (sym (cond-false (eqb c 9) (1 + tabs cs) (tabs cs) e) ∙ z) in
    let f = cond-false (eqb c 9) [] (c ∷ front cs) e in
    let b = cond-false (eqb c 9) cs (back cs) e in
    (ap (λ x. x ++ (9 ∷ back (c ∷ cs))) f ∙ (ap (λ x. c ∷ (front cs ++ (9 ∷ x))) b ∙ ap (λ x. c ∷ x) i.0), ap tabs b ∙ i.1))
    (cases_Bool (eqb c 9))

-- the fields `fs` are those of the bytes, one after the other
abbrev pub Cut : List (List ℕ) → List ℕ → Type 0
Cut [] bs = Unit {0}
Cut (f ∷ fs) bs = (f ≡ front bs) × Cut fs (back bs)

pub joined : (f : List ℕ) (fs : List (List ℕ)) (bs : List ℕ) → tabs bs ≡ length fs → Cut (f ∷ fs) bs → f ++ tabbed fs ≡ bs
joined f [] bs z c = append-nil f ∙ (c.0 ∙ no_tab bs z)
joined f (g ∷ gs) bs z c =
    let t = one_tab bs (length gs) z in
    ap (λ x. x ++ (9 ∷ (g ++ tabbed gs))) c.0 ∙ (ap (λ x. front bs ++ (9 ∷ x)) (joined g gs (back bs) t.1 c.1) ∙ t.0)

-- a line that is ended is its body and the end
pub ended_line : (line : List ℕ) → ended line ≡ true → body line ++ (10 ∷ []) ≡ line
ended_line [] e = cc
ended_line (c ∷ cs) e =
    ⊎_elim
    (λ t.
    let none = nil_from_length cs (eqb-true (length cs) 0 (sym (cond-true (eqb c 10) _ _ t) ∙ e)) in
    ap (λ x. x ++ (10 ∷ [])) (cond-true (eqb c 10) [] (c ∷ body cs) t)
    ∙ (ap (λ x. 10 ∷ x) (sym none) ∙ ap (λ x. x ∷ cs) (sym (eqb-true c 10 t))))
    (λ t.
    let q = and_parts (allowed c) (ended cs) (sym (cond-false (eqb c 10) _ _ t) ∙ e) in
    ap (λ x. x ++ (10 ∷ [])) (cond-false (eqb c 10) [] (c ∷ body cs) t) ∙ ap (λ x. c ∷ x) (ended_line cs q.1))
    (cases_Bool (eqb c 10))
