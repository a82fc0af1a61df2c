-- The first line and the rest by the place of the first line end, and the lines of a file by its first.
use Rattle.std.proofs.Common.{◌≡◌, ℕ, zero, suc, ◌+◌, ◌-◌, ◌<◌, ◌≤◌, min, Bool, true, false, cond, eqb, List, [], ◌∷◌, ◌++◌, length, take, drop, sym, refl, ap, ◌∙◌, arith}
use Rattle.std.specs.List.{IsFirstMatchOrLen}
use Rattle.std.proofs.lemmas.Bool.{cond-true, cond-false}
use Rattle.std.proofs.lemmas.List.{take_at, take_rest}
use Rattle.week.specs.Cuts.{lines_in, led_by, first_line, after_first}

-- the line is what stands up to the first line end, and that end; or all, where there is none
cut_at : (xs : List ℕ) (i : ℕ) → IsFirstMatchOrLen (λ b. eqb b 10) xs i → (take (min (i + 1) (length xs)) xs ≡ first_line xs) × (drop (min (i + 1) (length xs)) xs ≡ after_first xs)
cut_at [] i h = let z : min (i + 1) 0 ≡ 0 = omega arith in (rw z refl, rw z refl)
cut_at (c ∷ cs) zero h =
    let one : min (zero + 1) (length (c ∷ cs)) ≡ 1 = omega arith in
    let e = h.1 (omega arith) 0 in
    (rw one (sym (cond-true (eqb c 10) _ _ e)), rw one (sym (cond-true (eqb c 10) _ _ e)))
cut_at (c ∷ cs) (suc i) h =
    let more : min (suc i + 1) (length (c ∷ cs)) ≡ suc (min (i + 1) (length cs)) = omega arith in
    let e = h.0 0 0 (omega arith) (omega arith) in
    let r = cut_at cs i (λ k d l m. h.0 (suc k) d (omega arith) (omega arith), λ l d. h.1 (omega arith) d) in
    (rw more (ap (λ t. c ∷ t) r.0 ∙ sym (cond-false (eqb c 10) _ _ e)), rw more (r.1 ∙ sym (cond-false (eqb c 10) _ _ e)))

-- the same of a line that was taken off the front
pub cut_off : (xs line rest : List ℕ) (i : ℕ) → xs ≡ line ++ rest → length line ≡ min (i + 1) (length xs) → IsFirstMatchOrLen (λ b. eqb b 10) xs i
    → (line ≡ first_line xs) × (take (length xs - length line) (drop (length line) xs) ≡ after_first xs)
cut_off xs line rest i e l h =
    let parts = cut_at xs i h in
    let front : take (length line) xs ≡ line = rw e (take_at line rest (length line) refl) in
    (sym front ∙ (ap (λ n. take n xs) l ∙ parts.0), take_rest xs (length line) ∙ (ap (λ n. drop n xs) l ∙ parts.1))

-- a file that is not empty is its first line and those after it
pub some_lines : (c : ℕ) (cs : List ℕ) → lines_in (c ∷ cs) ≡ first_line (c ∷ cs) ∷ lines_in (after_first (c ∷ cs))
some_lines c [] = go (eqb c 10)
  where
    go : (b : Bool) → cond b ((c ∷ []) ∷ []) ((c ∷ []) ∷ []) ≡ cond b (c ∷ []) (c ∷ []) ∷ lines_in (cond b [] [])
    go true = refl
    go false = refl
some_lines c (d ∷ ds) = go (eqb c 10) (some_lines d ds)
  where
    go : (b : Bool) → lines_in (d ∷ ds) ≡ first_line (d ∷ ds) ∷ lines_in (after_first (d ∷ ds))
        → cond b ((c ∷ []) ∷ lines_in (d ∷ ds)) (led_by c (lines_in (d ∷ ds)))
        ≡ cond b (c ∷ []) (c ∷ first_line (d ∷ ds)) ∷ lines_in (cond b (d ∷ ds) (after_first (d ∷ ds)))
    go true e = refl
    go false e = ap (led_by c) e

-- what `Lines` says of each line that it gives
abbrev pub Cut : List ℕ → List ℕ → List ℕ → Type 0
Cut xs line rest = (0 < length xs) × (line ≡ first_line xs) × (rest ≡ after_first xs)

pub first_of_lines : (xs line rest : List ℕ) → Cut xs line rest → lines_in xs ≡ line ∷ lines_in rest
first_of_lines [] line rest cut = absurd (omega (arith, cut.0))
first_of_lines (c ∷ cs) line rest cut = rw (cut.1, cut.2) (some_lines c cs)

-- what comes after a line is shorter
pub after_le : (cs : List ℕ) → length (after_first cs) ≤ length cs
after_le [] = omega arith
after_le (c ∷ cs) = go (eqb c 10) (after_le cs)
  where
    go : (b : Bool) → length (after_first cs) ≤ length cs → length (cond b cs (after_first cs)) ≤ length (c ∷ cs)
    go true e = omega arith
    go false e = omega arith

pub after_less : (cs : List ℕ) → 0 < length cs → length (after_first cs) < length cs
after_less [] h = omega arith
after_less (c ∷ cs) h = go (eqb c 10) (after_le cs)
  where
    go : (b : Bool) → length (after_first cs) ≤ length cs → length (cond b cs (after_first cs)) < length (c ∷ cs)
    go true e = omega arith
    go false e = omega arith

pub shorter : (xs line rest : List ℕ) → Cut xs line rest → length rest < length xs
shorter xs line rest cut = rw cut.2 (after_less xs cut.0)
