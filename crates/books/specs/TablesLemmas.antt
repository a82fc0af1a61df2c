-- Lists read as tables, and counts.
use Rattle.std.specs.Prelude.{◌≡◌, ℕ, zero, suc, ◌+◌, ◌<◌, Bool, false, cond, ◌⊎◌, List, length, replicate, ◌≢◌, slice_index_or, slice_set, refl}
use Rattle.std.proofs.Common.{ap, inl, inr, arith, add-one, get_or-set_same, get_or-set_other}
use Rattle.std.proofs.lemmas.Bool.{cases_eq}
use Rattle.std.proofs.lemmas.Bool.Decides.{nat_tests}
use Rattle.books.specs.Tables.{put, tally}

-- one thing everywhere reads the same everywhere, past the end too
pub read_same : {A B : Type 0} (read : A → B) (b : B) (a d : A) → read a ≡ b → read d ≡ b → (n k : ℕ) → read (slice_index_or (replicate n a) k d) ≡ b
read_same read b a d here past zero k = past
read_same read b a d here past (suc n) zero = here
read_same read b a d here past (suc n) (suc k) = read_same read b a d here past n k

-- a list with one place written is read as a table with that place changed
pub read_set : {A B : Type 0} (read : A → B) (xs : List A) (i : ℕ) (a d : A) → i < length xs → (λ k. read (slice_index_or (slice_set xs i a) k d)) ≡ put (λ k. read (slice_index_or xs k d)) i (read a)
read_set read xs i a d h = λ t k. go k (cases_eq k i) t
  where
    go : (k : ℕ) → (k ≡ i) ⊎ (k ≢ i) → read (slice_index_or (slice_set xs i a) k d) ≡ put (λ j. read (slice_index_or xs j d)) i (read a) k
    go k (inl same) = let e = ap read (get_or-set_same xs i a d h) in grind (arith, nat_tests)
    go k (inr other) = let e = ap read (get_or-set_other xs i k a d other) in grind (arith, nat_tests)

pub tally_more : (n : ℕ) (p : ℕ → Bool) → tally (n + 1) p ≡ cond (p n) (tally n p + 1) (tally n p)
unfolding tally
tally_more n p = simp add-one

-- tests that agree below n are passed equally often
pub tally_same : (n : ℕ) (p q : ℕ → Bool) → ((k : ℕ) → k < n → p k ≡ q k) → tally n p ≡ tally n q
unfolding tally
tally_same zero p q same = refl
tally_same (suc n) p q same =
    let here = same n (omega arith) in
    let below = tally_same n p q (λ k h. same k (omega arith)) in
    rw (here, below)

-- what nothing passes
pub tally_none : (n : ℕ) (p : ℕ → Bool) → ((k : ℕ) → k < n → p k ≡ false) → tally n p ≡ 0
unfolding tally
tally_none zero p none = refl
tally_none (suc n) p none =
    let here = none n (omega arith) in
    let below = tally_none n p (λ k h. none k (omega arith)) in
    rw (here, below)
