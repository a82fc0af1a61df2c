-- The pair of two lawful books is lawful.
use Rattle.std.specs.Prelude.{◌≡◌, ℕ, Bool, true, false, cond, is_some, refl}
use Rattle.std.proofs.Common.{ap}
use Rattle.base.specs.declared.«record».Record.{Record}
use Rattle.base.specs.Meaning.{Meaning, Laws}
use Rattle.books.specs.Pairs.{on_left, lower, paired}

-- each law by the sides u of a and v of b
module _ {S T : Type 0} (m : Meaning S) (n : Meaning T) (p : Laws m) (q : Laws n) where
  abbrev clash_at : Bool → Bool → Record → Record → Bool
  clash_at u v a b = cond u (cond v (m.clashes a b) false) (cond v false (n.clashes (lower a) (lower b)))

  abbrev misfit_at : Bool → Record → Bool
  misfit_at u a = is_some (cond u (m.misfit a) (n.misfit (lower a)))

  abbrev after_at : Bool → S × T → Record → S × T
  after_at v s b = cond v (m.after s.0 b, s.1) (s.0, n.after s.1 (lower b))

  abbrev result_at : Bool → S × T → Record → ℕ
  result_at u s a = cond u (m.result s.0 a) (n.result s.1 (lower a))

  symmetric_at : (u v : Bool) (a b : Record) → clash_at u v a b ≡ clash_at v u b a
  symmetric_at true true a b = p.symmetric a b
  symmetric_at true false a b = refl
  symmetric_at false true a b = refl
  symmetric_at false false a b = q.symmetric (lower a) (lower b)

  apart_at : (u v : Bool) (s : S × T) (a b : Record) → clash_at u v a b ≡ false → result_at u (after_at v s b) a ≡ result_at u s a
  apart_at true true s a b h = p.apart s.0 a b h
  apart_at true false s a b h = refl
  apart_at false true s a b h = refl
  apart_at false false s a b h = q.apart s.1 (lower a) (lower b) h

  free_at : (u v : Bool) (a b : Record) → misfit_at u a ≡ true → clash_at u v a b ≡ false
  free_at true true a b h = p.unfit_free a b h
  free_at true false a b h = refl
  free_at false true a b h = refl
  free_at false false a b h = q.unfit_free (lower a) (lower b) h

  zero_at : (u : Bool) (s : S × T) (a : Record) → misfit_at u a ≡ true → result_at u s a ≡ 0
  zero_at true s a h = p.unfit_zero s.0 a h
  zero_at false s a h = q.unfit_zero s.1 (lower a) h

  still_at : (u : Bool) (s : S × T) (a : Record) → misfit_at u a ≡ true → after_at u s a ≡ s
  still_at true s a h = ap (λ t. (t, s.1)) (p.unfit_still s.0 a h)
  still_at false s a h = ap (λ t. (s.0, t)) (q.unfit_still s.1 (lower a) h)

  pub paired_laws : Laws (paired m n)
  paired_laws = record {
    symmetric = λ a b. symmetric_at (on_left a) (on_left b) a b;
    apart = λ s a b. apart_at (on_left a) (on_left b) s a b;
    unfit_free = λ a b. free_at (on_left a) (on_left b) a b;
    unfit_zero = λ s a. zero_at (on_left a) s a;
    unfit_still = λ s a. still_at (on_left a) s a;
  }
