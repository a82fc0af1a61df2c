-- The laws of a book that is told by the records that fit: what is owed beyond those for the rest.
use Rattle.std.specs.Prelude.{◌≡◌, Bool, true, false, cond, is_some, refl}
use Rattle.std.proofs.lemmas.Bool.{cond-true}
use Rattle.base.specs.declared.«record».Record.{Record}
use Rattle.base.specs.Meaning.{Meaning, Laws}
use Rattle.books.specs.Fitting.{for_fitting, Fair}

-- the order of two tests does not matter
swapped : (u v p q : Bool) → p ≡ q → cond u false (cond v false p) ≡ cond v false (cond u false q)
swapped true true p q e = refl
swapped true false p q e = refl
swapped false true p q e = refl
swapped false false p q e = e

module _ {S : Type 0} (m : Meaning S) where
  pub fitting_laws : Fair m → Laws (for_fitting m)
  fitting_laws fair = record {
    symmetric = λ a b. swapped (is_some (m.misfit a)) (is_some (m.misfit b)) _ _ (fair.symmetric a b);
    apart = λ s a b. go s a b (is_some (m.misfit a)) (is_some (m.misfit b)) refl refl;
    unfit_free = λ a b. cond-true (is_some (m.misfit a)) false _;
    unfit_zero = λ s a. cond-true (is_some (m.misfit a)) 0 (m.result s a);
    unfit_still = λ s a. cond-true (is_some (m.misfit a)) s (m.after s a);
  }
    where
      go : (s : S) (a b : Record) (u v : Bool) → is_some (m.misfit a) ≡ u → is_some (m.misfit b) ≡ v → cond u false (cond v false (m.clashes a b)) ≡ false →
          cond u 0 (m.result (cond v s (m.after s b)) a) ≡ cond u 0 (m.result s a)
      go s a b true v e f h = refl
      go s a b false true e f h = refl
      go s a b false false e f h = fair.apart s a b e f h
