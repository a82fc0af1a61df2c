-- A book told by what it does with the records that fit it.
use Rattle.std.specs.Prelude.{◌≡◌, false, cond, is_some}
use Rattle.base.specs.declared.«record».Record.{Record}
use Rattle.base.specs.Meaning.{Meaning}

-- the same book on all records: one that does not fit clashes with nothing, has result 0 and moves nothing
abbrev pub for_fitting : {S : Type 0} → Meaning S → Meaning S
for_fitting m = record {
  initial = m.initial;
  misfit = m.misfit;
  clashes = λ a b. cond (is_some (m.misfit a)) false (cond (is_some (m.misfit b)) false (m.clashes a b));
  result = λ s r. cond (is_some (m.misfit r)) 0 (m.result s r);
  after = λ s r. cond (is_some (m.misfit r)) s (m.after s r);
}

-- What is owed of the records that fit; the rest follows.
pub record Fair {S : Type 0} (m : Meaning S) : Type 0 where
  pub symmetric : (a b : Record) → m.clashes a b ≡ m.clashes b a
  pub apart : (s : S) (a b : Record) → is_some (m.misfit a) ≡ false → is_some (m.misfit b) ≡ false →
      m.clashes a b ≡ false → m.result (m.after s b) a ≡ m.result s a
