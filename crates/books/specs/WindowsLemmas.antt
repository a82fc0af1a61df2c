-- What the windows owe of the records that fit.
use Rattle.std.specs.Prelude.{◌≡◌, ℕ, ◌<◌, Bool, true, false, cond, ◌&&◌, nat_le, ◌==◌, refl}
use Rattle.std.proofs.Common.{ap, arith}
use Rattle.std.proofs.lemmas.Bool.Decides.{nat_tests}
use Rattle.base.specs.declared.«record».Record.{Record}
use Rattle.books.specs.Windows.{Timetable, taken_between, overlap, with_hours, windows_result, booking, freeing, timetables}
use Rattle.books.specs.Fitting.{Fair}
use Rattle.books.specs.TablesLemmas.{tally_same}

-- marking the hours of a record that has none in common with a leaves a's count alone
module _ (s : Timetable) (a b : Record) (apart : overlap a b ≡ false) where
  pub untouched : (taken : Bool) (k : ℕ) → k < a.z → (nat_le a.y k && with_hours s b taken a.x k) ≡ (nat_le a.y k && s a.x k)
  untouched taken k h = grind (arith, nat_tests)

  pub same_count : (books frees : Bool) →
      taken_between (cond books (with_hours s b true) (cond frees (with_hours s b false) s) a.x) a.y a.z ≡ taken_between (s a.x) a.y a.z
  same_count true frees = tally_same a.z _ _ (untouched true)
  same_count false true = tally_same a.z _ _ (untouched false)
  same_count false false = refl

pub fair_timetables : Fair timetables
fair_timetables = record {
  symmetric = λ a b. grind (arith, nat_tests);
  apart = λ s a b _ _ h.
      ap (λ n. cond (a.act == freeing) n (cond (n == 0) 1 0))
      (same_count s a b h (b.act == booking && windows_result s b == 1) (b.act == freeing));
}
