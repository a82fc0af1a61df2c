-- What the cards owe of the records that fit.
use Rattle.std.proofs.Common.{arith}
use Rattle.std.proofs.lemmas.Bool.Decides.{nat_tests}
use Rattle.books.specs.Fitting.{Fair}
use Rattle.books.specs.Cards.{slots}

pub fair_slots : Fair slots
fair_slots = record {
  symmetric = λ a b. grind (arith, nat_tests);
  apart = λ s a b _ _ h. grind (arith, nat_tests);
}
