use Rattle.std.proofs.Common.{refl}
use Rattle.books.specs.TablesLemmas.{read_same}
use Rattle.books.proofs.cards.empty_slots.Goals as goal

-- src/cards.rt
pub returns : goal.returns
returns c = λ i slot. read_same (λ v. v) 0 0 0 refl refl 256 slot i
