use Rattle.std.proofs.Common.{false, refl}
use Rattle.books.specs.TablesLemmas.{read_same}
use Rattle.books.proofs.week.Week.free.Goals as goal

-- src/week.rt
pub returns : goal.returns
returns c = λ i hour. read_same (λ b. b) false false false refl refl 168 hour i
