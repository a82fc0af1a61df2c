use Rattle.std.proofs.Common.{false, refl}
use Rattle.books.specs.Weeks.{hours_of, no_week}
use Rattle.books.specs.TablesLemmas.{read_same}
use Rattle.books.proofs.windows.free_weeks.Goals as goal

-- src/windows.rt
pub returns : goal.returns
returns c = λ i vehicle. read_same hours_of (λ _. false) c.free.result no_week c.free.ensures refl 16 vehicle i
