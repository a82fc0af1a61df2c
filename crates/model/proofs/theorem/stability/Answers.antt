use Rattle.model.proofs.Standing.{holds}
use Rattle.model.proofs.theorem.stability.Goals as goal

-- src/theorem.rt
pub returns : goal.returns
returns g c = holds g.B.Book.meaning g.met.B.Book.lawful g.L.Log.limit
