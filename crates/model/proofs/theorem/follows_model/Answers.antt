use Rattle.model.proofs.Following.{follows}
use Rattle.model.proofs.theorem.follows_model.Goals as goal

-- src/theorem.rt
pub returns : goal.returns
returns g c = follows g.B.Book.meaning g.met.B.Book.lawful g.L.Log.limit
