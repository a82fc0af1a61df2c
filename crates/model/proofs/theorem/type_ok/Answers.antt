use Rattle.model.proofs.Types.{types_hold}
use Rattle.model.proofs.theorem.type_ok.Goals as goal

-- src/theorem.rt
pub returns : goal.returns
returns g c = types_hold g.B.Book.meaning g.met.B.Book.lawful g.L.Log.limit
