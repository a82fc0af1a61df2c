use Rattle.protocol.proofs.Conclusion.{stands}
use Rattle.protocol.proofs.theorem.confirmations_stand.Goals as goal

-- src/theorem.rt
pub returns : goal.returns
returns g c = stands g.B.Book.meaning g.met.B.Book.lawful g.L.Log.limit
