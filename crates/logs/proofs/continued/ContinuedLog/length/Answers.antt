use Rattle.std.proofs.Common.{arith}
use Rattle.logs.proofs.Continuation.{full_length}
use Rattle.logs.proofs.continued.ContinuedLog.length.Goals as goal

pub returns-clause-value : goal.returns-clause-value
returns-clause-value g c =
    omega (arith, full_length g.A.Log.limit (g.A.Log.entries c.args.self.now.first) (g.B.Log.entries c.args.self.now.second) (omega arith))
