use Rattle.std.proofs.Common.{ap, ◌∙◌, arith}
use Rattle.logs.specs.Continuing.{continued}
use Rattle.logs.proofs.Continuation.{first_added, second_outcome, second_added}
use Rattle.logs.proofs.continued.ContinuedLog.add.Goals as goal

pub returns-then-length-capacity-clause-after : goal.returns-then-length-capacity-clause-after
returns-then-length-capacity-clause-after g c =
    let m = g.A.Log.limit in
    let n = g.B.Log.limit in
    let xs = g.A.Log.entries c.args.self.now.first in
    let ys = g.B.Log.entries c.args.self.now.second in
    let none = g.B.Log.entries c.fresh.result in
    ap (λ zs. continued m zs none) c.add.ensures.after ∙ first_added m g.met.A.Log.bounded xs ys n c.args.number (omega arith) none c.fresh.ensures

pub returns : goal.returns
returns g c =
    let m = g.A.Log.limit in
    let n = g.B.Log.limit in
    let xs = g.A.Log.entries c.args.self.now.first in
    let ys = g.B.Log.entries c.args.self.now.second in
    let fits = g.met.A.Log.bounded in
    let k = c.args.number in
    record {
      value = c.add-2.ensures.value ∙ second_outcome m fits xs ys n k (omega arith) (omega arith);
      after = ap (continued m xs) c.add-2.ensures.after ∙ second_added m fits xs ys n k (omega arith) (omega arith);
    }
