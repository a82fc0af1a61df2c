use Rattle.std.proofs.Common.{◌-◌, ap, ◌∙◌, arith}
use Rattle.logs.specs.Entries.{at_place}
use Rattle.logs.proofs.Continuation.{first_place, second_place}
use Rattle.logs.proofs.continued.ContinuedLog.get.Goals as goal

pub returns-then-place-first : goal.returns-then-place-first
returns-then-place-first g c =
    let xs = g.A.Log.entries c.args.self.now.first in
    let ys = g.B.Log.entries c.args.self.now.second in
    c.get.ensures ∙ first_place g.A.Log.limit g.met.A.Log.bounded xs ys c.args.place (omega arith) (omega arith)

pub returns : goal.returns
returns g c =
    let xs = g.A.Log.entries c.args.self.now.first in
    let ys = g.B.Log.entries c.args.self.now.second in
    let place = c.args.place in
    c.get-2.ensures
    ∙ (ap (λ n. at_place ys (place - n)) c.length-first.ensures.value
    ∙ second_place g.A.Log.limit g.met.A.Log.bounded xs ys place (omega arith) (omega arith) (omega arith))
