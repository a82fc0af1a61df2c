use Rattle.std.proofs.Common.{refl, rules}
use Rattle.lines.proofs.read.read_pair.Goals as goal

pub returns : goal.returns
returns g c = (c.make.result, refl, (c.in_ok-replica.replica, c.in_ok-job.job), search rules, c.make.ensures)
