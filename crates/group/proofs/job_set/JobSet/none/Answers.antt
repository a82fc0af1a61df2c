use Rattle.std.proofs.Common.{false, arith}
use lib.ListN.{get_or-replicate}
use Rattle.std.proofs.lemmas.Bool.Decides.{nat_tests}
use Rattle.group.proofs.job_set.JobSet.none.Goals as goal

-- src/job_set.rt
pub returns : goal.returns
returns c = λ d. let empty = get_or-replicate 256 d false false in grind (arith, nat_tests)
