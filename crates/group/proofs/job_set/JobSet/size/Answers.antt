use Rattle.std.proofs.Common.{◌≡◌, filter, length, refl, ◌∙◌, arith, rules, tests}
use Rattle.std.specs.List.{range_with_len}
use Rattle.std.proofs.lemmas.Iterator.{YieldsList-from_range}
use Rattle.std.proofs.lemmas.Iterator.Consumers.{YieldsList-at, YieldsList-from_filter, count_from_yields_List}
use Rattle.std.proofs.lemmas.List.Sums.{length-filter}
use Rattle.terms.specs.Tests.{tally}
use Rattle.terms.proofs.Counting.{tally_bound}
use Rattle.terms.proofs.Chains.{count_range}
use Rattle.group.specs.Sets.{has}
use Rattle.group.proofs.job_set.JobSet.size.Goals as goal

-- src/job_set.rt
pub returns : goal.returns
returns c =
    let n = c.args.count in
    let test = has c.args.self.now in
    let found : c.count.result ≡ length (filter test (range_with_len 0 n)) =
    count_from_yields_List c.filter.result _ c.count.ensures.ran
    (YieldsList-from_filter _ test (YieldsList-at c.filter.ensures.source (YieldsList-from_range 0 n n refl (omega arith))) c.filter.ensures.closure (λ x b q k. search (rules, tests))) in
    let members : c.count.result ≡ tally n test = found ∙ length-filter test (range_with_len 0 n) ∙ count_range n test in
    record { members = members; bound = omega (arith, members, tally_bound n test) }
