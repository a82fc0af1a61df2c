use Rattle.std.proofs.Common.{◌≡◌, ap, ◌∙◌, arith}
use Rattle.terms.specs.Tests.{tally}
use Rattle.terms.specs.Votes.{votes, vote_count}
use Rattle.terms.proofs.Counting.{tally_more}
use Rattle.terms.proofs.voters.Voters.count.Goals as goal

-- src/voters.rt
pub loop-named-preserved : goal.loop-named-preserved
loop-named-preserved c =
    let more = tally_more c.loop-named.named-index (votes c.args.self.now) in
    (grind arith, grind arith)

-- src/voters.rt
pub returns : goal.returns
unfolding vote_count
returns c =
    let all : c.loop-named.named-index ≡ 10 = omega arith in
    c.loop-named.invariant.0 ∙ ap (λ n. tally n (votes c.args.self.now)) all
