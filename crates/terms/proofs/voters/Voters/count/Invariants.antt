use Rattle.std.proofs.Common.{◌≡◌, ◌≤◌}
use Rattle.terms.specs.Tests.{tally}
use Rattle.terms.specs.Votes.{votes}
use Rattle.terms.proofs.voters.Voters.count.Given as goal

abbrev pub invariant-loop-named : goal.invariant-loop-named
invariant-loop-named l = (l.n ≡ tally l.named-index (votes l.self)) × (l.n ≤ l.named-index)
