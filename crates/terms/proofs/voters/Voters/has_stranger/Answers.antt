use Rattle.std.proofs.Common.{◌∙◌, ◌&&◌, leb, rules, tests, refl}
use Rattle.std.proofs.lemmas.Iterator.{YieldsList-from_range}
use Rattle.std.proofs.lemmas.Iterator.Search.{any_from_yields_List}
use Rattle.terms.specs.Votes.{votes, has_stranger}
use Rattle.terms.proofs.Chains.{any_range}
use Rattle.terms.proofs.voters.Voters.has_stranger.Goals as goal

-- src/voters.rt
pub returns : goal.returns
unfolding has_stranger
returns c =
    any_from_yields_List (λ d. leb c.args.size d && votes c.args.self.now d) _ _ c.any.result c.any.ensures.ran (YieldsList-from_range 0 10 10 (cc) refl) (λ x b q k. search (rules, tests))
    ∙ any_range 10 (λ d. leb c.args.size d && votes c.args.self.now d)
