use Rattle.std.proofs.Common.{◌≡◌, ◌∙◌, rules, tests}
use Rattle.std.specs.List.{list_any}
use Rattle.std.proofs.lemmas.Iterator.Consumers.{YieldsList-from_deque}
use Rattle.std.proofs.lemmas.Iterator.Search.{any_from_yields_List}
use Rattle.terms.proofs.Chains.{any_of_list}
use Rattle.protocol.specs.State.{meets}
use Rattle.group.specs.View.{state_of}
use Rattle.group.proofs.group.Group.waiting_meets.Goals as goal

-- src/group/reads.rt
pub returns : goal.returns
returns g c =
    let s = state_of g.B.Book g.L.Log c.args.self.now in
    let waiting = c.args.self.now.waiting.jobs.items in
    let test = meets g.B.Book.meaning s.jobs.job c.args.job in
    let found : c.any.result ≡ list_any test waiting =
    any_from_yields_List test _ _ _ c.any.ensures.ran (YieldsList-from_deque waiting cc) (λ x b q k. search (rules, tests)) in
    found ∙ any_of_list test waiting
