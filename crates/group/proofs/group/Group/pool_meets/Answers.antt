use Rattle.std.proofs.Common.{◌≡◌, ℕ, ◌&&◌, refl, ap, ◌∙◌, arith, rules, tests}
use Rattle.std.specs.List.{range_with_len, list_any}
use Rattle.std.proofs.lemmas.Iterator.{YieldsList-from_range}
use Rattle.std.proofs.lemmas.Iterator.Search.{any_from_yields_List}
use Rattle.terms.specs.Tests.{any_below}
use Rattle.terms.proofs.Chains.{any_range}
use Rattle.protocol.specs.State.{meets}
use Rattle.group.specs.View.{state_of}
use Rattle.group.proofs.group.Group.pool_meets.Goals as goal

-- src/group/reads.rt
pub returns : goal.returns
returns g c =
    let s = state_of g.B.Book g.L.Log c.args.self.now in
    let n = c.len.result in
    let test = λ (d : ℕ). s.boxes.pool c.args.message.replica d && meets g.B.Book.meaning s.jobs.job c.args.message.job d in
    let found : c.any.result ≡ list_any test (range_with_len 0 n) =
    any_from_yields_List test _ _ _ c.any.ensures.ran (YieldsList-from_range 0 n n refl (omega arith)) (λ x b q k. search (rules, tests)) in
    found ∙ any_range n test ∙ ap (λ n. any_below n test) (c.len.ensures ∙ c.args.self.now.jobs.ok.0)
