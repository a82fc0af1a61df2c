use Rattle.std.proofs.Common.{◌≡◌, count_by, ◌∙◌, rules}
use Rattle.terms.specs.declared.answers.Answer.TheVariants.{Empty}
use Rattle.protocol.specs.Answers.{declined}
use Rattle.terms.proofs.Chains.{count_list}
use Rattle.group.proofs.client.count_declining.Goals as goal

-- src/client.rt
pub returns : goal.returns
returns c =
    let counted : c.count.result ≡ count_by declined c.args.answers.now = search rules in
    counted ∙ count_list declined c.args.answers.now Empty
