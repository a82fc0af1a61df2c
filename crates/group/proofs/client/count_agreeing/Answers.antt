use Rattle.std.proofs.Common.{◌≡◌, count_by, ◌∙◌, rules}
use Rattle.terms.specs.declared.answers.Answer.{Answer}
use Rattle.terms.specs.declared.answers.Answer.TheVariants.{Empty}
use Rattle.protocol.specs.Answers.{agrees, heard}
use Rattle.terms.proofs.Chains.{count_list}
use Rattle.group.proofs.client.count_agreeing.Goals as goal

-- src/client.rt
pub returns : goal.returns
returns c =
    let counted : c.count.result ≡ count_by (λ (a : Answer). agrees c.args.epoch (heard a)) c.args.answers.now = search rules in
    counted ∙ count_list (λ (a : Answer). agrees c.args.epoch (heard a)) c.args.answers.now Empty
