use Rattle.std.proofs.Common.{◌<◌, length, set, refl, ◌∙◌, arith, length-set}
use Rattle.terms.specs.declared.answers.Answer.TheVariants.{Heard, Empty}
use Rattle.group.proofs.Places.{read_set}
use Rattle.group.proofs.Deciding.{decide_first}
use Rattle.group.proofs.job.Job.hear.Goals as goal

-- src/job.rt
pub returns : goal.returns
returns c =
    let self = c.args.self.now in
    let r = c.args.replica in
    let new = set self.answers r (Heard c.args.reply) in
    let within : r < length self.answers = omega arith in
    record {
      job = refl;
      answer = read_set self.answers r (Heard c.args.reply) Empty within;
      phase = c.decision-self.ensures ∙ decide_first new c.args.size self.phase (omega (arith, length-set self.answers r (Heard c.args.reply)));
      given = refl;
    }
