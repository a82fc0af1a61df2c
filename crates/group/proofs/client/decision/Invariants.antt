use Rattle.std.proofs.Common.{◌≡◌, length, get_or}
use Rattle.terms.specs.declared.answers.Answer.TheVariants.{Empty}
use Rattle.protocol.specs.Answers.{by_any_told}
use Rattle.group.proofs.client.decision.Given as goal

abbrev pub invariant-loop-answer : goal.invariant-loop-answer
invariant-loop-answer l = l.phase ≡ by_any_told (length l.answers) (λ b. get_or l.answers b Empty) l.answer-index l.initial.phase
