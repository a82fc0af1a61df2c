-- What an answer says, whether it has come to the client yet or not.
use Rattle.terms.specs.declared.answers.Reply.{Reply}
use Rattle.terms.specs.declared.answers.Reply.TheVariants.{No}
use Rattle.terms.specs.declared.answers.Answer.{Answer}
use Rattle.terms.specs.declared.answers.Answer.TheVariants.{Empty, Transit, Heard}

abbrev pub said : Answer → Reply
said Empty = No 0
said (Transit x) = x
said (Heard x) = x
