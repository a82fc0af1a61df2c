use Rattle.lines_laws.proofs.Rebuilt.{writes_back}
use Rattle.lines_laws.proofs.Written.{reads_back, one_step}
use Rattle.lines_laws.proofs.theorem.laws.Goals as goal

pub returns : goal.returns
returns c = record { read = reads_back; one = one_step; write = writes_back }
