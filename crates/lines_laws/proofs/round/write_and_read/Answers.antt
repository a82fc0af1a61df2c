use Rattle.std.proofs.Common.{length, ◌∙◌}
use native.Mathlib.Nat.{sub-zero}
use Rattle.std.proofs.lemmas.Result.{err_from_is_err_and}
use Rattle.lines_laws.proofs.Rounds.{echo_refused, accepted, echo_same}
use Rattle.lines_laws.proofs.round.write_and_read.Goals as goal

pub returns-in_err-n : goal.returns-in_err-n
returns-in_err-n c =
    let p = err_from_is_err_and c.from_residual.result c.from_residual.ensures.1 in
    λ t. rw (p.1, p.2) (echo_refused c.args.step (length c.args.out.now) c.in_err-n.field-0.0 c.in_err-n.ensures.told)

pub returns : goal.returns
returns c =
    let w = c.in_ok-n.ensures in
    let a = accepted c.args.step c.args.out.now c.write_line.new.out c.in_ok-n.n w.told w.buffer in
    λ t. c.read_line.ensures ∙ rw sub-zero (echo_same c.args.step c.args.out.now c.write_line.new.out c.in_ok-n.n a t)
