use Rattle.std.proofs.Common.{eqb, rules, tests}
use Rattle.std.proofs.lemmas.Fn.{always_returns_same}
use Rattle.week.proofs.Cutting.{cut_off}
use Rattle.week.proofs.cut.LinesIterator.next.Goals as goal

pub returns-clause-steps : goal.returns-clause-steps
returns-clause-steps c =
    let h = c.in_ok-line.ensures.steps in
    let first = h.1.2 (λ b. eqb b 10) (always_returns_same _ _ _ (λ a r f' k. search (rules, tests))) in
    let whole = c.split_inclusive.ensures.rest in
    let cut = rw whole at (cut_off c.split_inclusive.result.rest.now c.in_ok-line.line.now c.next.new.self.rest.now h.1.0 h.0 h.1.1 first.1) in
    (rw whole at h.2, cut.0, cut.1)
