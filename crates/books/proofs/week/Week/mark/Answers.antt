use Rattle.std.proofs.Common.{◌∙◌, replicate, ap, arith}
use borrow.Rule.Slice.PartMut.{mid_len}
use Rattle.books.proofs.Hours.{marked_part}
use Rattle.books.proofs.week.Week.mark.Goals as goal

-- src/week.rt
pub returns : goal.returns
returns c =
    λ i h. marked_part c.args.self.now.taken c.fill.new.self c.args.from c.args.end c.args.taken (omega arith) (omega arith) (c.fill.ensures.after (λ y e. e) ∙ ap (λ n. replicate n c.args.taken) (mid_len c.args.from c.args.end c.args.self.now.taken (omega arith))) h i
