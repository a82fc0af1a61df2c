use Rattle.std.proofs.Common.{◌≡◌, ℕ, ◌+◌, ◌-◌, ◌&&◌, leb, true, false, Bool, sym, ap, ◌∙◌, arith}
use Rattle.std.proofs.lemmas.Bool.{le-leb}
use Rattle.std.proofs.lemmas.Bool.Decides.{nat_tests}
use Rattle.books.specs.Tables.{tally}
use Rattle.books.proofs.Hours.{hour_in_part}
use Rattle.books.specs.Weeks.{hours_of}
use Rattle.books.specs.TablesLemmas.{tally_more, tally_none}
use Rattle.books.proofs.week.Week.taken_between.Goals as goal
use Rattle.books.proofs.week.Week.taken_between.Goals.{then-taken, else-taken}

-- src/week.rt
pub loop-taken-init : goal.loop-taken-init
loop-taken-init c = (sym (tally_none (c.args.from + 0) _ (λ k h. grind (arith, nat_tests))), omega arith)

-- src/week.rt
pub loop-taken-preserved : goal.loop-taken-preserved
loop-taken-preserved c =
    let p : ℕ → Bool = λ k. leb c.args.from k && hours_of c.args.self.now k in
    let at = c.args.from + c.loop-taken.taken-index in
    let next : c.args.from + (c.loop-taken.taken-index + 1) ≡ at + 1 = omega arith in
    let more = ap (λ n. tally n p) next ∙ tally_more at p in
    let low = le-leb c.args.from at (omega arith) in
    let same = hour_in_part c.args.self.now.taken c.args.from (c.args.end - c.args.from) c.loop-taken.taken-index (omega arith) c.loop-taken-test.true in
    elim c.if-taken.branch [
      | then-taken w ↦ let here : hours_of c.args.self.now at ≡ true = sym same ∙ w.if-taken.true in (grind arith, omega arith)
      | else-taken w ↦ let here : hours_of c.args.self.now at ≡ false = sym same ∙ w.if-taken.false in (grind arith, omega arith)
    ]
