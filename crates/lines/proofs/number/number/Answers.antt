use Rattle.std.proofs.Common.{sym, ◌∙◌, arith, rules}
use Rattle.std.proofs.lemmas.Iterator.{YieldsList-from_slice}
use Rattle.lines.proofs.Parts.{number_led}
use Rattle.lines.proofs.Parsed.{stays_small, all_read}
use Rattle.lines.proofs.number.number.Goals as goal

pub try_fold-requires-clause-callable : goal.try_fold-requires-clause-callable
try_fold-requires-clause-callable c = record {
  at = λ xs t q x u y f w. let low = stays_small _ (λ b. b.now) (λ p j b k. search rules) xs _ q (omega arith) f in search (rules, low);
}

pub returns : goal.returns
returns c =
    let bs = c.args.bytes.now in
    let d = c.try_fold.ensures.ran in
    let all = all_read _ (λ b. b.now) (λ p j b k. search rules) _ c.try_fold.result c.try_fold.new.self d.1 _ (search rules) bs d.0 c.iter.result d.4.0 _ (YieldsList-from_slice bs cc) d.4.1 d.4.2 d.5 in
    all ∙ sym (number_led bs c.if-not-led.ensures)
