use Rattle.std.proofs.Common.{◌≡◌, ◌+◌, cond, eqb, count_by, sym, ap, ◌∙◌, arith, rules, tests}
use Rattle.std.proofs.lemmas.Iterator.{YieldsList-from_slice, YieldsList-from_map}
use Rattle.std.proofs.lemmas.Iterator.Consumers.{sum_by_from_yields_List, fits_by_from_yields_list}
use Rattle.std.proofs.lemmas.List.Sums.{count_by-le-length}
use Rattle.lines.proofs.Parts.{tabs_counted}
use Rattle.lines.proofs.field.count.Goals as goal

pub sum-requires-clause-fits : goal.sum-requires-clause-fits
sum-requires-clause-fits c =
    let bs = c.args.bytes.now in
    fits_by_from_yields_list (λ b. cond (eqb b 9) 1 0) bs c.map.result _
    (YieldsList-from_map _ (λ b. cond (eqb b 9) 1 0) (YieldsList-from_slice bs cc) c.map.ensures.closure (λ x r q k. search (rules, tests)))
    (omega (arith, count_by-le-length (λ b. eqb b 9) bs))

pub overflow_add-result : goal.overflow_add-result
overflow_add-result c =
    let bs = c.args.bytes.now in
    let counted : c.sum.result ≡ count_by (λ b. eqb b 9) bs =
    sum_by_from_yields_List _ bs c.map.result c.sum.result c.sum.ensures.ran
    (YieldsList-from_map _ (λ b. cond (eqb b 9) 1 0) (YieldsList-from_slice bs cc) c.map.ensures.closure (λ x r q k. search (rules, tests))) in
    omega (arith, counted, count_by-le-length (λ b. eqb b 9) bs)

pub returns : goal.returns
returns c =
    let bs = c.args.bytes.now in
    let counted : c.sum.result ≡ count_by (λ b. eqb b 9) bs =
    sum_by_from_yields_List _ bs c.map.result c.sum.result c.sum.ensures.ran
    (YieldsList-from_map _ (λ b. cond (eqb b 9) 1 0) (YieldsList-from_slice bs cc) c.map.ensures.closure (λ x r q k. search (rules, tests))) in
    ap (λ n. 1 + n) (counted ∙ sym (tabs_counted bs))
