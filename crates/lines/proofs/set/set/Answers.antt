use Rattle.std.proofs.Common.{◌≡◌, ltb, Some, sym, ap, ◌∙◌, inr, arith, rules, tests}
use Rattle.std.proofs.lemmas.Bool.{ltb-true, ltb-false, eqb-true, eqb-false}
use Rattle.std.proofs.lemmas.List.{nil_from_length}
use Rattle.std.proofs.lemmas.List.Sorted.{answers_always}
use Rattle.lines.specs.Forms.{set}
use Rattle.std.proofs.lemmas.Iterator.{YieldsList-from_slice}
use Rattle.std.proofs.lemmas.Iterator.Adapters.{serves_from_places}
use Rattle.terms.specs.Votes.{no_voters}
use Rattle.lines.proofs.Rising.{named, least, taken, falls, no_digits}
use Rattle.lines.proofs.set.set.Goals as goal
use Rattle.lines.proofs.set.set.Goals.{then-is_empty-via-then-is_empty, then-is_empty-via-else-is_empty+then-not-digits, then-is_empty-via-else-is_empty+else-not-digits+then-not-is_sorted_by}

pub returns-then-is_empty : goal.returns-then-is_empty
returns-then-is_empty c =
    let bs = c.args.bytes.now in
    elim c.then-is_empty.branch [
      | then-is_empty-via-then-is_empty w ↦ sym (ap set (nil_from_length bs (eqb-true _ _ (sym w.if-is_empty.ensures))))
      | then-is_empty-via-else-is_empty+then-not-digits w ↦ sym (no_digits 0 no_voters bs (sym w.if-not-digits.ensures))
      | then-is_empty-via-else-is_empty+else-not-digits+then-not-is_sorted_by w ↦
          let at = w.if-not-is_sorted_by.ensures.cases ltb (answers_always _ _ _ (λ f a r g h. search (rules, tests))) in
          sym (falls 0 no_voters bs at.0 at.1 (ltb-false _ _ (sym (at.2 0))))
    ]

pub fold-requires-clause-can : goal.fold-requires-clause-can
fold-requires-clause-can c =
    let bs = c.args.bytes.now in
    (tt, serves_from_places (YieldsList-from_slice bs cc) (λ x q k. search rules) (λ x k h e. let low = least bs (sym c.if-not-digits.ensures) k x.now h e in search (rules, low)))

pub returns : goal.returns
returns c =
    let bs = c.args.bytes.now in
    let all : c.fold.result ≡ named no_voters bs = search rules in
    let up = c.if-not-is_sorted_by.ensures.cases ltb (answers_always _ _ _ (λ f a r g h. search (rules, tests))) in
    ap Some all ∙ sym (taken 0 no_voters bs (sym c.if-not-digits.ensures) (λ k h. ltb-true _ _ (sym (up k 0 h))) (λ _. omega arith) (inr (omega (arith, eqb-false _ _ (sym c.if-is_empty.ensures)))))
