use Rattle.std.proofs.Common.{◌+◌, [], ◌∷◌, ◌++◌, length, refl, ap, ◌∙◌, append_assoc, arith, length-append}
use Rattle.std.proofs.lemmas.Bool.{eq-eqb, ne_eqb}
use Rattle.lines.specs.Writing.{set_of}
use Rattle.lines.proofs.Writes.{joins, joined, members_on, members_past, members_end, nobody_is}
use Rattle.lines.proofs.text.put_voters.Goals as goal
use Rattle.lines.proofs.text.put_voters.Goals.{then-has, else-has}

pub returns-then-count-eq0 : goal.returns-then-count-eq0
returns-then-count-eq0 c = (nobody_is _ _ c.count.ensures ∙ eq-eqb _ _ c.if-count-eq0.true, c.bad_field.ensures)

pub loop-d-init : goal.loop-d-init
unfolding set_of
loop-d-init c = (omega arith, refl)

pub loop-d-preserved : goal.loop-d-preserved
loop-d-preserved c =
    elim c.if-has.branch [
      | then-has w ↦
          let code = w.from-then-has.ensures in
          let push = w.push-then-has.ensures.ascii (omega (arith, code, c.loop-d-test.true)) in
          let digit = rw code at (ap (λ t. t.bytes) w.text-is ∙ push) in (
            omega (arith, ap length digit, length-append c.loop-d.text.bytes ((48 + c.loop-d.d) ∷ []), c.loop-d.invariant.0),
            joins c.loop-d.text.bytes _ _ _ _ _
                digit
                (members_on c.loop-d.d c.args.voters c.loop-d-test.true (rw c.from.ensures at w.if-has.ensures))
                c.loop-d.invariant.1,
          )
      | else-has w ↦
          let at = ap (λ t. length t.bytes) w.text-is in
          let past = members_past c.loop-d.d c.args.voters c.loop-d-test.true (rw c.from.ensures at w.if-has.ensures) in
          (omega arith, rw (w.text-is, ← past) c.loop-d.invariant.1)
    ]

pub returns : goal.returns
returns c =
    let all = joined c.loop-d.text.bytes _ _ (members_end c.loop-d.d c.args.voters c.loop-d-test.false) c.loop-d.invariant.1 in
    let tab = c.push.ensures.ascii (omega arith) in (
      nobody_is _ _ c.count.ensures ∙ ne_eqb _ _ c.if-count-eq0.false,
      all ∙ (ap (λ t. t ++ set_of c.args.voters) tab ∙ append_assoc c.args.text.now.bytes (9 ∷ []) (set_of c.args.voters)),
      omega (arith, ap length tab, length-append c.args.text.now.bytes (9 ∷ [])),
    )
