use Rattle.std.proofs.Common.{sym, inl, inr, arith}
use Rattle.group.specs.View.{view}
use Rattle.week.proofs.Cutting.{shorter}
use Rattle.week.proofs.Running.{refused, begins, goes_on, stops, no_more}
use Rattle.week.proofs.run.run_lines.Goals as goal

pub returns-in-Err-Refused : goal.returns-in-Err-Refused
returns-in-Err-Refused g c =
    let why = rw c.in-Err-Refused.field-0-is at c.in-Err-Refused.ensures in
    let is = refused g.B.Book.meaning g.L.Log.limit c.args.file.now c.in-Some.first.now c.next.new.self.rest.now c.in-Some.ensures.steps c.in-Err-Refused.fault why in
    rw is (rw c.in-Err-Refused.field-0-is at c.add-in-Err-Refused.ensures)

pub loop-number-init : goal.loop-number-init
loop-number-init g c =
    let file = c.args.file.now in
    let cut = c.in-Some.ensures.steps in
    let k = c.in-Ok.ensures in
    let s = view g.B.Book.state g.L.Log.entries g.L.Log.limit c.in-Ok.group in
    let less = shorter file c.in-Some.first.now c.next.new.self.rest.now cut in
    rw (c.into_iter-number-iterator.ensures.into_iter_gives, c.zip-number-items.ensures.first, c.zip-number-items.ensures.second) (record {
      bound = omega (arith, less);
      all = begins g.B.Book.meaning g.L.Log.limit file c.in-Some.first.now c.next.new.self.rest.now cut k.0 s c.quorums.result _ _ k.1 k.2 c.quorums.ensures c.in_ok-add.ensures;
    })

pub returns-then-ends : goal.returns-then-ends
returns-then-ends g c =
    let s = view g.B.Book.state g.L.Log.entries g.L.Log.limit c.loop-number.group in
    let it = c.loop-number.number-iterator in
    let step = c.in-Some-2.ensures.steps in
    stops g.B.Book.meaning it.a.start s it.b.rest.now c.in-Some-2.line.now c.next-in-loop-number.new.self.b.rest.now _ _ _ c.follow-event.result
    step.1 c.follow-event.ensures.value (rw step.0.0 at c.in_ok-add-2.ensures) c.loop-number.invariant.all (sym c.if-ends.ensures)

pub loop-number-preserved : goal.loop-number-preserved
loop-number-preserved g c =
    let s = view g.B.Book.state g.L.Log.entries g.L.Log.limit c.loop-number.group in
    let it = c.loop-number.number-iterator in
    let step = c.in-Some-2.ensures.steps in
    let less = shorter it.b.rest.now c.in-Some-2.line.now c.next-in-loop-number.new.self.b.rest.now step.1 in
    record {
      bound = omega (arith, less, step.0, c.loop-number.invariant.bound);
      all = goes_on g.B.Book.meaning it.a.start s it.b.rest.now c.in-Some-2.line.now c.next-in-loop-number.new.self.b.rest.now _ _ _ c.follow-event.result
          step.1 c.follow-event.ensures.value (rw step.0.0 at c.in_ok-add-2.ensures) c.loop-number.invariant.all
          _ _ (sym c.if-ends.ensures) (rw step.0.0 at step.0.1) c.follow-event.ensures.state;
    }

pub returns : goal.returns
returns g c =
    let s = view g.B.Book.state g.L.Log.entries g.L.Log.limit c.loop-number.group in
    let it = c.loop-number.number-iterator in
    elim c.in-None.ensures.steps [
      | inl top ↦ absurd (omega (arith, top.1.0, c.loop-number.invariant.bound))
      | inr done ↦ no_more g.B.Book.meaning it.a.start s it.b.rest.now _ _ done.1 c.loop-number.invariant.all
    ]
