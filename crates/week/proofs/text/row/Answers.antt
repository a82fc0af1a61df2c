use Rattle.std.proofs.Common.{length, decimal, refl, ap, ◌∙◌, lit<, arith}
use Rattle.std.proofs.lemmas.List.{length_push, length-append}
use Rattle.std.proofs.lemmas.Str.{length-encode, len_utf8_bounds}
use Rattle.week.specs.Texts.{written}
use Rattle.week.specs.declared.text.Cell.TheVariants.{Sign}
use Rattle.week.proofs.Rows.{one_field}
use Rattle.week.proofs.text.row.Goals as goal
use Rattle.week.proofs.text.row.Goals.{in-Sign, in-Number}

pub push-requires-in-Sign : goal.push-requires-in-Sign
push-requires-in-Sign c =
    let tab = ap length (c.push.ensures.ascii (lit< tt)) ∙ length_push c.loop-cell.text.bytes 9 in
    let char = length-encode c.in-Sign.c in
    let short = len_utf8_bounds c.in-Sign.c in
    (lit< tt, omega (arith, short))

pub loop-cell-preserved : goal.loop-cell-preserved
loop-cell-preserved c =
    let tab = c.push.ensures.ascii (lit< tt) in
    let field = one_field c.args.cells.now c.loop-cell.cell-index (Sign 0) (decimal c.args.number) c.loop-cell.text.bytes c.push.new.self.bytes c.match-cell.text.bytes c.loop-cell-test.true in
    let l = ap length tab ∙ length_push c.loop-cell.text.bytes 9 in
    elim c.match-cell.branch [
      | in-Sign w ↦
          let m = ap length w.push-in-Sign.ensures.bytes ∙ length-append c.push.new.self.bytes (written (Sign w.in-Sign.c)) in
          let char = length-encode w.in-Sign.c in
          let short = len_utf8_bounds w.in-Sign.c in
          record {
            short = rw w.text-is (omega (arith, short));
            so_far = field c.loop-cell.invariant.so_far tab (rw (w.text-is, w.in-Sign.is) w.push-in-Sign.ensures.bytes);
          }
      | in-Number w ↦
          record {
            short = rw w.text-is (omega arith);
            so_far = field c.loop-cell.invariant.so_far tab (rw (w.text-is, w.in-Number.is, w.push_str-in-Number.ensures.bytes, w.format-in-Number.ensures.text) refl);
          }
    ]
