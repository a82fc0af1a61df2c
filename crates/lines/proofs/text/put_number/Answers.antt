use Rattle.std.proofs.Common.{lit<, ◌≤◌, [], ◌∷◌, length, refl, ap, ◌∙◌, append_assoc, arith, length-append}
use Rattle.lines.proofs.Writes.{short}
use Rattle.lines.proofs.text.put_number.Goals as goal

pub push_str-requires : goal.push_str-requires
push_str-requires c =
    let s : length c.format.result.now ≤ 6 = rw c.format.ensures.text (short c.args.n c.if-n-gt-LARGEST.false) in
    let o = ap length (c.push.ensures.ascii (omega arith)) in
    let p = length-append c.args.text.now.bytes (9 ∷ []) in (lit< tt, omega arith)

pub returns : goal.returns
returns c =
    let s : length c.format.result.now ≤ 6 = rw c.format.ensures.text (short c.args.n c.if-n-gt-LARGEST.false) in
    let tab = c.push.ensures.ascii (omega arith) in
    let o = ap length tab in
    let p = length-append c.args.text.now.bytes (9 ∷ []) in (
      c.if-n-gt-LARGEST.false,
      c.push_str.ensures.bytes ∙ rw (c.format.ensures.text, tab, append_assoc) refl,
      omega (arith, c.push_str.ensures.len),
    )
