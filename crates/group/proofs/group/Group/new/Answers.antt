use Rattle.std.proofs.Common.{◌≡◌, length, sym, ◌∙◌, arith}
use Rattle.protocol.specs.Settings.{setting_refusal}
use Rattle.group.specs.View.{seen}
use Rattle.group.proofs.Changing.{settled_ok}
use Rattle.group.proofs.Making.{new_made}
use Rattle.group.proofs.group.Group.new.Goals as goal

-- src/group/new.rt
pub returns : goal.returns
returns g c =
    let k = c.args.setting in
    let boxes = c.in_ok-boxes.boxes in
    let empty = c.in_ok-boxes.ensures in
    let many : length boxes.items ≡ k.size = sym boxes.ok.0 ∙ empty.many in
    let fresh = new_made boxes.items (λ r h. empty.each r (let e = many in omega arith)) g.B.Book.meaning g.L.Log.limit k many in
    let waits = c.in_ok-waiting.ensures in
    let jobs = c.in_ok-jobs.ensures.items in (
      settled_ok (setting_refusal k) c.in_ok-check.ensures,
      (λ i. seen (record { fast = k.fast; capacity = g.L.Log.limit; leader = k.leader; epoch = 1; waiting = waits i; log = c.fresh-2.ensures i; book = c.fresh.ensures i; jobs = jobs i; boxes = boxes.items })) ∙ fresh,
    )
