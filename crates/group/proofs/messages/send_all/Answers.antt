use Rattle.std.proofs.Common.{◌<◌, length, refl, arith}
use Rattle.group.specs.View.{Leaves}
use Rattle.group.proofs.Sending.{none_sent, one_more, all_sent}
use Rattle.group.proofs.messages.send_all.Goals as goal

-- src/messages.rt
pub loop-at-init : goal.loop-at-init
loop-at-init g c = none_sent (Leaves (goal.F-post g c.args.send)) c.args.boxes.now

-- src/messages.rt
pub loop-at-preserved : goal.loop-at-preserved
loop-at-preserved g c =
    let within : c.loop-at.at-index < length c.loop-at.boxes = omega arith in
    one_more (Leaves (goal.F-post g c.args.send)) c.args.boxes.now c.loop-at.boxes c.loop-at.at-index c.send.new.arg2 _ c.loop-at.invariant within
    (record { found = _; finds = refl; left = _; called = c.send.ensures; leaves = refl })

-- src/messages.rt
pub returns : goal.returns
returns g c = all_sent (Leaves (goal.F-post g c.args.send)) c.args.boxes.now c.loop-at.boxes c.loop-at.at-index c.loop-at.invariant (omega arith)
