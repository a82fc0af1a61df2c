use Rattle.group.specs.View.{Leaves}
use Rattle.group.proofs.Sending.{Sent}
use Rattle.group.proofs.messages.send_all.Given as goal

abbrev pub invariant-loop-at : goal.invariant-loop-at
invariant-loop-at g l = Sent (Leaves (goal.F-post g l.send)) l.initial.boxes l.boxes l.at-index
