use Rattle.std.proofs.Common.{◌≡◌, ℕ, ◌&&◌, ltb}
use Rattle.protocol.specs.Steps.{recovered}
use Rattle.group.specs.Sets.{has}
use Rattle.group.specs.View.{state_of}
use Rattle.group.proofs.group.Group.recover.Given as goal

abbrev pub invariant-loop-job : goal.invariant-loop-job
invariant-loop-job g l =
    let s = state_of g.B.Book g.L.Log l.self in
    (c : ℕ) → has l.set c ≡ ltb c l.job && recovered s l.voters c
