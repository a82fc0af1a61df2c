use Rattle.std.proofs.Common.{◌≡◌, ◌≤◌}
use Rattle.std.specs.VecDeque.{deque_len, deque_capacity}
use Rattle.terms.specs.Tests.{ascending}
use Rattle.group.specs.Sets.{has}
use Rattle.group.proofs.waiting.fill.Given as goal

abbrev pub invariant-loop-job : goal.invariant-loop-job
invariant-loop-job l =
    (l.jobs.items ≡ ascending l.job (has l.set)) × (deque_len l.jobs ≤ l.job) × (deque_capacity l.jobs ≡ deque_capacity l.initial.jobs)
