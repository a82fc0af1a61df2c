use Rattle.std.proofs.Common.{◌≡◌, ◌+◌, ◌≤◌}
use Rattle.books.specs.Weeks.{hours_of}
use Rattle.books.specs.Windows.{taken_between}
use Rattle.books.proofs.week.Week.taken_between.Given as goal

abbrev pub invariant-loop-taken : goal.invariant-loop-taken
invariant-loop-taken l =
    (l.count ≡ taken_between (hours_of l.self) l.from (l.from + l.taken-index)) × (l.count ≤ l.taken-index)
