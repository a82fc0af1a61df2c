use Rattle.std.proofs.Common.{◌≡◌, ◌+◌, ◌≤◌, ◌++◌, length, vec_items}
use Rattle.group.specs.View.{view}
use Rattle.week.specs.Cuts.{lines_in}
use Rattle.week.specs.Runs.{longest_file, later, report_of}
use Rattle.week.proofs.run.run_lines.Given as goal

-- what is reported and what the rest gives are all
abbrev pub invariant-loop-number : goal.invariant-loop-number
invariant-loop-number g l = record {
  bound : l.number-iterator.a.start + length l.number-iterator.b.rest.now ≤ longest_file + 1;
  all : vec_items l.report ++ later g.B.Book.meaning l.number-iterator.a.start (view g.B.Book.state g.L.Log.entries g.L.Log.limit l.group) (lines_in l.number-iterator.b.rest.now)
      ≡ vec_items l.fn.report ++ report_of g.B.Book.meaning g.L.Log.limit (lines_in l.file);
}
