use Rattle.std.proofs.Common.{◌≡◌, ◌+◌, ◌*◌, ◌≤◌, ◌++◌, map, take, length, decimal}
use Rattle.lines.specs.Writing.{tabbed}
use Rattle.week.specs.Texts.{written}
use Rattle.week.proofs.text.row.Given as goal

abbrev pub invariant-loop-cell : goal.invariant-loop-cell
invariant-loop-cell l = record {
  short : length l.text.bytes ≤ 10 + 11 * l.cell-index;
  so_far : l.text.bytes ≡ decimal l.number ++ tabbed (map written (take l.cell-index l.cells));
}
