use Rattle.std.proofs.Common.{◌≡◌, ◌+◌, ◌*◌, ◌≤◌, ◌++◌, map, length, decimal}
use Rattle.arrayvec.specs.ArrayString.{array_string_len}
use Rattle.lines.specs.Writing.{first_large, tabbed}
use Rattle.lines.proofs.write.numbers.Given as goal

-- what is written and what the rest gives are all
abbrev pub invariant-loop-place : goal.invariant-loop-place
invariant-loop-place l =
    (l.place-iterator.a.start + length l.place-iterator.b.rest.now ≡ 2 + length l.values)
    × (array_string_len l.text + 7 * length l.place-iterator.b.rest.now ≤ 1 + 7 * length l.values)
    × (first_large l.place-iterator.a.start l.place-iterator.b.rest.now ≡ first_large 2 l.values)
    × (l.text.bytes ++ tabbed (map decimal l.place-iterator.b.rest.now) ≡ l.initial.text.bytes ++ tabbed (map decimal l.values))
