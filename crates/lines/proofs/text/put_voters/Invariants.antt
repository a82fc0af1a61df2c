use Rattle.std.proofs.Common.{◌≡◌, ◌+◌, ◌-◌, ◌≤◌, ◌++◌}
use Rattle.arrayvec.specs.ArrayString.{array_string_len}
use Rattle.lines.specs.Writing.{members, set_of}
use Rattle.lines.proofs.text.put_voters.Given as goal

abbrev pub invariant-loop-d : goal.invariant-loop-d
invariant-loop-d l =
    (array_string_len l.text ≤ array_string_len l.initial.text + l.d)
    × (l.text.bytes ++ members (10 - l.d) l.d l.voters ≡ l.initial.text.bytes ++ set_of l.voters)
