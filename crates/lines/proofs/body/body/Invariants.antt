use Rattle.std.proofs.Common.{◌≡◌, ◌++◌, take, drop}
use Rattle.lines.specs.Forms.{ended, body}
use Rattle.lines.proofs.body.body.Given as goal

abbrev pub invariant-loop-i : goal.invariant-loop-i
invariant-loop-i l = (ended (drop l.i l.line) ≡ ended l.line) × (take l.i l.line ++ body (drop l.i l.line) ≡ body l.line)
