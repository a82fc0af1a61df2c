-- Two books as one: book number 0 is the left one's, any other the right one's, lowered by 1.
use Rattle.std.specs.Prelude.{◌-◌, Bool, false, cond, ◌==◌}
use Rattle.base.specs.declared.«record».Record.{Record}
use Rattle.base.specs.Meaning.{Meaning}

abbrev pub on_left : Record → Bool
on_left r = r.book == 0

abbrev pub lower : Record → Record
lower r = record { book = r.book - 1; act = r.act; x = r.x; y = r.y; z = r.z }

-- each side has its own part of the state; records on different sides never clash
abbrev pub paired : {S T : Type 0} → Meaning S → Meaning T → Meaning (S × T)
paired m n = record {
  initial = (m.initial, n.initial);
  misfit = λ r. cond (on_left r) (m.misfit r) (n.misfit (lower r));
  clashes = λ a b.
      cond (on_left a) (cond (on_left b) (m.clashes a b) false)
      (cond (on_left b) false (n.clashes (lower a) (lower b)));
  result = λ s r. cond (on_left r) (m.result s.0 r) (n.result s.1 (lower r));
  after = λ s r. cond (on_left r) (m.after s.0 r, s.1) (s.0, n.after s.1 (lower r));
}
