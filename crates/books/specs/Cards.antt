-- The cards: 256 slots, each with a value.
use Rattle.std.specs.Prelude.{ℕ, cond, List, Some, None, Option, ◌==◌, nat_lt, slice_index}
use Rattle.base.specs.declared.«record».Record.{Record}
use Rattle.base.specs.Fields.{book_field, act_field, x_field, y_field, z_field}
use Rattle.base.specs.Meaning.{Meaning}
use Rattle.books.specs.Fitting.{for_fitting}
use Rattle.books.specs.Tables.{put}

-- the value in each slot
abbrev pub Slots : Type 0
Slots = ℕ → ℕ

-- the stored values by slot
abbrev pub slots_of : List ℕ → Slots
slots_of values slot = slice_index values slot

-- the acts: 0 reads
abbrev pub writing : ℕ
writing = 1

abbrev pub clearing : ℕ
clearing = 2

-- the largest y of an act: only writing takes a value
abbrev pub largest_value : ℕ → ℕ
largest_value act = cond (act == writing) 999999 0

abbrev pub cards_misfit : Record → Option ℕ
cards_misfit r =
    cond (nat_lt 0 r.book) (Some book_field)
    (cond (nat_lt clearing r.act) (Some act_field)
    (cond (nat_lt 255 r.x) (Some x_field)
    (cond (nat_lt (largest_value r.act) r.y) (Some y_field)
    (cond (nat_lt 0 r.z) (Some z_field) None))))

-- the result is the slot's value before the act; two records clash on one slot
abbrev pub slots : Meaning Slots
slots = record {
  initial = λ _. 0;
  misfit = cards_misfit;
  clashes = λ a b. (a.x == b.x);
  result = λ s r. s r.x;
  after = λ s r. cond (r.act == writing) (put s r.x r.y) (cond (r.act == clearing) (put s r.x 0) s);
}

abbrev pub cards : Meaning Slots
cards = for_fitting slots
