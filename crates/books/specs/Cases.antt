-- The shipped books, and five pairs of records that fit them: which of them clash.
use Rattle.std.specs.Prelude.{◌≡◌, ℕ, Bool, true, false, List, [], ◌∷◌, map, None}
use Rattle.base.specs.declared.«record».Record.{Record}
use Rattle.base.specs.Meaning.{Meaning}
use Rattle.books.specs.Cards.{Slots, cards, writing}
use Rattle.books.specs.Pairs.{paired}
use Rattle.books.specs.Windows.{Timetable, windows, booking}

-- the cards are book 0, the windows book 1
abbrev pub shipped : Meaning (Slots × Timetable)
shipped = paired cards windows

abbrev pub write_slot : ℕ → Record
write_slot slot = record { book = 0; act = writing; x = slot; y = 1; z = 0 }

abbrev pub book_hours : ℕ → ℕ → ℕ → Record
book_hours vehicle from end = record { book = 1; act = booking; x = vehicle; y = from; z = end }

-- the definitions computed, and what the code says of the five pairs, in the same order
pub record ClashCases (said : List Bool) : Type 0 where
  pub same_slot : shipped.clashes (write_slot 7) (write_slot 7) ≡ true
  pub other_slot : shipped.clashes (write_slot 7) (write_slot 8) ≡ false
  pub next_hours : shipped.clashes (book_hours 3 8 10) (book_hours 3 10 12) ≡ false
  pub common_hour : shipped.clashes (book_hours 3 8 10) (book_hours 3 9 12) ≡ true
  pub other_vehicle : shipped.clashes (book_hours 3 8 10) (book_hours 4 8 10) ≡ false
  pub all_fit : map shipped.misfit (write_slot 7 ∷ write_slot 8 ∷ book_hours 3 8 10 ∷ book_hours 3 10 12 ∷ book_hours 3 9 12 ∷ book_hours 4 8 10 ∷ []) ≡
      None ∷ None ∷ None ∷ None ∷ None ∷ None ∷ []
  pub code : said ≡ true ∷ false ∷ false ∷ true ∷ false ∷ []
