-- The place of each number of a record in its written form; the letter is at place 1.
use Rattle.std.specs.Prelude.{ℕ}

abbrev pub book_field : ℕ
book_field = 2

abbrev pub act_field : ℕ
act_field = 3

abbrev pub x_field : ℕ
x_field = 4

abbrev pub y_field : ℕ
y_field = 5

abbrev pub z_field : ℕ
z_field = 6
