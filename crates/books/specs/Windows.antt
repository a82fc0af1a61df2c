-- The windows: 16 vehicles, each with a week of 168 hours that are free or taken.
use Rattle.std.specs.Prelude.{ℕ, Bool, true, false, cond, ◌&&◌, ◌||◌, Some, None, Option, ◌==◌, nat_le, nat_lt}
use Rattle.base.specs.declared.«record».Record.{Record}
use Rattle.base.specs.Fields.{book_field, act_field, x_field, y_field, z_field}
use Rattle.base.specs.Meaning.{Meaning}
use Rattle.books.specs.Fitting.{for_fitting}
use Rattle.books.specs.Tables.{put, tally}

-- which hours of a week are taken
abbrev pub Hours : Type 0
Hours = ℕ → Bool

-- the week of each vehicle
abbrev pub Timetable : Type 0
Timetable = ℕ → Hours

-- how many of the hours from the first up to, but without, the end are taken
abbrev pub taken_between : Hours → ℕ → ℕ → ℕ
taken_between week from end = tally end (λ hour. nat_le from hour && week hour)

-- the week with these hours all taken, or all free
abbrev pub marked : Hours → ℕ → ℕ → Bool → Hours
marked week from end taken hour = cond (nat_le from hour && nat_lt hour end) taken (week hour)

-- the acts: 1 asks whether the hours are free
abbrev pub booking : ℕ
booking = 0

abbrev pub freeing : ℕ
freeing = 2

abbrev pub windows_misfit : Record → Option ℕ
windows_misfit r =
    cond (nat_lt 0 r.book) (Some book_field)
    (cond (nat_lt freeing r.act) (Some act_field)
    (cond (nat_lt 15 r.x) (Some x_field)
    (cond (nat_lt 167 r.y) (Some y_field)
    (cond (nat_le r.z r.y || nat_lt 168 r.z) (Some z_field) None))))

-- freeing tells how many hours were taken; the other acts tell 1 where none is, and 0 where one is
abbrev pub windows_result : Timetable → Record → ℕ
windows_result s r =
    let taken = taken_between (s r.x) r.y r.z in
    cond (r.act == freeing) taken (cond (taken == 0) 1 0)

-- the weeks with the record's hours all taken, or all free
abbrev pub with_hours : Timetable → Record → Bool → Timetable
with_hours s r taken = put s r.x (marked (s r.x) r.y r.z taken)

-- booking takes the hours where all are free; freeing frees them
abbrev pub windows_after : Timetable → Record → Timetable
windows_after s r =
    cond (r.act == booking && windows_result s r == 1) (with_hours s r true)
    (cond (r.act == freeing) (with_hours s r false) s)

-- two records have an hour of one vehicle in common
abbrev pub overlap : Record → Record → Bool
overlap a b = a.x == b.x && (nat_lt a.y b.z && nat_lt b.y a.z)

abbrev pub timetables : Meaning Timetable
timetables = record {
  initial = λ _ _. false;
  misfit = windows_misfit;
  clashes = overlap;
  result = windows_result;
  after = windows_after;
}

abbrev pub windows : Meaning Timetable
windows = for_fitting timetables
