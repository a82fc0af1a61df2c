-- The stored weeks, read as tables.
use Rattle.std.specs.Prelude.{false, List, [], slice_index_or}
use Rattle.books.specs.declared.week.Week.{Week}
use Rattle.books.specs.Windows.{Hours, Timetable}

abbrev pub hours_of : Week → Hours
hours_of w hour = slice_index_or w.taken hour false

-- what stands for a vehicle that there is not
abbrev pub no_week : Week
no_week = record { taken = [] }

abbrev pub timetable_of : List Week → Timetable
timetable_of weeks vehicle = hours_of (slice_index_or weeks vehicle no_week)
