use Rattle.std.proofs.Common.{◌<◌, length, ap, ◌∙◌, rules}
use Rattle.books.specs.Tables.{put}
use Rattle.books.specs.Weeks.{hours_of, timetable_of, no_week}
use Rattle.books.specs.TablesLemmas.{read_set}
use Rattle.books.proofs.windows.WindowTable.mark.Goals as goal

-- src/windows.rt
pub returns : goal.returns
returns c =
    let there : c.args.job.x < length c.args.self.now.weeks = search rules in
    read_set hours_of c.args.self.now.weeks c.args.job.x c.mark.new.self no_week there ∙
    ap (put (timetable_of c.args.self.now.weeks) c.args.job.x) c.mark.ensures
