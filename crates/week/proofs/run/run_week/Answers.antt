use Rattle.week.proofs.Running.{short}
use Rattle.week.proofs.run.run_week.Goals as goal

pub returns : goal.returns
returns g c =
    short g.B.Book.meaning g.L.Log.limit c.args.file.now _ _ c.new-report.ensures.items c.in_ok-run_lines.ensures c.if-file-gt-LONGEST_FILE.false
