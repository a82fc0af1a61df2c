use Rattle.week.proofs.Retelling.{told_after}
use Rattle.week.proofs.theorem.reports_tell_history.Goals as goal

pub returns : goal.returns
returns g c = told_after g.B.Book.meaning g.L.Log.limit
