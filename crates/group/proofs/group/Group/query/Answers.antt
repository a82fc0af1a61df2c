use Rattle.protocol.proofs.Conclusion.{reached_kept}
use Rattle.group.specs.View.{state_of}
use Rattle.group.proofs.group.Group.query.Goals as goal

-- src/group/query.rt
pub returns-in_default-clause-promise : goal.returns-in_default-clause-promise
returns-in_default-clause-promise g c = reached_kept g.B.Book.meaning g.met.B.Book.lawful g.L.Log.limit (state_of g.B.Book g.L.Log c.args.self.now)

-- src/group/query.rt
pub returns-clause-promise : goal.returns-clause-promise
returns-clause-promise g c = reached_kept g.B.Book.meaning g.met.B.Book.lawful g.L.Log.limit (state_of g.B.Book g.L.Log c.args.self.now)
