use Rattle.std.proofs.Common.{is_some, ap, ◌∙◌}
use Rattle.group.proofs.Logged.{has_place}
use Rattle.group.proofs.group.Group.logged.Goals as goal

-- src/group/reads.rt
pub returns : goal.returns
returns g c = c.is_some.ensures ∙ ap is_some c.place_in.ensures ∙ has_place 0 c.args.job (g.L.Log.entries c.args.self.now.log)
