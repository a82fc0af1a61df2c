use Rattle.week.proofs.calls.perform.Goals as goal

pub returns-in-Hear-clause-state : goal.returns-in-Hear-clause-state
returns-in-Hear-clause-state g c = rw c.in-Hear.is c.hear.ensures.state
