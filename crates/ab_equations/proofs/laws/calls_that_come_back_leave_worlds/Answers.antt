use Rattle.ab_equations.proofs.Restored.{came_back, back_meanwhile}
use Rattle.ab_equations.proofs.laws.calls_that_come_back_leave_worlds.Goals as goal

pub returns-clause-world : goal.returns-clause-world
returns-clause-world c = λ w v is back. came_back w v is back

pub returns-clause-meanwhile : goal.returns-clause-meanwhile
returns-clause-meanwhile c = λ w v is back. back_meanwhile w v is back
