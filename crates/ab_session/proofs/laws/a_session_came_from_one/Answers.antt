use Rattle.ab_session.proofs.Single.{came_from_one}
use Rattle.ab_session.proofs.laws.a_session_came_from_one.Goals as goal

pub returns : goal.returns
returns c = came_from_one
