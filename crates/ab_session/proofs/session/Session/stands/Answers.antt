use Rattle.std.proofs.Common.{subst}
use Rattle.ab_session.specs.Origins.{IsSession}
use Rattle.ab_session.proofs.session.Session.stands.Goals as goal

pub returns : goal.returns
returns c = subst IsSession c.self.view_is c.self.invariant
