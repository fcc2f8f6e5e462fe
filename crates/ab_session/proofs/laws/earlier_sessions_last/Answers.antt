use Rattle.ab_session.proofs.Lasting.{earlier_lasts}
use Rattle.ab_session.proofs.laws.earlier_sessions_last.Goals as goal

pub returns : goal.returns
returns c = λ s t is before. earlier_lasts s t is.sound before
