use Rattle.ab_run.proofs.Reports.{ended_text}
use Rattle.ab_run.proofs.laws.last_reply_ends_a_report.Goals as goal

pub returns : goal.returns
returns c = λ way text more loads r x e. ended_text text more loads r x e
