use Rattle.ab_run.proofs.Reports.{begins}
use Rattle.ab_run.proofs.laws.reports_begin_alike.Goals as goal

pub returns : goal.returns
returns c = λ way first others s loads r x. begins first others s loads r x
