use Rattle.ab_run.proofs.OneReport.{one_report_of}
use Rattle.ab_run.proofs.laws.texts_have_one_report.Goals as goal

pub returns : goal.returns
returns c = one_report_of
