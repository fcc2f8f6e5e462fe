use Rattle.ab_consequences.proofs.Newest.{put_in_one_by_one}
use Rattle.ab_consequences.proofs.UsesFollow.{leads_newly}
use Rattle.ab_consequences.proofs.laws.new_constants_fill_what_a_use_leaves_open.Goals as goal

pub returns-clause-leads : goal.returns-clause-leads
returns-clause-leads c D cells u names known K may are first is within = leads_newly D cells u names known K may are first is within

pub returns-clause-one_by_one : goal.returns-clause-one_by_one
returns-clause-one_by_one c known ys = put_in_one_by_one known ys
