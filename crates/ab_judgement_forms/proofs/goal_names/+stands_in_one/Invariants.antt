use Rattle.std.proofs.Common.{length}
use Rattle.ab_judgement_forms.proofs.goal_names.+stands_in_one.Given as goal

abbrev pub decreases-stands_in_one : goal.decreases-stands_in_one
decreases-stands_in_one l = length l.terms.now
