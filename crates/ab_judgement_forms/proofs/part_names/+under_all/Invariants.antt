use Rattle.std.proofs.Common.{length}
use Rattle.ab_judgement_forms.proofs.part_names.+under_all.Given as goal

abbrev pub decreases-under_all : goal.decreases-under_all
decreases-under_all l = length l.names.now
