use Rattle.std.proofs.Common.{length}
use Rattle.ab_alternatives.proofs.quantifiers.+nabla_all.Given as goal

abbrev pub decreases-nabla_all : goal.decreases-nabla_all
decreases-nabla_all l = length l.hints.now
