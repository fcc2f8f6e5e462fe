use Rattle.ab_effects.proofs.Unfolding.{ways_correspond, ways_leave_bodies}
use Rattle.ab_effects.proofs.likeness_laws.subjects_unfold_in_one_way.Goals as goal

pub returns-clause-outcomes : goal.returns-clause-outcomes
returns-clause-outcomes c = λ D s u x y cells others same are also. ways_correspond D s u x y same cells others are also

pub returns-clause-bodies : goal.returns-clause-bodies
returns-clause-bodies c = ways_leave_bodies
