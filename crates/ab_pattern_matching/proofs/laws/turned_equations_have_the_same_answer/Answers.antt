use Rattle.ab_pattern_matching.proofs.Turning.{sides_turned}
use Rattle.ab_pattern_matching.proofs.laws.turned_equations_have_the_same_answer.Goals as goal

pub returns : goal.returns
returns g c = λ sg x es cells ys a d k p. sides_turned sg x es cells ys a d k p
