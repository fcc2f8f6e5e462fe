use Rattle.ab_pattern_matching.proofs.Again.{again}
use Rattle.ab_pattern_matching.proofs.laws.alternatives_unify_again.Goals as goal

pub returns : goal.returns
returns g c = λ sg x k ns ps first second args more_args ys more q f clause types permutation d ka o i m p low_a low_b low e d2 k2 o2. again sg x k ns ps first second args more_args ys more q f clause types permutation d ka o i m p low_a low_b low e d2 k2 o2
