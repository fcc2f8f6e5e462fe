use Rattle.ab_pattern_matching.proofs.Over.{matches_over}
use Rattle.ab_pattern_matching.proofs.laws.what_unifies_matches_over_other_constants.Goals as goal

pub returns : goal.returns
returns g c = λ sg x es ds cells more others ys ws ts r s ps q f d k o i m w l p a b two lefts d2 k2 o2 l2 n. matches_over sg x es ds cells more others ys ws ts r s ps q f d k o i m w l p a b two lefts d2 k2 o2 l2 n
