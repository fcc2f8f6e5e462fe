use Rattle.ab_unifiers.proofs.Equality.{equality_covered}
use Rattle.ab_unifiers.proofs.case_laws.equations_cover.Goals as goal

pub returns : goal.returns
returns g c = λ sg x sequent scope t u A d e in_t in_u s typed clean same a p. equality_covered sg x s typed sequent scope.different scope.numbered t u A d e in_t in_u clean same a p
