use Rattle.ab_coverage.proofs.TakenTerms.{taken_terms}
use Rattle.ab_coverage.proofs.laws.names_can_be_taken_off.Goals as goal

pub returns : goal.returns
returns c = λ sg q n m p. taken_terms sg q n m p
