use Rattle.ab_consequences.proofs.Permuted.{permuted_stands}
use Rattle.ab_consequences.proofs.laws.permuted_formulas_stand.Goals as goal

pub returns : goal.returns
returns c D s ns A F is may among here = permuted_stands D s ns A is may among F here
