use Rattle.std.proofs.Common.{sym}
use Rattle.ab_renumbered_derivations.proofs.Derivations.{also}
use Rattle.ab_renumbered_derivations.proofs.laws.derivations_by_other_numbers.Goals as goal

pub returns : goal.returns
returns c D d s sound valid is its same = also D sound d s valid is its (sym same)
