use Rattle.ab_theory.proofs.Rooted.{open_are_sequents}
use Rattle.ab_derived_goals.proofs.Extending.{extended}
use Rattle.ab_derived_goals.proofs.laws.derivations_go_on.Goals as goal

pub returns-clause-extended : goal.returns-clause-extended
returns-clause-extended c D d s ps rest owed valid e derived = extended D s ps owed derived d rest valid e

pub returns-clause-sequents : goal.returns-clause-sequents
returns-clause-sequents c D d sound valid is = open_are_sequents D sound.sentences sound.definitions sound.programs sound.member d valid is
