use Rattle.ab_meaning.proofs.Standing.{IsDeclared}
use Rattle.ab_meaning.proofs.Resolving.{names_are_declared}
use Rattle.ab_meaning.proofs.Makings.{one_too, none_too, open_too}
use Rattle.ab_meaning.proofs.sentence_laws.statements_have_no_free_names.Goals as goal

pub returns-clause-one : goal.returns-clause-one
returns-clause-one c s closed e named is made other A raw = one_too IsDeclared made other named A (names_are_declared s closed e named is) raw

pub returns-clause-none : goal.returns-clause-none
returns-clause-none c s closed e named is made other A = none_too IsDeclared made other named A (names_are_declared s closed e named is)

pub returns-clause-several : goal.returns-clause-several
returns-clause-several c s closed e named is made other A place = open_too IsDeclared made other named A (names_are_declared s closed e named is) place
