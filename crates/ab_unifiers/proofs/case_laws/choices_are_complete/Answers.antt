use Rattle.ab_unifiers.proofs.Matching.{choices_different, choice_right, matched}
use Rattle.ab_unifiers.proofs.case_laws.choices_are_complete.Goals as goal

pub returns-clause-once : goal.returns-clause-once
returns-clause-once g = λ As free held f d. choices_different As free held f d

pub returns-clause-right : goal.returns-clause-right
returns-clause-right g = λ As free held f cs m. choice_right As free held f cs m

pub returns-clause-all : goal.returns-clause-all
returns-clause-all g = λ As free sequent held f s ns t d w. matched As free sequent held f s ns t d w
