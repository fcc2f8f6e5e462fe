use Rattle.std.specs.Prelude.{All}
use Rattle.std.proofs.lemmas.List.Elements.{All-head}
use Rattle.ab_formulas.specs.Sequents.{formulas}
use Rattle.ab_theory.proofs.Sequents.{goal_of}
use Rattle.ab_consequences.proofs.Rows.{applied_so, backchained_so}
use Rattle.ab_consequences.proofs.laws.what_is_asked_of_a_use_suffices.Goals as goal

pub returns-clause-apply : goal.returns-clause-apply
returns-clause-apply c D s F n gs hs is may fitting enough mays long serve = applied_so D s is F may n gs fitting enough hs mays long serve

pub returns-clause-backchain : goal.returns-clause-backchain
returns-clause-backchain c D s F n gs is may fitting enough serve = backchained_so D s is F may n gs fitting enough s.conclusion (goal_of D s is).conclusion serve
