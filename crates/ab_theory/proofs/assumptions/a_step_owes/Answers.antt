use Rattle.ab_theory.proofs.Debts.{owes-refined, gaps-refined}
use Rattle.ab_theory.proofs.assumptions.a_step_owes.Goals as goal

pub returns : goal.returns
returns c = record { owes = owes-refined; gaps = gaps-refined }
