use Rattle.ab_formulas.specs.NewNames.{IsNoVariable, IsNamedFor}
use Rattle.ab_theory.proofs.Naming.{one_name}
use Rattle.ab_effects.proofs.Namings.{no_variable, named_for}
use Rattle.ab_effects.proofs.Outcomes.{apart_also, stuck_also, one_goal, becomes_also}
use Rattle.ab_effects.proofs.likeness_laws.equations_have_one_outcome.Goals as goal

pub returns-clause-becomes : goal.returns-clause-becomes
returns-clause-becomes c = λ D s u t r v w cells others h same are also d. becomes_also D s u t r v w same cells others are also (IsNamedFor D) (λ s u hint name alike n. named_for D s u hint name alike n) h d

pub returns-clause-one : goal.returns-clause-one
returns-clause-one c = λ D s u t r v w cells others h k same are also d e.
    one_goal D s u t r v w same cells others are also (IsNamedFor D) (λ s u hint name alike n. named_for D s u hint name alike n) (λ s hint name other a b. one_name D s hint name other a b) h k d e

pub returns-clause-freely : goal.returns-clause-freely
returns-clause-freely c = λ D s u t r v w cells others h same are also d.
    becomes_also D s u t r v w same cells others are also (λ k hint name. IsNoVariable k name) (λ s u hint name alike n. no_variable s u name alike n) h d

pub returns-clause-apart : goal.returns-clause-apart
returns-clause-apart c = λ D s u t r v w cells others same are also d. apart_also D s u t r v w same cells others are also d

pub returns-clause-stuck : goal.returns-clause-stuck
returns-clause-stuck c = λ D s u t r v w cells others same are also d. stuck_also D s u t r v w same cells others are also d
