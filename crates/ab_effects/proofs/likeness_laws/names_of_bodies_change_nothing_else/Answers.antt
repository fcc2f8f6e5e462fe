use Rattle.ab_formulas.specs.NewNames.{IsNamedFor}
use Rattle.ab_effects.proofs.Namings.{named_for}
use Rattle.ab_effects.proofs.Relabelling.{split_relabelled, unsplit_relabelled}
use Rattle.ab_effects.proofs.likeness_laws.names_of_bodies_change_nothing_else.Goals as goal

pub returns-clause-split : goal.returns-clause-split
returns-clause-split c = λ D s rest x y z cells gs new a. split_relabelled x y s rest new (IsNamedFor D) (λ s u hint name alike n. named_for D s u hint name alike n) z cells gs a

pub returns-clause-unsplit : goal.returns-clause-unsplit
returns-clause-unsplit c = λ D s rest x y z cells i new a. unsplit_relabelled x y s rest new (IsNamedFor D) (λ s u hint name alike n. named_for D s u hint name alike n) z cells i a
