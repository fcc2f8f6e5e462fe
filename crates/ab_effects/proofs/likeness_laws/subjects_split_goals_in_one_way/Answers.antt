use Rattle.ab_formulas.specs.NewNames.{IsNoVariable, IsNamedFor}
use Rattle.ab_theory.proofs.Naming.{one_name}
use Rattle.ab_effects.proofs.Namings.{no_variable, named_for}
use Rattle.ab_effects.proofs.Splitting.{split_also, unsplit_also, one_split, split_or_not, one_place}
use Rattle.ab_effects.proofs.likeness_laws.subjects_split_goals_in_one_way.Goals as goal

pub returns-clause-split : goal.returns-clause-split
returns-clause-split c = λ D s u rest left name x y cells others gs same is are also a.
    split_also D s u x y same cells others are also rest left is name (IsNamedFor D) (λ s u hint name alike n. named_for D s u hint name alike n) gs a

pub returns-clause-one : goal.returns-clause-one
returns-clause-one c = λ D s u rest left name x y cells others gs hs same is are also a b.
    one_split D s u x y same cells others are also rest left is name (IsNamedFor D) (λ s u hint name alike n. named_for D s u hint name alike n) (λ s hint name other a b. one_name D s hint name other a b) gs hs a b

pub returns-clause-freely : goal.returns-clause-freely
returns-clause-freely c = λ D s u rest left name x y cells others gs same is are also a.
    split_also D s u x y same cells others are also rest left is name (λ k hint z. IsNoVariable k z) (λ s u hint name alike n. no_variable s u name alike n) gs a

pub returns-clause-unsplit : goal.returns-clause-unsplit
returns-clause-unsplit c = λ D s u rest left name x y cells others i same is are also a.
    unsplit_also D s u x y same cells others are also rest left is name (IsNamedFor D) (λ s u hint name alike n. named_for D s u hint name alike n) i a

pub returns-clause-one_place : goal.returns-clause-one_place
returns-clause-one_place c = λ D s u rest left name x y cells others i j same is are also a b.
    one_place D s u x y same cells others are also rest left is name (IsNamedFor D) (λ s u hint name alike n. named_for D s u hint name alike n) (λ s hint name other a b. one_name D s hint name other a b) i j a b

pub returns-clause-split_or_not : goal.returns-clause-split_or_not
returns-clause-split_or_not c = λ D s u rest left name x y cells others gs i same is are also a b.
    split_or_not D s u x y same cells others are also rest left is name (IsNamedFor D) (λ s u hint name alike n. named_for D s u hint name alike n) (λ s hint name other a b. one_name D s hint name other a b) gs i a b
