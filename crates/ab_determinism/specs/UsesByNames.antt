-- ONE USE OF ONE FORMULA, read over two lists of numbers: with names for the variables' numbers both goals are the same, and so
-- are the formula, the terms that are given, and what the formula is used for.
use Rattle.std.specs.Prelude.{◌≡◌, Option, Some, None}
use Rattle.ab_term.specs.Terms.{Read}
use Rattle.ab_unifiers.specs.Clauses.{Each}
use Rattle.ab_formulas.specs.Declarations.{Declarations}
use Rattle.ab_formulas.specs.Sequents.{Sequent, IsSequent}
use Rattle.ab_formulas.specs.NamedGoals.{named}
use Rattle.ab_effects.specs.Likeness.{IsSameTerm}
use Rattle.ab_theory.specs.Pieces.{Part, variable_for, given_term, constant_for, antecedent}
use Rattle.ab_theory.specs.UseAnswers.{Using}

abbrev pub IsSamePart : Sequent → Sequent → Part → Part → Type 0
IsSamePart s u (variable_for x A) (variable_for y B) = (x ≡ y) × (A ≡ B)
IsSamePart s u (given_term t) (given_term v) = IsSameTerm s u t v
IsSamePart s u (constant_for A) (constant_for B) = A ≡ B
IsSamePart s u antecedent antecedent = Unit {0}
IsSamePart s u _ _ = ⊥

abbrev pub IsSameIfAny : Sequent → Sequent → Option Read → Option Read → Type 0
IsSameIfAny s u None None = Unit {0}
IsSameIfAny s u (Some F) (Some G) = IsSameTerm s u F G
IsSameIfAny s u _ _ = ⊥

pub record IsSameUse (D : Declarations) (a b : Using) : Type 0 where
  pub first : IsSequent D a.goal
  pub second : IsSequent D b.goal
  pub goals : named a.goal ≡ named b.goal
  pub formulas : IsSameTerm a.goal b.goal a.formula b.formula
  pub parts : Each (IsSamePart a.goal b.goal) a.parts b.parts
  pub hypotheses : Each (IsSameIfAny a.goal b.goal) a.aim.hypotheses b.aim.hypotheses
  pub conclusions : IsSameIfAny a.goal b.goal a.aim.conclusion b.aim.conclusion
