-- HOW A FORMULA LEADS TO ANOTHER: what stands in front of it is taken off, one after another. A term is put for the name of a `forall`,
-- a constant for that of a `nabla`, and antecedents are met by formulas that are given.
use Rattle.std.specs.Prelude.{◌≡◌, ℕ, List, [], ◌∷◌, Some, Contains}
use Rattle.ab_term.specs.Types.{Ty}
use Rattle.ab_term.specs.Terms.{Nominal, Read}
use Rattle.ab_term.specs.Typing.{Signature}
use Rattle.ab_term.specs.Names.{support, EqualUpToNames}
use Rattle.ab_term.specs.Substitution.{instance}
use Rattle.ab_formulas.specs.Forms.{as_for_all, as_nabla, as_implies}
use Rattle.ab_formulas.specs.Marks.{erased, MarksServeIn}
use Rattle.ab_formulas.specs.Sequents.{Variable, Sequent, formula_of}
use Rattle.ab_theory.specs.Rules.{name_term}
use Rattle.ab_theory.proofs.RulesParts.{MayBePut}

-- what is taken off a formula, with what is put there
pub data Stage : Type 0 where
  -- a `forall`, by this term
  instance_by : Read → Stage
  -- a `nabla`, by this constant
  chosen : Nominal → Stage
  -- an antecedent
  met : Stage

-- THE FIRST FORMULA, WHICH IS GIVEN, MEETS THE SECOND, which is asked for: they are the same but for marks, hints, and nominal
-- constants that change places; and the marks serve
abbrev pub Meets : Read → Read → Type 0
Meets F A = EqualUpToNames (erased F) (erased A) × MarksServeIn A F

-- over these variables and these nominal constants
module _ (sg : Signature) (xs : List Variable) (N : List Nominal) where
  -- THE FORMULA LEADS by the stages to one that meets the last; its antecedents are met by these
  abbrev pub LeadsBy : List Stage → Read → List Read → Read → Type 0
  LeadsBy [] F [] R = Meets F R
  LeadsBy [] F (H ∷ Hs) R = ⊥
  LeadsBy (instance_by t ∷ ss) F Hs R = (q : Ty × Read) × (as_for_all F ≡ Some q) × MayBePut sg xs N q.0 t × LeadsBy ss (instance q.1 t) Hs R
  LeadsBy (chosen a ∷ ss) F Hs R = (G : Read) × (as_nabla F ≡ Some (a.type, G)) × (¬ Contains (support F) a) × Contains N a × LeadsBy ss (instance G (name_term a)) Hs R
  LeadsBy (met ∷ ss) F [] R = ⊥
  LeadsBy (met ∷ ss) F (H ∷ Hs) R = (p : Read × Read) × (as_implies F ≡ Some p) × Meets H p.0 × LeadsBy ss p.1 Hs R

-- the goal has hypotheses of these names with these formulas
abbrev pub HasNamed : Sequent → List (List ℕ) → List Read → Type 0
HasNamed k [] [] = Unit {0}
HasNamed k (z ∷ zs) (H ∷ Hs) = (formula_of k z ≡ Some H) × HasNamed k zs Hs
HasNamed k _ _ = ⊥
