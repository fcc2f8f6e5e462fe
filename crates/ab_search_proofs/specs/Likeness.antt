-- SEQUENTS LIKE A GOAL of a search. A search takes nominal constants and variables that are new on its branch, and the rules take the least
-- that the sequent leaves. So a sequent is like a goal where each of its formulas is the goal's, past hints, but for the formula's
-- constants, which are permuted, and for the variables, which are others.
use Rattle.std.specs.Prelude.{◌≡◌, ◌≢◌, ◌↔◌, ℕ, List, map, codes, All, AllPairs, Contains}
use Rattle.ab_term.specs.Types.{Ty}
use Rattle.ab_term.specs.Terms as tree
use Rattle.ab_term.specs.Terms.{Nominal, nominal, Read}
use Rattle.ab_term.specs.Names.{EqualUpToNames}
use Rattle.ab_term.specs.Abstraction.{over, abstracted, given_names}
use Rattle.ab_term.specs.Variables.{Substitution, image}
use Rattle.ab_term.specs.Sameness.{same_number}
use Rattle.ab_unifiers.specs.Clauses.{Each}
use Rattle.ab_formulas.specs.Declarations.{Declarations, signature_in}
use Rattle.ab_formulas.specs.Formulas.{IsFormula}
use Rattle.ab_formulas.specs.GoalTerms.{HoldsOnly}
use Rattle.ab_formulas.specs.Sequents.{Variable, Sequent, formulas, in_terms}

-- A VARIABLE OF THE GOAL, BY ITS NUMBER, AND ONE OF THE SEQUENT THAT STANDS IN FOR IT. The first depends on some constants, and the
-- second on the same in another order: each was raised over constants in order of number, and the numbers are others.
pub record StandIn : Type 0 where
  pub number : ℕ
  pub constants : List Nominal
  pub variable : Variable
  pub reordered : List Nominal
  -- of both, once they are given their constants
  pub type : Ty

-- as terms of the goal hold the first
abbrev pub replaced : StandIn → tree.Variable ℕ
replaced v = record { name = v.number; type = over v.constants v.type }

-- the second, put in for the first
abbrev pub put_in : StandIn → Read
put_in v = abstracted (codes "x") (over v.constants v.type) (map nominal v.constants) (given_names (codes "x") (in_terms v.variable) v.reordered v.type)

abbrev pub replacing : List StandIn → Substitution ℕ (List ℕ)
replacing vs = map (λ v. (replaced v, put_in v)) vs

-- IT STANDS IN, in the sequent
pub record IsStandIn (s : Sequent) (v : StandIn) : Type 0 where
  pub there : Contains s.variables v.variable
  pub typed : v.variable.type ≡ over v.reordered v.type
  pub same : (a : Nominal) → Contains v.constants a ↔ Contains v.reordered a
  pub once : AllPairs (λ a b. a ≢ b) v.constants
  pub once_reordered : AllPairs (λ a b. a ≢ b) v.reordered

-- and each variable for one other
pub record AreStandIns (s : Sequent) (vs : List StandIn) : Type 0 where
  pub all : All (IsStandIn s) vs
  pub numbers_differ : AllPairs (λ (v w : StandIn). v.number ≢ w.number) vs
  pub variables_differ : AllPairs (λ (v w : StandIn). v.variable.number ≢ w.variable.number) vs

module _ (D : Declarations) (vs : List StandIn) where
  -- A FORMULA LIKE ANOTHER, which holds these variables alone: past hints, and but for constants and for them
  pub record IsLike (F G : Read) : Type 0 where
    pub formula : IsFormula (signature_in D) F
    pub known : HoldsOnly (map replaced vs) F
    pub same : EqualUpToNames (image same_number (replacing vs) F) G

  -- A SEQUENT LIKE A GOAL: its hypotheses are like the goal's, one by one, and its conclusion is like the goal's
  pub record IsLikeGoal (Hs : List Read) (C : Read) (s : Sequent) : Type 0 where
    pub variables : AreStandIns s vs
    pub hypotheses : Each IsLike Hs (formulas s.hypotheses)
    pub conclusion : IsLike C s.conclusion

  -- one sequent for each conclusion, of the same hypotheses
  abbrev pub AreLike : List Read → List Read → List Sequent → Type 0
  AreLike Hs = Each (IsLikeGoal Hs)
