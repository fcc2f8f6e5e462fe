-- WHAT A USE LEADS TO FOLLOWS: what is given for it, and what is asked of the formula.
use Rattle.std.specs.Prelude.{◌≡◌, ◌≢◌, ℕ, suc, List, [], ◌∷◌, ◌++◌, map, length, All, AllPairs, Contains, IfSome, Option, Some, None, unwrap_or}
use Rattle.ab_term.specs.Terms.{Nominal, Read}
use Rattle.ab_term.specs.Names.{HasOneTypeEach}
use Rattle.ab_formulas.specs.Declarations.{Declarations, signature_in}
use Rattle.ab_formulas.specs.Marks.{MarksServeIn}
use Rattle.ab_formulas.specs.Sequents.{Sequent, Variable, Hypothesis, HoldsOnly, IsSequent, formula_of, formulas_of, goal_names}
use Rattle.ab_theory.specs.Pieces.{Part, variable_for, given_term, constant_for, antecedent}
use Rattle.ab_theory.specs.Uses.{given_constants, types_chosen, use_by}
use Rattle.ab_theory.specs.UseAnswers.{Using, awaited, result_in}
use Rattle.ab_theory.proofs.RulesParts.{MayStand}
use Rattle.ab_consequences.specs.Leading.{Stage, LeadsBy, HasNamed}
use Rattle.ab_consequences.specs.UseStages.{HasParts}

abbrev pub antecedents_among : List Part → ℕ
antecedents_among [] = 0
antecedents_among (variable_for x A ∷ ps) = antecedents_among ps
antecedents_among (given_term t ∷ ps) = antecedents_among ps
antecedents_among (constant_for A ∷ ps) = antecedents_among ps
antecedents_among (antecedent ∷ ps) = suc (antecedents_among ps)

-- the terms that are given hold these variables alone
abbrev pub GivenOver : List Variable → List Part → Type 0
GivenOver xs [] = Unit {0}
GivenOver xs (variable_for x A ∷ ps) = GivenOver xs ps
GivenOver xs (given_term t ∷ ps) = HoldsOnly xs t × GivenOver xs ps
GivenOver xs (constant_for A ∷ ps) = GivenOver xs ps
GivenOver xs (antecedent ∷ ps) = GivenOver xs ps

-- the marks of what is given serve the antecedents
abbrev pub MarksServeEach : List (Option Read) → List Read → Type 0
MarksServeEach [] As = Unit {0}
MarksServeEach (o ∷ hs) [] = Unit {0}
MarksServeEach (None ∷ hs) (A ∷ As) = MarksServeEach hs As
MarksServeEach (Some G ∷ hs) (A ∷ As) = MarksServeIn A G × MarksServeEach hs As

abbrev pub AreNone : List (Option Read) → Type 0
AreNone hs = All (λ (o : Option Read). o ≡ None) hs

-- THE FORMULA MAY BE USED SO: it has the parts; all are formulas of the goal, and given terms fit it; each antecedent that is taken off
-- has its place in the list, and where the result is to be a formula nothing is given for antecedents; and the marks serve
pub record MayUse (D : Declarations) (u : Using) : Type 0 where
  pub sequent : IsSequent D u.goal
  pub formula : MayStand (signature_in D) u.goal.variables (goal_names u.goal) u.formula
  pub parts : HasParts (signature_in D) u.parts u.formula
  pub given : GivenOver u.goal.variables u.parts
  pub one_type : HasOneTypeEach (goal_names u.goal ++ given_constants u.parts)
  pub hypotheses : All (λ o. IfSome o (MayStand (signature_in D) u.goal.variables (goal_names u.goal))) u.aim.hypotheses
  pub conclusion : IfSome u.aim.conclusion (MayStand (signature_in D) u.goal.variables (goal_names u.goal))
  pub as_many : length u.aim.hypotheses ≡ antecedents_among u.parts
  pub alone : IfSome u.aim.conclusion (λ C. AreNone u.aim.hypotheses)
  pub serve : (n : ℕ) (names : List Nominal) → map (λ (a : Nominal). a.type) names ≡ types_chosen u.parts → MarksServeEach u.aim.hypotheses (use_by u.goal n u.parts u.formula names).antecedents
  pub serve_result : (n : ℕ) (names : List Nominal) → map (λ (a : Nominal). a.type) names ≡ types_chosen u.parts → IfSome u.aim.conclusion (λ C. MarksServeIn C (use_by u.goal n u.parts u.formula names).result)

-- what meets the antecedents: what is given, and what is awaited where nothing is
abbrev pub met_by : List (Option Read) → List Read → List Read
met_by [] As = []
met_by (None ∷ hs) [] = []
met_by (None ∷ hs) (A ∷ As) = A ∷ met_by hs As
met_by (Some G ∷ hs) As = G ∷ met_by hs As

-- what is asked for
abbrev pub asked_of : Using → Read → Read
asked_of u K = unwrap_or u.aim.conclusion (result_in u.aim.hypotheses K)

-- the formulas of which a goal speaks where this is left: the goal's own, the formula that is used, what is awaited, and the result
abbrev pub spoken_of : Using → Read → List Read
spoken_of u K = formulas_of u.goal ++ u.formula ∷ result_in u.aim.hypotheses K ∷ awaited u.aim.hypotheses K

-- no two hypotheses have one name
abbrev pub LabelsDiffer : Sequent → Type 0
LabelsDiffer k = AllPairs (λ (h g : Hypothesis). h.name ≢ g.name) k.hypotheses

-- A GOAL IN WHICH THIS IS LEFT: over the same variables, it has the formula, and hypotheses of these names with what meets the
-- antecedents; it speaks of nothing else, and asks for what the use is for
pub record IsLeftIn (u : Using) (K : Read) (k : Sequent) (x : List ℕ) (zs : List (List ℕ)) : Type 0 where
  pub variables : k.variables ≡ u.goal.variables
  pub labels : LabelsDiffer k
  pub formula : formula_of k x ≡ Some u.formula
  pub met : HasNamed k zs (met_by u.aim.hypotheses (awaited u.aim.hypotheses K))
  pub spoken : All (λ (h : Hypothesis). Contains (spoken_of u K) h.formula) k.hypotheses
  pub asked : k.conclusion ≡ asked_of u K

-- THE STAGES LEAD from the formula that is used to what the use is for, where this is left: over these nominal constants, each number
-- at one type, over which all stands that such a goal speaks of
pub record StagesLead (D : Declarations) (u : Using) (K : Read) (names : List Nominal) (ss : List Stage) : Type 0 where
  pub one_type : HasOneTypeEach names
  pub spoken : (F : Read) → Contains (spoken_of u K) F → MayStand (signature_in D) u.goal.variables names F
  pub asked : MayStand (signature_in D) u.goal.variables names (asked_of u K)
  pub leads : LeadsBy (signature_in D) u.goal.variables names ss u.formula (met_by u.aim.hypotheses (awaited u.aim.hypotheses K)) (asked_of u K)
