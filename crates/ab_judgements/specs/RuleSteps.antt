-- How a goal is split by a judgement, and how a conclusion that is one is unfolded, rule by rule. Public contracts don't speak of it.
use Rattle.std.specs.Prelude.{◌≡◌, ℕ, ◌∷◌, [], List, map, length, All, Option, codes}
use Rattle.ab_term.specs.Variables.{Substitution}
use Rattle.ab_norm.specs.ab_types.specs.Entries.{Table}
use Rattle.ab_norm.specs.ab_store.specs.declared.node.TermId.{TermId}
use Rattle.ab_norm.specs.ab_store.specs.Trees.{Contents, tree_of}
use Rattle.ab_unifiers.specs.Replacements.{Cell}
use Rattle.ab_unifiers.specs.Unification.{unified, Solves}
use Rattle.ab_unify.specs.StoreChanges as changed
use Rattle.ab_formulas.specs.BodyMarks.{mark_above}
use Rattle.ab_formulas.specs.Declarations.{signature_in}
use Rattle.ab_formulas.specs.Formulas.{IsFormula}
use Rattle.ab_formulas.specs.Sequents.{Variable, Sequent, formulas_of}
use Rattle.ab_logic.specs.Worlds.{declarations_of}
use Rattle.ab_logic.specs.SequentReadings.{HoldsSequent, sequent_of}
use Rattle.ab_logic.specs.declared.world.World.{World}
use Rattle.ab_logic.specs.declared.sequent.Sequent.{Sequent as Kept}
use Rattle.ab_theory.specs.JudgementCases.{judgement_case, judgement_unfolding}
use Rattle.ab_theory.specs.Judgements as plain
use Rattle.ab_theory.specs.SpecRules.{SpecRule, Demand, demand_of}
use Rattle.ab_theory.specs.Splits.{CaseOver, NeverArises, IsOpen, problem_of}
use Rattle.ab_theory.specs.Subjects.{Way, conclusion_then}
use Rattle.ab_alternatives.specs.ChoiceMatches.{IsMatch, LeavesOpen}
use Rattle.ab_alternatives.specs.declared.choice_matches.Match.{Match}
use Rattle.ab_alternatives.specs.declared.clause_bodies.Unfolding.{Unfolding}
use Rattle.ab_alternatives.specs.declared.first_choice.Found.{Found}
use Rattle.ab_alternatives.specs.declared.first_choice.Found.TheVariants.{Closed, Open, Stuck, Nothing}
use Rattle.ab_judgement_forms.specs.JudgementReadings.{judgement_read}
use Rattle.ab_judgements.specs.RuleWalks.{rules_in, IsRuled}
use Rattle.ab_judgements.specs.declared.demands.DemandTerm.{DemandTerm}
use Rattle.ab_judgements.specs.declared.rule_places.Ruled.{Ruled}

-- the cases by the rules at places
abbrev pub cases_at : World → Ruled → Kept → Kept → List ℕ → List (Option SpecRule) → List CaseOver
cases_at w r g t name rs = map (judgement_case (sequent_of w g) (sequent_of w t) name (judgement_read w r.judgement)) (rules_in rs)

-- all that is asked of a world, a judgement, the goal and what stays of it, for cases to be tried
pub record IsSplitting (w : World) (r : Ruled) (g t : Kept) : Type 0 where
  pub ruled : IsRuled w r
  pub goal : HoldsSequent w g
  pub rest : HoldsSequent w t
  pub formulas : All (IsFormula (signature_in (declarations_of w))) (formulas_of (sequent_of w t))
  pub same : t.variables ≡ g.variables

-- types, terms and cells are added at most, and cells may be bound
pub record IsAdded (w v : World) : Type 0 where
  pub grown : changed.Grows w.types w.store v.types v.store
  pub additions : v.additions ≡ w.additions

-- what a rule demands where the judgement is the conclusion
abbrev pub demand_above : World → plain.Judgement → SpecRule → Demand
demand_above w j r = demand_of (length w.store.cells) (mark_above j.sign) j r

-- a demand as the unfolding that is solved
abbrev pub as_demand : Unfolding → DemandTerm
as_demand u = record { own = u.own; equations = u.equations; body = u.body }

-- THE CONCLUSION OF THE GOAL IS UNFOLDED in this way, and this is the conclusion then
abbrev pub UnfoldsBy : List (Cell (List ℕ)) → Way → Table → Contents → TermId → Type 0
UnfoldsBy cells y types now r =
    (more : List (Cell (List ℕ))) × (answer : Substitution ℕ (List ℕ)) × Solves (codes "x") (problem_of (y.case cells)) (unified more answer)
    × (tree_of types now r ≡ conclusion_then (y.case cells) y.closed more answer)

-- so the way unfolds the conclusion
abbrev pub MatchesBy : List (Cell (List ℕ)) → Way → Match → Type 0
MatchesBy cells y m = IsMatch (problem_of (y.case cells)) (y.case cells).before m

-- none of the rules unfolds the conclusion
abbrev pub NoneOf : List (Cell (List ℕ)) → Sequent → plain.Judgement → List SpecRule → Type 0
NoneOf cells s j rs = All (λ (r : SpecRule). NeverArises (judgement_unfolding s j r cells)) rs

-- THIS IS FOUND by the way, before which so many can't unfold the conclusion
abbrev pub IsFoundBy : List (Cell (List ℕ)) → Way → ℕ → Found → Type 0
IsFoundBy cells y n (Closed place) = (place ≡ n) × LeavesOpen (problem_of (y.case cells)) (y.case cells).before []
IsFoundBy cells y n (Open place name) = (place ≡ n) × (z : Variable) × (zs : List Variable) × LeavesOpen (problem_of (y.case cells)) (y.case cells).before (z ∷ zs) × (name ≡ z.name)
IsFoundBy cells y n (Stuck place i) = (place ≡ n) × IsOpen (y.case cells) i
IsFoundBy cells y n Nothing = ⊥
