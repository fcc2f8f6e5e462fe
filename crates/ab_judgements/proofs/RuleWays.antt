-- A conclusion that is a judgement is unfolded by what is made of a rule: the problem, the conclusion then, and what is left open.
use Rattle.std.proofs.Common.{◌≡◌, ℕ, List, [], ◌∷◌, ◌++◌, length, codes, refl, sym, ◌∙◌, ap, subst}
use Rattle.std.proofs.lemmas.List.{length-map}
use Rattle.ab_term.specs.Types.{prop}
use Rattle.ab_term.specs.Terms.{Read}
use Rattle.ab_term.specs.Typing.{Signature, HasType}
use Rattle.ab_term.specs.Variables.{image}
use Rattle.ab_term.specs.Sameness.{same_number}
use Rattle.ab_norm.specs.ab_types.specs.Entries.{Table, signature}
use Rattle.ab_norm.specs.ab_store.specs.declared.node.TermId.{TermId}
use Rattle.ab_norm.specs.ab_store.specs.Naming.{IsTerm}
use Rattle.ab_norm.specs.ab_store.specs.Trees.{Contents, tree_of}
use Rattle.ab_unifiers.specs.Clauses.{numbered}
use Rattle.ab_unifiers.specs.Unification.{State, unified, Solves}
use Rattle.ab_unifiers.specs.Unifiers.{given}
use Rattle.ab_unify.specs.Problem.{cell_read, cells_read, problem}
use Rattle.ab_formulas.specs.BodyMarks.{mark_above}
use Rattle.ab_formulas.specs.Declarations.{Declarations, signature_in}
use Rattle.ab_formulas.specs.Formulas.{IsFormula}
use Rattle.ab_formulas.specs.Sequents.{Variable, Sequent}
use Rattle.ab_logic.specs.Worlds.{IsWorld, declarations_of}
use Rattle.ab_logic.specs.declared.world.World.{World}
use Rattle.ab_logic.proofs.Growing.{same_constants}
use Rattle.ab_theory.specs.Equations.{made}
use Rattle.ab_theory.specs.Judgements as plain
use Rattle.ab_theory.specs.SpecRules.{SpecRule, Demand, demand_of}
use Rattle.ab_theory.specs.Splits.{problem_of}
use Rattle.ab_theory.specs.Subjects.{way_by_rule}
use Rattle.ab_theory.specs.Unfolding.{exists_all}
use Rattle.ab_alternatives.specs.ChoiceMatches.{IsMatch, cells_before}
use Rattle.ab_alternatives.specs.RightAlternatives.{closed_by, Becomes}
use Rattle.ab_alternatives.specs.declared.choice_matches.Match.{Match}
use Rattle.ab_alternatives.specs.declared.clause_bodies.Unfolding.{Unfolding}
use Rattle.ab_judgements.specs.DemandReadings.{IsDemanded}
use Rattle.ab_judgements.specs.RuleSteps.{demand_above, as_demand, UnfoldsBy, MatchesBy}
use Rattle.ab_judgements.proofs.DemandCases as cases

closed_none : (ys : List Variable) (F : Read) → closed_by ys [] [] F ≡ exists_all ys F
closed_none [] F = refl
closed_none (y ∷ ys) F = refl

module _ (w v : World) (j : plain.Judgement) (r : SpecRule) (u : Unfolding) (o : IsDemanded w (demand_above w j r) v (as_demand u)) where
  -- its body is a term of type `prop`
  pub body_term : IsWorld v → declarations_of v ≡ declarations_of w → IsFormula (signature_in (declarations_of w)) (demand_above w j r).body → IsTerm v.types v.store [] u.body prop
  body_term is declared formula =
      let sg : signature_in (declarations_of w) ≡ signature v.types = sym (same_constants v is ∙ ap (λ (D : Declarations). signature_in D) declared) in
      (o.held, subst (λ t. HasType (signature v.types) [] t prop) (sym o.body) (subst (λ (s : Signature). HasType s [] (demand_above w j r).body prop) sg formula.typed))

  module _ (none : v.store.bindings ≡ []) (s : Sequent) where
    abbrev cells : cases.Cells
    cells = cells_read w.types w.store

    many : length w.store.cells ≡ length cells
    many = sym (length-map w.store.cells (cell_read w.types))

    abbrev demand : ℕ → Demand
    demand n = demand_of n (mark_above j.sign) j r

    abbrev problem_by : ℕ → State (List ℕ)
    problem_by n = given (demand n).equations ((cells ++ (demand n).passing) ++ (demand n).own) (numbered (length (cells ++ (demand n).passing)) (demand n).own)

    pub problem_so : problem v.types v.store u.equations.items u.own.items ≡ problem_of ((way_by_rule s j r).case cells)
    problem_so = cases.problem_is w v (demand_above w j r) (as_demand u) o none ∙ ap problem_by many

    before_so : cells_before v.types v.store u.own.items ≡ ((way_by_rule s j r).case cells).before
    before_so = cases.before_is w v (demand_above w j r) (as_demand u) o none ∙ ap (λ n. cells ++ (demand n).passing) many

    -- THE CONCLUSION THEN
    pub conclusion_so : (W : Table) (X : Contents) (t : TermId) → Becomes v.types v.store u [] [] W X t → UnfoldsBy cells (way_by_rule s j r) W X t
    conclusion_so W X t b =
        let F : Read → Read = image same_number b.1 in
        let body = tree_of v.types v.store u.body in (
          b.0,
          b.1,
          subst (λ p. Solves (codes "x") p (unified b.0 b.1)) problem_so b.2,
          b.3
              ∙ closed_none (made (cells_before v.types v.store u.own.items) b.0 b.1) (F body)
              ∙ ap (λ l. exists_all (made l b.0 b.1) (F body)) before_so
              ∙ ap (λ G. exists_all (made ((way_by_rule s j r).case cells).before b.0 b.1) (F G)) (o.body ∙ ap (λ n. (demand n).body) many),
        )

    -- WHAT IS LEFT OPEN
    pub matched_so : (m : Match) → IsMatch (problem v.types v.store u.equations.items u.own.items) (cells_before v.types v.store u.own.items) m → MatchesBy cells (way_by_rule s j r) m
    matched_so m t =
        subst (λ l. IsMatch (problem_of ((way_by_rule s j r).case cells)) l m) before_so
        (subst (λ p. IsMatch p (cells_before v.types v.store u.own.items) m) problem_so t)
