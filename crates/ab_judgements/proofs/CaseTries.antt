-- The case of a rule is tried: what is asked for it to be solved, and which case it is.
use Rattle.std.specs.Prelude.{Contains}
use Rattle.std.specs.List.{All}
use Rattle.std.proofs.Common.{◌≡◌, ℕ, ◌<◌, List, [], ◌++◌, map, length, sym, ◌∙◌, ap, subst}
use Rattle.std.proofs.lemmas.List.{length-map}
use Rattle.ab_norm.specs.ab_store.specs.declared.node.CellId.{CellId}
use Rattle.ab_norm.specs.ab_store.specs.declared.node.Equation.{Equation}
use Rattle.ab_unifiers.specs.Clauses.{numbered}
use Rattle.ab_unify.specs.Problem.{cell_read, cells_read}
use Rattle.ab_unify.specs.StoreChanges.{Grows, IsFree}
use Rattle.ab_unify.specs.UnifyAnswers.{IsTypedPair}
use Rattle.ab_formulas.specs.BodyMarks.{mark_below}
use Rattle.ab_formulas.specs.Declarations.{signature_in}
use Rattle.ab_formulas.specs.Formulas.{IsFormula}
use Rattle.ab_formulas.specs.Marks.{Sign}
use Rattle.ab_formulas.specs.Sequents.{formulas_of, in_terms, assuming}
use Rattle.ab_logic.specs.Worlds.{declarations_of}
use Rattle.ab_logic.specs.SequentReadings.{sequent_of, HoldsSequent}
use Rattle.ab_logic.specs.declared.world.World.{World}
use Rattle.ab_logic.specs.declared.sequent.Sequent.{Sequent as Kept}
use Rattle.ab_theory.specs.JudgementCases.{judgement_case}
use Rattle.ab_theory.specs.Judgements as plain
use Rattle.ab_theory.specs.SpecRules.{SpecRule, Demand, demand_of}
use Rattle.ab_theory.specs.Splits.{Case}
use Rattle.ab_alternatives.specs.ab_equations.specs.Meanwhile.{AreFrom, count_before, case_read}
use Rattle.ab_alternatives.specs.LeftAlternatives.{goal_for}
use Rattle.ab_judgements.specs.DemandReadings.{rule_read, IsRuleFor, IsDemanded}
use Rattle.ab_judgement_forms.specs.JudgementReadings.{judgement_read}
use Rattle.ab_judgements.specs.RuleSteps.{IsSplitting}
use Rattle.ab_judgements.specs.declared.demands.DemandTerm.{DemandTerm}
use Rattle.ab_judgements.specs.declared.demands.Rule.{Rule}
use Rattle.ab_judgements.specs.declared.rule_places.Ruled.{Ruled}
use Rattle.ab_judgements.proofs.DemandCases as cases
use Rattle.ab_judgements.proofs.DemandFormulas.{body_formula}

-- what a call makes of a rule for a goal: the demand, and from it equations, cells that may be replaced, own cells and a goal
pub record IsTried (w v : World) (x : Ruled) (r : Rule) (goal rest : Kept) (name : List ℕ) (es : List Equation) (fl own : List CellId) (q : Kept) : Type 0 where
  pub ready : IsSplitting w x goal rest
  pub rule : IsRuleFor w x.judgement r
  pub mark : Sign
  pub below : mark ≡ mark_below (judgement_read w x.judgement).sign
  pub made : DemandTerm
  pub demanded : IsDemanded w (demand_of (length w.store.cells) mark (judgement_read w x.judgement) (rule_read w r)) v made
  pub grows : Grows w.types w.store v.types v.store
  pub additions : v.additions ≡ w.additions
  pub unbound : v.store.bindings ≡ []
  pub equations : es ≡ made.equations.items
  pub flexible : fl ≡ goal.variables ++ made.own.items
  pub own_is : own ≡ made.own.items
  pub over : q ≡ goal_for rest goal.variables name made.body

module _ (w v : World) (x : Ruled) (r : Rule) (goal rest : Kept) (name : List ℕ) (es : List Equation) (fl own : List CellId) (q : Kept) (t : IsTried w v x r goal rest name es fl own q) where
  abbrev pub J : plain.Judgement
  J = judgement_read w x.judgement

  abbrev pub R : SpecRule
  R = rule_read w r

  abbrev d : Demand
  d = demand_of (length w.store.cells) t.mark J R

  -- the case, where there were so many cells
  abbrev case_by : ℕ → Sign → Case
  case_by n m =
      let e = demand_of n m J R in
      record {
        before = cells_read w.types w.store ++ e.passing;
        own = e.own;
        equations = e.equations;
        flexible = map in_terms (sequent_of w goal).variables ++ numbered (length (cells_read w.types w.store ++ e.passing)) e.own;
        goal = assuming name e.body (sequent_of w rest);
      }

  -- THE CASE THAT IS SOLVED is that of the rule
  pub the_case : case_read v es fl own q ≡ judgement_case (sequent_of w goal) (sequent_of w rest) name J R (cells_read w.types w.store)
  the_case =
      ap (λ l. case_read v l fl own q) t.equations
      ∙ ap (λ l. case_read v t.made.equations.items l own q) t.flexible
      ∙ ap (λ l. case_read v t.made.equations.items (goal.variables ++ t.made.own.items) l q) t.own_is
      ∙ ap (case_read v t.made.equations.items (goal.variables ++ t.made.own.items) t.made.own.items) t.over
      ∙ cases.case_is w v d t.made t.demanded t.unbound t.ready.ruled.world t.grows t.additions goal rest t.ready.goal t.ready.rest t.ready.same name
      ∙ ap (λ n. case_by n t.mark) (sym (length-map w.store.cells (cell_read w.types)))
      ∙ ap (case_by (length (cells_read w.types w.store))) t.below

  -- WHAT SOLVING IT ASKS FOR

  pub goal_held : HoldsSequent v q
  goal_held = subst (HoldsSequent v) (sym t.over) (cases.over_held w v d t.made t.demanded t.unbound t.ready.ruled.world t.grows t.additions goal rest t.ready.goal t.ready.rest t.ready.same name)

  pub goal_formulas : All (IsFormula (signature_in (declarations_of v))) (formulas_of (sequent_of v q))
  goal_formulas =
      subst (λ k. All (IsFormula (signature_in (declarations_of v))) (formulas_of (sequent_of v k))) (sym t.over)
      (cases.over_formulas w v d t.made t.demanded t.unbound t.ready.ruled.world t.grows t.additions goal rest t.ready.goal t.ready.rest t.ready.same name t.ready.formulas
      (body_formula w t.ready.ruled.world x.judgement t.ready.ruled.typed r t.rule (length w.store.cells) t.mark))

  pub goal_free : All (IsFree v.store) q.variables
  goal_free =
      subst (λ (k : Kept). All (IsFree v.store) k.variables) (sym t.over) (cases.variables_free w v d t.made t.demanded t.unbound t.ready.ruled.world t.grows t.additions goal rest t.ready.goal t.ready.rest t.ready.same name)

  pub goal_before : All (λ (c : CellId). c.0 < count_before v own) q.variables
  goal_before =
      subst (λ (l : List CellId). All (λ (c : CellId). c.0 < count_before v l) q.variables) (sym t.own_is)
      (subst (λ (k : Kept). All (λ (c : CellId). c.0 < count_before v t.made.own.items) k.variables) (sym t.over)
      (cases.all_before w v d t.made t.demanded t.unbound t.ready.ruled.world t.grows t.additions goal rest t.ready.goal t.ready.rest t.ready.same name))

  pub equations_typed : All (IsTypedPair v.types v.store) es
  equations_typed = subst (All (IsTypedPair v.types v.store)) (sym t.equations) t.demanded.typed

  pub all_free : All (IsFree v.store) fl
  all_free = subst (All (IsFree v.store)) (sym t.flexible) (cases.flexible_free w v d t.made t.demanded t.unbound t.ready.ruled.world t.grows t.additions goal rest t.ready.goal t.ready.rest t.ready.same name)

  pub own_last : AreFrom v.store (count_before v own) own
  own_last = subst (λ (l : List CellId). AreFrom v.store (count_before v l) l) (sym t.own_is) (cases.own_last w v d t.made t.demanded t.unbound)

  pub own_flexible : All (Contains fl) own
  own_flexible =
      subst (λ (l : List CellId). All (Contains l) own) (sym t.flexible)
      (subst (All (Contains (goal.variables ++ t.made.own.items))) (sym t.own_is) (cases.own_flexible w v d t.made t.demanded t.unbound t.ready.ruled.world t.grows t.additions goal rest t.ready.goal t.ready.rest t.ready.same name))
