-- What is solved is the case of the rule, once its demand is made.
use Rattle.std.specs.Prelude.{Contains}
use Rattle.std.specs.List.{All}
use Rattle.std.proofs.Common.{◌≡◌, ℕ, ◌+◌, ◌<◌, List, [], ◌∷◌, ◌++◌, map, take, drop, length, refl, sym, ◌∙◌, ap, subst, arith, length-append}
use Rattle.std.proofs.Math.Seq.{take-append_seam, drop-append_seam}
use Rattle.std.proofs.lemmas.List.{length-map, map-append}
use Rattle.std.proofs.lemmas.List.Elements.{All-nil, All-cons, All-head, All-tail, All-weaker, All-append, Contains-append_right}
use Rattle.ab_term.specs.Terms as tree
use Rattle.ab_term.specs.Terms.{Read}
use Rattle.ab_term.proofs.Lists.{All-from_contains}
use Rattle.ab_norm.specs.ab_store.specs.declared.node.CellId.{CellId}
use Rattle.ab_norm.specs.ab_store.specs.Trees.{HoldsCell as HasCell}
use Rattle.ab_norm.specs.ab_store.specs.Reading.{cell_variable, bound_in, reading}
use Rattle.ab_norm.specs.ab_store.proofs.Growing.{unbound_reads}
use Rattle.ab_unifiers.specs.Replacements.{Cell}
use Rattle.ab_unifiers.specs.Unification.{Equation}
use Rattle.ab_unifiers.specs.Unifiers.{given}
use Rattle.ab_unifiers.specs.Clauses.{numbered}
use Rattle.ab_unify.specs.Problem.{cell_read, cells_read, variables_read, equations_read, problem}
use Rattle.ab_unify.specs.StoreChanges as changed
use Rattle.ab_unify.specs.StoreChanges.{IsFree}
use Rattle.ab_formulas.specs.Declarations.{signature_in}
use Rattle.ab_formulas.specs.Formulas.{IsFormula}
use Rattle.ab_formulas.specs.Sequents.{Variable, Hypothesis, Sequent, formulas, formulas_of, in_terms, assuming}
use Rattle.ab_logic.specs.Worlds.{IsWorld, Holds, HoldsCell, variable_of, declarations_of}
use Rattle.ab_logic.specs.SequentReadings.{sequent_of, hypothesis_of, HoldsSequent}
use Rattle.ab_logic.specs.declared.world.World.{World}
use Rattle.ab_logic.specs.declared.sequent.Sequent.{Sequent as Kept}
use Rattle.ab_logic.specs.declared.sequent.Hypothesis.{Hypothesis as KeptHypothesis}
use Rattle.ab_theory.specs.Splits.{Case}
use Rattle.ab_theory.specs.SpecRules.{Demand}
use Rattle.ab_alternatives.specs.ab_equations.specs.Meanwhile.{AreFrom, count_before, hypothesis_read, goal_read, case_read}
use Rattle.ab_alternatives.specs.ab_equations.proofs.Going.{world_meanwhile}
use Rattle.ab_alternatives.specs.ab_equations.proofs.Restored.{goal_same, goal_held, declarations_same}
use Rattle.ab_alternatives.specs.LeftAlternatives.{goal_for}
use Rattle.ab_alternatives.proofs.LeftOpen.{from_held}
use Rattle.ab_alternatives.proofs.Put.{in_terms_are}
use Rattle.ab_alternatives.proofs.UnfoldingCase.{unbound_equations, numbered_length, numbered_from}
use Rattle.ab_judgements.specs.DemandReadings.{IsDemanded}
use Rattle.ab_judgements.specs.declared.demands.DemandTerm.{DemandTerm}

abbrev pub Cells : Type 0
Cells = List (Cell (List ℕ))

abbrev build : Cells → Cells → List (Equation (List ℕ)) → List (tree.Variable ℕ) → Sequent → Case
build b o es fl q = record { before = b; own = o; equations = es; flexible = fl; goal = q }

-- a goal where no cell is bound
module _ (v : World) (none : v.store.bindings ≡ []) where
  hypotheses_unbound : (hs : List KeptHypothesis) → map (hypothesis_read v.types v.store) hs ≡ map (hypothesis_of v) hs
  hypotheses_unbound [] = refl
  hypotheses_unbound (h ∷ hs) =
      ap (λ F. record { name = h.name; formula = F } ∷ map (hypothesis_read v.types v.store) hs) (unbound_reads v.store none v.types h.formula)
      ∙ ap (λ l. hypothesis_of v h ∷ l) (hypotheses_unbound hs)

  unbound_goal : (s : Kept) → goal_read v s ≡ sequent_of v s
  unbound_goal s =
      ap (λ hs. record { variables = map (variable_of v) s.variables; hypotheses = hs; conclusion = reading v.types v.store s.conclusion; counter = s.counter }) (hypotheses_unbound s.hypotheses)
      ∙ ap (λ F. record { variables = map (variable_of v) s.variables; hypotheses = map (hypothesis_of v) s.hypotheses; conclusion = F; counter = s.counter }) (unbound_reads v.store none v.types s.conclusion)

-- one formula more
one_formula : (P : Read → Type 0) (hs : List Hypothesis) (h : Hypothesis) → All P (formulas hs) → P h.formula → All P (formulas (hs ++ h ∷ []))
one_formula P [] h all here = All-cons P h.formula [] here (All-nil P)
one_formula P (k ∷ hs) h all here =
    All-cons P k.formula (formulas (hs ++ h ∷ [])) (All-head P k.formula (formulas hs) all) (one_formula P hs h (All-tail P k.formula (formulas hs) all) here)

module _ (w v : World) (d : Demand) (made : DemandTerm) (o : IsDemanded w d v made) (none : v.store.bindings ≡ []) where
  -- the cells that there are then, but for the demand's own
  abbrev pub front : Cells
  front = cells_read w.types w.store ++ d.passing

  front_count : length front ≡ length w.store.cells + length d.passing
  front_count = length-append (cells_read w.types w.store) d.passing ∙ ap (λ n. n + length d.passing) (length-map w.store.cells (cell_read w.types))

  own_is : variables_read v.types v.store made.own.items ≡ numbered (length front) d.own
  own_is = o.own ∙ ap (λ n. numbered n d.own) (sym front_count)

  cell_count : length v.store.cells ≡ length front + length d.own
  cell_count = sym (length-map v.store.cells (cell_read v.types)) ∙ ap (λ (l : Cells). length l) o.cells ∙ length-append front d.own

  own_count : length made.own.items ≡ length d.own
  own_count = sym (length-map made.own.items (cell_variable v.types v.store)) ∙ ap (λ (l : List (tree.Variable ℕ)). length l) own_is ∙ numbered_length (length front) d.own

  before_count : count_before v made.own.items ≡ length front
  before_count = let all = cell_count in let own = own_count in omega (arith, all, own)

  equations_are : equations_read v.types v.store made.equations.items ≡ d.equations
  equations_are = unbound_equations v.types v.store none 0 made.equations.items ∙ o.equations

  -- its own cells are the last ones
  pub own_last : AreFrom v.store (count_before v made.own.items) made.own.items
  own_last = subst (λ n. AreFrom v.store n made.own.items) (sym before_count) (numbered_from v.types v.store (length front) d.own made.own.items own_is cell_count)

  pub before_is : take (count_before v made.own.items) (cells_read v.types v.store) ≡ front
  before_is = ap (λ l. take (count_before v made.own.items) l) o.cells ∙ ap (λ n. take n (front ++ d.own)) before_count ∙ take-append_seam front d.own

  own_cells_are : drop (count_before v made.own.items) (cells_read v.types v.store) ≡ d.own
  own_cells_are = ap (λ l. drop (count_before v made.own.items) l) o.cells ∙ ap (λ n. drop n (front ++ d.own)) before_count ∙ drop-append_seam front d.own

  -- THE PROBLEM, where the goal's variables may not be replaced
  pub problem_is : problem v.types v.store made.equations.items made.own.items ≡ given d.equations (front ++ d.own) (numbered (length front) d.own)
  problem_is =
      ap (λ es. given es (cells_read v.types v.store) (variables_read v.types v.store made.own.items)) equations_are
      ∙ ap (λ cs. given d.equations cs (variables_read v.types v.store made.own.items)) o.cells
      ∙ ap (given d.equations (front ++ d.own)) own_is

  -- THE CASE in which a body is assumed
  module _ (is : IsWorld w) (grows : changed.Grows w.types w.store v.types v.store) (additions : v.additions ≡ w.additions) (goal rest : Kept) (goal_there : HoldsSequent w goal) (rest_there : HoldsSequent w rest) (same : rest.variables ≡ goal.variables) (name : List ℕ) where
    abbrev pub over : Kept
    over = goal_for rest goal.variables name made.body

    abbrev pub flexible : List CellId
    flexible = goal.variables ++ made.own.items

    over_read : sequent_of v over ≡ assuming name d.body (sequent_of w rest)
    over_read =
        let s = sequent_of v rest in
        let make : List Variable → List Hypothesis → Sequent = λ xs hs. record { variables = xs; hypotheses = hs; conclusion = s.conclusion; counter = s.counter } in
        ap (λ cs. make (map (variable_of v) cs) (map (hypothesis_of v) over.hypotheses)) (sym same)
        ∙ ap (make s.variables) (map-append (hypothesis_of v) rest.hypotheses (record { name = name; formula = made.body } ∷ []))
        ∙ ap (λ F. assuming name F s) o.body
        ∙ ap (assuming name d.body) (goal_same w v (world_meanwhile w is) grows additions rest rest_there)

    flexible_are : variables_read v.types v.store flexible ≡ map in_terms (sequent_of w goal).variables ++ numbered (length front) d.own
    flexible_are =
        map-append (cell_variable v.types v.store) goal.variables made.own.items
        ∙ ap (λ l. l ++ variables_read v.types v.store made.own.items) (sym (in_terms_are v goal.variables))
        ∙ ap (λ (s : Sequent). map in_terms s.variables ++ variables_read v.types v.store made.own.items) (goal_same w v (world_meanwhile w is) grows additions goal goal_there)
        ∙ ap (λ l. map in_terms (sequent_of w goal).variables ++ l) own_is

    pub case_is : case_read v made.equations.items flexible made.own.items over
        ≡ build front d.own d.equations (map in_terms (sequent_of w goal).variables ++ numbered (length front) d.own) (assuming name d.body (sequent_of w rest))
    case_is =
        let fl = map in_terms (sequent_of w goal).variables ++ numbered (length front) d.own in
        let es = equations_read v.types v.store made.equations.items in
        let all = variables_read v.types v.store flexible in
        let q = goal_read v over in
        ap (λ l. build l (drop (count_before v made.own.items) (cells_read v.types v.store)) es all q) before_is
        ∙ ap (λ l. build front l es all q) own_cells_are
        ∙ ap (λ l. build front d.own l all q) equations_are
        ∙ ap (λ l. build front d.own d.equations l q) flexible_are
        ∙ ap (build front d.own d.equations fl) (unbound_goal v none over ∙ over_read)

    -- WHAT SOLVING IT ASKS FOR

    goal_here : HoldsSequent v goal
    goal_here = goal_held w v (world_meanwhile w is) grows additions goal goal_there

    pub over_held : HoldsSequent v over
    over_held =
        let there = goal_held w v (world_meanwhile w is) grows additions rest rest_there in
        record {
          variables = goal_here.variables;
          hypotheses = All-append (λ (h : KeptHypothesis). Holds v h.formula) rest.hypotheses (record { name = name; formula = made.body } ∷ []) there.hypotheses
              (All-cons (λ (h : KeptHypothesis). Holds v h.formula) (record { name = name; formula = made.body }) [] o.held (All-nil (λ (h : KeptHypothesis). Holds v h.formula)));
          conclusion = there.conclusion;
        }

    pub over_formulas : All (IsFormula (signature_in (declarations_of w))) (formulas_of (sequent_of w rest)) → IsFormula (signature_in (declarations_of w)) d.body
        → All (IsFormula (signature_in (declarations_of v))) (formulas_of (sequent_of v over))
    over_formulas all body =
        let t = sequent_of w rest in
        let P = IsFormula (signature_in (declarations_of w)) in
        subst (λ D. All (IsFormula (signature_in D)) (formulas_of (sequent_of v over))) (sym (declarations_same w v (world_meanwhile w is) grows additions))
        (subst (λ s. All P (formulas_of s)) (sym over_read)
        (All-cons P t.conclusion (formulas (t.hypotheses ++ record { name = name; formula = d.body } ∷ [])) (All-head P t.conclusion (formulas t.hypotheses) all)
        (one_formula P t.hypotheses (record { name = name; formula = d.body }) (All-tail P t.conclusion (formulas t.hypotheses) all) body)))

    free : (c : CellId) → HasCell v.store c → IsFree v.store c
    free c h = (h, ap (λ bs. bound_in bs c) none)

    pub variables_free : All (IsFree v.store) goal.variables
    variables_free = All-weaker (HasCell v.store) (IsFree v.store) free goal.variables goal_here.variables

    pub flexible_free : All (IsFree v.store) flexible
    flexible_free =
        All-append (IsFree v.store) goal.variables made.own.items variables_free
        (All-weaker (HasCell v.store) (IsFree v.store) free made.own.items (from_held v.store (count_before v made.own.items) made.own.items own_last))

    pub own_flexible : All (Contains flexible) made.own.items
    own_flexible = All-from_contains (Contains flexible) made.own.items (λ c m. Contains-append_right goal.variables made.own.items c m)

    pub all_before : All (λ (c : CellId). c.0 < count_before v made.own.items) goal.variables
    all_before =
        let count = before_count in
        let long = front_count in
        All-weaker (HoldsCell w) (λ (c : CellId). c.0 < count_before v made.own.items) (λ c low. omega (arith, low, count, long)) goal.variables goal_there.variables
