-- The case that stands in a world while the raised cells are bound.
use Rattle.std.specs.Prelude.{Contains}
use Rattle.std.specs.List.{All}
use Rattle.std.proofs.Common.{◌≡◌, ℕ, ◌+◌, List, [], ◌∷◌, ◌++◌, map, refl, sym, ◌∙◌, ap, subst}
use Rattle.std.proofs.lemmas.List.Elements.{All-head, All-tail, All-weaker}
use Rattle.ab_term.specs.Types.{Ty, prop}
use Rattle.ab_term.specs.Typing.{Signature, HasType}
use Rattle.ab_term.specs.Variables.{Substitution, image}
use Rattle.ab_term.specs.Sameness.{same_number}
use Rattle.ab_norm.specs.ab_types.specs.Entries.{signature}
use Rattle.ab_norm.specs.ab_store.specs.declared.node.TermId.{TermId}
use Rattle.ab_norm.specs.ab_store.specs.declared.node.CellId.{CellId}
use Rattle.ab_norm.specs.ab_store.specs.declared.node.CellEntry.{CellEntry}
use Rattle.ab_norm.specs.ab_store.specs.declared.node.Equation.{Equation}
use Rattle.ab_norm.specs.ab_store.specs.Trees.{Contents, tree_of}
use Rattle.ab_norm.specs.ab_store.specs.Reading.{bound_in, reading}
use Rattle.ab_norm.specs.ab_store.specs.Naming.{IsTerm}
use Rattle.ab_unify.specs.UnifyAnswers.{IsTypedPair}
use Rattle.ab_unify.specs.Problem.{equations_from}
use Rattle.ab_unify.specs.StoreChanges.{Grows, IsFree}
use Rattle.ab_instances.specs.CellBindings.{bound_to}
use Rattle.ab_instances.proofs.Bound.{bound_to_none}
use Rattle.ab_formulas.specs.Declarations.{signature_in}
use Rattle.ab_formulas.specs.Formulas.{IsFormula}
use Rattle.ab_formulas.specs.Sequents.{Hypothesis, formulas, formulas_of}
use Rattle.ab_logic.specs.Worlds.{IsWorld, Holds, HoldsCell, read, variable_of, declarations_of}
use Rattle.ab_logic.specs.SequentReadings.{sequent_of, hypothesis_of, HoldsSequent}
use Rattle.ab_logic.specs.declared.world.World.{World}
use Rattle.ab_logic.specs.declared.sequent.Sequent.{Sequent as Kept}
use Rattle.ab_logic.specs.declared.sequent.Hypothesis.{Hypothesis as KeptHypothesis}
use Rattle.ab_logic.proofs.Growing.{same_constants}
use Rattle.ab_theory.specs.Splits.{Case}
use Rattle.ab_equations.specs.Meanwhile.{IsMeanwhile, hypothesis_read, case_read}
use Rattle.ab_equations.proofs.Going.{world_meanwhile}
use Rattle.ab_equations.proofs.Restored.{declarations_same, then_meanwhile, same_alike}
use Rattle.ab_alternatives.specs.LeftAlternatives.{images_from, raising, case_put}
use Rattle.ab_alternatives.specs.declared.alternatives.Alternative.{Alternative}

module _ (v : World) (store : Contents) (is : IsWorld v) (g : Grows v.types v.store v.types store) (nodes : store.nodes ≡ v.store.nodes) (cells : store.cells ≡ v.store.cells) where
  abbrev pub u : World
  u = record { types = v.types; store = store; additions = v.additions }

  pub meanwhile : IsMeanwhile u
  meanwhile = then_meanwhile v u (world_meanwhile v is) g refl

  pub declared : declarations_of u ≡ declarations_of v
  declared = declarations_same v u (world_meanwhile v is) g refl

  pub same_goal : (s : Kept) → sequent_of u s ≡ sequent_of v s
  same_goal s = same_alike v u refl nodes cells s

  pub goal_held : (s : Kept) → HoldsSequent v s → HoldsSequent u s
  goal_held s held = record {
    variables = All-weaker (HoldsCell v) (HoldsCell u) (λ c h. (g.cells c h).0) s.variables held.variables;
    hypotheses = All-weaker (λ (h : KeptHypothesis). Holds v h.formula) (λ (h : KeptHypothesis). Holds u h.formula) (λ h there. (g.trees h.formula there).0) s.hypotheses held.hypotheses;
    conclusion = (g.trees s.conclusion held.conclusion).0;
  }

  pub goal_formulas : (s : Kept) → All (IsFormula (signature_in (declarations_of v))) (formulas_of (sequent_of v s)) → All (IsFormula (signature_in (declarations_of u))) (formulas_of (sequent_of u s))
  goal_formulas s all =
      subst (λ D. All (IsFormula (signature_in D)) (formulas_of (sequent_of u s))) (sym declared)
      (subst (λ t. All (IsFormula (signature_in (declarations_of v))) (formulas_of t)) (sym (same_goal s)) all)

  pub same_pair : (e : Equation) → IsTypedPair v.types v.store e → IsTypedPair v.types store e
  same_pair e p = (p.0, p.1, (moved e.left p.2), (moved e.right p.3))
    where
      moved : (t : TermId) → IsTerm v.types v.store p.0 t p.1 → IsTerm v.types store p.0 t p.1
      moved t h = let there = g.trees t h.0 in (there.0, subst (λ r. HasType (signature v.types) p.0 r p.1) (sym there.1) h.1)

  module _ (bound : List CellId) (terms : List TermId) (bindings : store.bindings ≡ bound_to bound terms) where
    pub is_free : (c : CellId) → HoldsCell v c → ¬ Contains bound c → IsFree store c
    is_free c held apart = ((g.cells c held).0, ap (λ bs. bound_in bs c) bindings ∙ bound_to_none bound terms c apart)

  module _ (s : Substitution ℕ (List ℕ)) (reads : (G : List Ty) (t : TermId) (A : Ty) → IsTerm v.types v.store G t A → reading v.types store t ≡ image same_number s (tree_of v.types v.store t)) where
    equations_read_so : (k : ℕ) (es : List Equation) → All (IsTypedPair v.types v.store) es → equations_from v.types store k es ≡ images_from v.types v.store s k es
    equations_read_so k [] all = refl
    equations_read_so k (e ∷ es) all =
        let p = All-head (IsTypedPair v.types v.store) e es all in
        ap (λ l. record { place = k; left = l; right = reading v.types store e.right } ∷ equations_from v.types store (k + 1) es) (reads p.0 e.left p.1 p.2)
        ∙ ap (λ r. record { place = k; left = image same_number s (tree_of v.types v.store e.left); right = r } ∷ equations_from v.types store (k + 1) es) (reads p.0 e.right p.1 p.3)
        ∙ ap (λ l. record { place = k; left = image same_number s (tree_of v.types v.store e.left); right = image same_number s (tree_of v.types v.store e.right) } ∷ l)
        (equations_read_so (k + 1) es (All-tail (IsTypedPair v.types v.store) e es all))

    formula_reads : (t : TermId) → Holds v t → IsFormula (signature_in (declarations_of v)) (read v t) → reading v.types store t ≡ image same_number s (read v t)
    formula_reads t held f = reads [] t prop (held, subst (λ (sg : Signature). HasType sg [] (read v t) prop) (sym (same_constants v is)) f.typed)

    hypotheses_read_so : (hs : List KeptHypothesis) → All (λ (h : KeptHypothesis). Holds v h.formula) hs → All (IsFormula (signature_in (declarations_of v))) (formulas (map (hypothesis_of v) hs))
        → map (hypothesis_read v.types store) hs ≡ map (λ (h : Hypothesis). record { name = h.name; formula = image same_number s h.formula }) (map (hypothesis_of v) hs)
    hypotheses_read_so [] held all = refl
    hypotheses_read_so (h ∷ hs) held all =
        ap (λ F. record { name = h.name; formula = F } ∷ map (hypothesis_read v.types store) hs)
        (formula_reads h.formula (All-head (λ (k : KeptHypothesis). Holds v k.formula) h hs held) (All-head (IsFormula (signature_in (declarations_of v))) (read v h.formula) (formulas (map (hypothesis_of v) hs)) all))
        ∙ ap (λ l. record { name = h.name; formula = image same_number s (read v h.formula) } ∷ l)
        (hypotheses_read_so hs (All-tail (λ (k : KeptHypothesis). Holds v k.formula) h hs held) (All-tail (IsFormula (signature_in (declarations_of v))) (read v h.formula) (formulas (map (hypothesis_of v) hs)) all))

  -- THE CASE is that with what is put in
  pub case_so : (ys : List CellId) (alt : Alternative) (goal : Kept) (flexible : List CellId)
      → ((G : List Ty) (t : TermId) (A : Ty) → IsTerm v.types v.store G t A → reading v.types store t ≡ image same_number (raising v.types v.store ys alt.raised) (tree_of v.types v.store t))
      → flexible ≡ alt.raised.cells.items ++ alt.own.items → All (IsTypedPair v.types v.store) alt.equations.items
      → HoldsSequent v goal → All (IsFormula (signature_in (declarations_of v))) (formulas_of (sequent_of v goal))
      → case_read u alt.equations.items flexible alt.own.items goal ≡ case_put v ys alt goal
  case_so ys alt goal flexible reads same typed held all =
      let s = raising v.types v.store ys alt.raised in
      let T = v.types in
      let C : List CellEntry = v.store.cells in
      let es = equations_read_so s reads 0 alt.equations.items typed in
      let conclusion = formula_reads s reads goal.conclusion held.conclusion (All-head (IsFormula (signature_in (declarations_of v))) (read v goal.conclusion) (formulas (map (hypothesis_of v) goal.hypotheses)) all) in
      let hypotheses = hypotheses_read_so s reads goal.hypotheses held.hypotheses (All-tail (IsFormula (signature_in (declarations_of v))) (read v goal.conclusion) (formulas (map (hypothesis_of v) goal.hypotheses)) all) in
      let w : List CellEntry → World = λ cs. record { types = T; store = record { nodes = v.store.nodes; cells = cs; bindings = v.store.bindings; room = v.store.room }; additions = v.additions } in
      let made : List CellEntry → Case = λ cs. record {
        before = (case_read (w cs) alt.equations.items flexible alt.own.items goal).before;
        own = (case_read (w cs) alt.equations.items flexible alt.own.items goal).own;
        equations = equations_from T store 0 alt.equations.items;
        flexible = (case_read (w cs) alt.equations.items flexible alt.own.items goal).flexible;
        goal = record {
          variables = map (variable_of (w cs)) goal.variables;
          hypotheses = map (hypothesis_read T store) goal.hypotheses;
          conclusion = reading T store goal.conclusion;
          counter = goal.counter;
        };
      } in
      ap made cells
      ∙ ap (λ l. record { before = (made C).before; own = (made C).own; equations = l; flexible = (made C).flexible; goal = (made C).goal }) es
      ∙ ap (λ l. record { before = (made C).before; own = (made C).own; equations = (case_put v ys alt goal).equations; flexible = (case_read v alt.equations.items l alt.own.items goal).flexible; goal = (made C).goal }) same
      ∙ ap (λ F. record { before = (made C).before; own = (made C).own; equations = (case_put v ys alt goal).equations; flexible = (case_put v ys alt goal).flexible; goal = record { variables = map (variable_of v) goal.variables; hypotheses = map (hypothesis_read T store) goal.hypotheses; conclusion = F; counter = goal.counter } }) conclusion
      ∙ ap (λ hs. record { before = (made C).before; own = (made C).own; equations = (case_put v ys alt goal).equations; flexible = (case_put v ys alt goal).flexible; goal = record { variables = map (variable_of v) goal.variables; hypotheses = hs; conclusion = image same_number s (read v goal.conclusion); counter = goal.counter } }) hypotheses
