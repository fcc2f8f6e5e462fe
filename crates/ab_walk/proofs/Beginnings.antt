-- WHERE THE SEARCH of a sequent begins is a place of the tree.
use Rattle.std.specs.List.{All}
use Rattle.std.specs.Prelude.{AllPairs, slice_get, option_map}
use Rattle.std.proofs.Common.{◌≡◌, ◌≢◌, ℕ, List, [], ◌∷◌, ◌++◌, map, Bool, Some, true, false, refl, sym, ◌∙◌, ap, subst, append-nil}
use Rattle.std.proofs.lemmas.Bool.{false≢true}
use Rattle.std.proofs.lemmas.List.Elements.{All-nil, All-cons, All-head, All-tail, All-map, All-weaker}
use Rattle.std.proofs.lemmas.Option.{slice_get-map, slice_get-get_or}
use Rattle.ab_term.specs.Terms.{Nominal, Read}
use Rattle.ab_term.specs.Typing.{HasType}
use Rattle.ab_term.specs.Types.{prop}
use Rattle.ab_term.proofs.Lists.{Contains-none}
use Rattle.ab_norm.specs.ab_store.specs.Trees.{cell_of}
use Rattle.ab_norm.specs.ab_store.specs.declared.node.CellId.{CellId}
use Rattle.ab_norm.specs.ab_store.specs.declared.node.TermId.{TermId}
use Rattle.ab_norm.specs.Nominals.{HoldsNominal}
use Rattle.ab_unifiers.specs.Choices.{in_order}
use Rattle.ab_unifiers.proofs.Choosing.{ordered_pairs}
use Rattle.ab_unify.specs.Problem.{cell_read, cells_read, variables_read}
use Rattle.ab_unify.specs.StoreChanges.{IsFree}
use Rattle.ab_next_ways.specs.ab_judgements.specs.ab_alternatives.specs.ab_instances.specs.ListReadings.{names_read}
use Rattle.ab_formulas.specs.Declarations.{signature_in}
use Rattle.ab_formulas.specs.Formulas.{IsFormula}
use Rattle.ab_formulas.specs.Sequents.{Variable, IsSequent, formulas, goal_names}
use Rattle.ab_theory.specs.Equations.{AreCells}
use Rattle.ab_logic.specs.Worlds.{IsWorld, Holds, HoldsCell, read, variable_of, declarations_of}
use Rattle.ab_logic.specs.SequentReadings.{hypothesis_of, sequent_of, HoldsSequent}
use Rattle.ab_logic.specs.declared.world.World.{World}
use Rattle.ab_logic.specs.declared.sequent.Sequent.{Sequent as Kept}
use Rattle.ab_logic.specs.declared.sequent.Hypothesis.{Hypothesis}
use Rattle.ab_logic.proofs.Growing.{same_constants}
use Rattle.ab_search_trees.specs.Goals as tree
use Rattle.ab_search_trees.specs.Goals.{Now, beginning, first_goal}
use Rattle.ab_search_trees.specs.Tree.{Leaf}
use Rattle.ab_search_trees.specs.Outcomes.{Searched}
use Rattle.ab_search_trees.proofs.Facts.{AllTasks}
use Rattle.ab_search_trees.proofs.Root.{task}
use Rattle.ab_search_trees.proofs.Some.{turns_from, some_walk}
use Rattle.ab_search_trees.proofs.Walks.{Walked, leaves_walked}
use Rattle.ab_next_ways.specs.ab_search_ways.specs.Answers.{HoldsValue}
use Rattle.ab_next_ways.specs.ab_search_ways.specs.GoalReadings.{goal_read, HoldsGoal, IsAside, IsPlace}
use Rattle.ab_next_ways.specs.ab_search_ways.specs.declared.goal.Goal.{Goal}
use Rattle.ab_next_ways.specs.ab_search_ways.specs.declared.way.Place.{Place}
use Rattle.ab_walk.specs.Places.{HasLeaves}

abbrev goal_of : List Read → Read → ℕ → List Nominal → Bool → ℕ → Bool → tree.Goal
goal_of hs F d ns u l m = record { hypotheses = hs; conclusion = F; depth = d; constants = ns; untouched = u; layers = l; member_first = m }

-- the variables where a search begins: from its cells, and the constants of its goal
abbrev now_at : World → List CellId → List Nominal → Now
now_at w flexible ns = record { cells = cells_read w.types w.store; flexible = variables_read w.types w.store flexible; answer = []; held = ns }

abbrev turns_of : World → List TermId → List CellId → List Goal → ℕ
turns_of w base flexible [] = 0
turns_of w base flexible (k ∷ ks) = turns_from (declarations_of w) (now_at w flexible (names_read w.types k.constants.items)) (goal_read w base k)

-- SO MANY TURNS lead through the tree of the place's first goal
pub turns_at : World → List TermId → Place → ℕ
turns_at w base p = turns_of w base p.flexible.items p.goals

abbrev pub formula_of : Hypothesis → TermId
formula_of h = h.formula

module _ (w : World) (is : IsWorld w) (p : Kept) (held : HoldsSequent w p) (sequent : IsSequent (declarations_of w) (sequent_of w p)) where
  -- the sequent's variables are cells
  are_cells : AreCells (cells_read w.types w.store) (sequent_of w p)
  are_cells =
      All-map (λ (x : Variable). slice_get (cells_read w.types w.store) x.number ≡ Some (record { hint = x.name; type = x.type })) (variable_of w) p.variables
      (All-weaker (HoldsCell w) (λ c. slice_get (cells_read w.types w.store) c.0 ≡ Some (cell_read w.types (cell_of w.store c))) there p.variables held.variables)
    where
      there : (c : CellId) → HoldsCell w c → slice_get (cells_read w.types w.store) c.0 ≡ Some (cell_read w.types (cell_of w.store c))
      there c l = slice_get-map (cell_read w.types) w.store.cells c.0 ∙ ap (option_map (cell_read w.types)) (slice_get-get_or w.store.cells c.0 _ l)

  read_all : (hs : List Hypothesis) → map (read w) (map formula_of hs) ≡ formulas (map (hypothesis_of w) hs)
  read_all [] = refl
  read_all (h ∷ hs) = ap (λ l. read w h.formula ∷ l) (read_all hs)

  all_aside : (hs : List Hypothesis) → All (λ (h : Hypothesis). Holds w h.formula) hs → All (IsFormula (signature_in (declarations_of w))) (formulas (map (hypothesis_of w) hs)) → All (IsAside w []) (map formula_of hs)
  all_aside [] there fs = All-nil (IsAside w [])
  all_aside (h ∷ hs) there fs =
      All-cons (IsAside w []) h.formula (map formula_of hs)
      (record {
        formula = (All-head (λ (k : Hypothesis). Holds w k.formula) h hs there, subst (λ sg. HasType sg [] (read w h.formula) prop) (sym (same_constants w is)) (All-head (IsFormula (signature_in (declarations_of w))) (read w h.formula) (formulas (map (hypothesis_of w) hs)) fs).typed);
        apart = λ y m c. Contains-none _ c;
      })
      (all_aside hs (All-tail (λ (k : Hypothesis). Holds w k.formula) h hs there) (All-tail (IsFormula (signature_in (declarations_of w))) (read w h.formula) (formulas (map (hypothesis_of w) hs)) fs))

  -- the goal with nothing added
  module _ (depth : ℕ) (k : Goal) (added : k.added.items ≡ []) (conclusion : k.conclusion ≡ p.conclusion) (deep : k.depth ≡ depth) (constants : names_read w.types k.constants.items ≡ in_order (goal_names (sequent_of w p)))
      (names : All (HoldsNominal w.types) k.constants.items) (untouched : k.untouched ≡ true) (layers : k.layers ≡ 1000) (member_first : k.member_first ≡ false) where
    reads : goal_read w (map formula_of p.hypotheses) k ≡ first_goal depth (sequent_of w p)
    reads =
        let hs = formulas (map (hypothesis_of w) p.hypotheses) in
        let ns = names_read w.types k.constants.items in
        let none : map (read w) (map formula_of p.hypotheses) ++ map (read w) k.added.items ≡ hs = ap (λ l. map (read w) (map formula_of p.hypotheses) ++ map (read w) l) added ∙ append-nil (map (read w) (map formula_of p.hypotheses)) ∙ read_all p.hypotheses in
        ap (λ l. goal_of l (read w k.conclusion) k.depth ns k.untouched k.layers k.member_first) none
        ∙ ap (λ t. goal_of hs (read w t) k.depth ns k.untouched k.layers k.member_first) conclusion
        ∙ ap (λ d. goal_of hs (read w p.conclusion) d ns k.untouched k.layers k.member_first) deep
        ∙ ap (λ l. goal_of hs (read w p.conclusion) depth l k.untouched k.layers k.member_first) constants
        ∙ ap (λ b. goal_of hs (read w p.conclusion) depth (in_order (goal_names (sequent_of w p))) b k.layers k.member_first) untouched
        ∙ ap (λ n. goal_of hs (read w p.conclusion) depth (in_order (goal_names (sequent_of w p))) true n k.member_first) layers
        ∙ ap (λ b. goal_of hs (read w p.conclusion) depth (in_order (goal_names (sequent_of w p))) true 1000 b) member_first

    pub first_place : IsPlace w (map formula_of p.hypotheses) [] (k ∷ []) (beginning (cells_read w.types w.store) (sequent_of w p)) (first_goal depth (sequent_of w p) ∷ [])
    first_place = record {
      variables = record { cells = refl; replaced = refl; free = All-nil (IsFree w.store) };
      aside = all_aside p.hypotheses held.hypotheses (All-tail (IsFormula (signature_in (declarations_of w))) (read w p.conclusion) (formulas (map (hypothesis_of w) p.hypotheses)) sequent.formulas);
      reads = ap (λ g. g ∷ []) reads;
      held = All-cons (HoldsGoal w) k []
          (record {
            added = subst (All (Holds w)) (sym added) (All-nil (Holds w));
            conclusion = subst (Holds w) (sym conclusion) held.conclusion;
            constants = names;
            once = subst (AllPairs (λ (a b : Nominal). a ≢ b)) (sym constants) (ordered_pairs (goal_names (sequent_of w p)));
          })
          (All-nil (HoldsGoal w));
    }

  -- WHERE THE SEARCH BEGINS has the sequent's leaves, and these turns lead through them
  module _ (depth : ℕ) (base : List TermId) (place : Place) (none : place.answer.items ≡ [])
      (is_place : IsPlace w base place.flexible.items place.goals (beginning (cells_read w.types w.store) (sequent_of w p)) (first_goal depth (sequent_of w p) ∷ [])) where
    abbrev now : Now
    now = beginning (cells_read w.types w.store) (sequent_of w p)

    abbrev first : tree.Goal
    first = first_goal depth (sequent_of w p)

    same_now : (ns : List Nominal) → ns ≡ in_order (goal_names (sequent_of w p)) → now ≡ now_at w place.flexible.items ns
    same_now ns e =
        ap (λ l. record { cells = cells_read w.types w.store; flexible = l; answer = []; held = in_order (goal_names (sequent_of w p)) }) (sym is_place.variables.replaced)
        ∙ ap (λ l. record { cells = cells_read w.types w.store; flexible = variables_read w.types w.store place.flexible.items; answer = []; held = l }) (sym e)

    same_turns : (gs : List Goal) → map (goal_read w base) gs ≡ first ∷ [] → turns_from (declarations_of w) now first ≡ turns_of w base place.flexible.items gs
    same_turns [] e = absurd (cc)
    same_turns (k ∷ ks) e =
        let same : goal_read w base k ≡ first = cc in
        ap (λ m. turns_from (declarations_of w) m first) (same_now (names_read w.types k.constants.items) (ap (λ (g : tree.Goal). g.constants) same))
        ∙ ap (turns_from (declarations_of w) (now_at w place.flexible.items (names_read w.types k.constants.items))) (sym same)

    pub begins : (ls : List Leaf) × Searched (declarations_of w) (cells_read w.types w.store) depth (sequent_of w p) ls × (at : HasLeaves w base place ls (turns_at w base place)) × (at.0 ≡ now)
    unfolding turns_at
    begins =
        let D = declarations_of w in
        let sg = signature_in D in
        let cells = cells_read w.types w.store in
        let s = sequent_of w p in
        let walk = some_walk D is.definitions now first (All-head (IsFormula sg) s.conclusion (formulas s.hypotheses) sequent.formulas).stands in (
          walk.0,
          leaves_walked D walk.1,
          (
            now,
            record {
              place = record { variables = is_place.variables; aside = is_place.aside; reads = refl; held = is_place.held };
              flexible = λ y h. absurd (false≢true h);
              tasks = subst (AllTasks sg now) (sym is_place.reads) (task D cells depth s sequent are_cells, tt);
              answer = subst (All (HoldsValue w.types w.store)) (sym none) (All-nil (HoldsValue w.types w.store));
            },
            subst (λ gs. Walked D now gs walk.0 (turns_at w base place)) (sym is_place.reads) (subst (Walked D now (first ∷ []) walk.0) (same_turns place.goals is_place.reads) walk.1),
          ),
          refl,
        )
