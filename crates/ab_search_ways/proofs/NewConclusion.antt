-- Ways that lead to one goal in a world in which terms were made: by a `nabla`, and by a layer of a judgement.
use Rattle.std.specs.List.{All}
use Rattle.std.specs.Prelude.{AllPairs, slice_get}
use Rattle.std.proofs.Common.{◌≡◌, ◌≢◌, suc, List, [], ◌∷◌, codes, Some, true, refl, sym, ◌∙◌, ap, subst}
use Rattle.ab_term.specs.Types.{Ty}
use Rattle.ab_term.specs.Terms.{Read}
use Rattle.ab_term.specs.Terms as terms
use Rattle.ab_term.specs.Substitution.{instance}
use Rattle.ab_norm.specs.ab_types.specs.Entries.{Table}
use Rattle.ab_norm.specs.ab_types.proofs.Entries.{type_still_held}
use Rattle.ab_norm.specs.ab_store.specs.declared.node.CellId.{CellId}
use Rattle.ab_norm.specs.ab_store.specs.declared.node.TermId.{TermId}
use Rattle.ab_norm.specs.declared.nominal.Nominal.{Nominal}
use Rattle.ab_norm.specs.Nominals.{nominal_of, HoldsNominal}
use Rattle.ab_unifiers.specs.Clauses.{name_term}
use Rattle.ab_unifiers.specs.Choices.{placed, new_constant}
use Rattle.ab_unify.specs.Problem.{cells_read}
use Rattle.ab_instances.specs.ListReadings.{names_read}
use Rattle.ab_instances.proofs.Made.{names_stay}
use Rattle.ab_formulas.specs.Declarations.{Declarations}
use Rattle.ab_formulas.specs.Forms as plain
use Rattle.ab_logic.specs.WorldGrowth as world
use Rattle.ab_logic.specs.Worlds.{Holds, read}
use Rattle.ab_logic.specs.declared.world.World.{World}
use Rattle.ab_search_trees.specs.Goals as tree
use Rattle.ab_search_trees.specs.Goals.{Now}
use Rattle.ab_search_trees.specs.Judgements.{opened_once}
use Rattle.ab_search_trees.specs.Ways as trees
use Rattle.ab_search_ways.specs.GoalReadings.{goal_read, HoldsGoal, StandsFor, IsAside}
use Rattle.ab_search_ways.specs.MadeWays.{IsMade, IsWayAt}
use Rattle.ab_search_ways.specs.declared.goal.Goal.{Goal}
use Rattle.ab_search_ways.specs.declared.way.Way.{Way}
use Rattle.ab_search_ways.proofs.FormMade.{leads, one_held, one_read}
use Rattle.ab_search_ways.proofs.LaterWorlds.{goal_same, all_aside, all_free, later_variables, later_goal}
use Rattle.ab_search_ways.proofs.Placing.{new_pairs}
use Rattle.ab_search_ways.proofs.Raised.{type_stays}

module _ (w v : World) (g : world.Grows w v) (D : Declarations) (goal : Goal) (there : HoldsGoal w goal) (flexible : List CellId)
    (same_cells : cells_read v.types v.store ≡ cells_read w.types w.store) (formula : TermId) (formula_there : Holds v formula)
    (k : Goal) (added : k.added.items ≡ goal.added.items) (conclusion : k.conclusion ≡ formula)
    (made : Way) (cells : made.flexible.items ≡ flexible) (equations : made.equations.items ≡ []) (serves : made.serves ≡ true) (goals : made.goals.items ≡ k ∷ [])
    (base : List TermId) (now : Now) (aside : All (IsAside w flexible) base) (stands : StandsFor w flexible now) where
  -- the way that leads to the goal, once that is held and read
  one_made : (taken : List terms.Nominal) (to : tree.Goal) → HoldsGoal v k → goal_read v base k ≡ to
      → IsMade v base (record (trees.leading_to D now (goal_read w base goal) (to ∷ [])) { taken = taken }) made
  one_made taken to held reads =
      leads v base now.cells now.flexible taken (to ∷ []) made equations serves
      (rw cells (all_free w v g flexible stands.free))
      (rw cells (all_aside w v g flexible base aside))
      (same_cells ∙ stands.cells)
      (rw cells (later_variables w v g flexible stands.free ∙ stands.replaced))
      (one_held v k made.goals.items goals held)
      (one_read v base k made.goals.items to goals reads)

  same_before : goal_read v base goal ≡ goal_read w base goal
  same_before = goal_same w v g flexible base aside goal there

  later : HoldsGoal v goal
  later = later_goal w v g goal there

  -- the goal is held, but for its constants
  held_with : All (HoldsNominal v.types) k.constants.items → AllPairs (λ a b. a ≢ b) (names_read v.types k.constants.items) → HoldsGoal v k
  held_with constants once = record {
    added = subst (All (Holds v)) (sym added) later.added;
    conclusion = subst (Holds v) (sym conclusion) formula_there;
    constants = constants;
    once = once;
  }

  module _ (A : Ty) (F : Read) (a : Nominal) (a_held : HoldsNominal w.types a) (a_is : nominal_of w.types a ≡ new_constant (names_read w.types goal.constants.items) A)
      (reads : read v formula ≡ instance F (name_term (codes "x") (nominal_of w.types a)))
      (held : (types : Table) → All (HoldsNominal types) goal.constants.items → HoldsNominal types a → All (HoldsNominal types) k.constants.items)
      (place : (types : Table) → names_read types k.constants.items ≡ placed (nominal_of types a) (names_read types goal.constants.items))
      (asks : goal_read v base k ≡ record (tree.asking (read v formula) (goal_read v base goal)) { constants = names_read v.types k.constants.items }) where
    abbrev new : terms.Nominal
    new = new_constant (names_read w.types goal.constants.items) A

    names : names_read v.types k.constants.items ≡ placed new (names_read w.types goal.constants.items)
    names =
        place v.types
        ∙ ap (λ B. placed (record { number = a.number; type = B }) (names_read v.types goal.constants.items)) (type_stays w v g a.ty a_held)
        ∙ ap (λ b. placed b (names_read v.types goal.constants.items)) a_is
        ∙ ap (placed new) (names_stay w.types v.types g.types goal.constants.items there.constants)

    pub nabla_made : IsWayAt v base (trees.by_form D now (goal_read w base goal) (plain.nabla A F)) 0 (Some made)
    nabla_made = (
      record (trees.leading_to D now (goal_read w base goal) (record (tree.asking (instance F (name_term (codes "x") new)) (goal_read w base goal)) { constants = placed new (names_read w.types goal.constants.items) } ∷ [])) { taken = new ∷ [] },
      refl,
      one_made (new ∷ []) (record (tree.asking (instance F (name_term (codes "x") new)) (goal_read w base goal)) { constants = placed new (names_read w.types goal.constants.items) })
          (held_with (held v.types later.constants (type_still_held w.types v.types g.types a.ty a_held)) (subst (AllPairs (λ b c. b ≢ c)) (sym names) (new_pairs (names_read w.types goal.constants.items) A there.once)))
          (asks
          ∙ ap (λ ns. record (tree.asking (read v formula) (goal_read v base goal)) { constants = ns }) names
          ∙ ap (λ r. record (tree.asking r (goal_read v base goal)) { constants = placed new (names_read w.types goal.constants.items) }) (reads ∙ ap (λ b. instance F (name_term (codes "x") b)) a_is)
          ∙ ap (λ q. record (tree.asking (instance F (name_term (codes "x") new)) q) { constants = placed new (names_read w.types goal.constants.items) }) same_before),
    )

  module _ (same : k.constants.items ≡ goal.constants.items) (opened : opened_once (read w goal.conclusion) ≡ Some (read v formula)) (less : goal.layers ≡ suc k.layers)
      (asks : goal_read v base k ≡ record (tree.asking (read v formula) (goal_read v base goal)) { layers = k.layers }) where
    abbrev to : tree.Goal
    to = record (tree.asking (read v formula) (goal_read w base goal)) { layers = k.layers }

    pub layer_made : IsWayAt v base (trees.by_layer D now (goal_read w base goal) goal.layers (opened_once (read w goal.conclusion))) 0 (Some made)
    layer_made = (
      trees.leading_to D now (goal_read w base goal) (to ∷ []),
      ap (λ n. slice_get (trees.by_layer D now (goal_read w base goal) n (opened_once (read w goal.conclusion))) 0) less ∙ ap (λ o. slice_get (trees.by_layer D now (goal_read w base goal) (suc k.layers) o) 0) opened,
      one_made [] to
          (held_with (subst (All (HoldsNominal v.types)) (sym same) later.constants) (subst (λ ns. AllPairs (λ b c. b ≢ c) (names_read v.types ns)) (sym same) later.once))
          (asks ∙ ap (λ q. record (tree.asking (read v formula) q) { layers = k.layers }) same_before),
    )
