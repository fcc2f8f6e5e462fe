-- The ways by an `exists` and by a `forall`: a variable more was made.
use Rattle.std.specs.List.{All}
use Rattle.std.proofs.Common.{◌≡◌, List, [], ◌∷◌, ◌++◌, length, codes, true, false, sym, ◌∙◌, ap, subst}
use Rattle.ab_term.specs.Types.{Ty}
use Rattle.ab_term.specs.Terms.{Read}
use Rattle.ab_term.specs.Terms as terms
use Rattle.ab_term.specs.Substitution.{instance}
use Rattle.ab_term.specs.Abstraction.{over, given_names}
use Rattle.ab_norm.specs.ab_store.specs.declared.node.CellId.{CellId}
use Rattle.ab_norm.specs.ab_store.specs.declared.node.TermId.{TermId}
use Rattle.ab_unifiers.proofs.Falling.{map_length}
use Rattle.ab_unify.specs.Problem.{cell_read, cells_read}
use Rattle.ab_formulas.specs.Declarations.{Declarations}
use Rattle.ab_logic.specs.WorldGrowth as world
use Rattle.ab_logic.specs.Worlds.{IsWorld, read}
use Rattle.ab_logic.specs.declared.world.World.{World}
use Rattle.ab_search_trees.specs.Goals as tree
use Rattle.ab_search_trees.specs.Goals.{Now}
use Rattle.ab_search_trees.specs.Ways as trees
use Rattle.ab_search_ways.specs.GoalReadings.{goal_read, HoldsGoal, StandsFor, IsAside}
use Rattle.ab_search_ways.specs.MadeWays.{IsMade, MakesWay}
use Rattle.ab_search_ways.specs.declared.goal.Goal.{Goal}
use Rattle.ab_search_ways.specs.declared.way.Way.{Way}
use Rattle.ab_search_ways.proofs.FormMade.{leads, one_held, one_read}
use Rattle.ab_search_ways.proofs.LaterWorlds.{goal_same, all_aside, all_free, later_variables}
use Rattle.ab_search_ways.proofs.Opened.{all_opened_free, all_opened_aside, opened_variables}

-- the way by an `exists` over these constants, and by a `forall` over them
abbrev pub exists_way : Now → tree.Goal → Ty → Read → List terms.Nominal → trees.Way
exists_way now g A F ns = record {
  cells = now.cells ++ record { hint = trees.hint_of F; type = over ns A } ∷ [];
  flexible = now.flexible ++ record { name = length now.cells; type = over ns A } ∷ [];
  equations = [];
  serving = [];
  taken = [];
  goals = record (tree.asking (instance F (given_names (codes "x") (record { name = length now.cells; type = over ns A }) ns A)) g) { untouched = false; member_first = g.member_first } ∷ [];
}

abbrev pub for_all_way : Now → tree.Goal → Ty → Read → List terms.Nominal → trees.Way
for_all_way now g A F ns = record {
  cells = now.cells ++ record { hint = trees.hint_of F; type = over ns A } ∷ [];
  flexible = now.flexible;
  equations = [];
  serving = [];
  taken = [];
  goals = tree.asking (instance F (given_names (codes "x") (record { name = length now.cells; type = over ns A }) ns A)) g ∷ [];
}

module _ (w v : World) (is : IsWorld w) (g : world.Grows w v) (D : Declarations) (A : Ty) (F : Read) (goal : Goal) (there : HoldsGoal w goal) (flexible : List CellId) (ns : List terms.Nominal)
    (cell : CellId) (number : cell.0 ≡ length w.store.cells)
    (cells : cells_read v.types v.store ≡ cells_read w.types w.store ++ record { hint = trees.hint_of F; type = over ns A } ∷ [])
    (formula : TermId) (reads : read v formula ≡ instance F (given_names (codes "x") (record { name = length w.store.cells; type = over ns A }) ns A))
    (base : List TermId) (now : Now) (aside : All (IsAside w flexible) base) (stands : StandsFor w flexible now) where
  size : length w.store.cells ≡ length now.cells
  size = sym (map_length (cell_read w.types) w.store.cells) ∙ ap length stands.cells

  more : cells_read v.types v.store ≡ now.cells ++ record { hint = trees.hint_of F; type = over ns A } ∷ []
  more = cells ∙ ap (λ l. l ++ record { hint = trees.hint_of F; type = over ns A } ∷ []) stands.cells

  said : read v formula ≡ instance F (given_names (codes "x") (record { name = length now.cells; type = over ns A }) ns A)
  said = reads ∙ ap (λ n. instance F (given_names (codes "x") (record { name = n; type = over ns A }) ns A)) size

  abbrev before : tree.Goal
  before = goal_read w base goal

  abbrev formula_now : Read
  formula_now = instance F (given_names (codes "x") (record { name = length now.cells; type = over ns A }) ns A)

  same_before : goal_read v base goal ≡ before
  same_before = goal_same w v g flexible base aside goal there

  abbrev with_it : tree.Goal → tree.Goal
  with_it q = record q { untouched = false; member_first = goal.member_first }

  pub exists_made : (made : Way) (k : Goal) → made.equations.items ≡ [] → made.serves ≡ true → made.flexible.items ≡ flexible ++ cell ∷ [] → made.goals.items ≡ k ∷ [] → HoldsGoal v k
      → goal_read v base k ≡ record (tree.asking (read v formula) (goal_read v base goal)) { untouched = false; member_first = goal.member_first }
      → IsMade v base (exists_way now before A F ns) made
  exists_made made k e s f items held asks =
      leads v base (now.cells ++ record { hint = trees.hint_of F; type = over ns A } ∷ []) (now.flexible ++ record { name = length now.cells; type = over ns A } ∷ []) [] (with_it (tree.asking formula_now before) ∷ []) made e s
      (rw f (all_opened_free w v is g cell (trees.hint_of F) (over ns A) number cells flexible stands.free))
      (rw f (all_opened_aside w v is g cell (trees.hint_of F) (over ns A) number cells flexible base aside))
      more
      (rw f (opened_variables w v is g cell (trees.hint_of F) (over ns A) number cells flexible stands.free
      ∙ ap (λ l. l ++ record { name = length w.store.cells; type = over ns A } ∷ []) stands.replaced
      ∙ ap (λ n. now.flexible ++ record { name = n; type = over ns A } ∷ []) size))
      (one_held v k made.goals.items items held)
      (one_read v base k made.goals.items (with_it (tree.asking formula_now before)) items
      (asks ∙ ap (λ r. with_it (tree.asking r (goal_read v base goal))) said ∙ ap (λ q. with_it (tree.asking formula_now q)) same_before))

  abbrev later : Now
  later = record now { cells = now.cells ++ record { hint = trees.hint_of F; type = over ns A } ∷ [] }

  pub for_all_made : (made : Way) → MakesWay v flexible goal (λ now q. trees.leading_to D now q (tree.asking (read v formula) q ∷ [])) v made
      → IsMade v base (for_all_way now before A F ns) made
  for_all_made made makes =
      subst (λ q. IsMade v base (trees.leading_to D later before (tree.asking formula_now q ∷ [])) made) same_before
      (subst (λ r. IsMade v base (trees.leading_to D later before (tree.asking r (goal_read v base goal) ∷ [])) made) said
      (makes base later (all_aside w v g flexible base aside) (record { cells = more; replaced = later_variables w v g flexible stands.free ∙ stands.replaced; free = all_free w v g flexible stands.free })))
