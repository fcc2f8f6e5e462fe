use Rattle.std.proofs.Common.{List, [], ◌∷◌, map, true, false, refl, sym, ◌∙◌, ap, subst}
use Rattle.ab_norm.specs.ab_store.specs.declared.node.CellId.{CellId}
use Rattle.ab_norm.specs.ab_store.specs.declared.node.TermId.{TermId}
use Rattle.ab_unify.specs.Problem.{cells_read}
use Rattle.ab_logic.specs.SequentReadings.{sequent_of}
use Rattle.ab_search_trees.specs.Goals as tree
use Rattle.ab_search_trees.specs.Goals.{Now, beginning, first_goal}
use Rattle.ab_next_ways.specs.ab_search_ways.specs.GoalReadings.{IsPlace}
use Rattle.ab_next_ways.specs.ab_search_ways.specs.declared.goal.Goal.{Goal}
use Rattle.ab_walk.proofs.Beginnings.{formula_of, first_place}
use Rattle.ab_walk.proofs.goal_search.first_place.Goals as goal

pub returns-clause-place : goal.returns-clause-place
returns-clause-place c = λ base e.
    let w = c.args.world.now in
    let p = c.args.goal.now in
    let made = c.in_ok-goal_constants.field-0 in
    let now : Now = beginning (cells_read w.types w.store) (sequent_of w p) in
    let gs : List tree.Goal = first_goal c.args.depth (sequent_of w p) ∷ [] in
    let kept = c.in_ok-with_first.field-0 in
    let first : Goal = record { added = c.new.result; conclusion = p.conclusion; depth = c.args.depth; constants = made; untouched = true; layers = 1000; member_first = false } in
    subst (λ (b : List TermId). IsPlace w b c.new-2.result.items kept now gs) (sym e)
    (subst (λ (l : List CellId). IsPlace w (map formula_of p.hypotheses) l kept now gs) (sym c.new-2.ensures.items)
    (subst (λ (l : List Goal). IsPlace w (map formula_of p.hypotheses) [] l now gs) (sym (c.in_ok-with_first.ensures ∙ ap (λ (l : List Goal). first ∷ l) c.none.ensures))
    (first_place w c.requires.world p c.requires.goal c.requires.sequent c.args.depth first c.new.ensures.items refl refl c.in_ok-goal_constants.ensures.list c.in_ok-goal_constants.ensures.held refl refl refl)))
