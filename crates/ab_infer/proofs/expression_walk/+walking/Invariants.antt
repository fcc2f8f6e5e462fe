use Rattle.std.proofs.Common.{length, ◌+◌, ◌*◌, ◌^◌, map}
use Rattle.ab_syntax.specs.ab_expressions.specs.SyntaxTrees.{tree_of}
use Rattle.ab_grammar.specs.Tree.{trees_of}
use Rattle.ab_meaning.specs.Scopes.{Found, resolved, items_before}
use Rattle.ab_infer.specs.NameScopes.{names_in, scope_of}
use Rattle.ab_infer.specs.declared.row.Row.{Row}
use Rattle.ab_infer.specs.Rows.{IsGround, AddsTypes, Grew}
use Rattle.ab_infer.specs.WalkMoves.{IsApplied, IsListed}
use Rattle.ab_infer.proofs.expression_walk.+walking.Given as goal

abbrev pub invariant-walk_application-loop-argument : goal.invariant-walk_application-loop-argument
invariant-walk_application-loop-argument l = record {
  ground : IsGround l.types l.store l.formulas l.scope;
  adds : AddsTypes l.fn.types l.types;
  applied : IsApplied l.types l.store l.fn.row l.row (scope_of l.fn.types l.store l.scope) (names_in l.fn.row.bound.items)
      (resolved (scope_of l.fn.types l.store l.scope) (names_in l.fn.row.bound.items) (tree_of l.parse)) l.arguments l.argument-index;
}

abbrev pub invariant-walk_items-loop-item : goal.invariant-walk_items-loop-item
invariant-walk_items-loop-item l = record {
  ground : IsGround l.types l.store l.formulas l.scope;
  adds : AddsTypes l.fn.types l.types;
  listed : (first : Row) (f : Found) → Grew l.fn.types l.store first l.fn.row f → IsListed l.types l.store first l.row (scope_of l.fn.types l.store l.scope) (names_in l.fn.row.bound.items)
      (items_before (scope_of l.fn.types l.store l.scope) (names_in l.fn.row.bound.items) f (trees_of (map tree_of l.items))) l.items l.item-index;
}

abbrev pub decreases-walk : goal.decreases-walk
decreases-walk l = goal.size-walk l * 2 ^ 65 + 1

abbrev pub decreases-walk_application : goal.decreases-walk_application
decreases-walk_application l = goal.size-walk_application l * 2 ^ 65

abbrev pub decreases-walk_judgement : goal.decreases-walk_judgement
decreases-walk_judgement l = goal.size-walk_judgement l * 2 ^ 65

abbrev pub decreases-walk_argument : goal.decreases-walk_argument
decreases-walk_argument l = goal.size-walk_argument l * 2 ^ 65 + 2

abbrev pub decreases-walk_context : goal.decreases-walk_context
decreases-walk_context l = goal.size-walk_context l * 2 ^ 65 + 4

abbrev pub decreases-walk_items : goal.decreases-walk_items
decreases-walk_items l = goal.size-walk_items l * 2 ^ 65 + 3

abbrev pub decreases-walk_binders : goal.decreases-walk_binders
decreases-walk_binders l = goal.size-walk_binders l * 2 ^ 65 + length l.binders.now + 2
