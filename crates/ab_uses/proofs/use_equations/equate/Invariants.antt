use Rattle.std.proofs.Common.{◌≡◌, map, take}
use Rattle.std.specs.List.{All}
use Rattle.std.specs.Option.{option_map}
use Rattle.ab_norm.specs.ab_store.specs.Trees.{tree_of}
use Rattle.ab_norm.specs.NodeGrowth.{AddsTypedTerms}
use Rattle.ab_unify.specs.UnifyAnswers.{IsTypedPair}
use Rattle.ab_alternatives.specs.LeftAlternatives.{trees_from}
use Rattle.ab_theory.specs.Uses.{equations}
use Rattle.ab_uses.proofs.use_equations.equate.Given as goal

abbrev pub invariant-loop-place : goal.invariant-loop-place
invariant-loop-place l = record {
  adds : AddsTypedTerms l.types l.fn.store l.store;
  reads : trees_from l.types l.store 0 l.list.items
      ≡ equations 0 (map (option_map (tree_of l.types l.fn.store)) (take l.place l.aim.hypotheses.items)) (map (tree_of l.types l.fn.store) l.antecedents);
  typed : All (IsTypedPair l.types l.store) l.list.items;
}
