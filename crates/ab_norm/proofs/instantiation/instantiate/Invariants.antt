use Rattle.std.proofs.Common.{◌≡◌, ◌<◌, map, drop}
use Rattle.ab_term.specs.Substitution.{instance_by_all}
use Rattle.ab_store.specs.Trees.{Holds, tree_of}
use Rattle.ab_norm.specs.NodeGrowth.{AddsTerms}
use Rattle.ab_norm.proofs.instantiation.instantiate.Given as goal

-- what the rest of the arguments make of the term so far is the answer
abbrev pub invariant-loop-arg : goal.invariant-loop-arg
invariant-loop-arg g l = record {
  adds : AddsTerms l.fn.store l.store;
  held : Holds l.store l.here;
  tree : instance_by_all (tree_of l.types l.store l.here) (map (tree_of l.types l.fn.store) (drop l.arg-index l.args)) ≡ instance_by_all (tree_of l.types l.fn.store l.fn.lam) (map (tree_of l.types l.fn.store) l.args);
  steps : l.fn.steps < l.steps;
}
