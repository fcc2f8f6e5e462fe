use Rattle.std.proofs.Common.{◌≡◌}
use Rattle.ab_term.specs.Reach.{raise}
use Rattle.ab_norm.specs.ab_store.specs.Trees.{Holds, tree_of}
use Rattle.ab_norm.specs.NodeGrowth.{AddsTypedTerms}
use Rattle.ab_judgement_forms.proofs.raised_terms.raised_term.Given as goal

abbrev pub invariant-loop-above : goal.invariant-loop-above
invariant-loop-above l = record {
  held : Holds l.store l.here;
  tree : tree_of l.types l.store l.here ≡ raise l.above 0 (tree_of l.types l.initial.store l.fn.term);
  adds : AddsTypedTerms l.types l.initial.store l.store;
}
