use Rattle.std.proofs.Common.{◌≡◌, ◌≤◌, map, take}
use Rattle.ab_norm.specs.ab_store.specs.Trees.{Holds, tree_of}
use Rattle.ab_norm.specs.NodeGrowth.{AddsTypedTerms}
use Rattle.ab_logic.specs.Forms.{sign_of}
use Rattle.ab_theory.specs.Opening.{conjunction_of}
use Rattle.ab_judgement_forms.proofs.ScopesOpened.{opened_at}
use Rattle.ab_judgement_forms.proofs.opened_scopes.opened_all.Given as goal

abbrev pub invariant-loop-i : goal.invariant-loop-i
invariant-loop-i g l = record {
  held : Holds l.store l.formula;
  tree : tree_of l.types l.store l.formula
      ≡ conjunction_of (map (λ t. opened_at l.types (sign_of l.opening.manner.sign) l.opening.list l.names l.fn.store (tree_of l.types l.fn.store t)) (take l.i l.scopes));
  adds : AddsTypedTerms l.types l.fn.store l.store;
  steps : l.fn.steps ≤ l.steps;
}
