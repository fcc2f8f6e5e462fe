use Rattle.std.proofs.Common.{◌∙◌}
use Rattle.ab_norm.specs.ab_store.specs.Trees.{tree_of}
use Rattle.ab_norm.proofs.Frame.{if_ok}
use Rattle.ab_alternatives.proofs.Quantified.{all_over}
use Rattle.ab_alternatives.proofs.quantifiers.exists_all.Goals as goal

pub returns-clause-tree : goal.returns-clause-tree
returns-clause-tree c = if_ok c.exists_over.result (λ r reads types. reads types ∙ all_over types c.args.store.now c.args.cells.now (tree_of types c.args.store.now c.args.body)) c.exists_over.ensures.tree
