use Rattle.std.proofs.Common.{reverse, subst}
use Rattle.ab_kernel.specs.Layout.{Held, history_of}
use Rattle.ab_kernel.specs.NodeTrees.{StandsFor}
use Rattle.ab_kernel.proofs.Growing.{stands_now}
use Rattle.ab_kernel.proofs.proof.Proof.node.Goals as goal

pub returns-clause-tree : goal.returns-clause-tree
returns-clause-tree c w =
    subst (λ (p : Held). StandsFor w p.nodes (history_of w p).tree 0) c.self.view_is
    (stands_now w c.self.inside.nodes.items c.self.inside.open.items (reverse c.self.inside.journal.items) (c.self.invariant.grown w))
