-- That the nodes stand for the derivation, from one step to the next.
use Rattle.std.specs.Prelude.{slice_set}
use Rattle.std.proofs.Common.{◌≡◌, ℕ, ◌+◌, List, [], ◌∷◌, ◌++◌, length, map, take, drop, get_or, refl, sym, ◌∙◌, ap, subst}
use Rattle.ab_logic.specs.SequentReadings.{sequent_of}
use Rattle.ab_logic.specs.declared.world.World.{World}
use Rattle.ab_logic.specs.declared.sequent.Sequent.{Sequent as Kept}
use Rattle.ab_rules.specs.declared.step.Step.{Step}
use Rattle.ab_rules.specs.RuleAnswers.{step_of}
use Rattle.ab_kernel.specs.declared.node.ProofNode.{ProofNode}
use Rattle.ab_kernel.specs.declared.proof.Refinement.{Refinement}
use Rattle.ab_kernel.specs.Nodes.{open_node, sequents_in, node_at, step_held, numbers_up}
use Rattle.ab_theory.specs.Derivations.{refined}
use Rattle.ab_kernel.specs.NodeTrees.{StandsFor, Tree}
use Rattle.ab_kernel.specs.Layout.{numbers_down, nodes_before, open_before, steps_in, history_of, Stands, Layers, Grown}
use Rattle.ab_kernel.proofs.Filling.{before_again}
use Rattle.ab_kernel.proofs.Hand.{at_hand, filled_node, numbers_before}
use Rattle.ab_kernel.proofs.Trees.{tree_after}

pub tree_now : (w : World) (nodes : List ProofNode) (ns : List ℕ) (js : List Refinement) → Grown w nodes ns js → Tree w nodes ns (history_of w (record { nodes = nodes; journal = js })).tree
tree_now w nodes ns [] grown = grown
tree_now w nodes ns (r ∷ js) grown = grown.0

pub stands_now : (w : World) (nodes : List ProofNode) (ns : List ℕ) (js : List Refinement) → Grown w nodes ns js → StandsFor w nodes (history_of w (record { nodes = nodes; journal = js })).tree 0
stands_now w nodes ns js grown = (tree_now w nodes ns js grown).stands

pub grown_after : (w : World) (nodes new : List ProofNode) (ns ns' : List ℕ) (js : List Refinement) (made : List Kept) (place at node first count : ℕ) (step : Step) (children : List ℕ)
    → Stands w (map (sequent_of w) (sequents_in nodes)) ns (steps_in nodes js) → Layers nodes ns js → place + at + 1 ≡ length ns → node ≡ get_or ns at node
    → first ≡ length nodes → count ≡ length made → children ≡ numbers_up (length nodes) (length made)
    → new ≡ slice_set nodes node (filled_node nodes node step children) ++ map open_node made
    → ns' ≡ take at ns ++ numbers_down first count ++ drop (at + 1) ns
    → (history_of w (record { nodes = new; journal = record { place = place; node = node; premises = count } ∷ js })).tree
    ≡ refined place (step_of w step) (map (sequent_of w) made) (history_of w (record { nodes = nodes; journal = js })).tree
    → Grown w nodes ns js → Grown w new ns' (record { place = place; node = node; premises = count } ∷ js)
grown_after w nodes new ns ns' js made place at node first count step children stands layers e is_node is_first counted numbered is is_ns is_tree grown =
    let r : Refinement = record { place = place; node = node; premises = count } in
    let hand = at_hand w nodes ns js place at node stands layers e is_node in
    let again : nodes_before r new ≡ nodes = before_again nodes made node (filled_node nodes node step children) new hand.within hand.clear refl is r refl counted in
    let before : open_before (record { step = step_held (node_at new node); place = place; node = node; premises = count }) ns' ≡ ns =
    numbers_before w nodes ns ns' js made place at node first count step (step_held (node_at new node)) stands e is_node is_first counted is_ns in
    let numbers : ns' ≡ take at ns ++ numbers_down (length nodes) (length made) ++ drop (at + 1) ns =
    is_ns
    ∙ ap (λ n. take at ns ++ numbers_down n count ++ drop (at + 1) ns) is_first
    ∙ ap (λ n. take at ns ++ numbers_down (length nodes) n ++ drop (at + 1) ns) counted in
    let tree = tree_after w nodes made node (filled_node nodes node step children) new hand.within hand.clear refl is (step_of w step) refl numbered
    ns ns' (history_of w (record { nodes = nodes; journal = js })).tree place at (tree_now w nodes ns js grown) hand.split hand.distinct e numbers in (
      subst (Tree w new ns') (sym is_tree) tree,
      subst (λ ms. Grown w ms (open_before (record { step = step_held (node_at new node); place = place; node = node; premises = count }) ns') js) (sym again)
          (subst (λ ms. Grown w nodes ms js) (sym before) grown),
    )
