-- The goal at which a step is taken, among a proof's nodes and numbers, and what these are after the step.
use Rattle.std.specs.Prelude.{slice_set}
use Rattle.std.proofs.Common.{◌≡◌, ℕ, ◌+◌, ◌<◌, List, [], ◌∷◌, ◌++◌, Some, length, map, take, drop, get_or, refl, sym, ◌∙◌, ap, subst, arith, append_assoc}
use Rattle.std.proofs.lemmas.List.{length-map, set-append_left, get_or_append_left}
use Rattle.std.proofs.lemmas.Option.{slice_get_within}
use Rattle.ab_logic.specs.SequentReadings.{sequent_of}
use Rattle.ab_logic.specs.declared.world.World.{World}
use Rattle.ab_logic.specs.declared.sequent.Sequent.{Sequent as Kept}
use Rattle.ab_rules.specs.declared.step.Step.{Step}
use Rattle.ab_kernel.specs.Nodes.{open_node, IsClear, sequents_in, no_node, node_at, step_held}
use Rattle.ab_kernel.specs.Layout.{StepAt, numbers_down, nodes_before, steps_in, open_before, Stands, AreOpen, AreDistinct, Layers}
use Rattle.ab_kernel.specs.declared.node.ProofNode.{ProofNode}
use Rattle.ab_kernel.specs.declared.proof.Refinement.{Refinement}
use Rattle.ab_formulas.proofs.KernelSplits.{at_place}
use Rattle.ab_kernel.proofs.Standing.{reads_now, leads, restored}
use Rattle.ab_kernel.proofs.Filling.{AllBelow, each_within, open_at, filled, before_again, sequents_after, open_after, distinct_after}

layers_open : (nodes : List ProofNode) (ns : List ℕ) (js : List Refinement) → Layers nodes ns js → AreOpen nodes ns
layers_open nodes ns [] l = l.0
layers_open nodes ns (r ∷ rs) l = l.0

layers_distinct : (nodes : List ProofNode) (ns : List ℕ) (js : List Refinement) → Layers nodes ns js → AreDistinct ns
layers_distinct nodes ns [] l = l.1
layers_distinct nodes ns (r ∷ rs) l = l.1

pub record AtHand (nodes : List ProofNode) (ns : List ℕ) (at node : ℕ) : Type 0 where
  pub within : node < length nodes
  pub split : ns ≡ take at ns ++ node ∷ drop (at + 1) ns
  pub clear : IsClear (node_at nodes node)
  pub below : AllBelow (length nodes) ns
  pub are_open : AreOpen nodes ns
  pub distinct : AreDistinct ns

pub at_hand : (w : World) (nodes : List ProofNode) (ns : List ℕ) (js : List Refinement) (place at node : ℕ)
    → Stands w (map (sequent_of w) (sequents_in nodes)) ns (steps_in nodes js) → Layers nodes ns js → place + at + 1 ≡ length ns → node ≡ get_or ns at node → AtHand nodes ns at node
at_hand w nodes ns js place at node stands layers e is_node =
    let ss = map (sequent_of w) (sequents_in nodes) in
    let reads = reads_now w ss ns (steps_in nodes js) stands in
    let found = leads place at node reads e is_node in
    let as_many : length ss ≡ length nodes = length-map (sequents_in nodes) (sequent_of w) ∙ length-map nodes (λ (n : ProofNode). n.sequent) in
    let there = slice_get_within ss node found.0 found.1 in
    let split = (at_place ns at node found.3).whole in
    record {
      within = omega (arith, there, as_many);
      split = split;
      clear = open_at nodes (take at ns) node (drop (at + 1) ns) (subst (AreOpen nodes) split (layers_open nodes ns js layers));
      below = subst (λ n. AllBelow n ns) as_many (each_within ss ns _ reads.open_read);
      are_open = layers_open nodes ns js layers;
      distinct = layers_distinct nodes ns js layers;
    }

-- the goal's node, with the step
abbrev pub filled_node : List ProofNode → ℕ → Step → List ℕ → ProofNode
filled_node nodes node step children = record { sequent = (node_at nodes node).sequent; step = Some step; children = children }

pub put_is : (nodes whole new : List ProofNode) (made : List Kept) (node : ℕ) (step : Step) (children : List ℕ) → node < length nodes
    → whole ≡ nodes ++ map open_node made → new ≡ slice_set whole node (filled_node whole node step children)
    → new ≡ slice_set nodes node (filled_node nodes node step children) ++ map open_node made
put_is nodes whole new made node step children within is_whole is =
    is
    ∙ ap (λ ns. slice_set ns node (filled_node ns node step children)) is_whole
    ∙ ap (λ (n : ProofNode). slice_set (nodes ++ map open_node made) node (record { sequent = n.sequent; step = Some step; children = children })) (get_or_append_left nodes (map open_node made) no_node node within)
    ∙ set-append_left nodes (map open_node made) node (filled_node nodes node step children) within

pub record Put (nodes : List ProofNode) (js : List Refinement) (place node count : ℕ) (step : Step) (made : List Kept) (new : List ProofNode) : Type 0 where
  pub sequents : sequents_in new ≡ sequents_in nodes ++ made
  pub steps : steps_in new (record { place = place; node = node; premises = count } ∷ js) ≡ record { step = step; place = place; node = node; premises = count } ∷ steps_in nodes js
  pub before : nodes_before (record { place = place; node = node; premises = count }) new ≡ nodes

abbrev cons_step : StepAt → List StepAt → List StepAt
cons_step r rs = r ∷ rs

pub put : (nodes new : List ProofNode) (ns : List ℕ) (js : List Refinement) (made : List Kept) (place at node count : ℕ) (step : Step) (children : List ℕ) → AtHand nodes ns at node → count ≡ length made
    → new ≡ slice_set nodes node (filled_node nodes node step children) ++ map open_node made → Put nodes js place node count step made new
put nodes new ns js made place at node count step children hand counted is =
    let r : Refinement = record { place = place; node = node; premises = count } in
    let x = filled_node nodes node step children in
    let here : node_at new node ≡ x = filled nodes made node x new hand.within hand.clear refl is in
    let again : nodes_before r new ≡ nodes = before_again nodes made node x new hand.within hand.clear refl is r refl counted in
    record {
      sequents = sequents_after nodes made node x new hand.within hand.clear refl is;
      steps =
          ap (λ (n : ProofNode). cons_step (record { step = step_held n; place = place; node = node; premises = count }) (steps_in (nodes_before r new) js)) here
          ∙ ap (λ ns2. cons_step (record { step = step; place = place; node = node; premises = count }) (steps_in ns2 js)) again;
      before = again;
    }

-- the open goals' numbers, once the step is taken back
pub numbers_before : (w : World) (nodes : List ProofNode) (ns ns' : List ℕ) (js : List Refinement) (made : List Kept) (place at node first count : ℕ) (step taken : Step)
    → Stands w (map (sequent_of w) (sequents_in nodes)) ns (steps_in nodes js) → place + at + 1 ≡ length ns → node ≡ get_or ns at node
    → first ≡ length nodes → count ≡ length made
    → ns' ≡ take at ns ++ numbers_down first count ++ drop (at + 1) ns
    → open_before (record { step = taken; place = place; node = node; premises = count }) ns' ≡ ns
numbers_before w nodes ns ns' js made place at node first count step taken stands e is_node is_first counted is_ns =
    let items = sequents_in nodes in
    let ss = map (sequent_of w) items in
    let ps = map (sequent_of w) made in
    let found = leads place at node (reads_now w ss ns (steps_in nodes js) stands) e is_node in
    let many : length ss ≡ length nodes = length-map items (sequent_of w) ∙ length-map nodes (λ (n : ProofNode). n.sequent) in
    let fresh : length ps ≡ length made = length-map made (sequent_of w) in
    let whole : ns' ≡ take at ns ++ numbers_down (length ss) (length ps) ++ drop (at + 1) ns =
    is_ns
    ∙ ap (λ n. take at ns ++ numbers_down n count ++ drop (at + 1) ns) (is_first ∙ sym many)
    ∙ ap (λ n. take at ns ++ numbers_down (length ss) n ++ drop (at + 1) ns) (counted ∙ sym fresh) in
    let back : open_before (record { step = step; place = place; node = node; premises = length ps }) (take at ns ++ numbers_down (length ss) (length ps) ++ drop (at + 1) ns) ≡ ns =
    restored w ss ns (steps_in nodes js) stands step ps place at node found.0 e found.3 found.2 in
    ap (λ n. open_before (record { step = step; place = place; node = node; premises = n }) ns') (counted ∙ sym fresh)
    ∙ ap (open_before (record { step = step; place = place; node = node; premises = length ps })) whole
    ∙ back

pub layers_after : (w : World) (nodes new : List ProofNode) (ns ns' : List ℕ) (js : List Refinement) (made : List Kept) (place at node first count : ℕ) (step : Step) (children : List ℕ)
    → Stands w (map (sequent_of w) (sequents_in nodes)) ns (steps_in nodes js) → Layers nodes ns js → place + at + 1 ≡ length ns → node ≡ get_or ns at node
    → first ≡ length nodes → count ≡ length made
    → new ≡ slice_set nodes node (filled_node nodes node step children) ++ map open_node made
    → ns' ≡ take at ns ++ numbers_down first count ++ drop (at + 1) ns
    → Layers new ns' (record { place = place; node = node; premises = count } ∷ js)
layers_after w nodes new ns ns' js made place at node first count step children stands layers e is_node is_first counted is is_ns =
    let r : Refinement = record { place = place; node = node; premises = count } in
    let x = filled_node nodes node step children in
    let hand = at_hand w nodes ns js place at node stands layers e is_node in
    let again : nodes_before r new ≡ nodes = before_again nodes made node x new hand.within hand.clear refl is r refl counted in
    let numbers : ns' ≡ take at ns ++ (numbers_down (length nodes) (length made) ++ drop (at + 1) ns) =
    is_ns ∙ append_assoc (take at ns) (numbers_down first count) (drop (at + 1) ns)
    ∙ ap (λ n. take at ns ++ (numbers_down n count ++ drop (at + 1) ns)) is_first
    ∙ ap (λ n. take at ns ++ (numbers_down (length nodes) n ++ drop (at + 1) ns)) counted in
    let before : open_before (record { step = step_held (node_at new node); place = place; node = node; premises = count }) ns' ≡ ns =
    numbers_before w nodes ns ns' js made place at node first count step (step_held (node_at new node)) stands e is_node is_first counted is_ns in
    let opened : AreOpen new (take at ns ++ (numbers_down (length nodes) (length made) ++ drop (at + 1) ns)) =
    open_after nodes made node x new hand.within hand.clear refl is (take at ns) (drop (at + 1) ns)
    (subst (AllBelow (length nodes)) hand.split hand.below) (subst AreDistinct hand.split hand.distinct) (subst (AreOpen nodes) hand.split hand.are_open) in
    let distinct : AreDistinct (take at ns ++ (numbers_down (length nodes) (length made) ++ drop (at + 1) ns)) =
    distinct_after (length nodes) (length nodes) (length made) (take at ns) node (drop (at + 1) ns) (omega arith)
    (subst (AllBelow (length nodes)) hand.split hand.below) (subst AreDistinct hand.split hand.distinct) in (
      subst (AreOpen new) (sym numbers) opened,
      subst AreDistinct (sym numbers) distinct,
      subst (λ ms. Layers ms (open_before (record { step = step_held (node_at new node); place = place; node = node; premises = count }) ns') js) (sym again)
          (subst (λ ms. Layers nodes ms js) (sym before) layers),
    )
