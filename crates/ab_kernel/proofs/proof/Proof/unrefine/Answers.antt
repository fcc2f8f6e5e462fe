use Rattle.std.specs.Prelude.{vec_capacity, slice_set}
use Rattle.std.specs.List.{All}
use Rattle.std.proofs.Common.{◌≡◌, ◌+◌, ◌-◌, ◌≤◌, ℕ, List, [], ◌∷◌, ◌++◌, map, take, drop, reverse, length, sym, ◌∙◌, ap, subst, arith}
use Rattle.std.proofs.lemmas.List.{length-map, length-take-le}
use Rattle.ab_logic.specs.SequentReadings.{sequent_of}
use Rattle.ab_logic.specs.declared.world.World.{World}
use Rattle.ab_kernel.specs.declared.node.ProofNode.{ProofNode}
use Rattle.ab_kernel.specs.declared.proof.Refinement.{Refinement}
use Rattle.ab_theory.specs.Derivations.{open_goals, debts_of, root, undone}
use Rattle.ab_kernel.specs.Nodes.{cleared, sequents_in, node_at, step_held}
use Rattle.ab_kernel.specs.Layout.{Held, StepAt, steps_in, nodes_before, open_before, start_of, made_by, owed_by, Stands, Layers, Grown, history_of, IsProof, before_last}
use Rattle.ab_kernel.specs.Debts.{owed, owed_at}
use Rattle.ab_rules.specs.RuleAnswers.{step_of}
use Rattle.ab_kernel.proofs.Standing.{some_world}
use Rattle.ab_kernel.proofs.Owing.{node_owes}
use Rattle.ab_kernel.proofs.Filling.{sequents-before}
use Rattle.ab_kernel.proofs.TakingBack.{TakenBack, last_step, room_to_go, node_there, taken_back, proof_before}
use Rattle.ab_kernel.proofs.proof.Proof.unrefine.Given.{Over}
use Rattle.ab_kernel.proofs.proof.Proof.unrefine.Goals as goal

-- the last step, and those before it
abbrev last_of : List ProofNode → Refinement → StepAt
last_of nodes r = record { step = step_held (node_at nodes r.node); place = r.place; node = r.node; premises = r.premises }

-- what stands, with the last step apart
module _ (w : World) (nodes : List ProofNode) (ns : List ℕ) (js js' : List Refinement) (r : Refinement) (is : js ≡ js' ++ r ∷ []) where
  apart : reverse js ≡ r ∷ reverse js'
  apart = last_step js js' r is

  pub there : Stands w (map (sequent_of w) (sequents_in nodes)) ns (steps_in nodes (reverse js))
      → Stands w (map (sequent_of w) (sequents_in nodes)) ns (last_of nodes r ∷ steps_in (nodes_before r nodes) (reverse js'))
  there stands = subst (λ (ks : List Refinement). Stands w (map (sequent_of w) (sequents_in nodes)) ns (steps_in nodes ks)) apart stands

  pub room_left : (room : ℕ) → All (λ d. length (open_goals d) ≤ room) (made_by w (map (sequent_of w) (sequents_in nodes)) (steps_in nodes (reverse js))).earlier
      → All (λ d. length (open_goals d) ≤ room) (made_by w (map (sequent_of w) (sequents_in nodes)) (last_of nodes r ∷ steps_in (nodes_before r nodes) (reverse js'))).earlier
  room_left room all = subst (λ (ks : List Refinement). All (λ d. length (open_goals d) ≤ room) (made_by w (map (sequent_of w) (sequents_in nodes)) (steps_in nodes ks)).earlier) apart all

  pub whole : made_by w (map (sequent_of w) (sequents_in nodes)) (last_of nodes r ∷ steps_in (nodes_before r nodes) (reverse js')) ≡ history_of w (record { nodes = nodes; journal = reverse js })
  whole = ap (λ (ks : List Refinement). made_by w (map (sequent_of w) (sequents_in nodes)) (steps_in nodes ks)) (sym apart)

pub overflow_add-at : goal.overflow_add-at
overflow_add-at g c =
    let w = some_world in
    let nodes = c.self.inside.nodes.items in
    let r = c.in-Some.last in
    let room = room_to_go w (sequents_in nodes) c.self.inside.open.items (last_of nodes r) (steps_in (nodes_before r nodes) (reverse c.pop.new.self.items)) (vec_capacity c.self.inside.open)
    (there w nodes c.self.inside.open.items c.self.inside.journal.items c.pop.new.self.items r c.in-Some.ensures.items (c.self.invariant.stands w))
    (room_left w nodes c.self.inside.open.items c.self.inside.journal.items c.pop.new.self.items r c.in-Some.ensures.items (vec_capacity c.self.inside.open) (c.self.invariant.room w)) in
    omega arith

pub overflow_sub-at : goal.overflow_sub-at
overflow_sub-at g c =
    let w = some_world in
    let nodes = c.self.inside.nodes.items in
    let r = c.in-Some.last in
    let room = room_to_go w (sequents_in nodes) c.self.inside.open.items (last_of nodes r) (steps_in (nodes_before r nodes) (reverse c.pop.new.self.items)) (vec_capacity c.self.inside.open)
    (there w nodes c.self.inside.open.items c.self.inside.journal.items c.pop.new.self.items r c.in-Some.ensures.items (c.self.invariant.stands w))
    (room_left w nodes c.self.inside.open.items c.self.inside.journal.items c.pop.new.self.items r c.in-Some.ensures.items (vec_capacity c.self.inside.open) (c.self.invariant.room w)) in
    omega arith

pub restore_goal-requires-clause-place : goal.restore_goal-requires-clause-place
restore_goal-requires-clause-place g c =
    let w = some_world in
    let nodes = c.self.inside.nodes.items in
    let r = c.in-Some.last in
    let room = room_to_go w (sequents_in nodes) c.self.inside.open.items (last_of nodes r) (steps_in (nodes_before r nodes) (reverse c.pop.new.self.items)) (vec_capacity c.self.inside.open)
    (there w nodes c.self.inside.open.items c.self.inside.journal.items c.pop.new.self.items r c.in-Some.ensures.items (c.self.invariant.stands w))
    (room_left w nodes c.self.inside.open.items c.self.inside.journal.items c.pop.new.self.items r c.in-Some.ensures.items (vec_capacity c.self.inside.open) (c.self.invariant.room w)) in
    omega arith

pub restore_goal-requires-clause-room : goal.restore_goal-requires-clause-room
restore_goal-requires-clause-room g c =
    let w = some_world in
    let nodes = c.self.inside.nodes.items in
    let r = c.in-Some.last in
    let room = room_to_go w (sequents_in nodes) c.self.inside.open.items (last_of nodes r) (steps_in (nodes_before r nodes) (reverse c.pop.new.self.items)) (vec_capacity c.self.inside.open)
    (there w nodes c.self.inside.open.items c.self.inside.journal.items c.pop.new.self.items r c.in-Some.ensures.items (c.self.invariant.stands w))
    (room_left w nodes c.self.inside.open.items c.self.inside.journal.items c.pop.new.self.items r c.in-Some.ensures.items (vec_capacity c.self.inside.open) (c.self.invariant.room w)) in
    omega arith

pub index-requires : goal.index-requires
index-requires g c =
    let w = some_world in
    let nodes = c.self.inside.nodes.items in
    let r = c.in-Some.last in
    let inside = node_there w (sequents_in nodes) c.self.inside.open.items (last_of nodes r) (steps_in (nodes_before r nodes) (reverse c.pop.new.self.items))
    (there w nodes c.self.inside.open.items c.self.inside.journal.items c.pop.new.self.items r c.in-Some.ensures.items (c.self.invariant.stands w)) in
    omega (arith, inside, length-map nodes (λ (n : ProofNode). n.sequent))

pub overflow_sub-len : goal.overflow_sub-len
overflow_sub-len g c =
    let w = some_world in
    let nodes = c.self.inside.nodes.items in
    let r = c.in-Some.last in
    let room = room_to_go w (sequents_in nodes) c.self.inside.open.items (last_of nodes r) (steps_in (nodes_before r nodes) (reverse c.pop.new.self.items)) (vec_capacity c.self.inside.open)
    (there w nodes c.self.inside.open.items c.self.inside.journal.items c.pop.new.self.items r c.in-Some.ensures.items (c.self.invariant.stands w))
    (room_left w nodes c.self.inside.open.items c.self.inside.journal.items c.pop.new.self.items r c.in-Some.ensures.items (vec_capacity c.self.inside.open) (c.self.invariant.room w)) in
    omega (arith, room.1, length-map nodes (λ (n : ProofNode). n.sequent))

pub clear_at-requires : goal.clear_at-requires
clear_at-requires g c =
    let w = some_world in
    let nodes = c.self.inside.nodes.items in
    let r = c.in-Some.last in
    let room = room_to_go w (sequents_in nodes) c.self.inside.open.items (last_of nodes r) (steps_in (nodes_before r nodes) (reverse c.pop.new.self.items)) (vec_capacity c.self.inside.open)
    (there w nodes c.self.inside.open.items c.self.inside.journal.items c.pop.new.self.items r c.in-Some.ensures.items (c.self.invariant.stands w))
    (room_left w nodes c.self.inside.open.items c.self.inside.journal.items c.pop.new.self.items r c.in-Some.ensures.items (vec_capacity c.self.inside.open) (c.self.invariant.room w)) in
    let inside = node_there w (sequents_in nodes) c.self.inside.open.items (last_of nodes r) (steps_in (nodes_before r nodes) (reverse c.pop.new.self.items))
    (there w nodes c.self.inside.open.items c.self.inside.journal.items c.pop.new.self.items r c.in-Some.ensures.items (c.self.invariant.stands w)) in
    let many = length-map nodes (λ (n : ProofNode). n.sequent) in
    let short : length c.truncate.new.self.items ≡ length nodes - r.premises =
    ap length c.truncate.ensures.items ∙ length-take-le (c.len-in-Some.result - r.premises) nodes (omega arith) ∙ omega arith in
    omega (arith, inside, many, short)

-- the nodes are those before the step
before : (g : Over) (c : goal.After-clear_at g) → c.clear_at.new.nodes.items ≡ nodes_before c.in-Some.last c.self.inside.nodes.items
before g c =
    let r = c.in-Some.last in
    let nodes = c.self.inside.nodes.items in
    let long : c.len-in-Some.result ≡ length nodes = omega arith in
    c.clear_at.ensures
    ∙ ap (λ (ns : List ProofNode). slice_set ns r.node (cleared (node_at ns r.node))) (c.truncate.ensures.items ∙ ap (λ n. take (n - r.premises) nodes) long)

-- the fields stand for the proof before the step
back : (g : Over) (c : goal.After-clear_at g) (w : World)
    → TakenBack w (map (sequent_of w) (sequents_in c.clear_at.new.nodes.items)) c.restore_goal.new.numbers.items (steps_in (nodes_before c.in-Some.last c.self.inside.nodes.items) (reverse c.pop.new.self.items)) (vec_capacity c.self.inside.open) (history_of w c.args.self.now)
back g c w =
    let r = c.in-Some.last in
    let nodes = c.self.inside.nodes.items in
    let ns = c.self.inside.open.items in
    let long : c.len-in-Some.result ≡ length nodes = omega arith in
    let many = length-map nodes (λ (n : ProofNode). n.sequent) in
    taken_back w (sequents_in nodes) (sequents_in c.clear_at.new.nodes.items) ns c.restore_goal.new.numbers.items (last_of nodes r) (steps_in (nodes_before r nodes) (reverse c.pop.new.self.items))
    (vec_capacity c.self.inside.open) (c.len.result - (r.place + r.premises)) c.len-in-Some.result (history_of w c.args.self.now)
    (there w nodes ns c.self.inside.journal.items c.pop.new.self.items r c.in-Some.ensures.items (c.self.invariant.stands w))
    (room_left w nodes ns c.self.inside.journal.items c.pop.new.self.items r c.in-Some.ensures.items (vec_capacity c.self.inside.open) (c.self.invariant.room w))
    (whole w nodes ns c.self.inside.journal.items c.pop.new.self.items r c.in-Some.ensures.items ∙ ap (history_of w) c.self.view_is)
    (omega (arith, long, many)) (omega arith)
    (ap sequents_in (before g c) ∙ sequents-before r nodes ∙ ap (λ n. take (n - r.premises) (sequents_in nodes)) (sym long))
    c.restore_goal.ensures.items

steps : (g : Over) (c : goal.After-clear_at g) → steps_in (nodes_before c.in-Some.last c.self.inside.nodes.items) (reverse c.pop.new.self.items) ≡ steps_in c.clear_at.new.nodes.items (reverse c.pop.new.self.items)
steps g c = ap (λ (ns : List ProofNode). steps_in ns (reverse c.pop.new.self.items)) (sym (before g c))

made : (g : Over) (c : goal.After-clear_at g) (w : World) → history_of w (record { nodes = c.clear_at.new.nodes.items; journal = reverse c.pop.new.self.items }) ≡ undone 1 (history_of w c.args.self.now)
made g c w = ap (made_by w (map (sequent_of w) (sequents_in c.clear_at.new.nodes.items))) (sym (steps g c)) ∙ (back g c w).made

-- the debts are those before the step
owes : (g : Over) (c : goal.After-clear_at g) (w : World) → owed c.forget_debt.new.debts.items ≡ owed_by w (steps_in c.clear_at.new.nodes.items (reverse c.pop.new.self.items))
owes g c w =
    let r = c.in-Some.last in
    let nodes = c.self.inside.nodes.items in
    let rest = steps_in (nodes_before r nodes) (reverse c.pop.new.self.items) in
    let inside = node_there w (sequents_in nodes) c.self.inside.open.items (last_of nodes r) rest
    (there w nodes c.self.inside.open.items c.self.inside.journal.items c.pop.new.self.items r c.in-Some.ensures.items (c.self.invariant.stands w)) in
    let many = length-map nodes (λ (n : ProofNode). n.sequent) in
    let node = node_owes w nodes r.node c.index.result.now (omega (arith, inside, many)) c.index.ensures in
    let latest : owed c.self.inside.debts.items ≡ debts_of (step_of w (step_held (node_at nodes r.node))) ++ owed_by w rest =
    c.self.invariant.owed w ∙ ap (λ (ks : List Refinement). owed_by w (steps_in nodes ks)) (last_step c.self.inside.journal.items c.pop.new.self.items r c.in-Some.ensures.items) in
    let noted = ap (owed_at w) c.as_ref.ensures.value ∙ node in
    c.forget_debt.ensures w (owed_by w rest) (latest ∙ ap (λ ts. ts ++ owed_by w rest) (sym noted))
    ∙ ap (owed_by w) (steps g c)

pub invariant_of-self-in-Some : goal.invariant_of-self-in-Some
invariant_of-self-in-Some g c =
    let r = c.in-Some.last in
    let nodes = c.self.inside.nodes.items in
    let ns = c.self.inside.open.items in
    let at : c.len.result - (r.place + r.premises) ≡ start_of (last_of nodes r) ns = omega arith in
    let numbers : c.restore_goal.new.numbers.items ≡ open_before (last_of nodes r) ns =
    c.restore_goal.ensures.items ∙ ap (λ n. take n ns ++ r.node ∷ drop (n + r.premises) ns) at in
    let grown : (w : World) → Grown w nodes ns (r ∷ reverse c.pop.new.self.items) =
    λ w. subst (λ (ks : List Refinement). Grown w nodes ns ks) (last_step c.self.inside.journal.items c.pop.new.self.items r c.in-Some.ensures.items) (c.self.invariant.grown w) in
    let layers = subst (λ (ks : List Refinement). Layers nodes ns ks) (last_step c.self.inside.journal.items c.pop.new.self.items r c.in-Some.ensures.items) c.self.invariant.layers in
    record {
      stands = λ w. subst (Stands w (map (sequent_of w) (sequents_in c.clear_at.new.nodes.items)) c.restore_goal.new.numbers.items) (steps g c) (back g c w).stands;
      layers = rw (numbers, before g c) layers.2;
      grown = λ w. rw (numbers, before g c) (grown w).1;
      owed = owes g c;
      room = λ w. rw c.restore_goal.ensures.capacity (subst (λ (rs : List StepAt). All (λ d. length (open_goals d) ≤ vec_capacity c.self.inside.open) (made_by w (map (sequent_of w) (sequents_in c.clear_at.new.nodes.items)) rs).earlier) (steps g c) (back g c w).room_left);
    }

pub returns-in-Some-clause-undone : goal.returns-in-Some-clause-undone
returns-in-Some-clause-undone g c =
    λ w. made g c w

pub returns-in-Some-clause-root : goal.returns-in-Some-clause-root
returns-in-Some-clause-root g c =
    λ w. ap (λ (rs : List StepAt). root (made_by w (map (sequent_of w) (sequents_in c.clear_at.new.nodes.items)) rs).tree) (sym (steps g c)) ∙ (back g c w).rooted

pub returns-in-Some-clause-proof : goal.returns-in-Some-clause-proof
returns-in-Some-clause-proof g c =
    λ w proof.
    let r = c.in-Some.last in
    let nodes = c.self.inside.nodes.items in
    let same : c.args.self.now ≡ record { nodes = nodes; journal = r ∷ reverse c.pop.new.self.items } =
    sym c.self.view_is ∙ ap (λ (ks : List Refinement). record { nodes = nodes; journal = ks }) (last_step c.self.inside.journal.items c.pop.new.self.items r c.in-Some.ensures.items) in
    let is : history_of w (record { nodes = nodes_before r nodes; journal = reverse c.pop.new.self.items }) ≡ undone 1 (history_of w (record { nodes = nodes; journal = r ∷ reverse c.pop.new.self.items })) =
    ap (λ (ns : List ProofNode). history_of w (record { nodes = ns; journal = reverse c.pop.new.self.items })) (sym (before g c)) ∙ made g c w ∙ ap (λ (p : Held). undone 1 (history_of w p)) same in
    let rooted : root (history_of w (record { nodes = nodes_before r nodes; journal = reverse c.pop.new.self.items })).tree ≡ root (history_of w (record { nodes = nodes; journal = r ∷ reverse c.pop.new.self.items })).tree =
    ap (λ (ns : List ProofNode). root (history_of w (record { nodes = ns; journal = reverse c.pop.new.self.items })).tree) (sym (before g c)) ∙ returns-in-Some-clause-root g c w ∙ ap (λ (p : Held). root (history_of w p).tree) same in
    subst (λ (ns : List ProofNode). IsProof w (record { nodes = ns; journal = reverse c.pop.new.self.items })) (sym (before g c))
    (proof_before w nodes r (reverse c.pop.new.self.items) is rooted (subst (IsProof w) same proof))

pub returns-in-Some-clause-layout : goal.returns-in-Some-clause-layout
returns-in-Some-clause-layout g c =
    let r = c.in-Some.last in
    let rest = reverse c.pop.new.self.items in
    let with_nodes : List ProofNode → Held = λ ns. record { nodes = ns; journal = rest } in
    let same : c.args.self.now ≡ record { nodes = c.self.inside.nodes.items; journal = r ∷ rest } =
    sym c.self.view_is ∙ ap (λ (ks : List Refinement). record { nodes = c.self.inside.nodes.items; journal = ks }) (last_step c.self.inside.journal.items c.pop.new.self.items r c.in-Some.ensures.items) in
    ap with_nodes (before g c) ∙ ap before_last (sym same)
