-- Nodes of a proof before some of its latest steps, beside its nodes now.
use Rattle.std.specs.Prelude.{slice_get, unwrap_or}
use Rattle.std.proofs.Common.{◌≡◌, ◌⊎◌, inl, inr, ℕ, zero, suc, ◌+◌, ◌-◌, ◌<◌, ◌≤◌, List, [], ◌∷◌, Option, Some, None, length, take, reverse, get_or, refl, sym, ◌∙◌, ap, arith}
use Rattle.std.proofs.lemmas.List.{get_or-take, get_or-reverse, get_or_past, get_or-set_same, get_or-set_other, length-take-le, length-reverse}
use Rattle.std.proofs.lemmas.Option.{get_or_from_slice_get, slice_get-get_or, unwrap_or-slice_get}
use Rattle.ab_logic.specs.declared.world.World.{World}
use Rattle.ab_kernel.specs.declared.node.ProofNode.{ProofNode}
use Rattle.ab_kernel.specs.declared.proof.Refinement.{Refinement}
use Rattle.ab_kernel.specs.Nodes.{cleared, no_node, node_at}
use Rattle.ab_kernel.specs.Layout.{Held, nodes_before, before_steps, history_of}
use Rattle.ab_kernel.proofs.Earlier.{standing}
use Rattle.ab_kernel.proofs.Filling.{length-before}

one_further_in : (nodes : List ProofNode) (js : List Refinement) (n : ℕ) (r : Refinement) → slice_get js n ≡ Some r
    → length (before_steps (suc n) (record { nodes = nodes; journal = js })).nodes ≡ length (before_steps n (record { nodes = nodes; journal = js })).nodes - r.premises
one_further_in nodes [] n r e = absurd (cc)
one_further_in nodes (q ∷ qs) zero r e = let same : q ≡ r = cc in length-before q nodes ∙ ap (λ (x : Refinement). length nodes - x.premises) same
one_further_in nodes (q ∷ qs) (suc n) r e = one_further_in (nodes_before q nodes) qs n r e

-- how many nodes there were before one step more
pub one_further : (p : Held) (n : ℕ) (r : Refinement) → slice_get p.journal n ≡ Some r
    → length (before_steps (n + 1) p).nodes ≡ length (before_steps n p).nodes - r.premises
one_further p n r e =
    let same : n + 1 ≡ suc n = omega arith in
    ap (λ k. length (before_steps k p).nodes) same ∙ one_further_in p.nodes p.journal n r e

-- these nodes are the first of those, some of them without their step
pub record IsFront (nodes all : List ProofNode) : Type 0 where
  pub few : length nodes ≤ length all
  pub goals : (i : ℕ) → i < length nodes → (node_at nodes i).sequent ≡ (node_at all i).sequent
  pub steps : (i : ℕ) → ((node_at nodes i).step ≡ None) ⊎ ((node_at nodes i).step ≡ (node_at all i).step)

pub front_itself : (nodes : List ProofNode) → IsFront nodes nodes
front_itself nodes = record { few = omega arith; goals = λ i l. refl; steps = λ i. inr refl }

pub same_or_not : (i j : ℕ) → (i ≡ j) ⊎ (¬ (i ≡ j))
same_or_not i j = elim (nat_order i j) [
  | inl l ↦ inr (λ e. omega (arith, e, l))
  | inr (inl e) ↦ inl e
  | inr (inr l) ↦ inr (λ e. omega (arith, e, l))
]
  where
    nat_order : (i j : ℕ) → (i < j) ⊎ ((i ≡ j) ⊎ (j < i))
    nat_order i j = search arith

below_or_not : (i j : ℕ) → (i < j) ⊎ (j ≤ i)
below_or_not i j = search arith

module _ (r : Refinement) (nodes : List ProofNode) where
  abbrev count : ℕ
  count = length nodes - r.premises

  abbrev kept : List ProofNode
  kept = take count nodes

  long : length kept ≡ count
  long = length-take-le count nodes (omega arith)

  -- each other node is as it was
  pub other_node : (i : ℕ) → i < count → ¬ (i ≡ r.node) → node_at (nodes_before r nodes) i ≡ node_at nodes i
  other_node i l e = get_or-set_other kept r.node i (cleared (node_at kept r.node)) no_node e ∙ get_or-take count nodes i no_node l

  -- each node is as it was, or without its step
  one_node : (i : ℕ) → i < count → (node_at (nodes_before r nodes) i ≡ node_at nodes i) ⊎ (node_at (nodes_before r nodes) i ≡ cleared (node_at nodes i))
  one_node i l =
      let there : node_at kept i ≡ node_at nodes i = get_or-take count nodes i no_node l in
      elim (same_or_not i r.node) [
        | inl e ↦ inr (
            ap (node_at (nodes_before r nodes)) e ∙ get_or-set_same kept r.node (cleared (node_at kept r.node)) no_node (omega (arith, e, l, long))
            ∙ ap (λ k. cleared (node_at kept k)) (sym e) ∙ ap cleared there)
        | inr e ↦ inl (other_node i l e)
      ]

  no_step_past : (i : ℕ) → count ≤ i → (node_at (nodes_before r nodes) i).step ≡ None
  no_step_past i l = ap (λ (n : ProofNode). n.step) (get_or_past (nodes_before r nodes) i no_node (omega (arith, l, length-before r nodes)))

  pub front_before : (all : List ProofNode) → IsFront nodes all → IsFront (nodes_before r nodes) all
  front_before all front = record {
    few = omega (arith, front.few, length-before r nodes);
    goals = λ i l.
        let low : i < count = omega (arith, l, length-before r nodes) in
        same_goal i low ∙ front.goals i (omega (arith, low));
    steps = λ i. elim (below_or_not i count) [
      | inl l ↦ elim (one_node i l) [
        | inl e ↦ elim (front.steps i) [
          | inl none ↦ inl (ap (λ (n : ProofNode). n.step) e ∙ none)
          | inr same ↦ inr (ap (λ (n : ProofNode). n.step) e ∙ same)
        ]
        | inr e ↦ inl (ap (λ (n : ProofNode). n.step) e)
      ]
      | inr l ↦ inl (no_step_past i l)
    ];
  }
    where
      same_goal : (i : ℕ) → i < count → (node_at (nodes_before r nodes) i).sequent ≡ (node_at nodes i).sequent
      same_goal i low = elim (one_node i low) [
        | inl e ↦ ap (λ (n : ProofNode). n.sequent) e
        | inr e ↦ ap (λ (n : ProofNode). n.sequent) e
      ]

pub front_further : (all nodes : List ProofNode) (js : List Refinement) (n : ℕ) → IsFront nodes all → IsFront (before_steps n (record { nodes = nodes; journal = js })).nodes all
front_further all nodes js zero front = front
front_further all nodes [] (suc n) front = front_further all nodes [] n front
front_further all nodes (r ∷ rs) (suc n) front = front_further all (nodes_before r nodes) rs n (front_before r nodes all front)

-- the node of a number

pub node_there : (nodes : List ProofNode) (i : ℕ) (n : ProofNode) → Some n ≡ slice_get nodes i → node_at nodes i ≡ n
node_there nodes i n e = get_or_from_slice_get nodes i n no_node (sym e)

pub node_absent : (nodes : List ProofNode) (i : ℕ) → None ≡ slice_get nodes i → (node_at nodes i).step ≡ None
node_absent nodes i e = ap (λ (n : ProofNode). n.step) (sym (unwrap_or-slice_get nodes i no_node) ∙ ap (λ (o : Option ProofNode). unwrap_or o no_node) (sym e))

-- the steps that stand, counted from either end

abbrev pub no_refinement : Refinement
no_refinement = record { place = 0; node = 0; premises = 0 }

pub counted_back : (p : Held) (k : ℕ) → k < length p.journal → slice_get (reverse p.journal) (length p.journal - 1 - k) ≡ slice_get p.journal k
counted_back p k l =
    let js = p.journal in
    let j = length js - 1 - k in
    slice_get-get_or (reverse js) j no_refinement (omega (arith, l, length-reverse js))
    ∙ ap Some (get_or-reverse js j no_refinement (omega (arith, l)) ∙ ap (λ n. get_or js n no_refinement) (let same : length js - 1 - j ≡ k = omega (arith, l) in same))
    ∙ sym (slice_get-get_or js k no_refinement l)

-- as many stand as the proof's contracts say, whatever the world
pub as_many_standing : (p : Held) (n : ℕ) → ((w : World) → n ≡ length (history_of w p).earlier) → n ≡ length p.journal
as_many_standing p n says =
    let w : World = record { types = []; store = record { nodes = []; cells = []; bindings = []; room = 0 }; additions = [] } in
    says w ∙ standing w p
