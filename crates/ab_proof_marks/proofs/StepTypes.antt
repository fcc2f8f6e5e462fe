-- The last type that steps name, one step after another.
use Rattle.std.specs.Prelude.{◌↔◌, IfSome, slice_get, unwrap_or}
use Rattle.std.specs.List.{AllWithin}
use Rattle.std.proofs.Common.{◌≡◌, ◌⊎◌, inl, inr, ℕ, zero, suc, ◌+◌, ◌-◌, ◌<◌, ◌≤◌, max, List, [], ◌∷◌, Option, Some, None, length, get_or, refl, sym, ◌∙◌, ap, subst, arith}
use Rattle.std.proofs.lemmas.List.{get_or_past}
use Rattle.ab_store.specs.ab_types.specs.Entries.{Table, types}
use Rattle.ab_store.specs.ab_types.specs.LastTypes.{types_up_to}
use Rattle.ab_store.specs.ab_types.specs.declared.ids.TypeId.{TypeId}
use Rattle.ab_kernel.specs.ab_rules.specs.declared.step.Step.{Step}
use Rattle.ab_kernel.specs.ab_rules.specs.declared.step.Step.TheVariants.{TrueRight}
use Rattle.ab_kernel.specs.declared.node.ProofNode.{ProofNode}
use Rattle.ab_kernel.specs.declared.proof.Refinement.{Refinement}
use Rattle.ab_kernel.specs.Nodes.{no_node, node_at, step_held}
use Rattle.ab_kernel.specs.Layout.{Held, StepAt, nodes_before, before_steps, steps_in}
use Rattle.ab_kernel.proofs.Filling.{length-before}
use Rattle.ab_proof_marks.specs.NamedTypes.{HasTypes, HasTypesBehind, IsLastType}
use Rattle.ab_proof_marks.proofs.Stepping.{IsFront, front_itself, front_further, other_node, same_or_not}

below_or_not : (i j : ℕ) → (i < j) ⊎ (j ≤ i)
below_or_not i j = search arith

-- the last type of what needs none, and of two things

pub none_named : (H : Table → Type 0) → ((t : Table) → H t) → IsLastType H None
none_named H all t = (λ e. all t, λ h. omega arith)

pub both_named : (H K : Table → Type 0) (a b c : Option TypeId) → types_up_to c ≡ max (types_up_to a) (types_up_to b) → IsLastType H a → IsLastType K b → IsLastType (λ t. H t × K t) c
both_named H K a b c is x y t = (
  λ e. ((x t).0 (omega (arith, is, e)), (y t).0 (omega (arith, is, e))),
  λ h. let one = (x t).1 h.0 in let other = (y t).1 h.1 in omega (arith, is, one, other),
)

pub named_as : (H K : Table → Type 0) (a : Option TypeId) → ((t : Table) → H t ↔ K t) → IsLastType H a → IsLastType K a
named_as H K a same x t = (λ e. (same t).0 ((x t).0 e), λ h. (x t).1 ((same t).1 h))

-- where a node has no step, and where it has one

pub none_at_node : (o : Option Step) (place count : ℕ) → o ≡ None → IsLastType (λ t. place < count → IfSome o (HasTypes t)) None
none_at_node o place count e = subst (λ (x : Option Step). IsLastType (λ t. place < count → IfSome x (HasTypes t)) None) (sym e) (none_named (λ t. place < count → Unit {0}) (λ t l. tt))

pub last_of_step : (o : Option Step) (s : Step) (place count : ℕ) (last : Option TypeId) → o ≡ Some s → place < count → IsLastType (λ t. HasTypes t s) last → IsLastType (λ t. place < count → IfSome o (HasTypes t)) last
last_of_step o s place count last e there is =
    subst (λ (x : Option Step). IsLastType (λ t. place < count → IfSome x (HasTypes t)) last) (sym e)
    (named_as (λ t. HasTypes t s) (λ t. place < count → HasTypes t s) last (λ t. (λ h l. h, λ h. h there)) is)

-- the step that stands at a place, the latest first
pub step_at : (nodes : List ProofNode) (js : List Refinement) (k : ℕ) (r : Refinement) → slice_get js k ≡ Some r
    → (d : StepAt) → (get_or (steps_in nodes js) k d).step ≡ step_held (node_at (before_steps k (record { nodes = nodes; journal = js })).nodes r.node)
step_at nodes [] k r e d = absurd (cc)
step_at nodes (q ∷ qs) zero r e d = let same : q ≡ r = cc in ap (λ (x : Refinement). step_held (node_at nodes x.node)) same
step_at nodes (q ∷ qs) (suc k) r e d = step_at (nodes_before q nodes) qs k r e d

-- the step at a node was there before the latest so many, or is one of them
pub taken_since : (all nodes : List ProofNode) (js : List Refinement) (k i : ℕ) → (node_at nodes i).step ≡ (node_at all i).step → i < length (before_steps k (record { nodes = nodes; journal = js })).nodes
    → ((node_at (before_steps k (record { nodes = nodes; journal = js })).nodes i).step ≡ (node_at all i).step) ⊎ ((j : ℕ) × (j < k) × ((d : StepAt) → (get_or (steps_in nodes js) j d).step ≡ step_held (node_at all i)))
taken_since all nodes js zero i same l = inl same
taken_since all nodes [] (suc k) i same l = elim (taken_since all nodes [] k i same l) [ inl e ↦ inl e | inr p ↦ inr (p.0, omega (arith, p.1), p.2) ]
taken_since all nodes (r ∷ rs) (suc k) i same l = elim (same_or_not i r.node) [
  | inl e ↦ inr (0, omega arith, λ d. ap (λ n. step_held (node_at nodes n)) (sym e) ∙ ap (λ (o : Option Step). unwrap_or o TrueRight) same)
  | inr other ↦
      let few = (front_further (nodes_before r nodes) (nodes_before r nodes) rs k (front_itself (nodes_before r nodes))).few in
      let there : i < length nodes - r.premises = omega (arith, l, few, length-before r nodes) in
      elim (taken_since all (nodes_before r nodes) rs k i (ap (λ (n : ProofNode). n.step) (other_node r nodes i there other) ∙ same) l) [
        | inl e ↦ inl e
        | inr p ↦ inr (suc p.0, omega (arith, p.1), p.2)
      ]
]

-- of a node without a step no type is asked

pub asked : (t : Table) (o : Option Step) → IfSome o (HasTypes t) → HasTypes t (unwrap_or o TrueRight)
asked t None h = tt
asked t (Some s) h = h

given : (t : Table) (o : Option Step) → HasTypes t (unwrap_or o TrueRight) → IfSome o (HasTypes t)
given t None h = tt
given t (Some s) h = h

-- what holds while the last type of steps is looked for: so many nodes stood before those that were seen
pub record IsLastSoFar (p : Held) (taken count : ℕ) (last : Option TypeId) : Type 0 where
  pub nodes : count ≡ length (before_steps taken p).nodes
  pub named : IsLastType (λ t. AllWithin (λ (r : StepAt). HasTypes t r.step) (steps_in p.nodes p.journal) 0 taken) last

pub none_so_far : (p : Held) → IsLastSoFar p 0 (length p.nodes) None
none_so_far p = record {
  nodes = refl;
  named = none_named (λ t. AllWithin (λ (r : StepAt). HasTypes t r.step) (steps_in p.nodes p.journal) 0 0) (λ t k d l u. absurd (omega (arith, u)));
}

module _ (p : Held) (taken count : ℕ) (last : Option TypeId) (so_far : IsLastSoFar p taken count last) where
  abbrev seen : Table → Type 0
  seen t = AllWithin (λ (r : StepAt). HasTypes t r.step) (steps_in p.nodes p.journal) 0 taken

  abbrev standing : List ProofNode
  standing = (before_steps taken p).nodes

  -- what the node asks of a table, the step that stands at this place does
  asks : (r : Refinement) → slice_get p.journal taken ≡ Some r → (t : Table) → seen t × (r.node < count → IfSome (node_at p.nodes r.node).step (HasTypes t))
      → AllWithin (λ (s : StepAt). HasTypes t s.step) (steps_in p.nodes p.journal) 0 (taken + 1)
  asks r is t h k d l u = elim (below_or_not k taken) [
    | inl before ↦ h.0 k d l before
    | inr here ↦
        let same : k ≡ taken = omega (arith, here, u) in
        subst (λ i. HasTypes t (get_or (steps_in p.nodes p.journal) i d).step) (sym same)
        (subst (HasTypes t) (sym (step_at p.nodes p.journal taken r is d))
        (elim (below_or_not r.node count) [
          | inl there ↦ by_step ((front_further p.nodes p.nodes p.journal taken (front_itself p.nodes)).steps r.node) (h.1 there)
          | inr past ↦
              subst (λ (n : ProofNode). HasTypes t (step_held n)) (sym (get_or_past standing r.node no_node (omega (arith, past, so_far.nodes)))) tt
        ]))
  ]
    where
      by_step : ((node_at standing r.node).step ≡ None) ⊎ ((node_at standing r.node).step ≡ (node_at p.nodes r.node).step) → IfSome (node_at p.nodes r.node).step (HasTypes t)
          → HasTypes t (unwrap_or (node_at standing r.node).step TrueRight)
      by_step (inl e) there = subst (λ (o : Option Step). HasTypes t (unwrap_or o TrueRight)) (sym e) tt
      by_step (inr e) there = subst (λ (o : Option Step). HasTypes t (unwrap_or o TrueRight)) (sym e) (asked t (node_at p.nodes r.node).step there)

  -- and the other way round
  answers : (r : Refinement) → slice_get p.journal taken ≡ Some r → (t : Table) → AllWithin (λ (s : StepAt). HasTypes t s.step) (steps_in p.nodes p.journal) 0 (taken + 1)
      → seen t × (r.node < count → IfSome (node_at p.nodes r.node).step (HasTypes t))
  answers r is t h = (
    λ k d l u. h k d l (omega (arith, u)),
    λ there.
        given t (node_at p.nodes r.node).step
        (elim (taken_since p.nodes p.nodes p.journal taken r.node refl (omega (arith, there, so_far.nodes))) [
          | inl e ↦
              subst (HasTypes t) (step_at p.nodes p.journal taken r is no_step ∙ ap (λ (o : Option Step). unwrap_or o TrueRight) e)
              (h taken no_step (omega arith) (omega arith))
          | inr q ↦ subst (HasTypes t) (q.2 no_step) (h q.0 no_step (omega arith) (omega (arith, q.1)))
        ]),
  )
    where
      no_step : StepAt
      no_step = record { step = TrueRight; place = 0; node = 0; premises = 0 }

  -- for one step more
  pub one_further_back : (r : Refinement) (o new : Option TypeId) (left : ℕ) → slice_get p.journal taken ≡ Some r
      → IsLastType (λ t. r.node < count → IfSome (node_at p.nodes r.node).step (HasTypes t)) o
      → types_up_to new ≡ max (types_up_to last) (types_up_to o) → left ≡ length (before_steps (taken + 1) p).nodes → IsLastSoFar p (taken + 1) left new
  one_further_back r o new left is one latest fewer = record {
    nodes = fewer;
    named =
        named_as (λ t. seen t × (r.node < count → IfSome (node_at p.nodes r.node).step (HasTypes t))) (λ t. AllWithin (λ (s : StepAt). HasTypes t s.step) (steps_in p.nodes p.journal) 0 (taken + 1)) new
        (λ t. (asks r is t, answers r is t))
        (both_named seen (λ t. r.node < count → IfSome (node_at p.nodes r.node).step (HasTypes t)) last o new latest so_far.named one);
  }

  -- where all were seen
  pub all_behind : (steps : ℕ) → taken ≡ length p.journal - steps → IsLastType (λ t. HasTypesBehind t p steps) last
  all_behind steps e = subst (λ n. IsLastType (λ t. AllWithin (λ (r : StepAt). HasTypes t r.step) (steps_in p.nodes p.journal) 0 n) last) e so_far.named
