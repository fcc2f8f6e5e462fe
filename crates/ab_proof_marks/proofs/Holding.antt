-- A proof whose world is cut, where what its later steps name stays.
use Rattle.std.specs.Prelude.{All, IfSome, unwrap_or}
use Rattle.std.specs.List.{AllWithin}
use Rattle.std.proofs.Common.{◌≡◌, ◌⊎◌, inl, inr, ℕ, zero, suc, ◌-◌, ◌<◌, ◌≤◌, List, [], ◌∷◌, Option, Some, None, length, take, map, reverse, get_or, refl, sym, ◌∙◌, ap, subst, arith}
use Rattle.std.proofs.lemmas.List.{get_or-take, get_or-reverse, get_or_past, length-take-le}
use Rattle.std.proofs.lemmas.List.Elements.{All-nil, All-cons, All-head, All-tail, All-map, All-from_get_or, All-weaker}
use Rattle.std.proofs.lemmas.Option.{slice_get-get_or}
use Rattle.ab_formulas.specs.Sequents.{Sequent, IsSequent}
use Rattle.ab_logic.specs.Worlds.{Holds, declarations_of}
use Rattle.ab_logic.specs.WorldGrowth.{Grows}
use Rattle.ab_logic.specs.SequentReadings.{sequent_of, HoldsSequent}
use Rattle.ab_logic.specs.declared.world.World.{World}
use Rattle.ab_logic.proofs.Growing.{map_same, same_sequent}
use Rattle.ab_theory.specs.Derivations.{root}
use Rattle.ab_theory.proofs.Refining.{root-refined}
use Rattle.ab_kernel.specs.ab_rules.specs.declared.step.Step.{Step}
use Rattle.ab_kernel.specs.ab_rules.specs.declared.step.Step.TheVariants.{TrueRight, SpecInst}
use Rattle.ab_kernel.specs.declared.node.ProofNode.{ProofNode}
use Rattle.ab_kernel.specs.declared.proof.Refinement.{Refinement}
use Rattle.ab_kernel.specs.Nodes.{node_at, no_node, step_held, sequents_in}
use Rattle.ab_kernel.specs.ab_rules.specs.declared.replaces.Replace.{Replace}
use Rattle.ab_kernel.specs.ab_rules.specs.RuleAnswers.{step_of, HoldsReplace, HoldsStep}
use Rattle.ab_kernel.specs.Layout.{Held, StepAt, nodes_before, before_steps, Beyond, steps_in, premises_of, sequents_before, made_by, history_of, HoldsProof}
use Rattle.ab_kernel.proofs.Filling.{length-steps_in}
use Rattle.ab_kernel.proofs.Earlier.{before_length}
use Rattle.ab_kernel.proofs.Later.{still_holds}
use Rattle.ab_proof_marks.specs.NamedInProofs.{HoldsNodes, HoldsTerms, HoldsGoal, HoldsTermsOf, HoldsFrom, KeepsFrom, KeepsBehind, nodes_standing}
use Rattle.ab_proof_marks.specs.NamedTypes.{HasTypes, HasTypesBehind}
use Rattle.ab_proof_marks.proofs.Stepping.{IsFront, front_itself, front_before, front_further, no_refinement}
use Rattle.ab_proof_marks.proofs.StepTypes.{step_at}

below_or_not : (i j : ℕ) → (i < j) ⊎ (j ≤ i)
below_or_not i j = search arith

-- the latest of a list that is told backwards
latest_of : {X : Type 0} (P : X → Type 0) (xs : List X) (k : ℕ) → AllWithin P (reverse xs) k (length xs) → All P (take (length xs - k) xs)
latest_of P xs k all i d l =
    let long = length-take-le (length xs - k) xs (omega arith) in
    let low : i < length xs - k = omega (arith, l, long) in
    let j = length xs - 1 - i in
    let again : length xs - 1 - j ≡ i = omega (arith, low) in
    let same : get_or (take (length xs - k) xs) i d ≡ get_or (reverse xs) j d =
    get_or-take (length xs - k) xs i d low ∙ ap (λ n. get_or xs n d) (sym again) ∙ sym (get_or-reverse xs j d (omega (arith, low))) in
    subst P (sym same) (all j d (omega (arith, low)) (omega (arith, low)))

-- a step is held where its terms are there and the table has its types

module _ (w : World) where
  terms_there : (s : Step) → HoldsStep w s → HoldsTerms w s
  terms_there (SpecInst H rs l) h = All-weaker (HoldsReplace w) (λ (r : Replace). Holds w r.to) (λ r q. q.1) rs h
  terms_there s h = h

  types_there : (s : Step) → HoldsStep w s → HasTypes w.types s
  types_there (SpecInst H rs l) h = λ i d u. (h i d u).0
  types_there s h = tt

  step_there : (s : Step) → HoldsTerms w s → HasTypes w.types s → HoldsStep w s
  step_there (SpecInst H rs l) terms types = λ i d u. (types i d u, terms i d u)
  step_there s terms types = terms

module _ (w v : World) where
  -- a step that a node holds, or none
  held_there : (o s : Option Step) → (o ≡ None) ⊎ (o ≡ s) → (IfSome s (HoldsTerms w) → IfSome s (HoldsTerms v)) → HoldsStep w (unwrap_or o TrueRight) → HasTypes v.types (unwrap_or o TrueRight) → HoldsStep v (unwrap_or o TrueRight)
  held_there o s (inl e) keeps was types = subst (λ (x : Option Step). HoldsStep v (unwrap_or x TrueRight)) (sym e) tt
  held_there o None (inr e) keeps was types = subst (λ (x : Option Step). HoldsStep v (unwrap_or x TrueRight)) (sym e) tt
  held_there o (Some s) (inr e) keeps was types =
      subst (λ (x : Option Step). HoldsStep v (unwrap_or x TrueRight)) (sym e)
      (step_there v s (keeps (terms_there w s (subst (λ (x : Option Step). HoldsStep w (unwrap_or x TrueRight)) e was))) (subst (λ (x : Option Step). HasTypes v.types (unwrap_or x TrueRight)) e types))

  -- the latest steps are held by the nodes, and those before them are there too
  steps_held : (all : List ProofNode) (n : ℕ) (nodes : List ProofNode) (js : List Refinement) → IsFront nodes all
      → All (λ (r : Refinement). HoldsTermsOf all w r → HoldsTermsOf all v r) (take n js)
      → AllWithin (λ (r : StepAt). HasTypes v.types r.step) (steps_in nodes js) 0 n
      → All (λ (r : StepAt). HoldsStep w r.step) (steps_in nodes js)
      → All (λ (r : StepAt). HoldsStep v r.step) (steps_in (before_steps n (record { nodes = nodes; journal = js })).nodes (before_steps n (record { nodes = nodes; journal = js })).journal)
      → All (λ (r : StepAt). HoldsStep v r.step) (steps_in nodes js)
  steps_held all zero nodes js front latest types was rest = rest
  steps_held all (suc n) nodes [] front latest types was rest = All-nil (λ (r : StepAt). HoldsStep v r.step)
  steps_held all (suc n) nodes (r ∷ rs) front latest types was rest =
      let step : StepAt = record { step = step_held (node_at nodes r.node); place = r.place; node = r.node; premises = r.premises } in
      let tail = steps_in (nodes_before r nodes) rs in
      All-cons (λ (q : StepAt). HoldsStep v q.step) step tail
      (held_there (node_at nodes r.node).step (node_at all r.node).step (front.steps r.node)
      (All-head (λ (q : Refinement). HoldsTermsOf all w q → HoldsTermsOf all v q) r (take n rs) latest) (All-head (λ (q : StepAt). HoldsStep w q.step) step tail was)
      (types 0 step (omega arith) (omega arith)))
      (steps_held all n (nodes_before r nodes) rs (front_before r nodes all front)
      (All-tail (λ (q : Refinement). HoldsTermsOf all w q → HoldsTermsOf all v q) r (take n rs) latest) (λ k d l u. types (suc k) d (omega arith) (omega (arith, u)))
      (All-tail (λ (q : StepAt). HoldsStep w q.step) step tail was) rest)

-- the root is the same in each world
same_root : (v w : World) (ss : List Sequent) (rs : List StepAt) → root (made_by v ss rs).tree ≡ root (made_by w ss rs).tree
same_root v w ss [] = refl
same_root v w ss (r ∷ rs) =
    root-refined (step_of v r.step) (premises_of r ss) r.place (made_by v (sequents_before r ss) rs).tree
    ∙ same_root v w (sequents_before r ss) rs
    ∙ sym (root-refined (step_of w r.step) (premises_of r ss) r.place (made_by w (sequents_before r ss) rs).tree)

-- THE PROOF IS HELD by the world that is left of one that held it, where its goals and its steps are
module _ (v w : World) (q : Held) (grows : Grows v w) (declared : declarations_of w ≡ declarations_of v) (was : HoldsProof w q) where
  held_again : All (HoldsSequent v) (sequents_in q.nodes) → All (λ (r : StepAt). HoldsStep v r.step) (steps_in q.nodes q.journal) → HoldsProof v q
  held_again goals steps =
      let same = map_same (sequent_of w) (sequent_of v) (HoldsSequent v) (same_sequent v w grows) (sequents_in q.nodes) goals in
      let roots : root (history_of w q).tree ≡ root (history_of v q).tree =
      ap (λ ss. root (made_by w ss (steps_in q.nodes q.journal)).tree) same ∙ same_root w v (map (sequent_of v) (sequents_in q.nodes)) (steps_in q.nodes q.journal) in
      record {
        sequents = goals;
        steps = steps;
        rooted = subst (IsSequent (declarations_of v)) roots (subst (λ D. IsSequent D (root (history_of w q).tree)) declared was.rooted);
      }

  goal_was : (nodes : List ProofNode) (u : World) → All (HoldsSequent u) (sequents_in nodes) → (i : ℕ) → i < length nodes → HoldsSequent u (node_at nodes i).sequent
  goal_was [] u all i l = absurd (omega (arith, l))
  goal_was (n ∷ ns) u all zero l = All-head (HoldsSequent u) n.sequent (sequents_in ns) all
  goal_was (n ∷ ns) u all (suc i) l = goal_was ns u (All-tail (HoldsSequent u) n.sequent (sequents_in ns) all) i (omega (arith, l))

  goals_held : (first : ℕ) → ((i : ℕ) → i < first → i < length q.nodes → HoldsSequent v (node_at q.nodes i).sequent)
      → AllWithin (λ (n : ProofNode). HoldsGoal w n → HoldsGoal v n) q.nodes first (length q.nodes) → All (HoldsSequent v) (sequents_in q.nodes)
  goals_held first front rest =
      All-map (HoldsSequent v) (λ (n : ProofNode). n.sequent) q.nodes (All-from_get_or (λ (n : ProofNode). HoldsSequent v n.sequent) q.nodes no_node (λ i l.
      elim (below_or_not i first) [
        | inl low ↦ front i low l
        | inr high ↦ rest i no_node high l (goal_was q.nodes w was.sequents i l)
      ]))

  held_from : (first_node first_step : ℕ) → KeepsFrom w v q first_node first_step → HasTypesBehind v.types q first_step
      → ((i : ℕ) → i < first_node → i < length q.nodes → HoldsSequent v (node_at q.nodes i).sequent)
      → All (λ (r : StepAt). HoldsStep v r.step) (steps_in (before_steps (length q.journal - first_step) q).nodes (before_steps (length q.journal - first_step) q).journal)
      → HoldsProof v q
  held_from first_node first_step from types front before =
      held_again (goals_held first_node front from.goals)
      (steps_held w v q.nodes (length q.journal - first_step) q.nodes q.journal (front_itself q.nodes)
      (latest_of (λ (r : Refinement). HoldsTermsOf q.nodes w r → HoldsTermsOf q.nodes v r) q.journal first_step from.steps) types was.steps before)

  -- where all that its nodes name is kept
  pub held_whole : KeepsFrom w v q 0 0 → HasTypesBehind v.types q 0 → HoldsProof v q
  held_whole from types =
      held_from 0 0 from types (λ i low l. absurd (omega (arith, low)))
      (none_left (before_steps (length q.journal - 0) q).nodes (before_steps (length q.journal - 0) q).journal
      (let none : length (before_steps (length q.journal - 0) q).journal ≡ 0 = omega (arith, before_length q (length q.journal - 0)) in none))
    where
      none_left : (nodes : List ProofNode) (js : List Refinement) → length js ≡ 0 → All (λ (r : StepAt). HoldsStep v r.step) (steps_in nodes js)
      none_left nodes [] e = All-nil (λ (r : StepAt). HoldsStep v r.step)
      none_left nodes (r ∷ rs) e = absurd (omega (arith, e))

  -- where it was held before some steps, and what these name is kept
  pub held_behind : (e : World) (p : Held) (steps : ℕ) → Grows e v → HoldsProof e p → Beyond p q → steps ≡ length p.journal → KeepsBehind w v q steps → HasTypesBehind v.types q steps → HoldsProof v q
  held_behind e p steps old had beyond counted behind types =
      let back : before_steps (length q.journal - steps) q ≡ p = ap (λ n. before_steps (length q.journal - n) q) counted ∙ beyond.back in
      let there = still_holds e v old p had in
      let front : IsFront p.nodes q.nodes = subst (λ (x : Held). IsFront x.nodes q.nodes) back (front_further q.nodes q.nodes q.journal (length q.journal - steps) (front_itself q.nodes)) in
      held_from (nodes_standing steps q) steps behind types
      (λ i low l.
      let few : i < length p.nodes = subst (λ (x : Held). i < length x.nodes) back low in
      subst (HoldsSequent v) (front.goals i few) (goal_was p.nodes v there.sequents i few))
      (subst (λ (x : Held). All (λ (r : StepAt). HoldsStep v r.step) (steps_in x.nodes x.journal)) (sym back) there.steps)

-- what all nodes name is there, so what some name is

in_or_none : (v : World) (q : Held) → HoldsNodes v q → (i : ℕ) → ((node_at q.nodes i).step ≡ None) ⊎ IfSome (node_at q.nodes i).step (HoldsStep v)
in_or_none v q all i = elim (below_or_not i (length q.nodes)) [
  | inl l ↦ inr (all i no_node l).1
  | inr l ↦ inl (ap (λ (n : ProofNode). n.step) (get_or_past q.nodes i no_node l))
]

pub named_from : (v : World) (q : Held) (first_node first_step : ℕ) → HoldsNodes v q → HoldsFrom v q first_node first_step
named_from v q first_node first_step all = record {
  goals = λ i d low l. (all i d l).0;
  steps = λ i d low l. terms_of (node_at q.nodes (get_or (reverse q.journal) i d).node).step (in_or_none v q all (get_or (reverse q.journal) i d).node);
}
  where
    terms_of : (o : Option Step) → (o ≡ None) ⊎ IfSome o (HoldsStep v) → IfSome o (HoldsTerms v)
    terms_of o (inl e) = subst (λ (x : Option Step). IfSome x (HoldsTerms v)) (sym e) tt
    terms_of None (inr h) = tt
    terms_of (Some s) (inr h) = terms_there v s h

pub types_named : (v : World) (q : Held) (first : ℕ) → HoldsNodes v q → HasTypesBehind v.types q first
types_named v q first all k d low l =
    let there : k < length q.journal = omega (arith, l) in
    let r = get_or q.journal k no_refinement in
    let standing = (before_steps k q).nodes in
    subst (HasTypes v.types) (sym (step_at q.nodes q.journal k r (slice_get-get_or q.journal k no_refinement there) d))
    (types_of (node_at standing r.node).step (node_at q.nodes r.node).step ((front_further q.nodes q.nodes q.journal k (front_itself q.nodes)).steps r.node) (in_or_none v q all r.node))
  where
    types_of : (o s : Option Step) → (o ≡ None) ⊎ (o ≡ s) → (s ≡ None) ⊎ IfSome s (HoldsStep v) → HasTypes v.types (unwrap_or o TrueRight)
    types_of o s (inl e) h = subst (λ (x : Option Step). HasTypes v.types (unwrap_or x TrueRight)) (sym e) tt
    types_of o s (inr e) (inl none) = subst (λ (x : Option Step). HasTypes v.types (unwrap_or x TrueRight)) (sym (e ∙ none)) tt
    types_of o None (inr e) (inr h) = subst (λ (x : Option Step). HasTypes v.types (unwrap_or x TrueRight)) (sym e) tt
    types_of o (Some s) (inr e) (inr h) = subst (λ (x : Option Step). HasTypes v.types (unwrap_or x TrueRight)) (sym e) (types_there v s h)

-- the types of a proof's steps are there where the proof is
pub types_held : (w : World) (q : Held) (first : ℕ) → HoldsProof w q → HasTypesBehind w.types q first
types_held w q first held k d low l =
    types_there w (get_or (steps_in q.nodes q.journal) k d).step (held.steps k d (omega (arith, l, length-steps_in q.nodes q.journal)))
