-- What the fields of a `Proof` stand for once its last step is taken back.
use Rattle.std.specs.List.{All}
use Rattle.std.proofs.Common.{◌≡◌, ℕ, ◌+◌, ◌-◌, ◌<◌, ◌≤◌, Some, List, [], ◌∷◌, ◌++◌, length, map, reverse, take, drop, sym, ◌∙◌, ap, subst, arith, length-append, length-drop}
use Rattle.std.proofs.lemmas.List.{reverse-append, length-map, length-take-le, take-map, take-append-drop}
use Rattle.std.proofs.lemmas.List.Elements.{All-head, All-tail, All-take}
use Rattle.ab_kernel.specs.Nodes.{sequents_in, node_at, step_held}
use Rattle.ab_kernel.specs.Layout.{StepAt, steps_in, history_of, IsProof, sequents_before, made_by, Reads, start_of, open_before, Stands, nodes_before}
use Rattle.ab_logic.specs.declared.world.World.{World}
use Rattle.ab_logic.specs.declared.sequent.Sequent.{Sequent as Kept}
use Rattle.ab_formulas.specs.Sequents.{Sequent, IsSequent}
use Rattle.ab_logic.specs.SequentReadings.{sequent_of, HoldsSequent}
use Rattle.ab_rules.specs.RuleAnswers.{HoldsStep}
use Rattle.ab_logic.specs.Worlds.{declarations_of}
use Rattle.ab_theory.specs.Derivations.{root, Valid, open_goals, History, undone}
use Rattle.ab_kernel.specs.declared.node.ProofNode.{ProofNode}
use Rattle.ab_kernel.specs.declared.proof.Refinement.{Refinement}
use Rattle.ab_kernel.proofs.Filling.{sequents-before, each_within, in_middle}
use Rattle.ab_formulas.proofs.KernelSplits.{get_still}
use Rattle.ab_kernel.proofs.Standing.{reads_now, as_many}

module _ (w : World) (ss : List Sequent) (ns : List ℕ) (r : StepAt) (rs : List StepAt) (stands : Stands w ss ns (r ∷ rs)) where
  before : Reads (sequents_before r ss) (open_before r ns) (made_by w (sequents_before r ss) rs).tree
  before = reads_now w _ _ rs stands.2

  pub kept_root : root (made_by w (sequents_before r ss) rs).tree ≡ root (made_by w ss (r ∷ rs)).tree
  kept_root =
      let split = take-append-drop (length ss - r.premises) ss in
      let first = get_still (sequents_before r ss) (drop (length ss - r.premises) ss) 0 _ before.rooted in
      let same : Some (root (made_by w (sequents_before r ss) rs).tree) ≡ Some (root (made_by w ss (r ∷ rs)).tree) =
      sym (rw split at first) ∙ stands.0.rooted in
      cc

  pub length-open_before : length (open_before r ns) + r.premises ≡ length ns + 1
  length-open_before =
      let start = start_of r ns in
      let fits = stands.1.in_open in
      length-append-two
    where
      length-append-two : length (open_before r ns) + r.premises ≡ length ns + 1
      length-append-two =
          let fits : r.place + r.premises ≤ length ns = stands.1.in_open in
          omega (
            arith,
            length-append (take (start_of r ns) ns) (r.node ∷ drop (start_of r ns + r.premises) ns),
            length-take-le (start_of r ns) ns (omega arith),
            length-drop (start_of r ns + r.premises) ns,
          )

  pub room_there : (room : ℕ) → All (λ d. length (open_goals d) ≤ room) (made_by w ss (r ∷ rs)).earlier → length ns < room + r.premises
  room_there room all =
      let head = All-head (λ d. length (open_goals d) ≤ room) _ (made_by w (sequents_before r ss) rs).earlier all in
      omega (arith, head, as_many before, length-open_before)

pub record TakenBack (w : World) (ss : List Sequent) (ns : List ℕ) (rs : List StepAt) (room : ℕ) (h : History) : Type 0 where
  pub stands : Stands w ss ns rs
  pub made : made_by w ss rs ≡ undone 1 h
  pub rooted : root (made_by w ss rs).tree ≡ root h.tree
  pub room_left : All (λ d. length (open_goals d) ≤ room) (made_by w ss rs).earlier

pub last_step : {X : Type 0} (js js' : List X) (r : X) → js ≡ js' ++ r ∷ [] → reverse js ≡ r ∷ reverse js'
last_step js js' r is = ap reverse is ∙ reverse-append js' (r ∷ [])

pub room_to_go : (w : World) (items : List Kept) (ns : List ℕ) (r : StepAt) (rs : List StepAt) (room : ℕ)
    → Stands w (map (sequent_of w) items) ns (r ∷ rs) → All (λ d. length (open_goals d) ≤ room) (made_by w (map (sequent_of w) items) (r ∷ rs)).earlier
    → (r.place + r.premises ≤ length ns) × (r.premises ≤ length items) × (length ns < room + r.premises)
room_to_go w items ns r rs room there left =
    (there.1.in_open, rw (sym (length-map items (sequent_of w))) there.1.in_sequents, room_there w _ ns r rs there room left)

-- the node of the step is one of those before it
pub node_there : (w : World) (items : List Kept) (ns : List ℕ) (r : StepAt) (rs : List StepAt)
    → Stands w (map (sequent_of w) items) ns (r ∷ rs) → r.node < length items - r.premises
node_there w items ns r rs there =
    let ss = map (sequent_of w) items in
    let reads = reads_now w (sequents_before r ss) (open_before r ns) rs there.2 in
    let start = start_of r ns in
    let each = each_within (sequents_before r ss) (open_before r ns) _ reads.open_read in
    let here : r.node < length (sequents_before r ss) = in_middle (sequents_before r ss) (take start ns) r.node (drop (start + r.premises) ns) each in
    let long = length-take-le (length ss - r.premises) ss (omega arith) in
    omega (arith, here, long, length-map items (sequent_of w))

pub taken_back : (w : World) (items items' : List Kept) (ns ns' : List ℕ) (r : StepAt) (rs : List StepAt) (room at count : ℕ) (h : History)
    → Stands w (map (sequent_of w) items) ns (r ∷ rs) → All (λ d. length (open_goals d) ≤ room) (made_by w (map (sequent_of w) items) (r ∷ rs)).earlier
    → made_by w (map (sequent_of w) items) (r ∷ rs) ≡ h
    → count ≡ length items → at ≡ start_of r ns
    → items' ≡ take (count - r.premises) items
    → ns' ≡ take at ns ++ r.node ∷ drop (at + r.premises) ns
    → TakenBack w (map (sequent_of w) items') ns' rs room h
taken_back w items items' ns ns' r rs room at count h there left whole is_count is_at is_items is_ns =
    let ss = map (sequent_of w) items in
    let sequents : map (sequent_of w) items' ≡ sequents_before r ss =
    ap (map (sequent_of w)) is_items
    ∙ ap (λ n. map (sequent_of w) (take (n - r.premises) items)) is_count
    ∙ sym (take-map (sequent_of w) (length items - r.premises) items)
    ∙ ap (λ n. take (n - r.premises) ss) (sym (length-map items (sequent_of w))) in
    let numbers : ns' ≡ open_before r ns = is_ns ∙ ap (λ n. take n ns ++ r.node ∷ drop (n + r.premises) ns) is_at in
    let history : made_by w (map (sequent_of w) items') rs ≡ made_by w (sequents_before r ss) rs = ap (λ qs. made_by w qs rs) sequents in
    record {
      stands = subst (λ qs. Stands w qs ns' rs) (sym sequents) (subst (λ ms. Stands w (sequents_before r ss) ms rs) (sym numbers) there.2);
      made = history ∙ ap (undone 1) whole;
      rooted = ap (λ k. root k.tree) history ∙ kept_root w ss ns r rs there ∙ ap (λ k. root k.tree) whole;
      room_left =
          subst (λ k. All (λ d. length (open_goals d) ≤ room) k.earlier) (sym history)
          (All-tail (λ d. length (open_goals d) ≤ room) _ (made_by w (sequents_before r ss) rs).earlier left);
    }

-- the proof before its last step is one
pub proof_before : (w : World) (nodes : List ProofNode) (r : Refinement) (js : List Refinement)
    → history_of w (record { nodes = nodes_before r nodes; journal = js }) ≡ undone 1 (history_of w (record { nodes = nodes; journal = r ∷ js }))
    → root (history_of w (record { nodes = nodes_before r nodes; journal = js })).tree ≡ root (history_of w (record { nodes = nodes; journal = r ∷ js })).tree
    → IsProof w (record { nodes = nodes; journal = r ∷ js }) → IsProof w (record { nodes = nodes_before r nodes; journal = js })
proof_before w nodes r js is root_is proof =
    let step : StepAt = record { step = step_held (node_at nodes r.node); place = r.place; node = r.node; premises = r.premises } in
    let before = made_by w (sequents_before step (map (sequent_of w) (sequents_in nodes))) (steps_in (nodes_before r nodes) js) in
    record {
      held = record {
        sequents = subst (All (HoldsSequent w)) (sym (sequents-before r nodes)) (All-take (HoldsSequent w) (length nodes - r.premises) (sequents_in nodes) proof.held.sequents);
        steps = All-tail (λ (k : StepAt). HoldsStep w k.step) step (steps_in (nodes_before r nodes) js) proof.held.steps;
        rooted = subst (IsSequent (declarations_of w)) (sym root_is) proof.held.rooted;
      };
      valid = subst (λ (h : History). Valid (declarations_of w) h.tree) (sym is) (All-head (Valid (declarations_of w)) before.tree before.earlier proof.was_valid);
      was_valid = subst (λ (h : History). All (Valid (declarations_of w)) h.earlier) (sym is) (All-tail (Valid (declarations_of w)) before.tree before.earlier proof.was_valid);
    }
