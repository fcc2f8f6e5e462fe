-- What `refine` shows at its returns.
use Rattle.std.specs.Prelude.{Result, Ok, Err}
use Rattle.std.specs.List.{All}
use Rattle.std.proofs.Common.{◌≡◌, ◌⊎◌, inl, inr, ℕ, ◌+◌, ◌<◌, Vec, Global, Some, List, ◌∷◌, ◌++◌, length, map, get_or, sym, ◌∙◌, ap, subst}
use Rattle.std.proofs.lemmas.List.Elements.{All-cons, All-append, All-weaker}
use Rattle.ab_logic.specs.WorldGrowth.{Grows}
use Rattle.ab_unify.specs.Problem.{cells_read}
use Rattle.ab_formulas.specs.NewNames.{IsNoVariable, IsNamedFor}
use Rattle.ab_formulas.specs.Declarations.{Declarations}
use Rattle.ab_logic.specs.Worlds.{IsWorld, declarations_of}
use Rattle.ab_formulas.specs.Sequents.{Sequent, IsSequent}
use Rattle.ab_logic.specs.SequentReadings.{sequent_of, HoldsSequent}
use Rattle.ab_logic.specs.declared.world.World.{World}
use Rattle.ab_logic.specs.declared.sequent.Sequent.{Sequent as Kept}
use Rattle.ab_logic.proofs.BuiltIn.{has_member}
use Rattle.ab_logic.proofs.Programs.{have_programs}
use Rattle.ab_rules.specs.declared.step.Step.{Step}
use Rattle.ab_rules.specs.declared.step.KernelFault.{KernelFault}
use Rattle.ab_rules.specs.declared.step.KernelFault.TheVariants.{RuleFails, NotPattern, Memory}
use Rattle.ab_kernel.specs.Nodes.{sequents_in}
use Rattle.ab_kernel.specs.Layout.{StepAt, steps_in, Held, Stands, history_of, IsProof}
use Rattle.ab_theory.specs.Row.{FailsFirst, Sticks}
use Rattle.ab_theory.specs.Rules.{NamedRule, Fails, Stuck}
use Rattle.ab_theory.proofs.Longer.{any_named}
use Rattle.ab_rules.specs.RuleAnswers.{Answers, row_at, step_of, HoldsStep, IsMemory}
use Rattle.ab_theory.specs.Derivations.{Derivation, root, Valid, goal_at, open_goals, GoalFails, GoalStuck, History, after, refined, IsStep}
use Rattle.std.proofs.lemmas.List.{length-map}
use Rattle.std.proofs.lemmas.Option.{slice_get_within, get_or_from_slice_get}
use Rattle.ab_kernel.specs.declared.node.ProofNode.{ProofNode}
use Rattle.ab_kernel.specs.declared.proof.Refinement.{Refinement}
use Rattle.ab_kernel.proofs.Filling.{sequent_read}
use Rattle.ab_theory.proofs.Rooted.{still_sequent, open_are_sequents}
use Rattle.ab_kernel.proofs.Standing.{reads_now, leads}
use Rattle.ab_kernel.proofs.Taking.{goal_taken}
use Rattle.ab_kernel.proofs.NewNumbers.{over_cells}
use Rattle.ab_theory.proofs.OneAnswer.{NamesOnce, never_both, one_failure, any_names, names_by_hint, taken_or_stuck, refused_or_stuck, one_equation}
use Rattle.ab_kernel.proofs.Later.{same_step, still_step, same_declared, still_holds, still_derived, same_history}
use Rattle.ab_theory.proofs.Refining.{root-refined, Valid-refined}

-- the goal's sequent is there
pub held_at : (w : World) (items : List Kept) (n : ℕ) (x : Kept) → All (HoldsSequent w) items → n < length items → x ≡ get_or items n x → HoldsSequent w x
held_at w items n x all l is = subst (HoldsSequent w) (sym is) (all n x l)

module _ (w v : World) (x : Kept) (kept : Step) (place : ℕ) (d : Derivation) (is : goal_at d place ≡ Some (sequent_of w x)) where
  failed : (i : ℕ) → GoalFails (declarations_of w) (cells_read w.types w.store) place (step_of w kept) i d → Fails (declarations_of w) (cells_read w.types w.store) (step_of w kept) (sequent_of w x) i
  failed i f =
      let same : Some f.0 ≡ Some (sequent_of w x) = sym f.1 ∙ is in
      let goal : f.0 ≡ sequent_of w x = cc in
      subst (λ t. Fails (declarations_of w) (cells_read w.types w.store) (step_of w kept) t i) goal f.2

  stuck_here : (i : ℕ) → GoalStuck (declarations_of w) (cells_read w.types w.store) place (step_of w kept) i d → Sticks (row_at w (step_of w kept) x) i
  stuck_here i f =
      let same : Some f.0 ≡ Some (sequent_of w x) = sym f.1 ∙ is in
      let goal : f.0 ≡ sequent_of w x = cc in
      subst (λ t. Stuck (declarations_of w) (cells_read w.types w.store) (step_of w kept) t i) goal f.2

  fails_here : (i : ℕ) → GoalFails (declarations_of w) (cells_read w.types w.store) place (step_of w kept) i d → FailsFirst (row_at w (step_of w kept) x) i
  fails_here i f =
      any_names (declarations_of w) (step_of w kept) (cells_read w.types w.store) (λ s hint name. IsNoVariable s name) (IsNamedFor (declarations_of w)) (sequent_of w x) i (failed i f)

  told : (j : ℕ) → FailsFirst (row_at w (step_of w kept) x) j → Fails (declarations_of w) (cells_read w.types w.store) (step_of w kept) (sequent_of w x) j
  told j f = any_names (declarations_of w) (step_of w kept) (cells_read w.types w.store) (IsNamedFor (declarations_of w)) (λ s hint name. IsNoVariable s name) (sequent_of w x) j f

  one_name_each : NamesOnce (row_at w (step_of w kept) x)
  one_name_each = names_by_hint (declarations_of w) (cells_read w.types w.store) (step_of w kept) (sequent_of w x)

  pub refused : (f : KernelFault) → Answers v (row_at w (step_of w kept) x) (Err f)
      → (i : ℕ) → ◌≡◌ {A = Result ℕ KernelFault} (Err f) (Err (RuleFails i)) → GoalFails (declarations_of w) (cells_read w.types w.store) place (step_of w kept) i d
  refused (RuleFails j) a i e =
      let same : j ≡ i = cc in
      (sequent_of w x, is, subst (Fails (declarations_of w) (cells_read w.types w.store) (step_of w kept) (sequent_of w x)) same (told j a))
  refused (NotPattern j) a i e = cc
  refused (Memory m) a i e = cc

  pub refuses : (f : KernelFault) → Answers v (row_at w (step_of w kept) x) (Err f)
      → (i : ℕ) → GoalFails (declarations_of w) (cells_read w.types w.store) place (step_of w kept) i d → (◌≡◌ {A = Result ℕ KernelFault} (Err f) (Err (RuleFails i))) ⊎ IsMemory {A = ℕ} (Err f)
  refuses (RuleFails j) a i g =
      inl (ap (λ k. Err (RuleFails k)) (one_failure (row_at w (step_of w kept) x) j i a (fails_here i g)))
  refuses (NotPattern j) a i g = absurd (refused_or_stuck (row_at w (step_of w kept) x) i j (fails_here i g) a)
  refuses (Memory m) a i g = inr tt

  pub stuck : (f : KernelFault) → Answers v (row_at w (step_of w kept) x) (Err f)
      → (i : ℕ) → ◌≡◌ {A = Result ℕ KernelFault} (Err f) (Err (NotPattern i)) → GoalStuck (declarations_of w) (cells_read w.types w.store) place (step_of w kept) i d
  stuck (RuleFails j) a i e = cc
  stuck (NotPattern j) a i e =
      let same : j ≡ i = cc in
      (sequent_of w x, is, subst (Sticks (row_at w (step_of w kept) x)) same a)
  stuck (Memory m) a i e = cc

  pub sticks : (f : KernelFault) → Answers v (row_at w (step_of w kept) x) (Err f)
      → (i : ℕ) → GoalStuck (declarations_of w) (cells_read w.types w.store) place (step_of w kept) i d → (◌≡◌ {A = Result ℕ KernelFault} (Err f) (Err (NotPattern i))) ⊎ IsMemory {A = ℕ} (Err f)
  sticks (RuleFails j) a i g = absurd (refused_or_stuck (row_at w (step_of w kept) x) j i a (stuck_here i g))
  sticks (NotPattern j) a i g = inl (ap (λ k. Err (NotPattern k)) (one_equation (row_at w (step_of w kept) x) one_name_each j i a (stuck_here i g)))
  sticks (Memory m) a i g = inr tt

  pub not_stuck : (made : Vec Kept Global) → Answers v (row_at w (step_of w kept) x) (Ok made) → (i : ℕ) → GoalStuck (declarations_of w) (cells_read w.types w.store) place (step_of w kept) i d → ⊥
  not_stuck made a i g = taken_or_stuck (row_at w (step_of w kept) x) one_name_each _ i a.0 (stuck_here i g)

  pub not_refused : (made : Vec Kept Global) → Answers v (row_at w (step_of w kept) x) (Ok made) → (i : ℕ) → GoalFails (declarations_of w) (cells_read w.types w.store) place (step_of w kept) i d → ⊥
  not_refused made a i g = never_both (row_at w (step_of w kept) x) _ i a.0 (fails_here i g)

-- the rule of the step, from the answer of its function
pub by_rule : (w v : World) (x : Kept) (kept : Step) (made : Vec Kept Global) → HoldsSequent w x
    → Answers v (row_at w (step_of w kept) x) (Ok made) → NamedRule (declarations_of w) (step_of w kept) (sequent_of w x) (map (sequent_of v) made.items)
by_rule w v x kept made held a = (cells_read w.types w.store, over_cells w x held, a.0)

module _ (w v : World) (grown : Grows w v) (declared : declarations_of v ≡ declarations_of w) (p q : Held) (proof : IsProof w p) (kept : Step) (holds : HoldsStep w kept) where
  -- the step as it reads now
  pub as_before : (D : Declarations) (place n : ℕ) (h k : History) → IsStep D place (step_of v kept) n h k → IsStep D place (step_of w kept) n h k
  as_before D place n h k is = subst (λ t. IsStep D place t n h k) (same_step w v grown kept holds) is

  pub rule_now : (D : Declarations) (s : Sequent) (ps : List Sequent) → NamedRule D (step_of w kept) s ps → NamedRule D (step_of v kept) s ps
  rule_now D s ps rule = subst (λ t. NamedRule D t s ps) (sym (same_step w v grown kept holds)) rule

  pub proof_after : (made : List Kept) (r : StepAt) (place : ℕ) (s : Sequent)
      → history_of v q ≡ after place (step_of v kept) (map (sequent_of v) made) (history_of w p)
      → (sequents_in q.nodes) ≡ (sequents_in p.nodes) ++ made → (steps_in q.nodes q.journal) ≡ r ∷ (steps_in p.nodes p.journal) → r.step ≡ kept → All (HoldsSequent v) made
      → goal_at (history_of w p).tree place ≡ Some s → NamedRule (declarations_of w) (step_of w kept) s (map (sequent_of v) made) → IsProof v q
  proof_after made r place s is sequents steps same held goal rule =
      let still = still_holds w v grown p proof.held in
      let there : HoldsStep v r.step = subst (HoldsStep v) (sym same) (still_step w v grown kept holds) in
      record {
        held = record {
          sequents = subst (All (HoldsSequent v)) (sym sequents) (All-append (HoldsSequent v) (sequents_in p.nodes) made still.sequents held);
          steps = subst (All (λ (r : StepAt). HoldsStep v r.step)) (sym steps) (All-cons (λ (r : StepAt). HoldsStep v r.step) r (steps_in p.nodes p.journal) there still.steps);
          rooted =
              subst (λ (h : History). IsSequent (declarations_of v) (root h.tree)) (sym is)
              (subst (IsSequent (declarations_of v)) (sym (root-refined (step_of v kept) (map (sequent_of v) made) place (history_of w p).tree))
              (still_sequent (declarations_of w) (declarations_of v) grown.declarations (root (history_of w p).tree) proof.held.rooted));
        };
        valid =
            subst (λ (h : History). Valid (declarations_of v) h.tree) (sym is)
            (still_derived w v (same_declared w v declared) (refined place (step_of v kept) (map (sequent_of v) made) (history_of w p).tree)
            (Valid-refined (step_of v kept) (map (sequent_of v) made) (declarations_of w) s
            (any_named (declarations_of w) (step_of v kept) s (map (sequent_of v) made) (rule_now (declarations_of w) s (map (sequent_of v) made) rule)) place (history_of w p).tree goal proof.valid));
        was_valid =
            subst (λ (h : History). All (Valid (declarations_of v)) h.earlier) (sym is)
            (All-weaker (Valid (declarations_of w)) (Valid (declarations_of v)) (still_derived w v (same_declared w v declared)) ((history_of w p).tree ∷ (history_of w p).earlier)
            (All-cons (Valid (declarations_of w)) (history_of w p).tree (history_of w p).earlier proof.valid proof.was_valid));
      }

-- an open goal is a sequent
pub goal_sequent : (w : World) (p : Held) (place : ℕ) (s : Sequent) → IsWorld w → IsProof w p → goal_at (history_of w p).tree place ≡ Some s → IsSequent (declarations_of w) s
goal_sequent w p place s world proof at =
    let gs = open_goals (history_of w p).tree in
    let all = open_are_sequents (declarations_of w) world.sentences world.definitions (have_programs w world) (has_member w world) (history_of w p).tree proof.valid proof.held.rooted in
    subst (IsSequent (declarations_of w)) (get_or_from_slice_get gs place s s at) (all place s (slice_get_within gs place s at))

-- the goal at which the step is taken
pub record Here (w : World) (p : Held) (place : ℕ) (x : Kept) : Type 0 where
  pub held : HoldsSequent w x
  pub is_goal : goal_at (history_of w p).tree place ≡ Some (sequent_of w x)

pub here : (w : World) (nodes : List ProofNode) (ns : List ℕ) (js : List Refinement) (p : Held) (place at node : ℕ) (n : ProofNode)
    → Stands w (map (sequent_of w) (sequents_in nodes)) ns (steps_in nodes js) → record { nodes = nodes; journal = js } ≡ p → IsProof w p
    → place + at + 1 ≡ length ns → node ≡ get_or ns at node → n ≡ get_or nodes node n → Here w p place n.sequent
here w nodes ns js p place at node n stands is proof e is_node is_n =
    let items = sequents_in nodes in
    let is_x = sequent_read nodes node n is_n in
    let found = leads place at node (reads_now w (map (sequent_of w) items) ns (steps_in nodes js) stands) e is_node in
    let inside : node < length items = rw (sym (length-map items (sequent_of w))) (slice_get_within (map (sequent_of w) items) node found.0 found.1) in
    record {
      held = held_at w items node n.sequent (subst (λ (q : Held). All (HoldsSequent w) (sequents_in q.nodes)) (sym is) proof.held.sequents) inside is_x;
      is_goal = goal_taken w items ns (steps_in nodes js) (history_of w p) place at node n.sequent stands (ap (history_of w) is) e is_node is_x;
    }

-- the history under the world that the step left
pub history_now : (w v : World) (grown : Grows w v) (q p : Held) → q ≡ p → IsProof w p → history_of v q ≡ history_of w p
history_now w v grown q p is proof = ap (history_of v) is ∙ same_history w v grown p proof
