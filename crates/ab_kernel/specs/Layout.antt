-- How the fields of a `Proof` stand for its history, and what they were before a step. Contracts name `Held`, `history_of`, `goals_of`,
-- `HoldsProof`, `IsProof`, `before_last` and `Beyond` alone.
use Rattle.std.specs.Prelude.{◌≡◌, ℕ, zero, suc, ◌+◌, ◌-◌, ◌≤◌, List, [], ◌∷◌, ◌++◌, length, map, take, drop, reverse, Some, slice_get, slice_set, vec_capacity, unwrap_or, ◌≢◌}
use Rattle.std.specs.List.{All}
use Rattle.ab_term.specs.Terms.{spine, index, no_terms}
use Rattle.ab_formulas.specs.Sequents.{Sequent, IsSequent}
use Rattle.ab_logic.specs.SequentReadings.{sequent_of, HoldsSequent}
use Rattle.ab_logic.specs.Worlds.{declarations_of}
use Rattle.ab_logic.specs.declared.world.World.{World}
use Rattle.ab_rules.specs.declared.step.Step.{Step}
use Rattle.ab_kernel.specs.declared.node.ProofNode.{ProofNode}
use Rattle.ab_kernel.specs.declared.proof.Refinement.{Refinement}
use Rattle.ab_kernel.specs.Nodes.{cleared, IsClear, sequents_in, node_at, step_held}
use Rattle.ab_kernel.specs.declared.proof.Proof.TheInside.{Inside}
use Rattle.ab_rules.specs.RuleAnswers.{step_of, HoldsStep}
use Rattle.ab_kernel.specs.Debts.{owed as owed_debts}
use Rattle.ab_theory.specs.Derivations.{Derivation, root, Valid, open_goals, Debt, debts_of, History, beginning, after, proves}
use Rattle.ab_kernel.specs.NodeTrees.{Tree}

-- what contracts see of a proof: its nodes, the root first, and the steps that stand, the latest first
pub record Held : Type 0 where
  pub nodes : List ProofNode
  pub journal : List Refinement

-- a step that stands: where it was taken, at the open goal of which place and the node of which number, and how many
-- premises it made
pub record StepAt : Type 0 where
  pub step : Step
  pub place : ℕ
  pub node : ℕ
  pub premises : ℕ

-- the nodes before the step
abbrev pub nodes_before : Refinement → List ProofNode → List ProofNode
nodes_before r nodes =
    let kept = take (length nodes - r.premises) nodes in
    slice_set kept r.node (cleared (node_at kept r.node))

abbrev undoing : List ProofNode → List Refinement → Held
undoing nodes [] = record { nodes = nodes; journal = [] }
undoing nodes (r ∷ rs) = record { nodes = nodes_before r nodes; journal = rs }

-- the proof before its latest step, where one stands: the premises' nodes are gone, and their goal's node has neither step
-- nor children
abbrev pub before_last : Held → Held
before_last p = undoing p.nodes p.journal

-- the proof before so many of its latest steps
abbrev pub before_steps : ℕ → Held → Held
before_steps zero p = p
before_steps (suc n) p = before_steps n (before_last p)

-- MORE STEPS STAND, or as many, and before those that came the proof was this one, to the number of each child
pub record Beyond (old new : Held) : Type 0 where
  pub more : length old.journal ≤ length new.journal
  pub back : before_steps (length new.journal - length old.journal) new ≡ old

-- the steps that stand, which the nodes hold
abbrev pub steps_in : List ProofNode → List Refinement → List StepAt
steps_in nodes [] = []
steps_in nodes (r ∷ rs) =
    record { step = step_held (node_at nodes r.node); place = r.place; node = r.node; premises = r.premises } ∷ steps_in (nodes_before r nodes) rs

-- as many numbers from the first on, the greatest first
abbrev pub numbers_down : ℕ → ℕ → List ℕ
numbers_down first zero = []
numbers_down first (suc n) = (first + n) ∷ numbers_down first n

-- the sequents before the step
abbrev pub sequents_before : StepAt → List Sequent → List Sequent
sequents_before r sequents = take (length sequents - r.premises) sequents

-- the premises that the step made
abbrev pub premises_of : StepAt → List Sequent → List Sequent
premises_of r sequents = drop (length sequents - r.premises) sequents

-- where the premises of the step begin among the open goals' numbers
abbrev pub start_of : StepAt → List ℕ → ℕ
start_of r open_numbers = length open_numbers - (r.place + r.premises)

-- the open goals' numbers before the step
abbrev pub open_before : StepAt → List ℕ → List ℕ
open_before r open_numbers =
    let start = start_of r open_numbers in
    take start open_numbers ++ r.node ∷ drop (start + r.premises) open_numbers

-- the step's premises are there
pub record Fits (r : StepAt) (sequents : List Sequent) (open_numbers : List ℕ) : Type 0 where
  pub in_sequents : r.premises ≤ length sequents
  pub in_open : r.place + r.premises ≤ length open_numbers

-- the open goals' numbers, the first goal last, stand for the derivation's open goals
pub record Reads (sequents : List Sequent) (open_numbers : List ℕ) (d : Derivation) : Type 0 where
  pub rooted : slice_get sequents 0 ≡ Some (root d)
  pub open_read : map (slice_get sequents) open_numbers ≡ map Some (reverse (open_goals d))

module _ (w : World) where
  -- the proof that these steps made, of which the latest is the first of the list
  abbrev pub made_by : List Sequent → List StepAt → History
  made_by sequents [] = beginning (unwrap_or (slice_get sequents 0) (proves (spine (index 0) no_terms) 0))
  made_by sequents (r ∷ rs) =
      after r.place (step_of w r.step) (premises_of r sequents) (made_by (sequents_before r sequents) rs)

  -- these sequents and numbers stand for the proof, and so do those before each step
  abbrev pub Stands : List Sequent → List ℕ → List StepAt → Type 0
  Stands sequents open_numbers [] = Reads sequents open_numbers (made_by sequents []).tree
  Stands sequents open_numbers (r ∷ rs) =
      Reads sequents open_numbers (made_by sequents (r ∷ rs)).tree
      × Fits r sequents open_numbers
      × Stands (sequents_before r sequents) (open_before r open_numbers) rs

  -- what the steps owe
  abbrev pub owed_by : List StepAt → List Debt
  owed_by [] = []
  owed_by (r ∷ rs) = debts_of (step_of w r.step) ++ owed_by rs

  -- THE PROOF, as a derivation and those before it
  abbrev pub history_of : Held → History
  history_of p = made_by (map (sequent_of w) (sequents_in p.nodes)) (steps_in p.nodes p.journal)

  -- the open goals, from left to right
  abbrev pub goals_of : Held → List Sequent
  goals_of p = open_goals (history_of p).tree

  -- what the proof names is there, and it began with a sequent: this outlives whatever is declared
  pub record HoldsProof (p : Held) : Type 0 where
    pub sequents : All (HoldsSequent w) (sequents_in p.nodes)
    pub steps : All (λ (r : StepAt). HoldsStep w r.step) (steps_in p.nodes p.journal)
    pub rooted : IsSequent (declarations_of w) (root (history_of p).tree)

  -- THE PROOF IS ONE: what it names is there, and its derivation is valid and was so before each step
  pub record IsProof (p : Held) : Type 0 where
    pub held : HoldsProof p
    pub valid : Valid (declarations_of w) (history_of p).tree
    pub was_valid : All (Valid (declarations_of w)) (history_of p).earlier

abbrev pub held : Inside → Held
held p = record { nodes = p.nodes.items; journal = reverse p.journal.items }

-- no step was taken at the nodes of these numbers
abbrev pub AreOpen : List ProofNode → List ℕ → Type 0
AreOpen nodes [] = Unit {0}
AreOpen nodes (n ∷ ns) = IsClear (node_at nodes n) × AreOpen nodes ns

abbrev pub Differs : ℕ → List ℕ → Type 0
Differs n [] = Unit {0}
Differs n (m ∷ ms) = (n ≢ m) × Differs n ms

abbrev pub AreDistinct : List ℕ → Type 0
AreDistinct [] = Unit {0}
AreDistinct (n ∷ ns) = Differs n ns × AreDistinct ns

-- at the open goals' nodes no step was taken, and their numbers differ; and so it was before each step
abbrev pub Layers : List ProofNode → List ℕ → List Refinement → Type 0
Layers nodes numbers [] = AreOpen nodes numbers × AreDistinct numbers
Layers nodes numbers (r ∷ rs) =
    AreOpen nodes numbers × AreDistinct numbers
    × Layers (nodes_before r nodes) (open_before (record { step = step_held (node_at nodes r.node); place = r.place; node = r.node; premises = r.premises }) numbers) rs

-- the nodes stand for the derivation; and so it was before each step
abbrev pub Grown : World → List ProofNode → List ℕ → List Refinement → Type 0
Grown w nodes numbers [] = Tree w nodes numbers (history_of w (record { nodes = nodes; journal = [] })).tree
Grown w nodes numbers (r ∷ rs) =
    Tree w nodes numbers (history_of w (record { nodes = nodes; journal = r ∷ rs })).tree
    × Grown w (nodes_before r nodes) (open_before (record { step = step_held (node_at nodes r.node); place = r.place; node = r.node; premises = r.premises }) numbers) rs

pub record IsSound (p : Inside) : Type 0 where
  pub stands : (w : World) → Stands w (map (sequent_of w) (sequents_in p.nodes.items)) p.open.items (steps_in p.nodes.items (reverse p.journal.items))
  pub layers : Layers p.nodes.items p.open.items (reverse p.journal.items)
  pub grown : (w : World) → Grown w p.nodes.items p.open.items (reverse p.journal.items)
  -- its debts are those of the steps that stand
  pub owed : (w : World) → owed_debts p.debts.items ≡ owed_by w (steps_in p.nodes.items (reverse p.journal.items))
  -- steps can be taken back without memory
  pub room : (w : World) → All (λ d. length (open_goals d) ≤ vec_capacity p.open) (history_of w (held p)).earlier
