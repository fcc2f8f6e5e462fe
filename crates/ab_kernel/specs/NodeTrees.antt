-- The nodes of a proof as its derivation, which they are from the root on, by the numbers of each node's children.
use Rattle.std.specs.Prelude.{◌≡◌, ℕ, ◌<◌, List, [], ◌∷◌, ◌++◌, length, reverse, Option, Some, None}
use Rattle.std.specs.Option.{option_map}
use Rattle.ab_formulas.specs.Sequents.{Sequent}
use Rattle.ab_logic.specs.SequentReadings.{sequent_of}
use Rattle.ab_logic.specs.declared.world.World.{World}
use Rattle.ab_theory.specs.Steps.{Step}
use Rattle.ab_rules.specs.RuleAnswers.{step_of}
use Rattle.ab_kernel.specs.declared.node.ProofNode.{ProofNode}
use Rattle.ab_kernel.specs.Nodes.{node_at}
use Rattle.ab_theory.specs.Derivations.{Derivation, goal, by, Derivations, none, more}

-- the node of this number has this goal, and this step or none
pub record IsNode (w : World) (nodes : List ProofNode) (n : ℕ) (s : Sequent) (t : Option Step) : Type 0 where
  pub in_range : n < length nodes
  pub has_goal : sequent_of w (node_at nodes n).sequent ≡ s
  pub has_step : option_map (step_of w) (node_at nodes n).step ≡ t

abbrev mutual
  -- THE NODE OF THIS NUMBER STANDS FOR THE DERIVATION: it has the root's goal and the step that was taken there, and its
  -- children stand for the derivations of the premises, from left to right
  pub StandsFor : World → List ProofNode → Derivation → ℕ → Type 0
  StandsFor w nodes (goal s) n = IsNode w nodes n s None × ((node_at nodes n).children ≡ [])
  StandsFor w nodes (by step s ds) n = IsNode w nodes n s (Some step) × StandFor w nodes ds (node_at nodes n).children

  pub StandFor : World → List ProofNode → Derivations → List ℕ → Type 0
  StandFor w nodes none [] = Unit {0}
  StandFor w nodes none (n ∷ ns) = ⊥
  StandFor w nodes (more d ds) [] = ⊥
  StandFor w nodes (more d ds) (n ∷ ns) = StandsFor w nodes d n × StandFor w nodes ds ns

abbrev mutual
  -- the numbers of the open goals' nodes, from left to right
  pub leaves : List ProofNode → Derivation → ℕ → List ℕ
  leaves nodes (goal s) n = n ∷ []
  leaves nodes (by step s ds) n = all_leaves nodes ds (node_at nodes n).children

  pub all_leaves : List ProofNode → Derivations → List ℕ → List ℕ
  all_leaves nodes none ns = []
  all_leaves nodes (more d ds) [] = []
  all_leaves nodes (more d ds) (n ∷ ns) = leaves nodes d n ++ all_leaves nodes ds ns

-- the nodes stand for the derivation, and these are its open goals' numbers, the first goal last
pub record Tree (w : World) (nodes : List ProofNode) (numbers : List ℕ) (d : Derivation) : Type 0 where
  pub stands : StandsFor w nodes d 0
  pub in_order : leaves nodes d 0 ≡ reverse numbers
