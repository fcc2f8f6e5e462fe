-- What the nodes of a proof name.
use Rattle.std.specs.Prelude.{ℕ, ◌-◌, List, length, reverse, All, IfSome}
use Rattle.std.specs.List.{AllWithin}
use Rattle.ab_logic.specs.Worlds.{Holds}
use Rattle.ab_logic.specs.SequentReadings.{HoldsSequent}
use Rattle.ab_logic.specs.declared.world.World.{World}
use Rattle.ab_kernel.specs.declared.node.ProofNode.{ProofNode}
use Rattle.ab_kernel.specs.declared.proof.Refinement.{Refinement}
use Rattle.ab_kernel.specs.Nodes.{node_at}
use Rattle.ab_kernel.specs.Layout.{Held, before_steps}
use Rattle.ab_kernel.specs.ab_rules.specs.RuleAnswers.{HoldsStep}
use Rattle.ab_kernel.specs.ab_rules.specs.declared.replaces.Replace.{Replace}
use Rattle.ab_kernel.specs.ab_rules.specs.declared.step.Step.{Step}
use Rattle.ab_kernel.specs.ab_rules.specs.declared.step.Step.TheVariants.{SpecInst}

-- the node's goal, and the step that was taken there, name what is there
abbrev pub HoldsNode : World → ProofNode → Type 0
HoldsNode w n = HoldsSequent w n.sequent × IfSome n.step (HoldsStep w)

-- WHAT THE PROOF'S NODES NAME IS THERE
abbrev pub HoldsNodes : World → Held → Type 0
HoldsNodes w p = All (HoldsNode w) p.nodes

-- the terms that the step is told are there, whatever the types of its constants
abbrev pub HoldsTerms : World → Step → Type 0
HoldsTerms w (SpecInst H rs l) = All (λ (r : Replace). Holds w r.to) rs
HoldsTerms w step = HoldsStep w step

-- what the goal of a node names is there, and the terms of the step that was taken at a step's node

abbrev pub HoldsGoal : World → ProofNode → Type 0
HoldsGoal w n = HoldsSequent w n.sequent

abbrev pub HoldsTermsOf : List ProofNode → World → Refinement → Type 0
HoldsTermsOf nodes w r = IfSome (node_at nodes r.node).step (HoldsTerms w)

-- what the goals of the nodes from the one number on name is there, and the terms of the steps from the other on
pub record HoldsFrom (w : World) (p : Held) (first_node first_step : ℕ) : Type 0 where
  pub goals : AllWithin (HoldsGoal w) p.nodes first_node (length p.nodes)
  pub steps : AllWithin (HoldsTermsOf p.nodes w) (reverse p.journal) first_step (length p.journal)

-- each of them that the first world has, the second has
pub record KeepsFrom (w v : World) (p : Held) (first_node first_step : ℕ) : Type 0 where
  pub goals : AllWithin (λ (n : ProofNode). HoldsGoal w n → HoldsGoal v n) p.nodes first_node (length p.nodes)
  pub steps : AllWithin (λ (r : Refinement). HoldsTermsOf p.nodes w r → HoldsTermsOf p.nodes v r) (reverse p.journal) first_step (length p.journal)

-- how many nodes there were before the steps behind the first so many
abbrev pub nodes_standing : ℕ → Held → ℕ
nodes_standing steps p = length (before_steps (length p.journal - steps) p).nodes

-- the terms of the steps behind the first so many are there, and so is what their premises name
abbrev pub HoldsBehind : World → Held → ℕ → Type 0
HoldsBehind w p steps = HoldsFrom w p (nodes_standing steps p) steps

abbrev pub KeepsBehind : World → World → Held → ℕ → Type 0
KeepsBehind w v p steps = KeepsFrom w v p (nodes_standing steps p) steps
