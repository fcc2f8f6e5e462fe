-- The nodes of a proof, by their numbers, and what they were before a step.
use Rattle.std.specs.Prelude.{◌≡◌, ℕ, zero, suc, ◌+◌, List, [], ◌∷◌, ◌++◌, map, get_or, None, unwrap_or}
use Rattle.ab_logic.specs.declared.sequent.Sequent.{Sequent}
use Rattle.ab_rules.specs.declared.step.Step.{Step}
use Rattle.ab_rules.specs.declared.step.Step.TheVariants.{TrueRight}
use Rattle.ab_kernel.specs.declared.node.ProofNode.{ProofNode}

-- as many numbers from the first on
abbrev pub numbers_up : ℕ → ℕ → List ℕ
numbers_up first zero = []
numbers_up first (suc n) = numbers_up first n ++ (first + n) ∷ []

-- the node, without the step that was taken there
abbrev pub cleared : ProofNode → ProofNode
cleared n = record { sequent = n.sequent; step = None; children = [] }

abbrev pub open_node : Sequent → ProofNode
open_node s = record { sequent = s; step = None; children = [] }

-- no step was taken at the node
abbrev pub IsClear : ProofNode → Type 0
IsClear n = n ≡ cleared n

abbrev pub sequents_in : List ProofNode → List Sequent
sequents_in nodes = map (λ (n : ProofNode). n.sequent) nodes

abbrev pub no_node : ProofNode
no_node = record { sequent = record { variables = []; hypotheses = []; conclusion = record { 0 = 0 }; counter = 0 }; step = None; children = [] }

abbrev pub node_at : List ProofNode → ℕ → ProofNode
node_at nodes n = get_or nodes n no_node

-- the step that was taken at the node
abbrev pub step_held : ProofNode → Step
step_held n = unwrap_or n.step TrueRight
