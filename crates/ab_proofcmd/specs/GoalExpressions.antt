-- What is read of an expression in a goal.
use Rattle.std.specs.Prelude.{Result, Ok, Err}
use Rattle.ab_term.specs.Types.{Ty}
use Rattle.ab_norm.specs.ab_store.specs.declared.node.TermId.{TermId}
use Rattle.ab_grammar.specs.Tree.{Tree}
use Rattle.ab_inference.specs.declared.fault.InferFault.{InferFault}
use Rattle.ab_inference.specs.declared.fault.InferFault.TheVariants as infer
use Rattle.ab_formulas.specs.Declarations.{Declarations}
use Rattle.ab_formulas.specs.Sequents.{Sequent, Fits}
use Rattle.ab_logic.specs.Worlds.{read, Holds}
use Rattle.ab_logic.specs.declared.world.World.{World}
use Rattle.ab_meaning.specs.Refusals.{unknown, type_clash, untyped}
use Rattle.ab_meaning.specs.Terms.{Means, MeansNothing}
use Rattle.ab_hypothesis.specs.ab_steps.specs.declared.fault.ProofCommandFault.{ProofCommandFault}
use Rattle.ab_hypothesis.specs.ab_steps.specs.declared.fault.ProofCommandFault.TheVariants as command

-- The term that the expression means in the goal at the type, which fits the goal, in a world that has it; or why it
-- means none.
abbrev pub IsReadAs : Declarations → Sequent → Tree → Ty → World → Result TermId InferFault → Type 0
IsReadAs D s e A v (Ok t) = Means D s e A (read v t) × Fits D s (read v t) A × Holds v t
IsReadAs D s e A v (Err (infer.Unknown x)) = MeansNothing D s e A (unknown x)
IsReadAs D s e A v (Err (infer.TypeClash p)) = MeansNothing D s e A (type_clash p)
IsReadAs D s e A v (Err (infer.Untyped p)) = MeansNothing D s e A (untyped p)
IsReadAs D s e A v (Err (infer.Memory m)) = Unit {0}

-- the fault of a proof command whose expression isn't read
abbrev pub fault_for : InferFault → ProofCommandFault
fault_for (infer.Unknown x) = command.Unknown x
fault_for (infer.TypeClash p) = command.TypeClash p
fault_for (infer.Untyped p) = command.Untyped p
fault_for (infer.Memory m) = command.Memory m
