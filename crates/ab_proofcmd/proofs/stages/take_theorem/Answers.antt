use Rattle.std.specs.Prelude.{[], ◌∷◌}
use Rattle.std.proofs.Common.{subst}
use Rattle.ab_theory.specs.Derivations.{theorem_taken}
use Rattle.ab_hypothesis.specs.ab_steps.specs.Progress.{Owes}
use Rattle.ab_proofcmd.proofs.stages.take_theorem.Goals as goal

pub returns-clause-owes : goal.returns-clause-owes
returns-clause-owes g c =
    subst (λ n. Owes (theorem_taken n ∷ []) c.args.world.now c.args.proof.now c.step_into.new.world c.step_into.new.proof) c.in_ok-used.ensures c.in_ok-step_into.ensures.owes
