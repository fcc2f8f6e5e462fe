use Rattle.std.specs.Option.{option_copied}
use Rattle.ab_syntax.specs.Commands.{proof_command_of}
use Rattle.ab_effects.specs.ProofCommands.{given_label}
use Rattle.ab_session.proofs.Carried.{denied_by_row}
use Rattle.ab_session.proofs.proof_steps.by_row.Goals as goal

pub returns-in_ok-refusal_of_fault-in-Err-clause-denied : goal.returns-in_ok-refusal_of_fault-in-Err-clause-denied
returns-in_ok-refusal_of_fault-in-Err-clause-denied g c =
    denied_by_row (given_label (option_copied c.args.label)) (proof_command_of c.args.command.now) c.args.world.now c.args.proof.now c.in-Err.fault _ c.requires.row
    (c.apply_proof_command.ensures.refused c.in-Err.fault c.in-Err.is) c.in_ok-refusal_of_fault-in-Err.ensures
