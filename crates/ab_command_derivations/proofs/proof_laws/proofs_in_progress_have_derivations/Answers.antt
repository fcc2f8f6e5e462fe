use Rattle.ab_effects.specs.Debts.{debts_at}
use Rattle.ab_command_derivations.proofs.Effects.{derived}
use Rattle.ab_command_derivations.proofs.Proofs.{begun, ended, sequents_left, goes_on}
use Rattle.ab_command_derivations.proofs.proof_laws.proofs_in_progress_have_derivations.Goals as goal

pub returns-clause-begun : goal.returns-clause-begun
returns-clause-begun c D F is = begun D F is

pub returns-clause-commands : goal.returns-clause-commands
returns-clause-commands c D F g gs js t l command ps sound fit one_name proof numbered h =
    goes_on D sound F g gs js t ps (debts_at t command) proof numbered (derived D sound fit one_name l t numbered.sequent command ps h)

pub returns-clause-derived : goal.returns-clause-derived
returns-clause-derived c D F g gs js t ps owed sound proof numbered d = goes_on D sound F g gs js t ps owed proof numbered d

pub returns-clause-sequents : goal.returns-clause-sequents
returns-clause-sequents c D F gs js sound proof = sequents_left D sound F gs js proof

pub returns-clause-ended : goal.returns-clause-ended
returns-clause-ended c D F js d p = ended D F js d p
