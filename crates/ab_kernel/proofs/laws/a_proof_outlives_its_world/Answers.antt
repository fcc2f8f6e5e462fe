use Rattle.ab_kernel.proofs.Later.{still_holds, outlived_proof, same_read}
use Rattle.ab_kernel.proofs.laws.a_proof_outlives_its_world.Goals as goal

pub returns-clause-held : goal.returns-clause-held
returns-clause-held c = still_holds

pub returns-clause-proof : goal.returns-clause-proof
returns-clause-proof c = outlived_proof

pub returns-clause-history : goal.returns-clause-history
returns-clause-history c = same_read
