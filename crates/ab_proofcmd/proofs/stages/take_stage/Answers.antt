use Rattle.std.proofs.Common.{subst}
use Rattle.ab_uses.specs.UseReadings.{HoldsStage}
use Rattle.ab_proofcmd.proofs.stages.take_stage.Goals as goal

pub put_term-requires-clause-term : goal.put_term-requires-clause-term
put_term-requires-clause-term g c = subst (HoldsStage c.args.world.now) c.in-Instance.is c.requires.stage

pub put_constant-requires-clause-formula : goal.put_constant-requires-clause-formula
put_constant-requires-clause-formula g c = (subst (HoldsStage c.args.world.now) c.in-Chosen.is c.requires.stage).1
