use Rattle.ab_rules.proofs.Chosen.{excluded_more}
use Rattle.ab_rules.proofs.nabla_constants.exclude.Goals as goal

pub loop-name-preserved : goal.loop-name-preserved
loop-name-preserved c =
    excluded_more c.args.all c.args.ty c.args.names.now c.loop-name.name-index (record { number = 0; ty = record { 0 = 0 } }) _ _ _ c.loop-name-test.true c.loop-name.invariant c.in_ok-note.ensures
