use Rattle.ab_infer.proofs.Connectives.{adds_type}
use Rattle.ab_infer.proofs.ids.kind_type.Goals as goal

pub returns-in-Ok-clause-adds : goal.returns-in-Ok-clause-adds
returns-in-Ok-clause-adds c = adds_type c.args.types.now c.base.new.self _ c.base.result c.base.ensures.kept c.base.ensures.entries c.base.ensures.err

pub returns-in-Err-Memory-clause-adds : goal.returns-in-Err-Memory-clause-adds
returns-in-Err-Memory-clause-adds c = adds_type c.args.types.now c.base.new.self _ c.base.result c.base.ensures.kept c.base.ensures.entries c.base.ensures.err
