use Rattle.std.proofs.Common.{◌∙◌}
use Rattle.ab_norm.proofs.Frame.{if_ok, typed_on, typed_from}
use Rattle.ab_norm.proofs.Copied.{carried_reads}
use Rattle.ab_norm.proofs.carried_terms.carry_resolved.Goals as goal

pub returns-clause-tree : goal.returns-clause-tree
returns-clause-tree c =
    let here = c.in_ok-here.ensures in
    if_ok c.fill.result (λ r made. made ∙ carried_reads c.args.types.now c.args.store.now c.args.apart.now c.carry.new.apart c.args.id c.in_ok-here.here c.requires.same c.requires.apart here.adds.before here.tree) c.fill.ensures.tree

pub returns-clause-adds : goal.returns-clause-adds
returns-clause-adds c =
    let here = c.in_ok-here.ensures in
    typed_on c.args.types.now c.args.apart.now c.carry.new.apart c.fill.new.store here.adds (typed_from c.args.types.now c.carry.new.apart c.fill.new.store c.fill.ensures.adds here.adds.typed)
