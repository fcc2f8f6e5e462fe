use Rattle.std.proofs.Common.{sym, ◌∙◌, true≢false}
use Rattle.ab_types.proofs.Sorts.{one_lost, none_shorter}
use Rattle.ab_types.proofs.table.TypeTable.drop_types.Goals as goal

pub loop-named-preserved : goal.loop-named-preserved
loop-named-preserved g c =
    one_lost c.args.len c.args.named c.args.self.now c.args.steps.now c.loop-named.self c.loop-named.steps c.loop-named.invariant c.drop_last.new.self c.tick.new.self
    (c.ends_spare.ensures.spare.0 c.loop-named-test.true) c.drop_last.ensures.entries c.tick.ensures

pub returns-clause-least : goal.returns-clause-least
returns-clause-least g c = λ t loses enough.
    none_shorter c.args.len c.args.named c.args.self.now c.args.steps.now c.loop-named.self c.loop-named.steps c.loop-named.invariant
    (λ s. true≢false (sym (c.ends_spare.ensures.spare.1 s) ∙ c.loop-named-test.false)) t loses enough
