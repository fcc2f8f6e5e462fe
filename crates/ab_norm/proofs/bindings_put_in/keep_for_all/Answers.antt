use Rattle.std.proofs.Common.{arith}
use Rattle.ab_norm.proofs.PutIn.{keeps_next}
use Rattle.ab_norm.proofs.bindings_put_in.keep_for_all.Goals as goal

pub returns-in_err-keep-clause-memo : goal.returns-in_err-keep-clause-memo
returns-in_err-keep-clause-memo c = λ types store known held all.
    keeps_next types store c.loop-id.memo c.keep.new.self c.args.ids.now c.loop-id.id-index (record { 0 = 0 }) c.args.answer c.args.count (omega arith) all held (c.loop-id.invariant types store known held all) c.keep.ensures

pub loop-id-preserved : goal.loop-id-preserved
loop-id-preserved c = λ types store known held all.
    keeps_next types store c.loop-id.memo c.keep.new.self c.args.ids.now c.loop-id.id-index (record { 0 = 0 }) c.args.answer c.args.count (omega arith) all held (c.loop-id.invariant types store known held all) c.keep.ensures
