use Rattle.std.proofs.Common.{arith}
use Rattle.ab_norm.specs.ab_store.specs.declared.node.Head.{Head}
use Rattle.ab_norm.specs.ab_store.specs.declared.node.Head.TheVariants.{Const}
use Rattle.ab_patterns.proofs.Flagged.{agreeing_one, agreeing_all}
use Rattle.ab_patterns.proofs.flags.agreement_flags.Goals as goal

abbrev none : Head
none = Const (record { 0 = 0 })

pub loop-place-preserved : goal.loop-place-preserved
loop-place-preserved c = λ types store ok names others.
    agreeing_one types store ok none c.args.names.now c.args.others.now c.loop-place.place (omega arith) names others c.agree_at.result c.agree_at.ensures c.loop-place.keep.items c.push.new.self.items _ c.in_ok-push.ensures.items
    (c.loop-place.invariant types store ok names others)

pub returns : goal.returns
returns c = λ types store ok names others.
    agreeing_all types store c.args.names.now c.args.others.now c.loop-place.place (omega arith) (omega arith) c.loop-place.keep.items _ (c.loop-place.invariant types store ok names others)
