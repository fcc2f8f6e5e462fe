use Rattle.std.proofs.Common.{false, length, arith}
use Rattle.ab_norm.specs.ab_store.specs.declared.node.Head.{Head}
use Rattle.ab_norm.specs.ab_store.specs.declared.node.Head.TheVariants.{Const}
use Rattle.ab_patterns.proofs.Flagged.{kept_one, kept_none, kept_all, one_ends}
use Rattle.ab_patterns.proofs.applied_cells.keep_heads.Goals as goal

abbrev none : Head
none = Const (record { 0 = 0 })

pub loop-place-preserved-then-not-keep-place : goal.loop-place-preserved-then-not-keep-place
loop-place-preserved-then-not-keep-place c =
    kept_none c.args.keep.now c.args.heads.now c.loop-place.place false none (omega arith) (omega arith) c.if-not-keep-place.true c.loop-place.into.items _ c.loop-place.invariant

pub loop-place-preserved : goal.loop-place-preserved
loop-place-preserved c =
    kept_one c.args.keep.now c.args.heads.now c.loop-place.place false none (omega arith) (omega arith) c.if-not-keep-place.false c.loop-place.into.items c.push.new.self.items _ c.in_ok-push.ensures.items c.loop-place.invariant

pub returns : goal.returns
returns c =
    kept_all c.args.keep.now c.args.heads.now c.loop-place.place (one_ends c.loop-place.place (length c.args.keep.now) (length c.args.heads.now) (omega arith)) c.loop-place.into.items _ c.loop-place.invariant
