use Rattle.ab_inference.proofs.Following.{begin, further}
use Rattle.std.proofs.Common.{arith}
use Rattle.ab_inference.proofs.links.find.Goals as goal

pub loop-shapes-preserved : goal.loop-shapes-preserved
loop-shapes-preserved c =
    let k = c.loop-shapes.invariant in
    let e = c.shorten.ensures in
    further c.args.shapes.now c.loop-shapes.shapes c.shorten.new.shapes c.args.i c.loop-shapes.here c.in-Link.next k
    (omega (arith, k.below, c.requires.i_in, c.loop-shapes.auto.shapes)) c.in-Link.is e.formed e.held e.same e.roots e.as_many
