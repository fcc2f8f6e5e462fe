use Rattle.std.proofs.Common.{◌+◌, ◌-◌, ◌^◌, ◌<◌, length, arith}
use Rattle.ab_lex.specs.Scanner.{depth}
use Rattle.ab_lex.proofs.Feeding.{kept_fed}
use Rattle.ab_lex.proofs.splitter.Splitter.feed.Goals as goal

pub invariant_of-self-2 : goal.invariant_of-self-2
invariant_of-self-2 c =
    let s = c.self.inside in
    let few : depth s.scan.mode + (length s.buffer.items - s.scanned) + length c.args.piece.now < 2 ^ 64 = omega (arith, s.buffer.ok.0) in
    rw c.in_ok-slide.ensures.ok (kept_fed s.buffer.items s.start s.scanned c.dropped_now-dropped.result s.scan s.skips c.args.piece.now c.dropped_now-dropped.ensures.given c.self.invariant few)
