use Rattle.std.proofs.Common.{◌++◌, [], ap, ◌∙◌}
use Rattle.ab_cert.specs.Writing.{row_pieces, line_behind, led, stack_pieces}
use Rattle.ab_cert.proofs.Writing.{extends_on, stretch_taken, stretch_left, taken_falls, left_falls}
use Rattle.ab_cert.proofs.writer.write_line.Goals as goal

pub stretches-smaller : goal.stretches-smaller
stretches-smaller c =
    taken_falls c.stretches.stack.items c.pop.new.self.items c.extend_from_slice.new.self.items c.in-Some.stretch c.in-Some-row_of.next
    c.in-Some.ensures.items c.in_ok-extend_from_slice.ensures.items c.in-Some-row_of.ensures

pub stretches-preserved : goal.stretches-preserved
stretches-preserved c = record {
  written =
      let whole = c.args.out.now.items ++ line_behind (row_pieces c.args.row) in
      ap (λ q. q ++ led (stack_pieces c.extend_from_slice.new.self.items [])) c.in_ok-write_piece-2.ensures.written
      ∙ stretch_taken c.stretches.out.items whole c.stretches.stack.items c.pop.new.self.items c.extend_from_slice.new.self.items c.in-Some.stretch c.in-Some-row_of.next
      c.in-Some.ensures.items c.in_ok-extend_from_slice.ensures.items c.in-Some-row_of.ensures c.stretches.invariant.written;
  kept = extends_on _ _ _ c.stretches.invariant.kept c.write_piece-in-Some.ensures.kept;
}

pub stretches-smaller-in_default-row_of : goal.stretches-smaller-in_default-row_of
stretches-smaller-in_default-row_of c =
    left_falls c.stretches.stack.items c.pop.new.self.items c.in-Some.stretch c.in-Some.ensures.items c.in_default-row_of.ensures

pub stretches-preserved-in_default-row_of : goal.stretches-preserved-in_default-row_of
stretches-preserved-in_default-row_of c = record {
  written =
      let whole = c.args.out.now.items ++ line_behind (row_pieces c.args.row) in
      stretch_left c.stretches.out.items whole c.stretches.stack.items c.pop.new.self.items c.in-Some.stretch c.in-Some.ensures.items c.in_default-row_of.ensures c.stretches.invariant.written;
  kept = c.stretches.invariant.kept;
}
