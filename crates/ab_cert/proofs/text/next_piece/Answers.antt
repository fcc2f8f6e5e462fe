use Rattle.std.proofs.Common.{◌≤◌, length, sym, ◌∙◌, arith}
use Rattle.ab_cert.proofs.Splitting.{clean_on, first_ended, left_ended, first_last, left_last}
use Rattle.ab_cert.proofs.text.next_piece.Goals as goal

pub piece-preserved : goal.piece-preserved
piece-preserved c = record {
  clean = clean_on c.args.text.now.rest.now c.piece.end c.piece-test.true c.piece.invariant.clean (sym c.is_plain.ensures ∙ c.if-not-is_plain.false);
  within = omega (arith, c.piece-test.true);
}

pub returns-then-not-is_plain-clause-piece : goal.returns-then-not-is_plain-clause-piece
returns-then-not-is_plain-clause-piece c = first_ended c.args.text.now.rest.now c.piece.end c.piece.invariant.clean c.piece-test.true (sym c.is_plain.ensures ∙ c.if-not-is_plain.true)

pub returns-then-not-is_plain-clause-left : goal.returns-then-not-is_plain-clause-left
returns-then-not-is_plain-clause-left c = left_ended c.args.text.now.rest.now c.piece.end c.piece.invariant.clean c.piece-test.true (sym c.is_plain.ensures ∙ c.if-not-is_plain.true)

pub returns-clause-piece : goal.returns-clause-piece
returns-clause-piece c = first_last c.args.text.now.rest.now c.piece.end c.piece.invariant.clean (omega (arith, c.piece-test.false))

pub returns-clause-left : goal.returns-clause-left
returns-clause-left c = left_last c.args.text.now.rest.now c.piece.end c.piece.invariant.clean (omega (arith, c.piece-test.false))
