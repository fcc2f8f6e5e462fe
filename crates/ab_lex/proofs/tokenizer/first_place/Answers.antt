use Rattle.std.proofs.Common.{◌<◌, length, subst}
use Rattle.ab_lex.specs.declared.tokenizer.Piece.TheVariants.{Gap}
use Rattle.ab_lex.specs.Reader.{StandsAt}
use Rattle.ab_lex.proofs.Reading.{from_here}
use Rattle.ab_lex.proofs.Beginning.{skipped_gap, skipped_here, skipped_all, no_gap_there}
use Rattle.ab_lex.proofs.tokenizer.first_place.Goals as goal

pub loop-place-preserved : goal.loop-place-preserved
loop-place-preserved c =
    let bytes = c.args.bytes.now in
    let place = c.loop-place.place in
    let here : place < length bytes = c.loop-place-test.true in
    let h = subst (λ q. StandsAt q (Gap c.in-Gap.size)) (from_here bytes place here) c.in-Gap.ensures in
    skipped_gap bytes place c.loop-place.invariant c.in-Gap.size h

pub returns-in_default : goal.returns-in_default
returns-in_default c =
    let bytes = c.args.bytes.now in
    let place = c.loop-place.place in
    let h = subst (λ q. StandsAt q c.piece_at.result) (from_here bytes place c.loop-place-test.true) c.piece_at.ensures in
    skipped_here bytes place c.loop-place.invariant (no_gap_there _ c.piece_at.result h c.in_default.not-Gap)

pub returns : goal.returns
returns c = skipped_all c.args.bytes.now c.loop-place.place c.loop-place.invariant c.loop-place-test.false
