use Rattle.std.proofs.Common.{◌<◌, [], length, refl, subst}
use Rattle.ab_lex.specs.declared.tokenizer.Piece.TheVariants.{Gap, Token}
use Rattle.ab_lex.specs.declared.token.LexFault.TheVariants as fault
use Rattle.ab_lex.specs.Reader.{StandsAt}
use Rattle.ab_lex.proofs.Reading.{from_here, reading_gap, reading_token, reading_fault, reading_all, all_stand, all_follow}
use Rattle.ab_lex.proofs.tokenizer.tokens.Goals as goal

pub loop-place-preserved-in-Gap : goal.loop-place-preserved-in-Gap
loop-place-preserved-in-Gap c =
    let bytes = c.args.bytes.now in
    let place = c.loop-place.place in
    let here : place < length bytes = c.loop-place-test.true in
    let h = subst (λ q. StandsAt q (Gap c.in-Gap.size)) (from_here bytes place here) c.in-Gap.ensures in
    reading_gap bytes place c.loop-place.tokens.items c.loop-place.invariant c.in-Gap.size h

pub loop-place-preserved : goal.loop-place-preserved
loop-place-preserved c =
    let bytes = c.args.bytes.now in
    let place = c.loop-place.place in
    let here : place < length bytes = c.loop-place-test.true in
    let h = subst (λ q. StandsAt q (Token c.in-Token.kind c.in-Token.size)) (from_here bytes place here) c.in-Token.ensures in
    let k = reading_token bytes place c.loop-place.tokens.items c.loop-place.invariant c.in-Token.kind c.in-Token.size h in
    rw (c.push.ensures.items, c.is_err.ensures.negation, c.if-is_err.false) k

pub returns-clause-tokens : goal.returns-clause-tokens
returns-clause-tokens c = reading_all c.args.bytes.now c.loop-place.place c.loop-place.tokens.items c.loop-place.invariant c.loop-place-test.false

pub returns-clause-form : goal.returns-clause-form
returns-clause-form c =
    all_stand c.args.bytes.now [] refl refl (reading_all c.args.bytes.now c.loop-place.place c.loop-place.tokens.items c.loop-place.invariant c.loop-place-test.false)

pub returns-clause-order : goal.returns-clause-order
returns-clause-order c =
    all_follow (reading_all c.args.bytes.now c.loop-place.place c.loop-place.tokens.items c.loop-place.invariant c.loop-place-test.false)

pub returns-in-BadByte-clause-fault : goal.returns-in-BadByte-clause-fault
returns-in-BadByte-clause-fault c =
    reading_fault c.args.bytes.now c.loop-place.place c.loop-place.tokens.items c.loop-place.invariant (fault.BadByte c.loop-place.place) _
    (from_here c.args.bytes.now c.loop-place.place c.loop-place-test.true) (c.in-BadByte.ensures c.loop-place.place)

pub returns-in-OpenString-clause-fault : goal.returns-in-OpenString-clause-fault
returns-in-OpenString-clause-fault c =
    reading_fault c.args.bytes.now c.loop-place.place c.loop-place.tokens.items c.loop-place.invariant (fault.OpenString c.loop-place.place) _
    (from_here c.args.bytes.now c.loop-place.place c.loop-place-test.true) (c.in-OpenString.ensures c.loop-place.place)

pub returns-in-OpenComment-clause-fault : goal.returns-in-OpenComment-clause-fault
returns-in-OpenComment-clause-fault c =
    reading_fault c.args.bytes.now c.loop-place.place c.loop-place.tokens.items c.loop-place.invariant (fault.OpenComment c.loop-place.place) _
    (from_here c.args.bytes.now c.loop-place.place c.loop-place-test.true) (c.in-OpenComment.ensures c.loop-place.place)
