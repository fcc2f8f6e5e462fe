use Rattle.std.proofs.Common.{◌≡◌, ◌≤◌, ◌+◌, Some, Err, length, refl, sym, subst, arith}
use Rattle.ab_cert.specs.declared.fault.ReadFault.TheVariants.{BadCert}
use Rattle.ab_cert.specs.Texts.{IsFirstBad}
use Rattle.ab_cert.specs.Outlines.{ReadsPiece}
use Rattle.ab_cert.specs.PendingParts.{pending_of, IsNext}
use Rattle.ab_cert.proofs.Left.{IsLeft, left_next, left_stops, left_done, left_over}
use Rattle.ab_cert.proofs.outline.check_text.Goals as goal

pub parts-preserved : goal.parts-preserved
parts-preserved c =
    let left = subst (λ q. IsLeft c.args.bytes.now c.parts.at q) c.in-Some.ensures c.parts.invariant in
    let r = c.in-Ok.ensures in
    subst (λ q. IsLeft c.args.bytes.now (c.in-Ok.to + 1) q) (sym r.put) (left_next c.args.bytes.now c.parts.at c.in-Ok.to c.in-Some.part (pending_of c.next.new.self) (Some r.kids) left r.scan r.kids refl r.ends)

pub returns-in-Err-clause-bad : goal.returns-in-Err-clause-bad
returns-in-Err-clause-bad c = λ place e.
    let left = subst (λ q. IsLeft c.args.bytes.now c.parts.at q) c.in-Some.ensures c.parts.invariant in
    let same : c.in-Err.fault ≡ BadCert place = cc in
    let r = subst (λ f. ReadsPiece c.in-Some.part c.args.bytes.now c.parts.at (pending_of c.next.new.self) (Err f) (pending_of c.read_piece.new.pending)) same c.in-Err.ensures in
    left_stops c.args.bytes.now c.parts.at place c.in-Some.part (pending_of c.next.new.self) r.kids left r.scan r.stops

pub returns-then-at-bytes-clause-bad : goal.returns-then-at-bytes-clause-bad
returns-then-at-bytes-clause-bad c = λ place e.
    let next = subst (λ o. IsNext (pending_of c.parts.pending) o (pending_of c.next.new.self)) c.in_default.is c.next.ensures in
    let left = subst (λ q. IsLeft c.args.bytes.now c.parts.at q) next.0 c.parts.invariant in
    let same : c.parts.at ≡ place = cc in
    subst (λ q. IsFirstBad c.args.bytes.now q) same (left_over c.args.bytes.now c.parts.at left c.if-at-bytes.true)

pub returns-clause-good : goal.returns-clause-good
returns-clause-good c =
    let next = subst (λ o. IsNext (pending_of c.parts.pending) o (pending_of c.next.new.self)) c.in_default.is c.next.ensures in
    let left = subst (λ q. IsLeft c.args.bytes.now c.parts.at q) next.0 c.parts.invariant in
    let l : length c.args.bytes.now ≤ c.parts.at = omega (arith, c.if-at-bytes.false) in
    left_done c.args.bytes.now c.parts.at left l
