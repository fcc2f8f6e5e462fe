use Rattle.std.proofs.Common.{◌≡◌, drop, sym, ap, ◌∙◌}
use Rattle.ab_cert.specs.declared.count.Count.TheVariants.{Nothing, Value}
use Rattle.ab_cert.specs.Splits.{first_piece}
use Rattle.ab_cert.proofs.NumberRead.{number_read}
use Rattle.ab_cert.proofs.text.next_number.Goals as goal

pub returns-in-Value : goal.returns-in-Value
returns-in-Value c = λ x rest l e.
    let piece = c.next_piece.ensures.piece ∙ ap first_piece e in
    let same : Value c.in-Value.value ≡ Value x = sym c.in-Value.is ∙ number_read _ _ x _ piece l c.scan_number.ensures in
    let value : c.in-Value.value ≡ x = cc in
    (value, c.next_piece.ensures.left ∙ ap (drop 1) e)

pub returns-in-Nothing : goal.returns-in-Nothing
returns-in-Nothing c = λ x rest l e.
    let piece = c.next_piece.ensures.piece ∙ ap first_piece e in
    let same : Nothing ≡ Value x = sym c.in-Nothing.is ∙ number_read _ _ x _ piece l c.scan_number.ensures in
    absurd cc
