use Rattle.std.proofs.Common.{◌≡◌, [], refl, sym, ap, ◌∙◌}
use Rattle.std.proofs.lemmas.List.{append-nil}
use Rattle.ab_lex.specs.Scanner.{fresh, blank_from}
use Rattle.ab_lex.proofs.Blanks.{has_blank, blank_has}
use Rattle.ab_lex.proofs.Steps.{of_slice, blank_now}
use Rattle.ab_lex.proofs.Awaiting.{blank_here}
use Rattle.ab_lex.proofs.splitter.Splitter.rest_is_blank.Goals as goal

pub returns : goal.returns
returns c =
    let s = c.self.inside in
    let p = c.args.self.now in
    let e = of_slice c.deref.result.now s.buffer.items s.scanned c.deref.ensures.value in
    let there = blank_here s.buffer.items s.start s.scan s.skips p c.self.view_is c.self.invariant.reached [] in
    let now = blank_now s.buffer.items s.start s.scanned s.scan s.skips c.self.invariant s.skips refl in
    let same : c.ends_blank.result ≡ blank_from fresh p.text = c.ends_blank.ensures ∙ (ap (blank_from s.scan) e ∙ (sym now ∙ (sym there ∙ ap (blank_from fresh) (append-nil p.text)))) in
    (λ t. has_blank p.text (sym same ∙ t), λ h. same ∙ blank_has p.text h)
