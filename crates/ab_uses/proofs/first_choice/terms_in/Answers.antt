use Rattle.std.proofs.Common.{◌++◌, ◌∷◌, [], sym, ◌∙◌, ap, arith}
use Rattle.ab_uses.specs.NamedTerms.{terms_named}
use Rattle.ab_uses.proofs.Parts.{terms_step}
use Rattle.ab_uses.proofs.first_choice.terms_in.Goals as goal

pub loop-part-preserved : goal.loop-part-preserved
loop-part-preserved c =
    c.in_ok-add_term.ensures
    ∙ ap (λ l. l ++ terms_named (c.part-item.result ∷ [])) c.loop-part.invariant
    ∙ sym (terms_step c.args.parts.now c.loop-part.part-index c.part-item.result (omega (arith, c.loop-part-test.true)) c.part-item.is)
