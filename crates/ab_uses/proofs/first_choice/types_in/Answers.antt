use Rattle.std.proofs.Common.{◌++◌, ◌∷◌, [], sym, ◌∙◌, ap, arith}
use Rattle.ab_uses.specs.NamedTerms.{types_named}
use Rattle.ab_uses.proofs.Parts.{types_step}
use Rattle.ab_uses.proofs.first_choice.types_in.Goals as goal

pub loop-part-preserved : goal.loop-part-preserved
loop-part-preserved c =
    c.in_ok-add_type.ensures
    ∙ ap (λ l. l ++ types_named (c.part-item.result ∷ [])) c.loop-part.invariant
    ∙ sym (types_step c.args.parts.now c.loop-part.part-index c.part-item.result (omega (arith, c.loop-part-test.true)) c.part-item.is)
