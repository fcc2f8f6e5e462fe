use Rattle.std.proofs.Common.{◌++◌, ◌∷◌, [], get_or, None, sym, ◌∙◌, ap, arith}
use Rattle.ab_uses.specs.UseSolutions.{missing}
use Rattle.ab_uses.proofs.Equations.{missing_step}
use Rattle.ab_uses.proofs.remainders.awaited_of.Goals as goal

pub loop-place-preserved : goal.loop-place-preserved
loop-place-preserved c =
    let hs = c.args.hypotheses.now in
    let xs = c.args.antecedents.now in
    let i = c.loop-place.place in
    c.in_ok-add_missing.ensures
    ∙ ap (λ l. l ++ missing (get_or hs i None ∷ []) (get_or xs i (record { 0 = 0 }) ∷ [])) c.loop-place.invariant
    ∙ sym (missing_step hs xs i None (record { 0 = 0 }) (omega arith) c.requires)
