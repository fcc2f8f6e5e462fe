use Rattle.std.specs.Prelude.{Some, None, [], ◌∷◌, ◌++◌, All}
use Rattle.std.specs.Option.{option_map}
use Rattle.std.proofs.Common.{◌≡◌, map, sym, ◌∙◌, ap, subst, arith}
use Rattle.ab_logic.specs.Worlds.{read}
use Rattle.ab_theory.specs.Uses.{Aim}
use Rattle.ab_uses.specs.GivenReadings.{HoldsIfAny}
use Rattle.ab_proofcmd.proofs.Named.{nothings, nothings_more, nothings_read, nothings_held}
use Rattle.ab_proofcmd.proofs.backchaining.aim_at.Goals as goal

pub loop-preserved : goal.loop-preserved
loop-preserved c = c.in_ok-push.ensures.items ∙ ap (λ l. l ++ None ∷ []) c.loop.invariant ∙ nothings_more c.loop.counter

pub returns-clause-aim : goal.returns-clause-aim
returns-clause-aim c w =
    let all : c.loop.counter ≡ c.args.count = omega arith in
    ap (λ hs. record { hypotheses = hs; conclusion = Some (read w c.args.conclusion) })
    (ap (map (option_map (read w))) (c.loop.invariant ∙ ap nothings all) ∙ nothings_read w c.args.count)

pub returns-clause-held : goal.returns-clause-held
returns-clause-held c w = subst (All (HoldsIfAny w)) (sym c.loop.invariant) (nothings_held w c.loop.counter)
