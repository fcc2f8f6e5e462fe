use Rattle.std.specs.Prelude.{[]}
use Rattle.std.proofs.Common.{subst}
use Rattle.ab_formulas.specs.NewNames.{given}
use Rattle.ab_logic.specs.Worlds.{read, declarations_of}
use Rattle.ab_theory.specs.Steps.{or_left}
use Rattle.ab_steps.specs.Progress.{Took}
use Rattle.ab_steps.proofs.Following.{first_at}
use Rattle.ab_hypothesis.proofs.Moves.{on_ok, has_at}
use Rattle.ab_hypothesis.proofs.Taking.{or_parted, or_sure}
use Rattle.ab_hypothesis.proofs.cases.split_own.Goals as goal

pub surely-requires-clause-sure : goal.surely-requires-clause-sure
surely-requires-clause-sure g c =
    or_sure c.args.world.now c.args.proof.now c.args.name.now (read c.args.world.now c.args.formula) (read c.args.world.now c.args.parts.0) (read c.args.world.now c.args.parts.1)
    c.requires.there c.requires.form c.in_ok-own.own c.in_ok-given.given c.in_ok-own.ensures c.in_ok-given.ensures

pub returns-clause-parted : goal.returns-clause-parted
returns-clause-parted g c =
    let w = c.args.world.now in
    let p = c.args.proof.now in
    let y = c.args.name.now in
    let F = read w c.args.formula in
    on_ok c.surely.result
    (λ took s rest goals.
    let went : Took w p c.surely.new.world c.surely.new.proof 0 (or_left y (given y)) =
    subst (λ z. Took w p c.surely.new.world c.surely.new.proof 0 (or_left y (given z))) c.in_ok-given.ensures
    (subst (λ z. Took w p c.surely.new.world c.surely.new.proof 0 (or_left z (given c.in_ok-given.given))) c.in_ok-own.ensures took) in
    let at = first_at w p s rest goals in
    or_parted (declarations_of w) s y F (read w c.args.parts.0) (read w c.args.parts.1) c.surely.new.world c.surely.new.proof rest
    (has_at w p 0 y F c.requires.there [] rest s at) c.requires.form (went [] rest s at))
    c.surely.ensures.took
