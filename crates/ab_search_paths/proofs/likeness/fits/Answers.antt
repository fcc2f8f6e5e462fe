use Rattle.std.proofs.Common.{take, get_or, sym, ◌∙◌, subst, arith}
use Rattle.std.specs.List.{All}
use Rattle.std.proofs.lemmas.List.{take_all, take_more}
use Rattle.std.proofs.lemmas.List.Elements.{All-push}
use Rattle.ab_search_paths.specs.declared.likeness.StandIn.{StandIn}
use Rattle.ab_search_paths.specs.Paths.{IsBeside}
use Rattle.ab_search_paths.proofs.StandIns.{not_found}
use Rattle.ab_search_paths.proofs.likeness.fits.Goals as goal

pub loop-other-preserved : goal.loop-other-preserved
loop-other-preserved c =
    let none : StandIn = record { cell = record { 0 = 0 }; term = record { 0 = 0 } } in
    let list = c.args.stand_ins.now in
    let place = c.loop-other.other-index in
    let beside = IsBeside c.args.world.now c.args.one in
    subst (All beside) (sym (take_more list place none c.loop-other-test.true)) (All-push beside (take place list) (get_or list place none) c.loop-other.invariant (c.in_ok-is_beside.ensures c.if-not-branch.false))

pub returns : goal.returns
returns c = λ e.
    let w = c.args.world.now in (
      not_found w c.args.one c.args.one c.requires.one (sym (c.in_ok-occurs.ensures w.types) ∙ c.if-branch.false),
      subst (All (IsBeside w c.args.one)) (take_all c.loop-other.other-index c.args.stand_ins.now (omega arith)) c.loop-other.invariant,
    )
