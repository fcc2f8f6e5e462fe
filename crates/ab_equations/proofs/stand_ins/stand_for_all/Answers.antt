use Rattle.std.proofs.Common.{List, map, arith, refl, subst, ◌∙◌, take_all}
use Rattle.ab_norm.specs.ab_store.specs.declared.node.CellId.{CellId}
use Rattle.ab_logic.specs.Worlds.{variable_of}
use Rattle.ab_logic.specs.declared.world.World.{World}
use Rattle.ab_equations.specs.Meanwhile.{GoesOn, StandForAll}
use Rattle.ab_equations.proofs.Going.{goes_extended, goes_on, still_meanwhile}
use Rattle.ab_equations.proofs.StandingAll.{stood_none, stood_more, next_held, next_unbound}
use Rattle.ab_equations.proofs.stand_ins.stand_for_all.Goals as goal

pub loop-cell-init : goal.loop-cell-init
loop-cell-init g c =
    let w = c.args.world.now in
    let e = c.reserve.ensures in
    let v : World = record { types = w.types; store = c.reserve.new.self; additions = w.additions } in
    let goes : GoesOn w v = goes_extended w v refl refl e.before (e.typed w.types c.requires.world.typed) in
    record { stood = stood_none w v c.args.cells.now c.args.goal c.requires.world goes c.requires.goal e.before e.cells c.in_ok-reserve.ensures.room; counted = refl }

pub stand_in-requires-clause-world : goal.stand_in-requires-clause-world
stand_in-requires-clause-world g c = still_meanwhile c.args.world.now c.loop-cell.world c.loop-cell.invariant.stood.goes c.requires.world

pub stand_in-requires-clause-cell : goal.stand_in-requires-clause-cell
stand_in-requires-clause-cell g c =
    next_held c.args.world.now c.loop-cell.world c.args.cells.now c.loop-cell.cell-index (record { 0 = 0 }) c.args.goal c.loop-cell.over c.requires.world c.loop-cell.invariant.stood c.loop-cell-test.true c.requires.cells

pub stand_in-requires-clause-unbound : goal.stand_in-requires-clause-unbound
stand_in-requires-clause-unbound g c =
    next_unbound c.args.world.now c.loop-cell.world c.args.cells.now c.loop-cell.cell-index (record { 0 = 0 }) c.args.goal c.loop-cell.over c.requires.world c.loop-cell.invariant.stood c.loop-cell-test.true c.requires.cells c.requires.in_age c.requires.unbound

pub stand_in-requires-clause-room : goal.stand_in-requires-clause-room
stand_in-requires-clause-room g c = let room = c.loop-cell.invariant.stood.room in let l = c.loop-cell-test.true in omega (arith, room, l)

pub stand_in-requires-clause-goal : goal.stand_in-requires-clause-goal
stand_in-requires-clause-goal g c = c.loop-cell.invariant.stood.stand.held

pub returns-in_err-over-clause-goes : goal.returns-in_err-over-clause-goes
returns-in_err-over-clause-goes g c = goes_on c.args.world.now c.loop-cell.world c.stand_in.new.world c.loop-cell.invariant.stood.goes c.stand_in.ensures.goes

pub loop-cell-preserved : goal.loop-cell-preserved
loop-cell-preserved g c = record {
  stood = stood_more c.args.world.now c.loop-cell.world c.args.cells.now c.loop-cell.cell-index (record { 0 = 0 }) c.args.goal c.loop-cell.over c.requires.world c.loop-cell.invariant.stood c.loop-cell-test.true c.requires.cells
      c.stand_in.new.world _ c.stand_in.ensures.goes c.in_ok-over.ensures.stands;
  counted = c.stand_in.ensures.steps ∙ c.loop-cell.invariant.counted;
}

pub returns-clause-goes : goal.returns-clause-goes
returns-clause-goes g c = c.loop-cell.invariant.stood.goes

pub returns-clause-stand : goal.returns-clause-stand
returns-clause-stand g c =
    let done = c.loop-cell-test.false in
    let all = take_all c.loop-cell.cell-index c.args.cells.now (omega arith) in
    subst (λ (cs : List CellId). StandForAll c.args.world.now (map (variable_of c.args.world.now) cs) c.args.goal c.loop-cell.world c.loop-cell.over) all c.loop-cell.invariant.stood.stand
