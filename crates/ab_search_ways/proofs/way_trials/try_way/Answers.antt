use Rattle.std.proofs.Common.{map}
use Rattle.ab_norm.proofs.Frame.{if_ok}
use Rattle.ab_search_ways.specs.GoalReadings.{goal_read}
use Rattle.ab_search_ways.proofs.Posed.{grown, told, tried_still}
use Rattle.ab_search_ways.proofs.Valued.{answer_still}
use Rattle.ab_search_ways.proofs.way_trials.try_way.Goals as goal

pub returns-clause-grows : goal.returns-clause-grows
returns-clause-grows g c =
    let x = c.solve_way-tried.new.world in
    let e = c.solve_way-tried.ensures in
    let m = c.mark-mark.ensures in
    let r = c.rewind.ensures in
    grown c.args.world.now x c.requires.world e.additions e.grows c.mark-mark.result m.has m.bindings c.rewind.new.self r.nodes r.cells r.bindings (r.typed x.types e.grows.typed) r.marks

pub returns-clause-declared : goal.returns-clause-declared
returns-clause-declared g c =
    let x = c.solve_way-tried.new.world in
    let e = c.solve_way-tried.ensures in
    let m = c.mark-mark.ensures in
    let r = c.rewind.ensures in
    told c.args.world.now x c.requires.world e.additions e.grows c.mark-mark.result m.has m.bindings c.rewind.new.self r.nodes r.cells r.bindings (r.typed x.types e.grows.typed) r.marks

pub returns-clause-tried : goal.returns-clause-tried
returns-clause-tried g c =
    let w = c.args.world.now in
    let x = c.solve_way-tried.new.world in
    let e = c.solve_way-tried.ensures in
    let m = c.mark-mark.ensures in
    let r = c.rewind.ensures in
    if_ok c.solve_way-tried.result (λ t told base now way made.
    tried_still w x c.requires.world e.additions e.grows c.mark-mark.result m.has m.bindings c.rewind.new.self r.nodes r.cells r.bindings (r.typed x.types e.grows.typed) r.marks
    base now way (map (goal_read w base) c.args.rest.now) t (told base now way made)) e.tried

pub returns-clause-answer : goal.returns-clause-answer
returns-clause-answer g c =
    let x = c.solve_way-tried.new.world in
    let r = c.rewind.ensures in
    if_ok c.solve_way-tried.result (λ t k. answer_still x.types x.store c.rewind.new.self r.nodes r.cells c.args.way.now.flexible.items t k) c.solve_way-tried.ensures.answer
