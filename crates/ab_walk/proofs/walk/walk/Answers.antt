use Rattle.ab_walk.specs.Stacks.{IsBefore}
use Rattle.ab_walk.proofs.StepsTaken.{at_mark}
use Rattle.ab_walk.proofs.WorldsAgain.{before_on, cut_again}
use Rattle.ab_walk.proofs.walk.walk.Goals as goal

pub walk_on-requires : goal.walk_on-requires
walk_on-requires g c = λ κs out. (out, c.requires.1)

pub returns-in-Err-clause-grows : goal.returns-in-Err-clause-grows
returns-in-Err-clause-grows g c =
    let w = c.args.world.now in
    let v = c.walk_on.new.world in
    let m = c.mark-mark in
    let e = c.walk_on.ensures in
    let r = c.cut_to.ensures in
    let before : IsBefore w m.result v = before_on w w v m.result (at_mark c.args.base.now w c.requires.1.0 m.result m.ensures.has m.ensures.bindings m.ensures.nodes m.ensures.cells) (record { grows = e.grows; declared = e.declared }) in
    (cut_again w v m.result before c.cut_to.new.self r.bindings r.nodes r.cells r.typed r.marks).later.grows

pub returns-in-Err-clause-declared : goal.returns-in-Err-clause-declared
returns-in-Err-clause-declared g c =
    let w = c.args.world.now in
    let v = c.walk_on.new.world in
    let m = c.mark-mark in
    let e = c.walk_on.ensures in
    let r = c.cut_to.ensures in
    let before : IsBefore w m.result v = before_on w w v m.result (at_mark c.args.base.now w c.requires.1.0 m.result m.ensures.has m.ensures.bindings m.ensures.nodes m.ensures.cells) (record { grows = e.grows; declared = e.declared }) in
    (cut_again w v m.result before c.cut_to.new.self r.bindings r.nodes r.cells r.typed r.marks).later.declared
