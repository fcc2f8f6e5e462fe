use Rattle.ab_norm.specs.ab_types.specs.Ids.{type_of}
use Rattle.ab_norm.specs.ab_store.specs.Trees.{cell_of}
use Rattle.ab_logic.specs.declared.world.World.{World}
use Rattle.ab_search_paths.proofs.MoreTerms.{got_adds}
use Rattle.ab_search_paths.proofs.StandIns.{of_declared}
use Rattle.ab_search_paths.proofs.Staying.{stand_ins_then}
use Rattle.ab_search.proofs.quantifier_steps.stand_in_by.Goals as goal

pub returns-in_err-term-clause-stand_ins : goal.returns-in_err-term-clause-stand_ins
returns-in_err-term-clause-stand_ins c =
    let w = c.args.world.now in
    let S = c.cell_for.new.store in
    let got = got_adds w S c.requires.world c.cell_for.ensures.adds in
    stand_ins_then w (record { types = w.types; store = S; additions = w.additions }) got.grows got.declared c.args.stand_ins.now.items c.requires.stand_ins

pub returns-in_err-term-clause-got : goal.returns-in_err-term-clause-got
returns-in_err-term-clause-got c = got_adds c.args.world.now c.cell_for.new.store c.requires.world c.cell_for.ensures.adds

pub add_stand_in-requires-clause-stand_ins : goal.add_stand_in-requires-clause-stand_ins
add_stand_in-requires-clause-stand_ins c =
    let w = c.args.world.now in
    let S = c.cell_for.new.store in
    let got = got_adds w S c.requires.world c.cell_for.ensures.adds in
    stand_ins_then w (record { types = w.types; store = S; additions = w.additions }) got.grows got.declared c.args.stand_ins.now.items c.requires.stand_ins

pub add_stand_in-requires-clause-typed : goal.add_stand_in-requires-clause-typed
add_stand_in-requires-clause-typed c =
    let w = c.args.world.now in
    let S = c.cell_for.new.store in
    let grows = (got_adds w S c.requires.world c.cell_for.ensures.adds).grows in
    let v : World = record { types = w.types; store = S; additions = w.additions } in
    record { cell = grows.cell_ids c.args.cell c.requires.cell; typed = of_declared v grows.world c.in_ok-term.term (type_of w.types (cell_of S c.args.cell).ty) c.in_ok-term.ensures.typed }

pub returns-clause-got : goal.returns-clause-got
returns-clause-got c = got_adds c.args.world.now c.cell_for.new.store c.requires.world c.cell_for.ensures.adds
