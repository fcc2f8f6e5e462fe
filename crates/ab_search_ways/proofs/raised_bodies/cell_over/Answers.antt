use Rattle.std.proofs.Common.{◌≡◌, ◌∙◌, ap, length, rules}
use Rattle.ab_term.specs.Abstraction.{over}
use Rattle.ab_norm.specs.ab_types.specs.Ids.{type_of}
use Rattle.ab_norm.specs.ab_store.proofs.Growing.{extended_itself}
use Rattle.ab_instances.specs.ListReadings.{names_read}
use Rattle.ab_instances.proofs.Made.{typed_with}
use Rattle.ab_search_ways.proofs.LaterWorlds.{both_grown, both_told, one_cell}
use Rattle.ab_search_ways.proofs.raised_bodies.cell_over.Goals as goal

pub returns-in_err-over-clause-grows : goal.returns-in_err-over-clause-grows
returns-in_err-over-clause-grows c =
    let w = c.args.world.now in
    let e = c.in_err-over.ensures in
    both_grown w c.requires.world c.type_over.new.types w.store e.kept e.kinds e.constants (extended_itself w.store) (typed_with w.types c.type_over.new.types w.store e.kept c.requires.world.typed)

pub returns-in_err-over-clause-declared : goal.returns-in_err-over-clause-declared
returns-in_err-over-clause-declared c =
    let w = c.args.world.now in
    let e = c.in_err-over.ensures in
    both_told w c.requires.world c.type_over.new.types w.store e.kept e.kinds e.constants (extended_itself w.store) (typed_with w.types c.type_over.new.types w.store e.kept c.requires.world.typed)

pub returns-clause-grows : goal.returns-clause-grows
returns-clause-grows c =
    let w = c.args.world.now in
    let e = c.in_ok-over.ensures in
    let U = c.type_over.new.types in
    both_grown w c.requires.world U c.cell.new.self e.kept e.kinds e.constants c.in_ok-cell.ensures.before (c.in_ok-cell.ensures.typed U (typed_with w.types U w.store e.kept c.requires.world.typed) e.held)

pub returns-clause-declared : goal.returns-clause-declared
returns-clause-declared c =
    let w = c.args.world.now in
    let e = c.in_ok-over.ensures in
    let U = c.type_over.new.types in
    both_told w c.requires.world U c.cell.new.self e.kept e.kinds e.constants c.in_ok-cell.ensures.before (c.in_ok-cell.ensures.typed U (typed_with w.types U w.store e.kept c.requires.world.typed) e.held)

pub returns-in_err-cell-clause-grows : goal.returns-in_err-cell-clause-grows
returns-in_err-cell-clause-grows c =
    let w = c.args.world.now in
    let e = c.in_ok-over.ensures in
    let U = c.type_over.new.types in
    both_grown w c.requires.world U c.cell.new.self e.kept e.kinds e.constants c.in_err-cell.ensures.before (c.in_err-cell.ensures.typed U (typed_with w.types U w.store e.kept c.requires.world.typed) e.held)

pub returns-in_err-cell-clause-declared : goal.returns-in_err-cell-clause-declared
returns-in_err-cell-clause-declared c =
    let w = c.args.world.now in
    let e = c.in_ok-over.ensures in
    let U = c.type_over.new.types in
    both_told w c.requires.world U c.cell.new.self e.kept e.kinds e.constants c.in_err-cell.ensures.before (c.in_err-cell.ensures.typed U (typed_with w.types U w.store e.kept c.requires.world.typed) e.held)

pub returns-clause-cells : goal.returns-clause-cells
returns-clause-cells c =
    let w = c.args.world.now in
    let e = c.in_ok-over.ensures in
    let k = c.in_ok-cell.ensures in
    let U = c.type_over.new.types in
    let held = k.held in
    let fresh = k.fresh in
    let one = k.one in
    let number : c.in_ok-cell.cell.0 ≡ length w.store.cells = search rules in
    one_cell w c.requires.world U c.cell.new.self e.kept e.kinds e.constants k.before (k.typed U (typed_with w.types U w.store e.kept c.requires.world.typed) e.held) c.in_ok-cell.cell c.args.hint
    (over (names_read w.types c.args.names.now) (type_of w.types c.args.ty)) number one k.hint (ap (type_of U) k.ty ∙ e.reads)
