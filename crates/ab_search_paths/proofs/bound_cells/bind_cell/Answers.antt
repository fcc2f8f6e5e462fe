use Rattle.std.proofs.Common.{[], sym, ◌∙◌}
use Rattle.ab_norm.specs.ab_types.specs.Ids.{type_of}
use Rattle.ab_norm.specs.ab_store.specs.Trees.{cell_of}
use Rattle.ab_search_paths.proofs.BoundCells.{copied, roomy, not_standing, fits, grown}
use Rattle.ab_search_paths.proofs.bound_cells.bind_cell.Goals as goal

pub returns-in_err-resolved-clause-grows : goal.returns-in_err-resolved-clause-grows
returns-in_err-resolved-clause-grows g c = copied c.args.types.now c.args.store.now c.copy_resolved.new.store c.requires.store c.copy_resolved.ensures.adds

pub returns-then-is_some-clause-grows : goal.returns-then-is_some-clause-grows
returns-then-is_some-clause-grows g c = copied c.args.types.now c.args.store.now c.copy_resolved.new.store c.requires.store c.copy_resolved.ensures.adds

pub returns-in_err-occurs-clause-grows : goal.returns-in_err-occurs-clause-grows
returns-in_err-occurs-clause-grows g c = copied c.args.types.now c.args.store.now c.copy_resolved.new.store c.requires.store c.copy_resolved.ensures.adds

pub returns-then-branch-clause-grows : goal.returns-then-branch-clause-grows
returns-then-branch-clause-grows g c = copied c.args.types.now c.args.store.now c.copy_resolved.new.store c.requires.store c.copy_resolved.ensures.adds

pub returns-in_err-reserve-clause-grows : goal.returns-in_err-reserve-clause-grows
returns-in_err-reserve-clause-grows g c =
    let r = c.reserve.ensures in
    roomy c.args.types.now c.args.store.now c.copy_resolved.new.store c.reserve.new.self c.requires.store c.copy_resolved.ensures.adds r.before r.cells r.typed

pub bind-requires-clause-apart : goal.bind-requires-clause-apart
bind-requires-clause-apart g c =
    let r = c.reserve.ensures in
    let T = c.args.types.now in
    not_standing T c.args.store.now c.copy_resolved.new.store c.reserve.new.self c.requires.store c.copy_resolved.ensures.adds r.before r.cells r.typed c.args.cell c.in_ok-resolved.resolved c.in_ok-resolved.ensures.held (sym (c.in_ok-occurs.ensures T) ∙ c.if-branch.false)

pub returns-clause-grows : goal.returns-clause-grows
returns-clause-grows g c =
    let r = c.reserve.ensures in
    let b = c.bind.ensures in
    let T = c.args.types.now in
    let S = c.args.store.now in
    let R = c.copy_resolved.new.store in
    let X = c.reserve.new.self in
    let adds = c.copy_resolved.ensures.adds in
    let t = c.in_ok-resolved.resolved in
    let fit = fits T S R X c.requires.store adds r.before r.cells r.typed c.args.cell c.requires.cell t (c.in_ok-resolved.ensures.term [] (type_of T (cell_of S c.args.cell).ty) c.requires.term) in
    grown T S R X c.requires.store adds r.before r.cells r.typed c.bind.new.self (b.typed T (r.typed T (adds.typed T c.requires.store)) fit) b.nodes b.cells b.marks
