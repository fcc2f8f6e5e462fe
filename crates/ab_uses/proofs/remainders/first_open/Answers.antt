use Rattle.std.proofs.Common.{◌≡◌, ◌∷◌, get_or, sym, ◌∙◌, ap, arith}
use Rattle.ab_norm.specs.ab_store.specs.declared.node.CellId.{CellId}
use Rattle.ab_uses.specs.UseSolutions.{is_open}
use Rattle.ab_uses.proofs.Equations.{first_hit}
use Rattle.ab_uses.proofs.remainders.first_open.Goals as goal

pub returns-then-branch-clause-some : goal.returns-then-branch-clause-some
returns-then-branch-clause-some c = λ d is types.
    let cells = c.args.cells.now in
    let p = is_open types c.args.store.now c.args.terms.now in
    let here : CellId = get_or cells c.loop-cell.cell-index (record { 0 = 0 }) in
    let same : here ≡ d = cc in
    let hit = first_hit p cells c.loop-cell.cell-index (record { 0 = 0 }) (c.loop-cell.invariant types) (omega arith) (sym (c.in_ok-is_left_open.ensures types) ∙ c.if-branch.true) in
    (hit.0, hit.1 ∙ ap (λ e. e ∷ hit.0) same)
