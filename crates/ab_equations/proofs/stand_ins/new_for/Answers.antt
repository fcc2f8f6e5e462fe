use Rattle.std.proofs.Common.{subst, sym, ap, ℕ, List, ◌≡◌, ◌∙◌}
use Rattle.ab_norm.specs.ab_store.proofs.Growing.{extended_on}
use Rattle.ab_logic.specs.Worlds.{declarations_of}
use Rattle.ab_logic.specs.SequentReadings.{sequent_of}
use Rattle.ab_formulas.specs.NewNames.{IsNamedFor}
use Rattle.ab_norm.specs.ab_store.specs.Trees.{cell_of}
use Rattle.ab_norm.specs.ab_store.specs.declared.node.CellEntry.{CellEntry}
use Rattle.ab_equations.proofs.stand_ins.new_for.Goals as goal

pub returns-in_err-term-clause-before : goal.returns-in_err-term-clause-before
returns-in_err-term-clause-before c = extended_on _ _ _ c.cell.ensures.before c.eta.ensures.adds.before

pub returns-clause-before : goal.returns-clause-before
returns-clause-before c = extended_on _ _ _ c.cell.ensures.before c.eta.ensures.adds.before

pub returns-clause-named : goal.returns-clause-named
returns-clause-named c =
    let w = c.args.world.now in
    let s = sequent_of w c.args.goal.now in
    let asked : c.cell_name.result.now ≡ (cell_of w.store c.args.cell).hint = c.cell_name.ensures in
    let cell : cell_of c.eta.new.store c.in_ok-new.new ≡ cell_of c.cell.new.self c.in_ok-new.new = c.eta.ensures.adds.before.cells c.in_ok-new.new c.in_ok-new.ensures.held in
    let hint : (cell_of c.eta.new.store c.in_ok-new.new).hint ≡ c.in_ok-name.name = ap (λ (e : CellEntry). e.hint) cell ∙ c.in_ok-new.ensures.hint in
    subst (λ (n : List ℕ). IsNamedFor (declarations_of w) s (cell_of w.store c.args.cell).hint n) (sym hint)
    (subst (λ (h : List ℕ). IsNamedFor (declarations_of w) s h c.in_ok-name.name) asked c.in_ok-name.ensures)
