use Rattle.std.proofs.Common.{◌∙◌, ap, map}
use Rattle.std.specs.HashMap.{get}
use Rattle.ab_norm.specs.ab_store.specs.Reading.{cell_variable}
use Rattle.ab_unifiers.specs.Replacements as solve
use Rattle.ab_patterns.specs.Flexible.{InAge, same_cell, listed_from}
use Rattle.ab_patterns.proofs.Listed.{listed_holds}
use Rattle.ab_patterns.proofs.Placed.{found_listed}
use Rattle.ab_patterns.proofs.flexible_cells.FlexibleCells.has.Goals as goal

pub returns : goal.returns
returns c = λ types store.
    let places = get same_cell c.self.inside.places in
    c.contains_key.ensures
    ∙ found_listed places c.self.inside.row.items c.self.invariant c.args.cell
    ∙ listed_holds types store c.args.cell (listed_from places 0 c.self.inside.row.items)
    ∙ ap (λ (l : InAge). solve.holds (map (cell_variable types store) l.items) (cell_variable types store c.args.cell)) c.self.view_is
