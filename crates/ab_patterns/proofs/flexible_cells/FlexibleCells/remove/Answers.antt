use Rattle.std.proofs.Common.{◌∙◌, ap}
use Rattle.std.specs.HashMap.{get}
use Rattle.ab_patterns.specs.Flexible.{InAge, same_cell, others_than}
use Rattle.ab_patterns.proofs.Placed.{listed_without, places_without}
use Rattle.ab_patterns.proofs.flexible_cells.FlexibleCells.remove.Goals as goal

pub invariant_of-self : goal.invariant_of-self
invariant_of-self c = places_without (get same_cell c.self.inside.places) (get same_cell c.remove.new.self) c.args.cell c.remove.ensures.updates.0 c.self.inside.row.items c.self.invariant

pub returns : goal.returns
returns c =
    listed_without (get same_cell c.self.inside.places) (get same_cell c.remove.new.self) c.args.cell c.remove.ensures.updates.0 0 c.self.inside.row.items
    ∙ ap (λ (l : InAge). others_than c.args.cell l.items) c.self.view_is
