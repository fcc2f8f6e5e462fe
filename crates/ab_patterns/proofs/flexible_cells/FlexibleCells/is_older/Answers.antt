use Rattle.std.proofs.Common.{◌∙◌, ap, map}
use Rattle.std.specs.HashMap.{get}
use Rattle.ab_norm.specs.ab_store.specs.Reading.{cell_variable}
use Rattle.ab_unifiers.specs.Unification as solving
use Rattle.ab_patterns.specs.Flexible.{InAge, same_cell, is_earlier}
use Rattle.ab_patterns.proofs.Placed.{older_listed}
use Rattle.ab_patterns.proofs.flexible_cells.FlexibleCells.is_older.Goals as goal

pub returns : goal.returns
returns c = λ types store.
    let places = get same_cell c.self.inside.places in
    c.is_earlier.ensures
    ∙ ap (λ o. is_earlier o c.«copied-2».result) (c.copied.ensures ∙ c.get.ensures.value)
    ∙ ap (is_earlier (places c.args.first)) (c.«copied-2».ensures ∙ c.«get-2».ensures.value)
    ∙ older_listed types store places 0 c.self.inside.row.items c.args.first c.args.second (c.self.invariant c.args.first) (c.self.invariant c.args.second)
    ∙ ap (λ (l : InAge). solving.is_older (map (cell_variable types store) l.items) (cell_variable types store c.args.first) (cell_variable types store c.args.second)) c.self.view_is
