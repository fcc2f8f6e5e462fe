use Rattle.std.proofs.Common.{sym, ap, ◌∙◌}
use Rattle.ab_norm.specs.ab_store.specs.Trees.{head_in}
use Rattle.ab_unifiers.specs.Replacements.{is_flexible}
use Rattle.ab_unify.specs.Problem.{variables_read}
use Rattle.ab_search_ways.proofs.FlexibleHeads.{one_of_cells}
use Rattle.ab_search_ways.proofs.blindness.is_flexible.Goals as goal

pub returns-in-Cell : goal.returns-in-Cell
returns-in-Cell c = λ types.
    let S = c.args.store.now in
    one_of_cells types S c.args.flexible.now c.in-Cell.cell c.contains.result c.contains.ensures.value
    ∙ sym (ap (λ h. is_flexible (variables_read types S c.args.flexible.now) (head_in types S.cells h)) c.in-Cell.is)
