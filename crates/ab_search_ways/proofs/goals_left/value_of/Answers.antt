use Rattle.std.proofs.Common.{[], sym, ◌∙◌}
use Rattle.ab_norm.specs.ab_types.specs.Ids.{type_of}
use Rattle.ab_norm.specs.ab_store.specs.Trees.{cell_of}
use Rattle.ab_search_ways.proofs.Valued.{bound_typed, value_made}
use Rattle.ab_search_ways.proofs.goals_left.value_of.Goals as goal

pub copy_resolved-requires-clause-id : goal.copy_resolved-requires-clause-id
copy_resolved-requires-clause-id g c =
    let s = c.args.store.now in
    (bound_typed c.args.types.now s s.bindings c.args.cell c.in-Some.bound c.requires.store.bindings (sym c.binding.ensures.binding ∙ c.in-Some.is)).0

pub returns-clause-held : goal.returns-clause-held
returns-clause-held g c =
    let s = c.args.store.now in
    let types = c.args.types.now in
    value_made types s c.copy_resolved.new.store c.args.cell c.in_ok-term.term c.copy_resolved.ensures.adds.cells c.requires.cell
    (c.in_ok-term.ensures.term [] (type_of types (cell_of s c.args.cell).ty) (bound_typed types s s.bindings c.args.cell c.in-Some.bound c.requires.store.bindings (sym c.binding.ensures.binding ∙ c.in-Some.is)))
