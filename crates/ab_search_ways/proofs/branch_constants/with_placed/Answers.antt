use Rattle.std.proofs.Common.{◌∙◌, ap}
use Rattle.std.specs.List.{insert}
use Rattle.ab_instances.specs.ListReadings.{names_read}
use Rattle.ab_search_ways.proofs.Placing.{placed_at}
use Rattle.ab_search_ways.proofs.branch_constants.with_placed.Goals as goal

pub returns-clause-reads : goal.returns-clause-reads
returns-clause-reads c = λ types.
    let place = c.place_of-place in
    ap (names_read types) (c.in_ok-insert.ensures.items ∙ ap (λ l. insert l place.result c.args.a) c.in_ok-list.ensures.items)
    ∙ placed_at types c.args.a c.args.names.now place.result place.ensures.within place.ensures.before place.ensures.behind
