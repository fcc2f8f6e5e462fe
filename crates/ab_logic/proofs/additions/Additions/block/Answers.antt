use Rattle.std.specs.Option.{option_and_then}
use Rattle.std.proofs.Common.{ap, sym, ◌∙◌}
use Rattle.std.specs.HashMap.{get}
use Rattle.ab_logic.proofs.Lookups.{block_found}
use Rattle.ab_logic.specs.Additions.{same_constant, block_at_place, block_kept}
use Rattle.ab_logic.proofs.additions.Additions.block.Goals as goal

pub returns-in-None : goal.returns-in-None
returns-in-None c =
    ap (option_and_then (block_at_place c.self.inside.list.items c.args.predicate)) c.in-None.ensures.value
    ∙ block_found c.self.inside.list.items c.args.predicate (get same_constant c.self.inside.by_predicate c.args.predicate) (c.self.invariant.definitions c.args.predicate)
    ∙ ap (λ ys. block_kept ys c.args.predicate) c.self.view_is

pub returns-in-Some : goal.returns-in-Some
returns-in-Some c =
    c.block_in.ensures
    ∙ ap (λ ys. block_at_place ys c.args.predicate c.in-Some.place.now) (sym c.self.view_is)
    ∙ ap (option_and_then (block_at_place c.self.inside.list.items c.args.predicate)) c.in-Some.ensures.value
    ∙ block_found c.self.inside.list.items c.args.predicate (get same_constant c.self.inside.by_predicate c.args.predicate) (c.self.invariant.definitions c.args.predicate)
    ∙ ap (λ ys. block_kept ys c.args.predicate) c.self.view_is
