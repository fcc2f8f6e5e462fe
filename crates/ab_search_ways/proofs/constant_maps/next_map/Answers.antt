use Rattle.std.proofs.Common.{Some, sym, ap, ◌∙◌, subst}
use Rattle.std.proofs.lemmas.Bool.{false≢true}
use Rattle.ab_norm.proofs.Frame.{if_ok}
use Rattle.ab_instances.specs.ListReadings.{names_read}
use Rattle.ab_search_ways.specs.MapSteps.{names_of, IsLookedAt}
use Rattle.ab_search_ways.proofs.Targets.{next_target, next_but_one}
use Rattle.ab_search_ways.proofs.constant_maps.next_map.Goals as goal

pub returns-then-are_found-clause-next : goal.returns-then-are_found-clause-next
returns-then-are_found-clause-next c =
    let types = c.args.types.now in
    let bs = names_read types c.args.names.now in
    let free = names_read types c.args.free.now in
    let now = names_read types c.args.now.now in
    if_ok c.next_images.result (λ o next. next_but_one bs free now (names_of types o) (subst (IsLookedAt bs free now) (c.are_found.ensures.0 c.if-are_found.true) c.in_ok-found.ensures.looked) next) c.next_images.ensures.next

pub returns-clause-next : goal.returns-clause-next
returns-clause-next c =
    let types = c.args.types.now in
    next_target (names_read types c.args.names.now) (names_read types c.args.free.now) (names_read types c.args.now.now) (names_of types c.in_ok-found.found) c.in_ok-found.ensures.looked
    (λ l e q. false≢true (sym c.if-are_found.false ∙ c.are_found.ensures.1 (e ∙ ap Some q)))
