use Rattle.std.proofs.Common.{◌≡◌, ◌↔◌, Some, true, sym, subst}
use Rattle.std.specs.Prelude.{All, IfSome}
use Rattle.ab_norm.specs.Nominals.{HoldsNominal}
use Rattle.ab_instances.specs.ListReadings.{names_read}
use Rattle.ab_search_ways.specs.MapSteps.{names_of}
use Rattle.ab_search_ways.proofs.Listing.{found_is}
use Rattle.ab_search_ways.proofs.constant_maps.are_found.Goals as goal

pub returns-in-Some : goal.returns-in-Some
returns-in-Some c =
    let types = c.args.types.now in
    let names = c.args.names.now in
    let r = c.are_same_lists.result in
    subst (λ o. (r ≡ true) ↔ (names_of types o ≡ Some (names_read types names))) (sym c.in-Some.is)
    (found_is types c.requires.table c.in-Some.list names r (subst (λ o. IfSome o (λ list. All (HoldsNominal types) list.items)) c.in-Some.is c.requires.found) c.requires.names
    (subst (λ l. (r ≡ true) ↔ (l ≡ names)) c.deref.ensures.value c.are_same_lists.ensures))
