use Rattle.std.proofs.Common.{List}
use Rattle.std.specs.List.{All}
use Rattle.std.proofs.lemmas.List.Elements.{All-push}
use Rattle.ab_norm.specs.ab_store.specs.Trees.{Contents}
use Rattle.ab_norm.specs.ab_types.specs.Entries.{Table}
use Rattle.ab_norm.specs.ab_store.specs.Naming.{IsTypedBy}
use Rattle.ab_norm.specs.NodeGrowth.{AddsTypedTerms}
use Rattle.ab_norm.specs.Nominals.{HoldsNominal}
use Rattle.ab_norm.specs.declared.nominal.Nominal.{Nominal}
use Rattle.ab_logic.specs.Worlds.{Holds}
use Rattle.ab_logic.specs.declared.world.World.{World}
use Rattle.ab_search_paths.specs.MoreTerms.{GotTerms}
use Rattle.ab_search_paths.proofs.MoreTerms.{got_on, got_over, still_held}
use Rattle.ab_search.proofs.unfolding_steps.terms_for.Goals as goal

-- one term more
more : (u w : World) (S : Contents) (names : List Nominal) → GotTerms u w → All (HoldsNominal u.types) names
    → ((types : Table) → IsTypedBy types w.store → All (HoldsNominal types) names → AddsTypedTerms types w.store S) → GotTerms u (record { types = w.types; store = S; additions = w.additions })
more u w S names got held adds = got_on u w (record { types = w.types; store = S; additions = w.additions }) got (got_over u w S names got held adds)

pub returns-in_err-over_constants-clause-got : goal.returns-in_err-over_constants-clause-got
returns-in_err-over_constants-clause-got c =
    more c.args.world.now c.loop-place.world c.over_constants.new.store c.args.constants.now c.loop-place.invariant.got c.requires.constants c.over_constants.ensures.adds

pub returns-in_err-push-clause-got : goal.returns-in_err-push-clause-got
returns-in_err-push-clause-got c =
    more c.args.world.now c.loop-place.world c.over_constants.new.store c.args.constants.now c.loop-place.invariant.got c.requires.constants c.over_constants.ensures.adds

pub loop-place-preserved : goal.loop-place-preserved
loop-place-preserved c =
    let l = c.loop-place in
    let S = c.over_constants.new.store in
    let v : World = record { types = l.world.types; store = S; additions = l.world.additions } in
    let e = c.in_ok-over_constants.ensures in
    let got = got_over c.args.world.now l.world S c.args.constants.now l.invariant.got c.requires.constants e.adds in
    record {
      held = rw c.in_ok-push.ensures.items (All-push (Holds v) l.list.items c.in_ok-over_constants.field-0 (still_held l.world v got l.list.items l.invariant.held) e.held);
      got = got_on c.args.world.now l.world v l.invariant.got got;
    }
