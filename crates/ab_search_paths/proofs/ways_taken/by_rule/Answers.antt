use Rattle.std.proofs.Common.{refl, sym, subst}
use Rattle.std.specs.List.{All}
use Rattle.std.specs.Prelude.{IfSome}
use Rattle.ab_walk.specs.ab_next_ways.specs.ab_judgements.specs.DemandReadings.{IsRuleFor}
use Rattle.std.proofs.lemmas.List.Elements.{All-weaker}
use Rattle.ab_norm.specs.ab_store.specs.Trees.{HoldsCell}
use Rattle.ab_norm.specs.Nominals.{HoldsNominal}
use Rattle.ab_logic.specs.declared.world.World.{World}
use Rattle.ab_walk.specs.ab_next_ways.specs.ab_judgements.specs.ab_alternatives.specs.ab_instances.proofs.Made.{names_held}
use Rattle.ab_search_paths.proofs.EntriesKept.{later_on, later_terms, rule_held}
use Rattle.ab_search_paths.proofs.StandIns.{terms_in}
use Rattle.ab_search_paths.proofs.ways_taken.by_rule.Goals as goal

pub returns-in_err-closed-clause-later : goal.returns-in_err-closed-clause-later
returns-in_err-closed-clause-later g c =
    let l = c.with_rules.ensures.later in
    let e = c.closed_names.ensures in
    later_on c.args.world.now c.with_rules.new.world c.closed_names.new.world (record { grows = l.grows; declared = l.declared }) (record { grows = e.grows; declared = e.declared })

pub cells_given-requires-clause-cells : goal.cells_given-requires-clause-cells
cells_given-requires-clause-cells g c =
    let a = c.with_rules.ensures.later.grows in
    let b = c.closed_names.ensures.grows in
    All-weaker (HoldsCell c.args.world.now.store) (HoldsCell c.closed_names.new.world.store) (λ d h. b.cell_ids d (a.cell_ids d h)) c.args.own.now c.requires.own

pub cells_given-requires-clause-constants : goal.cells_given-requires-clause-constants
cells_given-requires-clause-constants g c =
    let u = c.with_rules.new.world in
    let x = c.closed_names.new.world in
    subst (All (HoldsNominal x.types)) (sym c.deref.ensures.value) (names_held u.types x.types c.closed_names.ensures.grows.types c.in_ok-ruled.ruled.constants.items c.in_ok-ruled.ensures.ruled.constants_held)

pub returns-in_err-values-clause-later : goal.returns-in_err-values-clause-later
returns-in_err-values-clause-later g c =
    let l = c.with_rules.ensures.later in
    let e = c.closed_names.ensures in
    let x = c.closed_names.new.world in
    let v : World = record { types = x.types; store = c.cells_given.new.store; additions = x.additions } in
    later_on c.args.world.now x v
    (later_on c.args.world.now c.with_rules.new.world x (record { grows = l.grows; declared = l.declared }) (record { grows = e.grows; declared = e.declared }))
    (later_terms x v e.grows.world refl refl c.cells_given.ensures.adds)

pub returns-clause-later : goal.returns-clause-later
returns-clause-later g c =
    let l = c.with_rules.ensures.later in
    let e = c.closed_names.ensures in
    let x = c.closed_names.new.world in
    let v : World = record { types = x.types; store = c.cells_given.new.store; additions = x.additions } in
    later_on c.args.world.now x v
    (later_on c.args.world.now c.with_rules.new.world x (record { grows = l.grows; declared = l.declared }) (record { grows = e.grows; declared = e.declared }))
    (later_terms x v e.grows.world refl refl c.cells_given.ensures.adds)

pub closed_names-requires-clause-rule : goal.closed_names-requires-clause-rule
closed_names-requires-clause-rule g c =
    let u = c.with_rules.new.world in
    let j = c.in_ok-ruled.ruled.judgement in
    rule_held u j c.in-Some-2.rule (subst (λ o. IfSome o (IsRuleFor u j)) c.in-Some-2.is c.in_ok-rule.ensures.fits)

pub returns-clause-taken : goal.returns-clause-taken
returns-clause-taken g c =
    let x = c.closed_names.new.world in
    let v : World = record { types = x.types; store = c.cells_given.new.store; additions = x.additions } in
    terms_in v (later_terms x v c.closed_names.ensures.grows.world refl refl c.cells_given.ensures.adds).grows.world c.in_ok-values.values.items c.in_ok-values.ensures.typed
