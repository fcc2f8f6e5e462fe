use Rattle.std.proofs.Common.{◌+◌, ◌++◌, length, sym, ◌∙◌, ap, subst, length-append}
use Rattle.std.specs.List.{All}
use Rattle.std.proofs.lemmas.List.{length-map}
use Rattle.ab_unify.specs.Problem.{cell_read, cells_read}
use Rattle.ab_unify.specs.StoreChanges.{IsFree}
use Rattle.ab_unify.proofs.Growth.{grows_on}
use Rattle.ab_logic.specs.Forms.{sign_of}
use Rattle.ab_theory.specs.SpecRules.{demand_of}
use Rattle.ab_walk.specs.ab_next_ways.specs.ab_judgements.specs.DemandReadings.{rule_read}
use Rattle.ab_walk.specs.ab_next_ways.specs.ab_judgements.specs.ab_judgement_forms.specs.JudgementReadings.{judgement_read}
use Rattle.ab_search_paths.proofs.Parts.{own_free}
use Rattle.ab_search_paths.proofs.open_parts.open_of_rule.Goals as goal

pub open_places-requires-clause-own : goal.open_places-requires-clause-own
open_places-requires-clause-own g c =
    let w = c.args.world.now in
    let v = c.make_demand.new.world in
    let made = c.in_ok-made.ensures.made in
    let d = demand_of (length w.store.cells) (sign_of c.mark_above-mark.result) (judgement_read w c.args.ruled.now.judgement) (rule_read w c.args.rule.now) in
    let front = cells_read w.types w.store ++ d.passing in
    subst (All (IsFree v.store)) (sym c.deref-3.ensures.value)
    (own_free v.types v.store front d.own (length w.store.cells + length d.passing) c.in_ok-made.made.own.items c.make_demand.ensures.grows.world.unbound made.cells
    (sym (length-append (cells_read w.types w.store) d.passing ∙ ap (λ n. n + length d.passing) (length-map w.store.cells (cell_read w.types)))) made.own)

pub returns-clause-grows : goal.returns-clause-grows
returns-clause-grows g c =
    let w = c.args.world.now in
    let v = c.make_demand.new.world in
    let x = c.open_places.new.world in
    grows_on w.types v.types x.types w.store v.store x.store c.make_demand.ensures.grown c.open_places.ensures.grows
