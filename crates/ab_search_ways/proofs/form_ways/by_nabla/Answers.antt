use Rattle.std.proofs.Common.{List, sym, ◌∙◌, ap, subst}
use Rattle.std.specs.List.{All}
use Rattle.ab_norm.specs.declared.nominal.Nominal.{Nominal}
use Rattle.ab_norm.specs.Nominals.{nominal_of, HoldsNominal}
use Rattle.ab_unifiers.specs.Choices.{placed, new_constant}
use Rattle.ab_norm.specs.ab_types.specs.Ids.{type_of}
use Rattle.ab_instances.specs.ListReadings.{names_read}
use Rattle.ab_logic.specs.Worlds.{read, declarations_of}
use Rattle.ab_search_trees.specs.Goals as tree
use Rattle.ab_search_ways.specs.declared.goal.Goal.{Goal}
use Rattle.ab_search_ways.proofs.FormMade.{if_four}
use Rattle.ab_search_ways.proofs.NewConclusion.{nabla_made}
use Rattle.ab_search_ways.proofs.form_ways.by_nabla.Goals as goal

pub returns-clause-made : goal.returns-clause-made
returns-clause-made g c =
    let w = c.args.world.now in
    let v = c.with_constant.new.world in
    let e = c.in_ok-conclusion.ensures in
    let first = c.in_ok-only.only in
    let asked = c.in_ok-only.ensures in
    let k : Goal = record first { constants = c.in_ok-only-2.field-0 } in
    if_four c.leading_to.result (λ made cells equations serves goals base now aside stands.
    nabla_made w v e.grows (declarations_of w) c.args.goal.now c.requires.goal c.args.flexible.now e.cells c.in_ok-conclusion.conclusion e.formula.0
    k asked.added asked.conclusion made cells equations serves (goals ∙ c.in_ok-from_array.ensures.items) base now aside stands
    (type_of w.types c.args.ty) (read w c.args.body) c.in_ok-a.a c.in_ok-a.ensures.held
    (c.in_ok-a.ensures.reads ∙ ap (λ (l : List Nominal). new_constant (names_read w.types l) (type_of w.types c.args.ty)) c.deref.ensures.value) e.reads
    (λ types all. c.in_ok-only-2.ensures.held types (subst (All (HoldsNominal types)) (sym c.deref-2.ensures.value) all))
    (λ types. c.in_ok-only-2.ensures.reads types ∙ ap (λ (l : List Nominal). placed (nominal_of types c.in_ok-a.a) (names_read types l)) c.deref-2.ensures.value)
    (ap (λ (q : tree.Goal). record q { constants = names_read v.types c.in_ok-only-2.field-0.items }) (asked.reads v base)))
    c.leading_to.ensures.cells c.leading_to.ensures.equations c.leading_to.ensures.serves c.leading_to.ensures.goals
