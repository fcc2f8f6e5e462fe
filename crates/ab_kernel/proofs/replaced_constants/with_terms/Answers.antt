use Rattle.std.specs.List.{All}
use Rattle.std.proofs.Common.{List, map, sym, ◌∙◌, ap, subst}
use Rattle.ab_norm.specs.declared.nominal.Nominal.{Nominal}
use Rattle.ab_norm.specs.ab_store.specs.declared.node.TermId.{TermId}
use Rattle.ab_norm.specs.Nominals.{nominal_of, HoldsNominal}
use Rattle.ab_norm.proofs.Frame.{if_ok}
use Rattle.ab_logic.specs.Worlds.{read, Holds}
use Rattle.ab_kernel.proofs.Replacing.{names_held, terms_held, replaced_by}
use Rattle.ab_kernel.proofs.replaced_constants.with_terms.Goals as goal

pub replace_constants-requires-clause-constants : goal.replace_constants-requires-clause-constants
replace_constants-requires-clause-constants g c =
    subst (All (HoldsNominal c.args.world.now.types)) (sym (c.deref.ensures.value ∙ c.in_ok-constants.ensures)) (names_held c.args.world.now c.args.replaces.now c.requires.replaces)

pub replace_constants-requires-clause-terms : goal.replace_constants-requires-clause-terms
replace_constants-requires-clause-terms g c =
    subst (All (Holds c.args.world.now)) (sym (c.deref-2.ensures.value ∙ c.in_ok-terms.ensures)) (terms_held c.args.world.now c.args.replaces.now c.requires.replaces)

pub returns-clause-reads : goal.returns-clause-reads
returns-clause-reads g c =
    let w = c.args.world.now in
    let names = ap (map (nominal_of w.types)) (c.deref.ensures.value ∙ c.in_ok-constants.ensures) in
    let terms = ap (map (read w)) (c.deref-2.ensures.value ∙ c.in_ok-terms.ensures) in
    if_ok c.replace_constants.result
    (λ t made.
    made
    ∙ replaced_by w c.args.replaces.now (read w c.args.formula) (map (nominal_of w.types) c.deref.result.now) (map (read w) c.deref-2.result.now) names terms)
    c.replace_constants.ensures.reads
