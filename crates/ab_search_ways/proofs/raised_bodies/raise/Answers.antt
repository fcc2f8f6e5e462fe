use Rattle.std.proofs.Common.{codes, length, ◌∙◌}
use Rattle.ab_term.specs.Abstraction.{over, given_names}
use Rattle.ab_norm.specs.ab_types.specs.Ids.{type_of}
use Rattle.ab_norm.specs.ab_types.proofs.Entries.{type_still_held}
use Rattle.ab_norm.proofs.Frame.{typed_on, typed_from}
use Rattle.ab_instances.specs.ListReadings.{names_read}
use Rattle.ab_instances.proofs.Made.{names_held}
use Rattle.ab_logic.proofs.Growing.{grows_on}
use Rattle.ab_search_ways.proofs.LaterWorlds.{with_terms, terms_grown, terms_told}
use Rattle.ab_search_ways.proofs.Raised.{body_is, instance_formula, given_typed}
use Rattle.ab_search_ways.proofs.raised_bodies.raise.Goals as goal

pub as_terms-requires-clause-names : goal.as_terms-requires-clause-names
as_terms-requires-clause-names g c = names_held c.args.world.now.types c.cell_over.new.world.types c.in_ok-cell.ensures.grows.types c.args.names.now c.requires.names

pub eta_given-requires-clause-left : goal.eta_given-requires-clause-left
eta_given-requires-clause-left g c = type_still_held c.args.world.now.types c.cell_over.new.world.types c.in_ok-cell.ensures.grows.types c.args.ty c.requires.ty

pub returns-in_err-args-clause-grows : goal.returns-in_err-args-clause-grows
returns-in_err-args-clause-grows g c =
    let w = c.args.world.now in
    let m = c.cell_over.new.world in
    let g = c.in_ok-cell.ensures.grows in
    grows_on w m (with_terms m g.world c.as_terms.new.store c.as_terms.ensures.adds) g (terms_grown m g.world c.as_terms.new.store c.as_terms.ensures.adds)

pub returns-in_err-args-clause-declared : goal.returns-in_err-args-clause-declared
returns-in_err-args-clause-declared g c =
    let m = c.cell_over.new.world in
    let g = c.in_ok-cell.ensures.grows in
    terms_told m g.world c.as_terms.new.store c.as_terms.ensures.adds ∙ c.in_ok-cell.ensures.declared

pub returns-in_err-variable-clause-grows : goal.returns-in_err-variable-clause-grows
returns-in_err-variable-clause-grows g c =
    let w = c.args.world.now in
    let m = c.cell_over.new.world in
    let g = c.in_ok-cell.ensures.grows in
    let adds = typed_on m.types m.store c.as_terms.new.store c.eta_given.new.store c.as_terms.ensures.adds c.eta_given.ensures.adds in
    grows_on w m (with_terms m g.world c.eta_given.new.store adds) g (terms_grown m g.world c.eta_given.new.store adds)

pub returns-in_err-variable-clause-declared : goal.returns-in_err-variable-clause-declared
returns-in_err-variable-clause-declared g c =
    let m = c.cell_over.new.world in
    let g = c.in_ok-cell.ensures.grows in
    let adds = typed_on m.types m.store c.as_terms.new.store c.eta_given.new.store c.as_terms.ensures.adds c.eta_given.ensures.adds in
    terms_told m g.world c.eta_given.new.store adds ∙ c.in_ok-cell.ensures.declared

pub returns-in_err-formula-clause-grows : goal.returns-in_err-formula-clause-grows
returns-in_err-formula-clause-grows g c =
    let w = c.args.world.now in
    let m = c.cell_over.new.world in
    let g = c.in_ok-cell.ensures.grows in
    let two = typed_on m.types m.store c.as_terms.new.store c.eta_given.new.store c.as_terms.ensures.adds c.eta_given.ensures.adds in
    let adds = typed_on m.types m.store c.eta_given.new.store c.instantiate.new.store two (typed_from m.types c.eta_given.new.store c.instantiate.new.store c.instantiate.ensures.adds two.typed) in
    grows_on w m (with_terms m g.world c.instantiate.new.store adds) g (terms_grown m g.world c.instantiate.new.store adds)

pub returns-in_err-formula-clause-declared : goal.returns-in_err-formula-clause-declared
returns-in_err-formula-clause-declared g c =
    let m = c.cell_over.new.world in
    let g = c.in_ok-cell.ensures.grows in
    let two = typed_on m.types m.store c.as_terms.new.store c.eta_given.new.store c.as_terms.ensures.adds c.eta_given.ensures.adds in
    let adds = typed_on m.types m.store c.eta_given.new.store c.instantiate.new.store two (typed_from m.types c.eta_given.new.store c.instantiate.new.store c.instantiate.ensures.adds two.typed) in
    terms_told m g.world c.instantiate.new.store adds ∙ c.in_ok-cell.ensures.declared

pub returns-clause-grows : goal.returns-clause-grows
returns-clause-grows g c =
    let w = c.args.world.now in
    let m = c.cell_over.new.world in
    let g = c.in_ok-cell.ensures.grows in
    let two = typed_on m.types m.store c.as_terms.new.store c.eta_given.new.store c.as_terms.ensures.adds c.eta_given.ensures.adds in
    let adds = typed_on m.types m.store c.eta_given.new.store c.instantiate.new.store two (typed_from m.types c.eta_given.new.store c.instantiate.new.store c.instantiate.ensures.adds two.typed) in
    grows_on w m (with_terms m g.world c.instantiate.new.store adds) g (terms_grown m g.world c.instantiate.new.store adds)

pub returns-clause-declared : goal.returns-clause-declared
returns-clause-declared g c =
    let m = c.cell_over.new.world in
    let g = c.in_ok-cell.ensures.grows in
    let two = typed_on m.types m.store c.as_terms.new.store c.eta_given.new.store c.as_terms.ensures.adds c.eta_given.ensures.adds in
    let adds = typed_on m.types m.store c.eta_given.new.store c.instantiate.new.store two (typed_from m.types c.eta_given.new.store c.instantiate.new.store c.instantiate.ensures.adds two.typed) in
    terms_told m g.world c.instantiate.new.store adds ∙ c.in_ok-cell.ensures.declared

pub returns-clause-reads : goal.returns-clause-reads
returns-clause-reads g c =
    let w = c.args.world.now in
    let m = c.cell_over.new.world in
    let e = c.in_ok-cell.ensures in
    body_is w m e.grows c.args.ty c.requires.ty c.args.names.now c.requires.names c.in_ok-cell.cell c.in_ok-hint.hint e.number e.cells c.as_terms.new.store c.eta_given.new.store c.as_terms.ensures.adds c.eta_given.ensures.adds
    c.in_ok-args.args.items c.in_ok-args.ensures.trees c.in_ok-variable.variable c.in_ok-variable.ensures.tree c.instantiate.new.store c.args.body c.in_ok-formula.formula c.requires.body.0 c.in_ok-formula.ensures.tree

pub returns-clause-formula : goal.returns-clause-formula
returns-clause-formula g c =
    let w = c.args.world.now in
    let m = c.cell_over.new.world in
    let e = c.in_ok-cell.ensures in
    let g = e.grows in
    let two = typed_on m.types m.store c.as_terms.new.store c.eta_given.new.store c.as_terms.ensures.adds c.eta_given.ensures.adds in
    let adds = typed_on m.types m.store c.eta_given.new.store c.instantiate.new.store two (typed_from m.types c.eta_given.new.store c.instantiate.new.store c.instantiate.ensures.adds two.typed) in
    let v = with_terms m g.world c.instantiate.new.store adds in
    let ns = names_read w.types c.args.names.now in
    let A = type_of w.types c.args.ty in
    instance_formula w v (grows_on w m v g (terms_grown m g.world c.instantiate.new.store adds)) A c.args.body (given_names (codes "x") (record { name = length w.store.cells; type = over ns A }) ns A) c.in_ok-formula.formula c.requires.body
    (given_typed v (length w.store.cells) ns A) c.in_ok-formula.ensures.held
    (body_is w m g c.args.ty c.requires.ty c.args.names.now c.requires.names c.in_ok-cell.cell c.in_ok-hint.hint e.number e.cells c.as_terms.new.store c.eta_given.new.store c.as_terms.ensures.adds c.eta_given.ensures.adds
    c.in_ok-args.args.items c.in_ok-args.ensures.trees c.in_ok-variable.variable c.in_ok-variable.ensures.tree c.instantiate.new.store c.args.body c.in_ok-formula.formula c.requires.body.0 c.in_ok-formula.ensures.tree)
