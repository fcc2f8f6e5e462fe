use Rattle.std.proofs.Common.{[], codes, refl, sym, ◌∙◌, ap, subst}
use Rattle.std.specs.List.{All}
use Rattle.ab_term.specs.Abstraction.{over}
use Rattle.ab_term.specs.Typing.{HasType}
use Rattle.ab_term.proofs.Hinted.{given_typed}
use Rattle.ab_norm.specs.ab_types.specs.Entries.{signature}
use Rattle.ab_norm.specs.ab_types.specs.Ids.{type_of}
use Rattle.ab_norm.specs.ab_types.proofs.Entries.{type_still_held}
use Rattle.ab_norm.specs.ab_store.proofs.Growing.{extended_on}
use Rattle.ab_norm.specs.Nominals.{HoldsNominal}
use Rattle.ab_norm.proofs.Frame.{typed_on}
use Rattle.ab_unify.proofs.Growth.{grows_on, grows_terms}
use Rattle.ab_alternatives.specs.ab_instances.specs.ListReadings.{names_read}
use Rattle.ab_alternatives.specs.ab_instances.proofs.Made.{names_stay, names_held}
use Rattle.ab_uses.proofs.Parted.{type_stays}
use Rattle.ab_uses.proofs.Moved.{under_way_still}
use Rattle.ab_uses.proofs.NewVariables.{variable_fits, variable_put_in, variable_stage}
use Rattle.ab_uses.proofs.one_part.put_variable.Goals as goal

pub given_constants-requires-clause-ty : goal.given_constants-requires-clause-ty
given_constants-requires-clause-ty g c = type_still_held c.args.types.now c.cell_over_constants.new.types c.in_ok-cell.ensures.grows.table c.args.ty c.requires.ty

pub given_constants-requires-clause-names : goal.given_constants-requires-clause-names
given_constants-requires-clause-names g c =
    subst (All (HoldsNominal c.cell_over_constants.new.types)) (sym c.deref-2.ensures.value) (names_held c.args.types.now c.cell_over_constants.new.types c.in_ok-cell.ensures.grows.table c.in_ok-free.free.items c.in_ok-free.ensures.held)

pub given_constants-requires-clause-over : goal.given_constants-requires-clause-over
given_constants-requires-clause-over g c =
    let T = c.args.types.now in
    let U = c.cell_over_constants.new.types in
    let part = c.in_ok-cell.ensures.grows.table in
    let free = c.in_ok-free.free.items in
    c.in_ok-cell.ensures.ty
    ∙ ap (λ ns. over (names_read T ns) (type_of T c.args.ty)) c.deref.ensures.value
    ∙ ap (λ l. over l (type_of T c.args.ty)) (sym (names_stay T U part free c.in_ok-free.ensures.held))
    ∙ ap (λ ns. over (names_read U ns) (type_of T c.args.ty)) (sym c.deref-2.ensures.value)
    ∙ ap (over (names_read U c.deref-2.result.now)) (sym (type_stays T U part c.args.ty c.requires.ty))

pub returns-in_err-term-clause-grows : goal.returns-in_err-term-clause-grows
returns-in_err-term-clause-grows g c =
    let U = c.cell_over_constants.new.types in
    grows_on c.args.types.now U U c.args.store.now c.cell_over_constants.new.store c.given_constants.new.store c.in_ok-cell.ensures.grows (grows_terms U c.cell_over_constants.new.store c.given_constants.new.store c.in_err-term.ensures.adds)

pub returns-in_err-term-clause-before : goal.returns-in_err-term-clause-before
returns-in_err-term-clause-before g c = extended_on c.args.store.now c.cell_over_constants.new.store c.given_constants.new.store c.in_ok-cell.ensures.before c.in_err-term.ensures.adds.before

pub returns-in_err-push-clause-grows : goal.returns-in_err-push-clause-grows
returns-in_err-push-clause-grows g c =
    let U = c.cell_over_constants.new.types in
    grows_on c.args.types.now U U c.args.store.now c.cell_over_constants.new.store c.given_constants.new.store c.in_ok-cell.ensures.grows (grows_terms U c.cell_over_constants.new.store c.given_constants.new.store c.in_ok-term.ensures.adds)

pub returns-in_err-push-clause-before : goal.returns-in_err-push-clause-before
returns-in_err-push-clause-before g c = extended_on c.args.store.now c.cell_over_constants.new.store c.given_constants.new.store c.in_ok-cell.ensures.before c.in_ok-term.ensures.adds.before

pub open_with-requires-clause-term : goal.open_with-requires-clause-term
open_with-requires-clause-term g c =
    let U = c.cell_over_constants.new.types in
    let names = names_read U c.deref-2.result.now in
    let A = type_of U c.args.ty in
    (A, (c.in_ok-term.ensures.held, subst (λ u. HasType (signature U) [] u A) (sym c.in_ok-term.ensures.tree) (given_typed (signature U) (codes "x") [] (record { name = c.in_ok-cell.cell.0; type = over names A }) names A refl)))

pub open_with-requires-clause-under_way : goal.open_with-requires-clause-under_way
open_with-requires-clause-under_way g c =
    let U = c.cell_over_constants.new.types in
    let grows = grows_on c.args.types.now U U c.args.store.now c.cell_over_constants.new.store c.given_constants.new.store c.in_ok-cell.ensures.grows (grows_terms U c.cell_over_constants.new.store c.given_constants.new.store c.in_ok-term.ensures.adds) in
    under_way_still c.args.types.now U c.args.store.now c.given_constants.new.store grows c.args.made.now _ c.requires.under_way refl refl refl

pub open_with-requires-clause-fits : goal.open_with-requires-clause-fits
open_with-requires-clause-fits g c =
    let T = c.args.types.now in
    let U = c.cell_over_constants.new.types in
    let grows = grows_on T U U c.args.store.now c.cell_over_constants.new.store c.given_constants.new.store c.in_ok-cell.ensures.grows (grows_terms U c.cell_over_constants.new.store c.given_constants.new.store c.in_ok-term.ensures.adds) in
    variable_fits T U c.args.store.now c.given_constants.new.store grows c.args.made.now c.requires.under_way c.args.hint.now (type_of T c.args.ty) c.requires.front c.in_ok-term.term c.in_ok-cell.cell.0 (names_read U c.deref-2.result.now) (type_of U c.args.ty)
    (type_stays T U c.in_ok-cell.ensures.grows.table c.args.ty c.requires.ty) c.in_ok-term.ensures.tree

pub returns-clause-goes : goal.returns-clause-goes
returns-clause-goes g c =
    let T = c.args.types.now in
    let U = c.cell_over_constants.new.types in
    let S = c.args.store.now in
    let V = c.cell_over_constants.new.store in
    let W = c.given_constants.new.store in
    variable_put_in T U S V W c.open_with.new.store c.requires.store c.in_ok-cell.ensures.grows c.in_ok-term.ensures.adds c.open_with.ensures.adds c.args.made.now (record { cells = c.push.new.self; antecedents = c.args.made.now.antecedents; result = c.args.made.now.result; stages = c.args.made.now.stages }) c.open_with.new.made c.requires.under_way c.in_ok-cell.cell c.in_ok-cell.ensures.number
    c.in_ok-push.ensures.items refl refl c.open_with.ensures.cells c.open_with.ensures.antecedents
    c.args.held.now c.args.chosen.now c.in_ok-free.free.items c.in_ok-free.ensures.held c.in_ok-free.ensures.list c.deref.result.now c.deref.ensures.value c.deref-2.result.now c.deref-2.ensures.value c.args.hint.now c.args.ty c.requires.ty
    c.in_ok-cell.ensures.all c.in_ok-term.term c.in_ok-term.ensures.tree c.open_with.result c.open_with.ensures.under_way c.open_with.ensures.result

pub returns-clause-grows : goal.returns-clause-grows
returns-clause-grows g c =
    let U = c.cell_over_constants.new.types in
    grows_on c.args.types.now U U c.args.store.now c.cell_over_constants.new.store c.open_with.new.store c.in_ok-cell.ensures.grows
    (grows_terms U c.cell_over_constants.new.store c.open_with.new.store (typed_on U c.cell_over_constants.new.store c.given_constants.new.store c.open_with.new.store c.in_ok-term.ensures.adds c.open_with.ensures.adds))

pub returns-clause-before : goal.returns-clause-before
returns-clause-before g c =
    extended_on c.args.store.now c.cell_over_constants.new.store c.open_with.new.store c.in_ok-cell.ensures.before
    (extended_on c.cell_over_constants.new.store c.given_constants.new.store c.open_with.new.store c.in_ok-term.ensures.adds.before c.open_with.ensures.adds.before)

pub returns-clause-stages : goal.returns-clause-stages
returns-clause-stages g c =
    variable_stage c.args.types.now c.cell_over_constants.new.types c.args.store.now c.cell_over_constants.new.store c.given_constants.new.store c.open_with.new.store c.in_ok-cell.ensures.grows c.in_ok-term.ensures.adds c.args.made.now
    (record { cells = c.push.new.self; antecedents = c.args.made.now.antecedents; result = c.args.made.now.result; stages = c.args.made.now.stages }) c.open_with.new.made c.requires.under_way refl c.in_ok-cell.cell c.in_ok-cell.ensures.number
    c.args.held.now c.args.chosen.now c.in_ok-free.free.items c.in_ok-free.ensures.held c.in_ok-free.ensures.list c.deref-2.result.now c.deref-2.ensures.value c.args.hint.now c.args.ty c.requires.ty
    c.in_ok-term.term c.in_ok-term.ensures.tree c.open_with.result c.open_with.ensures.stages
