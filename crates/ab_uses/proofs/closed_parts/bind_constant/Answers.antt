use Rattle.std.proofs.Common.{◌≡◌, [], ◌∷◌, codes, refl, sym, ◌∙◌, ap}
use Rattle.std.proofs.lemmas.Bool.{false≢true}
use Rattle.ab_term.specs.Terms.{nominal, no_terms, Read}
use Rattle.ab_term.specs.Variables.{image}
use Rattle.ab_term.specs.Sameness.{same_number}
use Rattle.ab_theory.specs.Rules.{name_term}
use Rattle.ab_patterns.proofs.Bound.{same_cell}
use Rattle.ab_term.proofs.Stands.{variables-expansion_of}
use Rattle.ab_unifiers.specs.Replacements.{holds, occurs}
use Rattle.ab_norm.specs.ab_store.specs.Reading.{bound_in, cell_variable, reading}
use Rattle.ab_norm.specs.ab_store.proofs.Rebinding.{bound_others}
use Rattle.ab_norm.specs.Nominals.{nominal_of}
use Rattle.ab_norm.specs.ab_types.specs.Ids.{type_of}
use Rattle.ab_norm.proofs.Frame.{typed_from, typed_on, typed_more}
use Rattle.ab_unify.proofs.Growth.{grows_on, grows_terms}
use Rattle.ab_uses.proofs.Filling.{not_standing, fits_cell, grows_bound}
use Rattle.ab_uses.proofs.closed_parts.bind_constant.Goals as goal

pub returns-in_err-resolved-clause-grows : goal.returns-in_err-resolved-clause-grows
returns-in_err-resolved-clause-grows g c =
    let T = c.args.types.now in
    let S = c.args.store.now in
    let E = c.eta.new.store in
    let R = c.copy_resolved.new.store in
    grows_terms T S R (typed_on T S E R c.eta.ensures.adds (typed_from T E R c.copy_resolved.ensures.adds c.eta.ensures.adds.typed))

pub returns-in_err-occurs-clause-grows : goal.returns-in_err-occurs-clause-grows
returns-in_err-occurs-clause-grows g c =
    let T = c.args.types.now in
    let S = c.args.store.now in
    let E = c.eta.new.store in
    let R = c.copy_resolved.new.store in
    grows_terms T S R (typed_on T S E R c.eta.ensures.adds (typed_from T E R c.copy_resolved.ensures.adds c.eta.ensures.adds.typed))

pub unreachable-requires : goal.unreachable-requires
unreachable-requires g c =
    let T = c.args.types.now in
    let y = cell_variable T c.copy_resolved.new.store c.args.cell in
    let a = nominal_of T c.args.constant in
    let is = c.in_ok-resolved.ensures.tree ∙ c.in_ok-term.ensures.reads tt in
    false≢true (sym (ap (λ l. holds l y) (variables-expansion_of (codes "x") a.type (nominal a) no_terms)) ∙ sym (ap (occurs y) is) ∙ sym (c.in_ok-occurs.ensures T) ∙ c.if-branch.true)

pub returns-in_err-reserve-clause-grows : goal.returns-in_err-reserve-clause-grows
returns-in_err-reserve-clause-grows g c =
    let T = c.args.types.now in
    let S = c.args.store.now in
    let E = c.eta.new.store in
    let R = c.copy_resolved.new.store in
    let X = c.reserve.new.self in
    let adds = typed_on T S E R c.eta.ensures.adds (typed_from T E R c.copy_resolved.ensures.adds c.eta.ensures.adds.typed) in
    grows_terms T S X (typed_more T S R X adds.before adds.cells c.reserve.ensures.before c.reserve.ensures.cells (c.reserve.ensures.typed T adds.typed))

pub bind-requires-clause-typed : goal.bind-requires-clause-typed
bind-requires-clause-typed g c =
    let T = c.args.types.now in
    let S = c.args.store.now in
    let E = c.eta.new.store in
    let R = c.copy_resolved.new.store in
    let X = c.reserve.new.self in
    let A = type_of T c.args.constant.ty in
    let adds = typed_on T S E R c.eta.ensures.adds (typed_from T E R c.copy_resolved.ensures.adds c.eta.ensures.adds.typed) in
    (T, fits_cell T S R X adds c.reserve.ensures.before c.args.cell c.requires.cell c.in_ok-resolved.resolved A (sym c.requires.ty) (c.in_ok-resolved.ensures.term [] A (c.in_ok-term.ensures.term [] refl)))

pub bind-requires-clause-apart : goal.bind-requires-clause-apart
bind-requires-clause-apart g c =
    let T = c.args.types.now in
    not_standing T c.copy_resolved.new.store c.reserve.new.self c.reserve.ensures.before c.reserve.ensures.cells c.args.cell c.in_ok-resolved.resolved c.in_ok-resolved.ensures.held (sym (c.in_ok-occurs.ensures T) ∙ c.if-branch.false)

pub returns-clause-reads : goal.returns-clause-reads
returns-clause-reads g c t held =
    let T = c.args.types.now in
    let S = c.args.store.now in
    let R = c.copy_resolved.new.store in
    let X = c.reserve.new.self in
    let x = cell_variable T S c.args.cell in
    let a = nominal_of T c.args.constant in
    let r = c.in_ok-resolved.resolved in
    let adds = typed_on T S c.eta.new.store R c.eta.ensures.adds (typed_from T c.eta.new.store R c.copy_resolved.ensures.adds c.eta.ensures.adds.typed) in
    let there = c.reserve.ensures.before.ids t (adds.before.ids t held) in
    let as_before : reading T X t ≡ reading T S t = c.reserve.ensures.before.readings T t (adds.before.ids t held) ∙ adds.before.readings T t held in
    let value : reading T X r ≡ name_term a = c.reserve.ensures.before.readings T r c.in_ok-resolved.ensures.held ∙ c.in_ok-resolved.ensures.reads ∙ c.in_ok-term.ensures.reads tt in
    c.bind.ensures.reads T t there
    ∙ ap (λ y. image same_number ((y, reading T X r) ∷ []) (reading T X t)) (same_cell T S X c.args.cell (c.reserve.ensures.cells ∙ adds.cells))
    ∙ ap (λ (u : Read). image same_number ((x, u) ∷ []) (reading T X t)) value
    ∙ ap (image same_number ((x, name_term a) ∷ [])) as_before

pub returns-clause-grows : goal.returns-clause-grows
returns-clause-grows g c =
    let T = c.args.types.now in
    let S = c.args.store.now in
    let E = c.eta.new.store in
    let R = c.copy_resolved.new.store in
    let X = c.reserve.new.self in
    let B = c.bind.new.self in
    let A = type_of T c.args.constant.ty in
    let adds = typed_on T S E R c.eta.ensures.adds (typed_from T E R c.copy_resolved.ensures.adds c.eta.ensures.adds.typed) in
    let fits = fits_cell T S R X adds c.reserve.ensures.before c.args.cell c.requires.cell c.in_ok-resolved.resolved A (sym c.requires.ty) (c.in_ok-resolved.ensures.term [] A (c.in_ok-term.ensures.term [] refl)) in
    grows_on T T T S R B (grows_terms T S R adds)
    (grows_bound T R X B c.reserve.ensures.before (c.bind.ensures.typed T (c.reserve.ensures.typed T adds.typed) fits) c.bind.ensures.nodes c.bind.ensures.cells c.reserve.ensures.cells c.bind.ensures.marks)

pub returns-clause-others : goal.returns-clause-others
returns-clause-others g c d other =
    let T = c.args.types.now in
    let S = c.args.store.now in
    let R = c.copy_resolved.new.store in
    let adds = typed_on T S c.eta.new.store R c.eta.ensures.adds (typed_from T c.eta.new.store R c.copy_resolved.ensures.adds c.eta.ensures.adds.typed) in
    ap (λ bs. bound_in bs d) c.bind.ensures.bound
    ∙ bound_others c.reserve.new.self.bindings (record { cell = c.args.cell; term = c.in_ok-resolved.resolved }) d (λ e. other (sym e))
    ∙ ap (λ bs. bound_in bs d) (c.reserve.ensures.before.bindings ∙ adds.before.bindings)
