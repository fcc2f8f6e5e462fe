use Rattle.std.proofs.Common.{◌++◌, [], sym, ◌∙◌, ap, subst, length, codes, map}
use Rattle.ab_term.specs.Types.{prop}
use Rattle.ab_term.specs.Variables.{image}
use Rattle.ab_term.specs.Sameness.{same_number}
use Rattle.ab_norm.specs.ab_types.specs.Entries.{signature}
use Rattle.ab_norm.specs.ab_types.specs.Ids.{type_of}
use Rattle.ab_norm.specs.ab_store.specs.Trees.{cell_of, tree_of}
use Rattle.ab_norm.specs.ab_store.specs.Naming.{IsTerm}
use Rattle.ab_norm.specs.ab_store.proofs.Growing.{term_grown}
use Rattle.ab_unifiers.specs.Unifiers.{AreDifferent}
use Rattle.ab_unifiers.specs.Clauses.{Each, put_together, name_term}
use Rattle.ab_unifiers.specs.Prefixes.{opened}
use Rattle.ab_unifiers.specs.Alternatives.{cells_over, made_over, made_terms}
use Rattle.ab_typing.specs.DefinitionReadings.{clause_of}
use Rattle.ab_unify.specs.Problem.{cells_read, variables_read, cells_at}
use Rattle.ab_unify.proofs.Growth.{grows_on, grows_terms, typed_terms}
use Rattle.ab_instances.specs.ListReadings.{names_read, trees_at, given_at}
use Rattle.ab_instances.specs.CellBindings.{CanBeBound}
use Rattle.ab_instances.proofs.Made.{names_stay, names_held}
use Rattle.ab_instances.proofs.Fitting.{in_terms_are, different_cells, can_bind}
use Rattle.ab_instances.proofs.Assembled.{body_is, arguments_are, arguments_fit, cells_end, own_end}
use Rattle.ab_instances.proofs.instances.instance_of.Goals as goal

pub copy_with-requires-clause-fit : goal.copy_with-requires-clause-fit
copy_with-requires-clause-fit g c =
    let T0 = c.args.types.now in
    let T = c.make_over.new.types in
    let S0 = c.args.store.now in
    let S1 = c.make_over.new.store in
    let over = c.in_ok-over.ensures in
    let vars = c.args.clause.now.variables in
    let us = names_read T0 c.args.unchosen.now in
    let terms = c.in_ok-over.over.terms.items in
    subst (λ l. CanBeBound T S1 vars l) (sym c.deref.ensures.value)
    (can_bind T0 T S0 S1 c.requires.store over.grows us vars terms (different_cells T0 S0 vars (subst AreDifferent (in_terms_are T0 S0 vars) c.requires.kept.different)) c.requires.clause.variables
    (subst (λ l. Each (λ d t. IsTerm T S1 [] t (type_of T0 (cell_of S0 d).ty)) l terms) c.as_slice.ensures over.typed)
    (over.terms ∙ ap (λ l. made_terms (codes "x") (length S0.cells) us (cells_at T0 S0 l)) c.as_slice.ensures))

pub returns-in_err-copied-clause-grows : goal.returns-in_err-copied-clause-grows
returns-in_err-copied-clause-grows g c =
    let T = c.make_over.new.types in
    grows_on c.args.types.now T T c.args.store.now c.make_over.new.store c.copy_with.new.store c.in_ok-over.ensures.grows c.in_err-copied.ensures.grows

pub as_terms-requires-clause-names : goal.as_terms-requires-clause-names
as_terms-requires-clause-names g c = names_held c.args.types.now c.make_over.new.types c.in_ok-over.ensures.grows.table c.args.names.now c.requires.names

pub returns-in_err-forms-clause-grows : goal.returns-in_err-forms-clause-grows
returns-in_err-forms-clause-grows g c =
    let T = c.make_over.new.types in
    let first = grows_on c.args.types.now T T c.args.store.now c.make_over.new.store c.copy_with.new.store c.in_ok-over.ensures.grows c.in_ok-copied.ensures.grows in
    grows_on c.args.types.now T T c.args.store.now c.copy_with.new.store c.as_terms.new.store first (grows_terms T c.copy_with.new.store c.as_terms.new.store c.in_err-forms.ensures.adds)

pub returns-in_err-atom-clause-grows : goal.returns-in_err-atom-clause-grows
returns-in_err-atom-clause-grows g c =
    let T = c.make_over.new.types in
    let first = grows_on c.args.types.now T T c.args.store.now c.make_over.new.store c.copy_with.new.store c.in_ok-over.ensures.grows c.in_ok-copied.ensures.grows in
    let adds = c.in_ok-forms.ensures.adds in
    let second = grows_on c.args.types.now T T c.args.store.now c.copy_with.new.store c.as_terms.new.store first (grows_terms T c.copy_with.new.store c.as_terms.new.store adds) in
    grows_on c.args.types.now T T c.args.store.now c.as_terms.new.store c.open.new.store second (grows_terms T c.as_terms.new.store c.open.new.store (typed_terms T c.as_terms.new.store c.open.new.store adds.typed c.in_err-atom.ensures.adds))

pub returns-in_err-arguments-clause-grows : goal.returns-in_err-arguments-clause-grows
returns-in_err-arguments-clause-grows g c =
    let T = c.make_over.new.types in
    let first = grows_on c.args.types.now T T c.args.store.now c.make_over.new.store c.copy_with.new.store c.in_ok-over.ensures.grows c.in_ok-copied.ensures.grows in
    let adds = c.in_ok-forms.ensures.adds in
    let second = grows_on c.args.types.now T T c.args.store.now c.copy_with.new.store c.as_terms.new.store first (grows_terms T c.copy_with.new.store c.as_terms.new.store adds) in
    grows_on c.args.types.now T T c.args.store.now c.as_terms.new.store c.open.new.store second (grows_terms T c.as_terms.new.store c.open.new.store (typed_terms T c.as_terms.new.store c.open.new.store adds.typed c.in_ok-atom.ensures.adds))

pub returns-clause-grows : goal.returns-clause-grows
returns-clause-grows g c =
    let T = c.make_over.new.types in
    let first = grows_on c.args.types.now T T c.args.store.now c.make_over.new.store c.copy_with.new.store c.in_ok-over.ensures.grows c.in_ok-copied.ensures.grows in
    let adds = c.in_ok-forms.ensures.adds in
    let second = grows_on c.args.types.now T T c.args.store.now c.copy_with.new.store c.as_terms.new.store first (grows_terms T c.copy_with.new.store c.as_terms.new.store adds) in
    grows_on c.args.types.now T T c.args.store.now c.as_terms.new.store c.open.new.store second (grows_terms T c.as_terms.new.store c.open.new.store (typed_terms T c.as_terms.new.store c.open.new.store adds.typed c.in_ok-atom.ensures.adds))

pub returns-clause-cells : goal.returns-clause-cells
returns-clause-cells g c =
    let T0 = c.args.types.now in
    let S0 = c.args.store.now in
    let us = names_read T0 c.args.unchosen.now in
    let over = c.in_ok-over.ensures in
    cells_end T0 c.make_over.new.types S0 c.make_over.new.store c.requires.store over.grows c.args.clause.now c.requires.clause.variables us (names_read T0 c.args.names.now) c.in_ok-over.over.terms.items
    (over.terms ∙ ap (λ l. made_terms (codes "x") (length S0.cells) us (cells_at T0 S0 l)) c.as_slice.ensures) c.requires.kept (c.kept_clauses_are_cases.ensures (signature T0) (clause_of T0 S0 c.args.clause.now) c.requires.kept) c.requires.fit
    c.open.new.store (c.in_ok-atom.ensures.adds.cells ∙ c.in_ok-forms.ensures.adds.cells ∙ c.in_ok-copied.ensures.cells)
    (over.cells ∙ ap (λ l. cells_read T0 S0 ++ cells_over (codes "x") us (cells_at T0 S0 l)) c.as_slice.ensures)

pub returns-clause-own : goal.returns-clause-own
returns-clause-own g c =
    let T0 = c.args.types.now in
    let S0 = c.args.store.now in
    let us = names_read T0 c.args.unchosen.now in
    let over = c.in_ok-over.ensures in
    own_end T0 c.make_over.new.types S0 c.make_over.new.store c.requires.store over.grows c.args.clause.now c.requires.clause.variables us (names_read T0 c.args.names.now) c.in_ok-over.over.terms.items
    (over.terms ∙ ap (λ l. made_terms (codes "x") (length S0.cells) us (cells_at T0 S0 l)) c.as_slice.ensures) c.requires.kept (c.kept_clauses_are_cases.ensures (signature T0) (clause_of T0 S0 c.args.clause.now) c.requires.kept) c.requires.fit
    c.open.new.store c.in_ok-over.over.cells.items (c.in_ok-atom.ensures.adds.cells ∙ c.in_ok-forms.ensures.adds.cells ∙ c.in_ok-copied.ensures.cells)
    (over.made ∙ ap (λ l. made_over (codes "x") (length S0.cells) us (cells_at T0 S0 l)) c.as_slice.ensures)

pub returns-clause-arguments : goal.returns-clause-arguments
returns-clause-arguments g c =
    let T0 = c.args.types.now in
    let T = c.make_over.new.types in
    let S0 = c.args.store.now in
    let S3 = c.as_terms.new.store in
    let us = names_read T0 c.args.unchosen.now in
    let over = c.in_ok-over.ensures in
    let head = c.in_ok-copied.copied.head in
    let heads = c.in_ok-copied.ensures.head in
    arguments_are T0 T S0 c.make_over.new.store c.requires.store over.grows c.args.clause.now c.requires.clause.variables us (names_read T0 c.args.names.now) c.in_ok-over.over.terms.items
    (over.terms ∙ ap (λ l. made_terms (codes "x") (length S0.cells) us (cells_at T0 S0 l)) c.as_slice.ensures) c.requires.kept (c.kept_clauses_are_cases.ensures (signature T0) (clause_of T0 S0 c.args.clause.now) c.requires.kept) c.requires.fit
    S3 c.open.new.store head (given_at T c.open.new.store c.in_ok-arguments.arguments.items) c.in_ok-atom.atom c.in_ok-forms.forms.items c.requires.clause.head
    (c.in_ok-forms.ensures.adds.before.trees T head heads.0.0 ∙ heads.1 ∙ ap (λ l. image same_number (put_together (variables_read T c.make_over.new.store c.args.clause.now.variables) (trees_at T c.make_over.new.store l)) (tree_of T c.make_over.new.store c.args.clause.now.head)) c.deref.ensures.value)
    (c.in_ok-forms.ensures.trees ∙ ap (map (name_term (codes "x"))) (names_stay T0 T over.grows.table c.args.names.now c.requires.names))
    (c.in_ok-atom.ensures.tree ∙ ap (λ l. opened (tree_of T S3 head) (trees_at T S3 l)) c.deref-2.ensures.value)
    (c.in_ok-arguments.ensures.trees T)

pub returns-clause-body : goal.returns-clause-body
returns-clause-body g c =
    let T0 = c.args.types.now in
    let T = c.make_over.new.types in
    let S0 = c.args.store.now in
    let S1 = c.make_over.new.store in
    let us = names_read T0 c.args.unchosen.now in
    let over = c.in_ok-over.ensures in
    let body = c.in_ok-copied.copied.body in
    let bodies = c.in_ok-copied.ensures.body in
    let S3 = c.as_terms.new.store in
    let forms = c.in_ok-forms.ensures.adds.before in
    body_is T0 T S0 S1 c.requires.store over.grows c.args.clause.now c.requires.clause.variables us (names_read T0 c.args.names.now) c.in_ok-over.over.terms.items
    (over.terms ∙ ap (λ l. made_terms (codes "x") (length S0.cells) us (cells_at T0 S0 l)) c.as_slice.ensures) c.requires.kept (c.kept_clauses_are_cases.ensures (signature T0) (clause_of T0 S0 c.args.clause.now) c.requires.kept) c.requires.fit
    c.open.new.store body c.requires.clause.body
    (c.in_ok-atom.ensures.adds.before.trees T body (forms.ids body bodies.0.0) ∙ forms.trees T body bodies.0.0 ∙ bodies.1
    ∙ ap (λ l. image same_number (put_together (variables_read T S1 c.args.clause.now.variables) (trees_at T S1 l)) (tree_of T S1 c.args.clause.now.body)) c.deref.ensures.value)

pub returns-clause-arguments_typed : goal.returns-clause-arguments_typed
returns-clause-arguments_typed g c =
    let T0 = c.args.types.now in
    let T = c.make_over.new.types in
    let S0 = c.args.store.now in
    let S1 = c.make_over.new.store in
    let us = names_read T0 c.args.unchosen.now in
    let over = c.in_ok-over.ensures in
    arguments_fit T0 T S0 S1 c.requires.store over.grows c.args.clause.now c.requires.clause.variables us (names_read T0 c.args.names.now) c.in_ok-over.over.terms.items
    (over.terms ∙ ap (λ l. made_terms (codes "x") (length S0.cells) us (cells_at T0 S0 l)) c.as_slice.ensures) c.requires.kept (c.kept_clauses_are_cases.ensures (signature T0) (clause_of T0 S0 c.args.clause.now) c.requires.kept) c.requires.fit
    (given_at T c.open.new.store c.in_ok-arguments.arguments.items) (returns-clause-arguments g c)

pub returns-clause-body_typed : goal.returns-clause-body_typed
returns-clause-body_typed g c =
    let T = c.make_over.new.types in
    let body = c.in_ok-copied.copied.body in
    term_grown T c.as_terms.new.store c.open.new.store c.in_ok-atom.ensures.adds.before [] body prop
    (term_grown T c.copy_with.new.store c.as_terms.new.store c.in_ok-forms.ensures.adds.before [] body prop c.in_ok-copied.ensures.body.0)
