use Rattle.std.proofs.Common.{sym, ◌∙◌, ap, subst, length}
use Rattle.std.specs.List.{All}
use Rattle.ab_term.specs.Terms.{terms_of}
use Rattle.ab_norm.specs.ab_store.specs.Trees.{HoldsCell}
use Rattle.ab_norm.proofs.Frame.{typed_none}
use Rattle.ab_instances.specs.ListReadings.{trees_at}
use Rattle.ab_instances.specs.RaisedCells.{given_all}
use Rattle.ab_instances.proofs.Made.{names_held, ids_length, over_made, over_held, over_terms, over_typed}
use Rattle.ab_instances.proofs.raised_variables.make_over.Goals as goal

pub as_terms-requires-clause-names : goal.as_terms-requires-clause-names
as_terms-requires-clause-names c = names_held c.args.types.now c.make_cells.new.types c.in_ok-made.ensures.grows.table c.args.names.now c.requires.names

pub give-requires-clause-made : goal.give-requires-clause-made
give-requires-clause-made c =
    subst (All (HoldsCell c.as_terms.new.store)) (sym c.deref.ensures.value)
    (over_held c.args.types.now c.make_cells.new.types c.args.store.now c.make_cells.new.store c.as_terms.new.store c.as_terms.new.store c.requires.store c.in_ok-made.ensures.grows c.in_ok-forms.ensures.adds (typed_none c.make_cells.new.types c.as_terms.new.store c.in_ok-forms.ensures.adds.typed) c.args.cells.now c.requires.cells
    c.args.names.now c.requires.names c.in_ok-made.made.items c.in_ok-made.ensures.made c.in_ok-made.ensures.cells)

pub give-requires-clause-as_many : goal.give-requires-clause-as_many
give-requires-clause-as_many c = ap length (c.deref.ensures.value ∙ c.in_ok-made.ensures.made) ∙ ids_length (length c.args.store.now.cells) c.args.cells.now

pub returns-clause-made : goal.returns-clause-made
returns-clause-made c =
    over_made c.args.types.now c.make_cells.new.types c.args.store.now c.make_cells.new.store c.as_terms.new.store c.give.new.store c.requires.store c.in_ok-made.ensures.grows c.in_ok-forms.ensures.adds c.in_ok-terms.ensures.adds c.args.cells.now c.requires.cells
    c.args.names.now c.requires.names c.in_ok-made.made.items c.in_ok-made.ensures.made c.in_ok-made.ensures.cells

pub returns-clause-terms : goal.returns-clause-terms
returns-clause-terms c =
    let T = c.make_cells.new.types in
    let S2 = c.as_terms.new.store in
    over_terms c.args.types.now T c.args.store.now c.make_cells.new.store S2 c.give.new.store c.requires.store c.in_ok-made.ensures.grows c.in_ok-forms.ensures.adds c.in_ok-terms.ensures.adds c.args.cells.now c.requires.cells
    c.args.names.now c.requires.names c.in_ok-made.made.items c.in_ok-made.ensures.made c.in_ok-made.ensures.cells
    c.in_ok-forms.forms.items c.in_ok-terms.terms.items c.in_ok-forms.ensures.trees
    (c.in_ok-terms.ensures.trees ∙ ap (λ l. given_all T S2 (terms_of (trees_at T S2 l)) c.deref.result.now c.args.cells.now) c.deref-2.ensures.value ∙ ap (λ l. given_all T S2 (terms_of (trees_at T S2 c.in_ok-forms.forms.items)) l c.args.cells.now) c.deref.ensures.value)

pub returns-clause-typed : goal.returns-clause-typed
returns-clause-typed c =
    let T = c.make_cells.new.types in
    let S2 = c.as_terms.new.store in
    over_typed c.args.types.now T c.args.store.now c.make_cells.new.store S2 c.give.new.store c.requires.store c.in_ok-made.ensures.grows c.in_ok-forms.ensures.adds c.in_ok-terms.ensures.adds c.args.cells.now c.requires.cells
    c.args.names.now c.requires.names c.in_ok-made.made.items c.in_ok-made.ensures.made c.in_ok-made.ensures.cells
    c.in_ok-forms.forms.items c.in_ok-terms.terms.items c.in_ok-forms.ensures.trees
    (c.in_ok-terms.ensures.trees ∙ ap (λ l. given_all T S2 (terms_of (trees_at T S2 l)) c.deref.result.now c.args.cells.now) c.deref-2.ensures.value ∙ ap (λ l. given_all T S2 (terms_of (trees_at T S2 c.in_ok-forms.forms.items)) l c.args.cells.now) c.deref.ensures.value)
    c.in_ok-terms.ensures.held
