use Rattle.std.proofs.Common.{◌∙◌, ap, sym}
use Rattle.ab_norm.specs.ab_store.proofs.Growing.{extended_on}
use Rattle.ab_unifiers.specs.Patterns.{kept_type}
use Rattle.ab_patterns.proofs.Renewed.{heads_typed, cell_type_same, tree_same, term_same, still_fits, renewed_reads, on_err_then}
use Rattle.ab_patterns.proofs.renewed_cells.renew.Goals as goal

pub returns-in_err-made-clause-trees : goal.returns-in_err-made-clause-trees
returns-in_err-made-clause-trees g c = λ r held.
    (c.in_err-made.ensures.before.ids r held, tree_same c.args.types.now c.make.new.types c.in_err-made.ensures.kept c.args.store.now c.make.new.store c.in_err-made.ensures.before c.requires.store r held)

pub returns-in_err-made-clause-terms : goal.returns-in_err-made-clause-terms
returns-in_err-made-clause-terms g c = λ G r A is.
    term_same c.args.types.now c.make.new.types c.in_err-made.ensures.kept c.args.store.now c.make.new.store c.in_err-made.ensures.before c.requires.store G r A is

pub narrow-requires-clause-ty : goal.narrow-requires-clause-ty
narrow-requires-clause-ty g c =
    c.in_ok-made.ensures.ty
    ∙ ap (kept_type c.args.keep.now) (sym (cell_type_same c.args.types.now c.make.new.types c.in_ok-made.ensures.kept c.args.store.now c.make.new.store c.in_ok-made.ensures.before c.requires.store c.args.cell c.requires.cell))

pub narrow-requires-clause-names_typed : goal.narrow-requires-clause-names_typed
narrow-requires-clause-names_typed g c =
    heads_typed c.args.types.now c.make.new.types c.in_ok-made.ensures.kept c.args.store.now c.make.new.store c.in_ok-made.ensures.before c.requires.store c.args.names.now c.requires.names_typed

pub narrow-requires-clause-fits : goal.narrow-requires-clause-fits
narrow-requires-clause-fits g c = (
  c.requires.fits.0,
  c.requires.fits.1,
  still_fits c.args.types.now c.make.new.types c.in_ok-made.ensures.kept c.args.store.now c.make.new.store c.in_ok-made.ensures.before c.requires.store c.args.cell c.requires.cell c.args.names.now c.requires.are_names c.requires.names_typed c.requires.fits.0 c.requires.fits.1 c.requires.fits.2,
)

pub returns-in_err-narrow-clause-trees : goal.returns-in_err-narrow-clause-trees
returns-in_err-narrow-clause-trees g c = λ r held.
    let there = c.in_err-narrow.ensures.trees r (c.in_ok-made.ensures.before.ids r held) in
    (there.0, there.1 ∙ tree_same c.args.types.now c.make.new.types c.in_ok-made.ensures.kept c.args.store.now c.make.new.store c.in_ok-made.ensures.before c.requires.store r held)

pub returns-in_err-narrow-clause-terms : goal.returns-in_err-narrow-clause-terms
returns-in_err-narrow-clause-terms g c = λ G r A is.
    c.in_err-narrow.ensures.terms G r A (term_same c.args.types.now c.make.new.types c.in_ok-made.ensures.kept c.args.store.now c.make.new.store c.in_ok-made.ensures.before c.requires.store G r A is)

pub returns-in_err-narrow-clause-err : goal.returns-in_err-narrow-clause-err
returns-in_err-narrow-clause-err g c =
    on_err_then c.from_residual-in_err-narrow.result (extended_on c.args.store.now c.make.new.store c.narrow.new.store c.in_ok-made.ensures.before c.in_err-narrow.ensures.err)

pub returns-clause-reads : goal.returns-clause-reads
returns-clause-reads g c = λ r held.
    renewed_reads c.args.types.now c.make.new.types c.in_ok-made.ensures.kept c.args.store.now c.make.new.store c.in_ok-made.ensures.before c.requires.store c.args.cell c.requires.cell c.args.names.now c.requires.are_names c.requires.names_typed
    c.in_ok-made.made c.args.keep.now c.in_ok-made.ensures.number c.in_ok-made.ensures.ty c.narrow.new.store r held (c.in_ok-narrow.ensures.reads r (c.in_ok-made.ensures.before.ids r held))

pub returns-clause-trees : goal.returns-clause-trees
returns-clause-trees g c = λ r held.
    let there = c.in_ok-narrow.ensures.trees r (c.in_ok-made.ensures.before.ids r held) in
    (there.0, there.1 ∙ tree_same c.args.types.now c.make.new.types c.in_ok-made.ensures.kept c.args.store.now c.make.new.store c.in_ok-made.ensures.before c.requires.store r held)

pub returns-clause-terms : goal.returns-clause-terms
returns-clause-terms g c = λ G r A is.
    c.in_ok-narrow.ensures.terms G r A (term_same c.args.types.now c.make.new.types c.in_ok-made.ensures.kept c.args.store.now c.make.new.store c.in_ok-made.ensures.before c.requires.store G r A is)
