use Rattle.std.proofs.Common.{◌++◌, map, false, subst}
use Rattle.ab_term.specs.Names.{support}
use Rattle.ab_store.specs.Trees.{tree_of}
use Rattle.ab_formulas.specs.GoalTerms.{names_of}
use Rattle.ab_typing.specs.NominalTypes.{Notes}
use Rattle.ab_typing.proofs.Noted.{decided, notes_on, notes_stop}
use Rattle.ab_formulas.proofs.FitsWalks.{if_ok, is_true}
use Rattle.ab_typing.proofs.nominal_types.have_one_type_beside.Goals as goal

pub note_all-requires-clause-known : goal.note_all-requires-clause-known
note_all-requires-clause-known c = c.no_numbers-known.ensures.known c.args.types.now c.args.store.now

pub returns-then-not-branch : goal.returns-then-not-branch
returns-then-not-branch c =
    let before = names_of (map (tree_of c.args.types.now c.args.store.now) c.args.terms.now) in
    let one = support (tree_of c.args.types.now c.args.store.now c.args.id) in
    is_true false (decided c.args.types.now c.args.store.now c.no_numbers-known.result c.note_all.new.known (before ++ one) false (c.no_numbers-known.ensures.none c.args.types.now)
    (notes_stop c.args.types.now c.args.store.now c.no_numbers-known.result c.note_all.new.known c.note_all.new.known before one
    (subst (Notes c.args.types.now c.args.store.now c.no_numbers-known.result c.note_all.new.known before) c.if-not-branch.true c.in_ok-note_all.ensures)))

pub returns : goal.returns
returns c =
    let before = names_of (map (tree_of c.args.types.now c.args.store.now) c.args.terms.now) in
    let one = support (tree_of c.args.types.now c.args.store.now c.args.id) in
    if_ok c.note.result (λ yes notes. is_true yes (decided c.args.types.now c.args.store.now c.no_numbers-known.result c.note.new.known (before ++ one) yes (c.no_numbers-known.ensures.none c.args.types.now)
    (notes_on c.args.types.now c.args.store.now c.no_numbers-known.result c.note_all.new.known c.note.new.known before one yes
    (subst (Notes c.args.types.now c.args.store.now c.no_numbers-known.result c.note_all.new.known before) c.if-not-branch.false c.in_ok-note_all.ensures) notes))) c.note.ensures
