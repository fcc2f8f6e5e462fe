use Rattle.std.proofs.Common.{map}
use Rattle.ab_store.specs.Trees.{tree_of}
use Rattle.ab_formulas.specs.GoalTerms.{names_of}
use Rattle.ab_typing.proofs.Noted.{decided}
use Rattle.ab_formulas.proofs.FitsWalks.{if_ok, is_true}
use Rattle.ab_typing.proofs.nominal_types.have_one_type_each.Goals as goal

pub note_all-requires-clause-known : goal.note_all-requires-clause-known
note_all-requires-clause-known c = c.no_numbers-known.ensures.known c.args.types.now c.args.store.now

pub returns : goal.returns
returns c =
    if_ok c.note_all.result (λ yes notes. is_true yes (decided c.args.types.now c.args.store.now c.no_numbers-known.result c.note_all.new.known (names_of (map (tree_of c.args.types.now c.args.store.now) c.args.terms.now)) yes
    (c.no_numbers-known.ensures.none c.args.types.now) notes)) c.note_all.ensures
