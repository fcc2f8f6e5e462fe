use Rattle.std.proofs.Common.{length, codes, sym, subst}
use Rattle.std.specs.List.{All}
use Rattle.std.proofs.lemmas.List.{length-map}
use Rattle.ab_unifiers.specs.Alternatives.{cells_over}
use Rattle.ab_unify.specs.Problem.{cell_read, cells_read}
use Rattle.ab_unify.specs.StoreChanges.{IsFree}
use Rattle.ab_unify.proofs.Growth.{grows_on}
use Rattle.ab_walk.specs.ab_next_ways.specs.ab_judgements.specs.ab_alternatives.specs.AtomReadings.{defined_read, choice_read}
use Rattle.ab_walk.specs.ab_next_ways.specs.ab_judgements.specs.ab_alternatives.specs.LeftAlternatives.{unchosen_in}
use Rattle.ab_walk.specs.ab_next_ways.specs.ab_judgements.specs.ab_alternatives.proofs.Unfoldable.{taken_by, clause_defines}
use Rattle.ab_search_paths.proofs.Parts.{own_free}
use Rattle.ab_search_paths.proofs.open_parts.open_of_choice.Goals as goal

pub make_unfolding-requires-clause-taken : goal.make_unfolding-requires-clause-taken
make_unfolding-requires-clause-taken g c =
    let f = c.requires.formula in
    taken_by c.args.world.now c.requires.world f.0 f.1 c.args.atom.now f.2

pub make_unfolding-requires-clause-formula : goal.make_unfolding-requires-clause-formula
make_unfolding-requires-clause-formula g c = (clause_defines c.args.world.now c.args.atom.now c.requires.atom c.args.choice.now.clause.now c.requires.choice.clause).body

pub open_places-requires-clause-own : goal.open_places-requires-clause-own
open_places-requires-clause-own g c =
    let w = c.args.world.now in
    let V = c.make_unfolding.new.store in
    let a = defined_read w c.args.atom.now in
    let k = choice_read w c.args.choice.now.clause.now c.as_slice-names.result.now in
    let made = c.in_ok-made.ensures.made in
    subst (All (IsFree V)) (sym c.deref-2.ensures.value)
    (own_free c.make_unfolding.new.types V (cells_read w.types w.store) (cells_over (codes "x") (unchosen_in a.arguments k) k.clause.variables) (length w.store.cells) c.in_ok-made.made.own.items c.make_unfolding.ensures.unbound made.cells
    (sym (length-map w.store.cells (cell_read w.types))) made.own)

pub returns-clause-grows : goal.returns-clause-grows
returns-clause-grows g c =
    let w = c.args.world.now in
    let x = c.open_places.new.world in
    grows_on w.types c.make_unfolding.new.types x.types w.store c.make_unfolding.new.store x.store c.make_unfolding.ensures.grows c.open_places.ensures.grows
