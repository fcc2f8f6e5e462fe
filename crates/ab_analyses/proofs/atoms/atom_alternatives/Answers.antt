use Rattle.std.proofs.Common.{List, refl, sym, ◌∙◌, ap, subst}
use Rattle.ab_norm.specs.Nominals.{HoldsNominal}
use Rattle.ab_norm.specs.ab_store.specs.declared.node.TermId.{TermId}
use Rattle.std.specs.List.{All}
use Rattle.ab_alternatives.specs.ab_instances.specs.ListReadings.{names_read, given_at}
use Rattle.ab_alternatives.specs.LeftAlternatives.{constants_in}
use Rattle.ab_alternatives.proofs.Later.{taken_by}
use Rattle.ab_alternatives.proofs.Tried.{different_cells}
use Rattle.ab_analyses.proofs.atoms.atom_alternatives.Goals as goal

pub by_choices-requires-clause-ready : goal.by_choices-requires-clause-ready
by_choices-requires-clause-ready g c =
    let w = c.args.world.now in
    record {
      world = c.requires.world;
      goal = c.requires.goal;
      different = different_cells w c.args.goal.now.variables c.requires.sequent.numbers_differ;
      atom = record { predicate = c.requires.atom.predicate; arguments = c.requires.atom.arguments; block = c.requires.atom.block };
      unmarked = refl;
      taken = taken_by w c.requires.world c.args.atom c.requires.typed;
      constants = ap (names_read w.types) c.deref-2.ensures.value ∙ c.in_ok-constants.ensures.list ∙ ap (λ (l : List TermId). constants_in (given_at w.types w.store l)) c.deref.ensures.value;
      constants_held = subst (All (HoldsNominal w.types)) (sym c.deref-2.ensures.value) c.in_ok-constants.ensures.held;
    }
