use Rattle.std.proofs.Common.{refl, subst}
use Rattle.std.specs.Prelude.{IfSome}
use Rattle.ab_walk.specs.ab_next_ways.specs.ab_judgements.specs.ab_alternatives.specs.Choices.{IsHeldFor}
use Rattle.ab_logic.specs.declared.world.World.{World}
use Rattle.ab_search_paths.proofs.EntriesKept.{later_terms}
use Rattle.ab_search_paths.proofs.StandIns.{terms_in}
use Rattle.ab_search_paths.proofs.ways_taken.by_choice.Goals as goal

pub returns-in_err-values-clause-later : goal.returns-in_err-values-clause-later
returns-in_err-values-clause-later c =
    let w = c.args.world.now in
    later_terms w (record { types = w.types; store = c.cells_given.new.store; additions = w.additions }) c.requires.world refl refl c.cells_given.ensures.adds

pub returns-clause-taken : goal.returns-clause-taken
returns-clause-taken c =
    let w = c.args.world.now in
    let held = subst (λ o. IfSome o (IsHeldFor w c.in-Some.atom)) c.in-Some-2.is c.in_ok-choice.ensures.held in
    let more = c.cells_given.ensures.adds.before in
    let v : World = record { types = w.types; store = c.cells_given.new.store; additions = w.additions } in
    let later = later_terms w v c.requires.world refl refl c.cells_given.ensures.adds in
    record {
      head = more.ids c.in-Some-2.choice.clause.now.head held.kept.held.head;
      body = more.ids c.in-Some-2.choice.clause.now.body held.kept.held.body;
      names = held.names;
      values = terms_in v later.grows.world c.in_ok-values.values.items c.in_ok-values.ensures.typed;
    }

pub returns-clause-later : goal.returns-clause-later
returns-clause-later c =
    let w = c.args.world.now in
    later_terms w (record { types = w.types; store = c.cells_given.new.store; additions = w.additions }) c.requires.world refl refl c.cells_given.ensures.adds
