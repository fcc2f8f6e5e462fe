use Rattle.std.proofs.Common.{sym, ◌∙◌, ap, arith}
use Rattle.std.specs.Option.{option_map}
use Rattle.ab_unify.specs.Problem.{cells_read}
use Rattle.ab_alternatives.specs.ab_instances.proofs.Made.{names_held}
use Rattle.ab_alternatives.specs.Choices.{read_choice}
use Rattle.ab_alternatives.proofs.Passed.{later_on}
use Rattle.ab_analyses.proofs.NextAlternative.{still_ready, whole_made, next_made}
use Rattle.ab_analyses.proofs.atoms.by_choices.Goals as goal

pub choice_at-requires-clause-atom : goal.choice_at-requires-clause-atom
choice_at-requires-clause-atom g c = (still_ready c.args.world.now c.loop-place.world c.loop-place.invariant.later c.args.goal.now c.args.atom.now c.args.constants.now c.requires.ready).atom

pub choice_at-requires-clause-constants : goal.choice_at-requires-clause-constants
choice_at-requires-clause-constants g c = (still_ready c.args.world.now c.loop-place.world c.loop-place.invariant.later c.args.goal.now c.args.atom.now c.args.constants.now c.requires.ready).constants

pub choice_at-requires-clause-constants_held : goal.choice_at-requires-clause-constants_held
choice_at-requires-clause-constants_held g c = (still_ready c.args.world.now c.loop-place.world c.loop-place.invariant.later c.args.goal.now c.args.atom.now c.args.constants.now c.requires.ready).constants_held

pub choice_at-requires-clause-held : goal.choice_at-requires-clause-held
choice_at-requires-clause-held g c = names_held c.args.world.now.types c.loop-place.world.types c.loop-place.invariant.later.grows.types c.args.held.now c.requires.held

pub by_choice-requires-clause-ready : goal.by_choice-requires-clause-ready
by_choice-requires-clause-ready g c = still_ready c.args.world.now c.loop-place.world c.loop-place.invariant.later c.args.goal.now c.args.atom.now c.args.constants.now c.requires.ready

pub returns-in_default-clause-list : goal.returns-in_default-clause-list
returns-in_default-clause-list g c =
    let w = c.args.world.now in
    let i = c.loop-place.invariant in
    whole_made w c.loop-place.world i.later c.args.goal.now c.args.atom.now c.args.constants.now c.requires.ready c.args.held.now c.requires.held c.requires.choices c.args.on_left
    c.loop-place.list.items c.loop-place.place (cells_read w.types w.store) i.made (sym c.in_ok-choice.ensures.choice ∙ ap (option_map (read_choice c.loop-place.world)) c.in_default.is)

pub returns-in_err-made-clause-later : goal.returns-in_err-made-clause-later
returns-in_err-made-clause-later g c = later_on c.args.world.now c.loop-place.world c.by_choice.new.world c.loop-place.invariant.later c.by_choice.ensures.later

pub returns-in_err-push-clause-later : goal.returns-in_err-push-clause-later
returns-in_err-push-clause-later g c = later_on c.args.world.now c.loop-place.world c.by_choice.new.world c.loop-place.invariant.later c.by_choice.ensures.later

pub loop-place-preserved : goal.loop-place-preserved
loop-place-preserved g c =
    let w = c.args.world.now in
    let v = c.loop-place.world in
    let i = c.loop-place.invariant in
    let e = c.in_ok-made.ensures in
    record {
      made = next_made w v i.later c.args.goal.now c.args.atom.now c.args.constants.now c.requires.ready c.args.held.now c.requires.held c.requires.choices c.args.on_left
          c.loop-place.list.items c.loop-place.place (cells_read w.types w.store) i.made c.by_choice.new.world c.push.new.self.items c.in_ok-made.made c.in-Some.choice
          (sym (ap (option_map (read_choice v)) c.in-Some.is) ∙ c.in_ok-choice.ensures.choice) c.by_choice.ensures.later e.stands e.held e.cells c.in_ok-push.ensures.items;
      later = later_on w v c.by_choice.new.world i.later c.by_choice.ensures.later;
      steps = omega (arith, i.steps, c.by_choice.ensures.steps);
    }
