use Rattle.std.proofs.Common.{sym, ap, ◌∙◌}
use Rattle.std.specs.Option.{option_copied}
use Rattle.ab_term.specs.Types.{prop}
use Rattle.ab_walk.specs.ab_next_ways.specs.ab_search_ways.specs.Answers.{IsNamedGoal}
use Rattle.ab_walk.specs.ab_next_ways.specs.ab_search_ways.proofs.LaterWorlds.{later_formula}
use Rattle.ab_search_paths.proofs.EntriesKept.{at_holds}
use Rattle.ab_search_paths.proofs.StandIns.{of_declared}
use Rattle.ab_search_paths.proofs.answer_paths.open_entry.Goals as goal

pub way_taken-requires-clause-goal : goal.way_taken-requires-clause-goal
way_taken-requires-clause-goal g c =
    let w = c.args.world.now in
    let P = IsNamedGoal w.types w.store in
    at_holds P c.args.before.now.place.goals 0 c.in-Some.goal.now (sym c.first.ensures ∙ ap option_copied c.in-Some.is) c.requires.before.goals

pub returns-clause-entry : goal.returns-clause-entry
returns-clause-entry g c =
    let w = c.args.world.now in
    let P = IsNamedGoal w.types w.store in
    let goal = at_holds P c.args.before.now.place.goals 0 c.in-Some.goal.now (sym c.first.ensures ∙ ap option_copied c.in-Some.is) c.requires.before.goals in
    let v = c.way_taken.new.world in
    let later = c.way_taken.ensures.later.grows in
    record {
      conclusion = of_declared v later.world c.in-Some.goal.now.conclusion prop (later_formula w v later c.in-Some.goal.now.conclusion goal.typed.conclusion);
      taken = c.in_ok-taken.ensures.taken;
    }
