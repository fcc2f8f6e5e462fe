use Rattle.std.proofs.Common.{sym, ap, ◌∙◌, subst}
use Rattle.std.specs.List.{All}
use Rattle.std.specs.Option.{option_copied}
use Rattle.ab_norm.specs.Nominals.{HoldsNominal}
use Rattle.ab_walk.specs.ab_next_ways.specs.ab_search_ways.specs.Answers.{IsNamedGoal, HoldsPlace}
use Rattle.ab_walk.specs.declared.frames.Frame.{Frame}
use Rattle.ab_search_paths.proofs.EntriesKept.{at_holds}
use Rattle.ab_search_paths.proofs.final_values.held_constants.Goals as goal

pub outside-requires-clause-names : goal.outside-requires-clause-names
outside-requires-clause-names c =
    let T = c.args.types.now in
    let S = c.requires.path.0 in
    let P = IsNamedGoal T S in
    let place = subst (λ (k : Frame). HoldsPlace T S k.place) (sym c.frame-item.is) (c.requires.path.1 c.loop-frame.frame-index c.frame-item.result c.loop-frame-test.true) in
    let goal = at_holds P c.frame-item.result.place.goals 0 c.in-Some.goal.now (sym c.first.ensures ∙ ap option_copied c.in-Some.is) place.goals in
    subst (All (HoldsNominal T)) (sym c.deref.ensures.value) goal.constants
