use Rattle.std.proofs.Common.{sym, subst}
use Rattle.ab_walk.specs.ab_next_ways.specs.ab_search_ways.specs.Answers.{HoldsPlace}
use Rattle.ab_walk.specs.ab_next_ways.specs.ab_search_ways.proofs.PlacesKept.{place_grown}
use Rattle.ab_walk.specs.declared.frames.Frame.{Frame}
use Rattle.ab_search_paths.proofs.final_values.bind_answers.Goals as goal

pub bind_answer-requires-clause-place : goal.bind_answer-requires-clause-place
bind_answer-requires-clause-place g c =
    let T = c.args.types.now in
    let S = c.args.store.now in
    let l = c.loop-frame in
    let f = c.frame-item.result in
    place_grown T T S l.store c.requires.store l.invariant.grows f.place (subst (λ (k : Frame). HoldsPlace T S k.place) (sym c.frame-item.is) (c.requires.path l.frame-index f c.loop-frame-test.true))
