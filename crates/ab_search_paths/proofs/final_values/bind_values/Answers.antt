use Rattle.std.proofs.Common.{◌-◌, length, sym, ap, ◌∙◌, subst}
use Rattle.std.specs.List.{All}
use Rattle.std.specs.Option.{option_copied}
use Rattle.std.proofs.lemmas.List.Elements.{All-weaker}
use Rattle.ab_norm.specs.ab_store.specs.Trees.{HoldsCell}
use Rattle.ab_walk.specs.ab_next_ways.specs.ab_search_ways.specs.Answers.{HoldsPlace}
use Rattle.ab_walk.specs.declared.frames.Frame.{Frame}
use Rattle.ab_search_paths.proofs.EntriesKept.{at_holds}
use Rattle.ab_search_paths.proofs.final_values.bind_values.Goals as goal

pub fill_all-requires-clause-left_open : goal.fill_all-requires-clause-left_open
fill_all-requires-clause-left_open g c =
    let T = c.args.types.now in
    let S = c.args.store.now in
    let V = c.bind_answers.new.store in
    let path = c.args.path.now in
    let place = at_holds (λ (f : Frame). HoldsPlace T S f.place) path (length path - 1) c.in-Some.last.now (sym c.last.ensures.value ∙ ap option_copied c.in-Some.is) c.requires.path in
    subst (All (HoldsCell V)) (sym c.deref.ensures.value) (All-weaker (HoldsCell S) (HoldsCell V) (λ d h. (c.bind_answers.ensures.grows.cells d h).0) c.in-Some.last.now.place.flexible.items place.flexible)
