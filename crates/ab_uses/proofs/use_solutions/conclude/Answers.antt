use Rattle.std.specs.List.{All}
use Rattle.std.proofs.Common.{◌++◌, ◌∷◌, [], map, Ok, refl, sym, ◌∙◌, ap, subst}
use Rattle.std.proofs.lemmas.List.Elements.{All-push}
use Rattle.ab_norm.specs.ab_store.specs.Trees.{Holds}
use Rattle.ab_norm.proofs.Frame.{still_held, typed_from, typed_on}
use Rattle.ab_unify.proofs.Growth.{grows_on, grows_terms}
use Rattle.ab_uses.specs.UseCells.{StageIsTyped}
use Rattle.ab_uses.specs.StageReadings.{stage_by}
use Rattle.ab_uses.specs.ClosedReadings.{closed_reading}
use Rattle.ab_alternatives.specs.ab_instances.specs.ListReadings.{names_read}
use Rattle.ab_uses.proofs.Concluding.{left_open, left_used}
use Rattle.ab_uses.proofs.Closing.{closed_same, stages_alike}
use Rattle.ab_uses.proofs.Moved.{stages_on}
use Rattle.ab_uses.proofs.use_solutions.conclude.Goals as goal

pub returns-in_err-awaited-clause-grows : goal.returns-in_err-awaited-clause-grows
returns-in_err-awaited-clause-grows g c = grows_terms c.args.types.now c.args.store.now c.resolve_all.new.store c.resolve_all.ensures.adds

pub returns-in_err-result-clause-grows : goal.returns-in_err-result-clause-grows
returns-in_err-result-clause-grows g c =
    let T = c.args.types.now in
    let S = c.args.store.now in
    let V = c.resolve_all.new.store in
    let W = c.copy_resolved.new.store in
    grows_terms T S W (typed_on T S V W c.resolve_all.ensures.adds (typed_from T V W c.copy_resolved.ensures.adds c.resolve_all.ensures.adds.typed))

pub returns-in_err-left-clause-grows : goal.returns-in_err-left-clause-grows
returns-in_err-left-clause-grows g c =
    let T = c.args.types.now in
    let S = c.args.store.now in
    let V = c.resolve_all.new.store in
    let W = c.copy_resolved.new.store in
    grows_terms T S W (typed_on T S V W c.resolve_all.ensures.adds (typed_from T V W c.copy_resolved.ensures.adds c.resolve_all.ensures.adds.typed))

pub returns-in_err-cell-clause-grows : goal.returns-in_err-cell-clause-grows
returns-in_err-cell-clause-grows g c =
    let T = c.args.types.now in
    let S = c.args.store.now in
    let V = c.resolve_all.new.store in
    let W = c.copy_resolved.new.store in
    grows_terms T S W (typed_on T S V W c.resolve_all.ensures.adds (typed_from T V W c.copy_resolved.ensures.adds c.resolve_all.ensures.adds.typed))

pub returns-in_err-name-clause-grows : goal.returns-in_err-name-clause-grows
returns-in_err-name-clause-grows g c =
    let T = c.args.types.now in
    let S = c.args.store.now in
    let V = c.resolve_all.new.store in
    let W = c.copy_resolved.new.store in
    grows_terms T S W (typed_on T S V W c.resolve_all.ensures.adds (typed_from T V W c.copy_resolved.ensures.adds c.resolve_all.ensures.adds.typed))

pub returns-in-Some-clause-grows : goal.returns-in-Some-clause-grows
returns-in-Some-clause-grows g c =
    let T = c.args.types.now in
    let S = c.args.store.now in
    let V = c.resolve_all.new.store in
    let W = c.copy_resolved.new.store in
    grows_terms T S W (typed_on T S V W c.resolve_all.ensures.adds (typed_from T V W c.copy_resolved.ensures.adds c.resolve_all.ensures.adds.typed))

pub first_open-requires-clause-terms : goal.first_open-requires-clause-terms
first_open-requires-clause-terms g c =
    let V = c.resolve_all.new.store in
    let W = c.copy_resolved.new.store in
    let ts = c.in_ok-awaited.awaited.items in
    let r = c.in_ok-result.result in
    let whole = c.deref-2.ensures.value ∙ c.in_ok-left.ensures ∙ ap (λ l. l ++ r ∷ []) c.deref.ensures.value in
    subst (All (Holds W)) (sym whole) (All-push (Holds W) ts r (still_held V W ts c.copy_resolved.ensures.adds c.in_ok-awaited.ensures.held) c.in_ok-result.ensures.held)

pub close_stages-requires-clause-stages : goal.close_stages-requires-clause-stages
close_stages-requires-clause-stages g c =
    let T = c.args.types.now in
    let S = c.args.store.now in
    let V = c.resolve_all.new.store in
    let W = c.copy_resolved.new.store in
    let grows = grows_terms T S W (typed_on T S V W c.resolve_all.ensures.adds (typed_from T V W c.copy_resolved.ensures.adds c.resolve_all.ensures.adds.typed)) in
    subst (All (StageIsTyped T W)) (sym c.deref-3.ensures.value) (stages_on T T S W grows c.args.made.now.stages.items c.requires.stages)

pub returns-in-Some-clause-left : goal.returns-in-Some-clause-left
returns-in-Some-clause-left g c =
    let T = c.args.types.now in
    let S = c.args.store.now in
    let V = c.resolve_all.new.store in
    let W = c.copy_resolved.new.store in
    let cells = c.args.cells.now in
    let ts = c.in_ok-awaited.awaited.items in
    let r = c.in_ok-result.result in
    let whole = c.deref-2.ensures.value ∙ c.in_ok-left.ensures ∙ ap (λ l. l ++ r ∷ []) c.deref.ensures.value in
    let first = c.first_open.ensures.some c.in-Some.cell (c.in_ok-cell.was ∙ ap Ok c.in-Some.is) T in
    left_open T S V W c.resolve_all.ensures.adds c.copy_resolved.ensures.adds c.args.awaited.now c.args.made.now.result ts r c.in_ok-awaited.ensures.trees c.in_ok-awaited.ensures.held c.in_ok-result.ensures.tree c.requires.formula.0
    cells c.deref-2.result.now whole c.in-Some.cell first.0 first.1 c.in_ok-name.name (c.in_ok-name.ensures ∙ c.cell_name.ensures) c.args.made.now.stages.items (names_read T c.args.known.now.items) W

pub returns-in_err-stages-clause-grows : goal.returns-in_err-stages-clause-grows
returns-in_err-stages-clause-grows g c =
    let T = c.args.types.now in
    let S = c.args.store.now in
    let V = c.resolve_all.new.store in
    let W = c.copy_resolved.new.store in
    grows_on T T T S W c.close_stages.new.store (grows_terms T S W (typed_on T S V W c.resolve_all.ensures.adds (typed_from T V W c.copy_resolved.ensures.adds c.resolve_all.ensures.adds.typed))) c.close_stages.ensures.grows

pub returns-clause-left : goal.returns-clause-left
returns-clause-left g c =
    let T = c.args.types.now in
    let S = c.args.store.now in
    let V = c.resolve_all.new.store in
    let W = c.copy_resolved.new.store in
    let N = c.close_stages.new.store in
    let cells = c.args.cells.now in
    let ts = c.in_ok-awaited.awaited.items in
    let r = c.in_ok-result.result in
    let whole = c.deref-2.ensures.value ∙ c.in_ok-left.ensures ∙ ap (λ l. l ++ r ∷ []) c.deref.ensures.value in
    let none = c.first_open.ensures.none (c.in_ok-cell.was ∙ ap Ok c.in_default.is) T in
    let stages = c.args.made.now.stages.items in
    let known = names_read T c.args.known.now.items in
    let adds = typed_on T S V W c.resolve_all.ensures.adds (typed_from T V W c.copy_resolved.ensures.adds c.resolve_all.ensures.adds.typed) in
    left_used T S V W c.resolve_all.ensures.adds c.copy_resolved.ensures.adds c.args.awaited.now c.args.made.now.result ts r c.in_ok-awaited.ensures.trees c.in_ok-awaited.ensures.held c.in_ok-result.ensures.tree c.requires.formula.0
    cells c.deref-2.result.now whole none c.in_ok-result.ensures.held N c.close_stages.ensures.grows (record { stages = c.in_ok-stages.stages; awaited = c.in_ok-awaited.awaited; result = r }) c.in_ok-stages.ensures.typed refl refl
    stages known
    (c.in_ok-stages.ensures.reads
    ∙ ap (map (stage_by T (closed_reading T W known cells))) c.deref-3.ensures.value
    ∙ stages_alike T S (closed_reading T W known cells) (closed_reading T S known cells) (closed_same T S W adds known cells) stages c.requires.stages)

pub returns-clause-grows : goal.returns-clause-grows
returns-clause-grows g c =
    let T = c.args.types.now in
    let S = c.args.store.now in
    let V = c.resolve_all.new.store in
    let W = c.copy_resolved.new.store in
    grows_on T T T S W c.close_stages.new.store (grows_terms T S W (typed_on T S V W c.resolve_all.ensures.adds (typed_from T V W c.copy_resolved.ensures.adds c.resolve_all.ensures.adds.typed))) c.close_stages.ensures.grows
