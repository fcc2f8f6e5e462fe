use Rattle.std.proofs.Common.{◌<◌, length, [], ◌∷◌, ◌++◌, map, take, get_or, take_all, sym, ◌∙◌, ap, subst, arith}
use Rattle.std.specs.List.{All}
use Rattle.std.proofs.lemmas.List.{map-append, map_more}
use Rattle.std.proofs.lemmas.List.Elements.{All-nil, All-push}
use Rattle.ab_norm.specs.ab_store.specs.Trees.{tree_of}
use Rattle.ab_norm.specs.ab_store.specs.Reading.{reading}
use Rattle.ab_norm.proofs.Frame.{adds_none, typed_from, typed_on}
use Rattle.ab_unify.proofs.Growth.{grows_on, grows_terms}
use Rattle.ab_alternatives.specs.ab_instances.specs.ListReadings.{names_read}
use Rattle.ab_uses.specs.StageReadings.{stage_by}
use Rattle.ab_uses.specs.ClosedReadings.{closed_reading}
use Rattle.ab_uses.specs.UseCells.{StageIsTyped, stages_read}
use Rattle.ab_uses.specs.declared.stage.Stage.{Stage}
use Rattle.ab_uses.specs.declared.stage.Stage.TheVariants.{Instance}
use Rattle.ab_uses.proofs.Closing.{stage_alike, stages_alike}
use Rattle.ab_uses.proofs.Moved.{stage_on, stages_on, stages_same}
use Rattle.ab_uses.proofs.closed_parts.close_stages.Goals as goal

pub loop-stage-init : goal.loop-stage-init
loop-stage-init g c =
    let T = c.args.types.now in
    let X = c.fill_all.new.store in
    record {
      grows = c.fill_all.ensures.grows;
      adds = typed_from T X X (adds_none X) c.fill_all.ensures.grows.typed;
      typed = subst (All (StageIsTyped T X)) (sym c.new-list.ensures.items) (All-nil (StageIsTyped T X));
      reads = ap (stages_read T X) c.new-list.ensures.items;
      steps = omega arith;
    }

pub resolve_stage-requires-clause-stage : goal.resolve_stage-requires-clause-stage
resolve_stage-requires-clause-stage g c =
    let T = c.args.types.now in
    let i = c.loop-stage.stage-index in
    stage_on T T c.args.store.now c.loop-stage.store c.loop-stage.invariant.grows (get_or c.args.stages.now i (Instance (record { 0 = 0 }))) (c.requires.stages i (Instance (record { 0 = 0 })) (omega arith))

pub returns-in_err-resolve_stage-clause-grows : goal.returns-in_err-resolve_stage-clause-grows
returns-in_err-resolve_stage-clause-grows g c =
    let T = c.args.types.now in
    let V = c.loop-stage.store in
    let W = c.resolve_stage.new.store in
    grows_on T T T c.args.store.now V W c.loop-stage.invariant.grows (grows_terms T V W c.resolve_stage.ensures.adds)

pub returns-in_err-push-clause-grows : goal.returns-in_err-push-clause-grows
returns-in_err-push-clause-grows g c =
    let T = c.args.types.now in
    let V = c.loop-stage.store in
    let W = c.resolve_stage.new.store in
    grows_on T T T c.args.store.now V W c.loop-stage.invariant.grows (grows_terms T V W c.resolve_stage.ensures.adds)

pub loop-stage-preserved : goal.loop-stage-preserved
loop-stage-preserved g c =
    let T = c.args.types.now in
    let S = c.args.store.now in
    let X = c.fill_all.new.store in
    let V = c.loop-stage.store in
    let W = c.resolve_stage.new.store in
    let list = c.loop-stage.list.items in
    let stages = c.args.stages.now in
    let i = c.loop-stage.stage-index in
    let was = c.loop-stage.invariant in
    let d : Stage = Instance (record { 0 = 0 }) in
    let here : i < length stages = omega arith in
    let resolved = c.in_ok-resolve_stage.field-0 in
    let more = grows_terms T V W c.resolve_stage.ensures.adds in
    let same = stage_alike T X (reading T V) (reading T X) (was.adds.before.readings T) (get_or stages i d) (stage_on T T S X c.fill_all.ensures.grows (get_or stages i d) (c.requires.stages i d here)) in
    let before = was.steps in
    let now = c.resolve_stage.ensures.steps in
    record {
      grows = grows_on T T T S V W was.grows more;
      adds = typed_on T X V W was.adds c.resolve_stage.ensures.adds;
      typed = rw c.in_ok-push.ensures.items (All-push (StageIsTyped T W) list resolved (stages_on T T V W more list was.typed) c.in_ok-resolve_stage.ensures.typed);
      reads = ap (stages_read T W) c.in_ok-push.ensures.items
          ∙ map-append (stage_by T (tree_of T W)) list (resolved ∷ [])
          ∙ ap (λ l. l ++ stage_by T (tree_of T W) resolved ∷ []) (stages_same T T V W more list was.typed ∙ was.reads)
          ∙ ap (λ p. map (stage_by T (reading T X)) (take i stages) ++ p ∷ []) (c.in_ok-resolve_stage.ensures.reads ∙ same)
          ∙ sym (map_more (stage_by T (reading T X)) stages i d here);
      steps = omega (arith, before, now);
    }

pub returns-clause-reads : goal.returns-clause-reads
returns-clause-reads g c =
    let T = c.args.types.now in
    let S = c.args.store.now in
    let X = c.fill_all.new.store in
    let stages = c.args.stages.now in
    c.loop-stage.invariant.reads
    ∙ ap (map (stage_by T (reading T X))) (take_all c.loop-stage.stage-index stages c.loop-stage-test.false)
    ∙ stages_alike T S (reading T X) (closed_reading T S (names_read T c.args.known.now.items) c.args.cells.now) c.in_ok-fill_all.ensures.reads stages c.requires.stages
