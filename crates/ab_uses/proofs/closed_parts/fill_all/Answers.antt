use Rattle.std.proofs.Common.{◌≡◌, suc, ◌+◌, ◌<◌, ◌∷◌, drop, get_or, drop-cons, sym, ◌∙◌, ap, subst, arith}
use Rattle.std.specs.List.{All}
use Rattle.std.proofs.lemmas.List.{drop_all}
use Rattle.std.proofs.lemmas.List.Elements.{All-drop, All-weaker}
use Rattle.ab_term.proofs.Lists.{AllPairs-parts}
use Rattle.ab_norm.specs.ab_store.specs.declared.node.CellId.{CellId}
use Rattle.ab_norm.specs.ab_store.specs.Trees.{HoldsCell}
use Rattle.ab_unify.specs.UnifyAnswers.{AreInAge}
use Rattle.ab_unify.proofs.Growth.{grows_on}
use Rattle.ab_alternatives.specs.ab_instances.specs.ListReadings.{names_read}
use Rattle.ab_uses.specs.ClosedReadings.{open_among, closed_reading}
use Rattle.ab_uses.proofs.Closing.{later_same, closed_step}
use Rattle.ab_uses.proofs.closed_parts.fill_all.Goals as goal

pub fill-requires-clause-cell : goal.fill-requires-clause-cell
fill-requires-clause-cell g c = (c.loop-cell.invariant.grows.cells (get_or c.args.cells.now c.loop-cell.cell-index (record { 0 = 0 })) (c.requires.cells c.loop-cell.cell-index (record { 0 = 0 }) (omega arith))).0

pub returns-in_err-fill-clause-grows : goal.returns-in_err-fill-clause-grows
returns-in_err-fill-clause-grows g c =
    let T = c.args.types.now in
    grows_on T T T c.args.store.now c.loop-cell.store c.fill.new.store c.loop-cell.invariant.grows c.fill.ensures.grows

pub loop-cell-preserved : goal.loop-cell-preserved
loop-cell-preserved g c =
    let T = c.args.types.now in
    let S = c.args.store.now in
    let V = c.loop-cell.store in
    let W = c.fill.new.store in
    let cells = c.args.cells.now in
    let i = c.loop-cell.cell-index in
    let was = c.loop-cell.invariant in
    let cell : CellId = get_or cells i (record { 0 = 0 }) in
    let rest = drop (i + 1) cells in
    let next : suc i ≡ i + 1 = omega arith in
    let split : drop i cells ≡ cell ∷ rest = drop-cons cells i (record { 0 = 0 }) (omega arith) ∙ ap (λ n. cell ∷ drop n cells) next in
    let parts = AllPairs-parts (λ (a b : CellId). a.0 < b.0) cell rest (subst AreInAge split was.in_age) in
    let there : All (HoldsCell V) rest = All-drop (HoldsCell V) (i + 1) cells (All-weaker (HoldsCell S) (HoldsCell V) (λ d h. (was.grows.cells d h).0) cells c.requires.cells) in
    let same : open_among T W rest ≡ open_among T V rest = later_same T V W c.fill.ensures.grows cell rest there parts.0 c.in_ok-fill.ensures.others in
    let known = names_read T c.loop-cell.known.items in
    let before = was.steps in
    let here = c.fill.ensures.steps in
    record {
      grows = grows_on T T T S V W was.grows c.fill.ensures.grows;
      known = c.fill.ensures.known;
      in_age = parts.1;
      left = λ t h.
          closed_step T V W known (names_read T c.fill.new.known.items) cell rest t (c.in_ok-fill.ensures.reads t (was.grows.trees t h).0) c.in_ok-fill.ensures.names same
          ∙ ap (λ l. closed_reading T V known l t) (sym split)
          ∙ was.left t h;
      steps = omega (arith, before, here);
    }

pub returns-clause-reads : goal.returns-clause-reads
returns-clause-reads g c t h =
    let T = c.args.types.now in
    let V = c.loop-cell.store in
    let known = names_read T c.loop-cell.known.items in
    ap (λ l. closed_reading T V known l t) (sym (drop_all c.loop-cell.cell-index c.args.cells.now c.loop-cell-test.false)) ∙ c.loop-cell.invariant.left t h
