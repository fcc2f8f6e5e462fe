use Rattle.std.proofs.Common.{◌∷◌, map, take, sym, ◌∙◌, ap}
use Rattle.ab_logic.specs.Worlds.{read}
use Rattle.ab_formulas.specs.Marks.{marks_of}
use Rattle.ab_formulas.specs.Sequents.{formulas}
use Rattle.ab_logic.specs.SequentReadings.{hypothesis_of}
use Rattle.ab_logic.specs.declared.sequent.Hypothesis.{Hypothesis}
use Rattle.ab_theory.specs.Levels.{greater, greatest, signs_in, signs_of_all}
use Rattle.ab_sequents.specs.Kinds.{level_by}
use Rattle.ab_theory.proofs.Greatest.{greatest_more}
use Rattle.ab_sequents.proofs.levels.next_level.Goals as goal

pub loop-h-preserved : goal.loop-h-preserved
loop-h-preserved c =
    let w = c.args.world.now in
    let level = level_by c.args.kind in
    let hs = c.as_slice-h-items.result.now in
    let i = c.loop-h.h-index in
    let F = read w c.args.sequent.now.conclusion in
    c.greater-level.ensures
    ∙ ap (λ k. greater k c.greatest_in.result) c.loop-h.invariant
    ∙ ap (greater (greatest level (signs_of_all (F ∷ formulas (map (hypothesis_of w) (take i hs))))))
    (c.greatest_in.ensures w.types ∙ ap (λ (h : Hypothesis). greatest level (signs_in (marks_of (read w h.formula)))) c.h-item.is)
    ∙ sym (greatest_more level (hypothesis_of w) F hs i c.h-item.result c.loop-h-test.true)
