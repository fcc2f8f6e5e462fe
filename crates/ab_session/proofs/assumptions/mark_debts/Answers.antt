use Rattle.std.proofs.Common.{◌+◌, [], ◌∷◌, ◌++◌, map, take, sym, ◌∙◌, ap, subst}
use Rattle.ab_logic.specs.Worlds.{declarations_of}
use Rattle.ab_theory.specs.Assumptions.{places_of, all_places}
use Rattle.ab_proofcmd.specs.ab_hypothesis.specs.ab_steps.specs.ab_kernel.specs.Debts.{debt_of}
use Rattle.ab_session.specs.PlaceMarks.{Marks}
use Rattle.ab_session.proofs.DebtPlaces.{one_more_debt}
use Rattle.ab_session.proofs.assumptions.mark_debts.Goals as goal
use Rattle.ab_session.proofs.assumptions.mark_debts.Goals.{in-Theorem, in-Goal}

pub loop-debt-preserved : goal.loop-debt-preserved
loop-debt-preserved c =
    let D = declarations_of c.args.world.now in
    let ds = c.args.debts.now in
    let i = c.loop-debt.debt-index in
    let d = c.debt-item.result in
    elim c.match-debt.branch [
      | in-Theorem w ↦ λ js marks.
          let before = js ++ all_places D (map debt_of (take i ds)) in
          subst (λ ms. Marks ms (js ++ all_places D (map debt_of (take (i + 1) ds)))) (sym w.marks-is)
          (subst (Marks w.mark_places.new.marks)
          (ap (λ ps. before ++ ps) (w.assumptions.ensures ∙ ap (λ e. places_of D (debt_of e)) (sym w.in-Theorem.is)) ∙ one_more_debt D js ds i _ d c.loop-debt-test.true c.debt-item.is)
          (w.mark_places.ensures.marked before (c.loop-debt.invariant js marks)))
      | in-Goal w ↦ λ js marks.
          let before = js ++ all_places D (map debt_of (take i ds)) in
          subst (λ ms. Marks ms (js ++ all_places D (map debt_of (take (i + 1) ds)))) (sym w.marks-is)
          (subst (Marks w.mark_places-in-Goal.new.marks)
          (ap (λ ps. before ++ ps) (ap (λ n. n ∷ []) w.theorems.ensures ∙ ap (λ e. places_of D (debt_of e)) (sym w.in-Goal.is)) ∙ one_more_debt D js ds i _ d c.loop-debt-test.true c.debt-item.is)
          (w.mark_places-in-Goal.ensures.marked before (c.loop-debt.invariant js marks)))
    ]
