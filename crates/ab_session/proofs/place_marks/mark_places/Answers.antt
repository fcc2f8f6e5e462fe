use Rattle.std.proofs.Common.{[], ◌∷◌, ◌++◌, take, get_or, sym, subst}
use Rattle.ab_session.specs.PlaceMarks.{Marks}
use Rattle.ab_session.proofs.PlaceMarks.{one_marked, none_marked, one_more_place}
use Rattle.ab_session.proofs.place_marks.mark_places.Goals as goal
use Rattle.ab_session.proofs.place_marks.mark_places.Goals.{then-place-marks, else-place-marks}

pub loop-place-preserved : goal.loop-place-preserved
loop-place-preserved c =
    let ps = c.args.places.now in
    let i = c.loop-place.place-index in
    let ms = c.loop-place.marks in
    let ns = c.if-place-marks.marks in
    elim c.if-place-marks.branch [
      | then-place-marks w ↦ λ js marks. subst (Marks ns) (sym (one_more_place js ps i c.loop-place-test.true))
          (one_marked ms (js ++ take i ps) (get_or ps i 0) (c.loop-place.invariant js marks) ns w.if-place-marks.true w.marks-is c.if-place-marks.auto.marks)
      | else-place-marks w ↦ λ js marks. subst (Marks ns) (sym (one_more_place js ps i c.loop-place-test.true))
          (subst (λ xs. Marks xs ((js ++ take i ps) ++ get_or ps i 0 ∷ [])) (sym w.marks-is) (none_marked ms (js ++ take i ps) (get_or ps i 0) (c.loop-place.invariant js marks) w.if-place-marks.false))
    ]
