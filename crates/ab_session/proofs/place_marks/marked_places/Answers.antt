use Rattle.std.proofs.Common.{true, false, sym, ◌∙◌, ap, append-nil}
use Rattle.ab_session.proofs.PlaceMarks.{one_looked_at}
use Rattle.ab_session.proofs.place_marks.marked_places.Goals as goal
use Rattle.ab_session.proofs.place_marks.marked_places.Goals.{then-is_marked+in_ok-push, else-is_marked}

pub loop-place-preserved : goal.loop-place-preserved
loop-place-preserved c =
    let ms = c.args.marks.now in
    let i = c.loop-place.place in
    let so_far = c.loop-place.places.items in
    elim c.if-is_marked.branch [
      | then-is_marked+in_ok-push w ↦ λ js marks.
          ap (λ v. v.items) w.places-is ∙ w.in_ok-push.ensures.items ∙ one_looked_at ms js i true so_far marks c.loop-place-test.true w.if-is_marked.true (c.loop-place.invariant js marks)
      | else-is_marked w ↦ λ js marks.
          ap (λ v. v.items) w.places-is ∙ sym (append-nil so_far) ∙ one_looked_at ms js i false so_far marks c.loop-place-test.true w.if-is_marked.false (c.loop-place.invariant js marks)
    ]
