use Rattle.std.specs.Prelude.{◌++◌, ℕ, List, take}
use Rattle.ab_session.specs.PlaceMarks.{Marks}
use Rattle.ab_session.proofs.place_marks.mark_places.Given as goal

abbrev pub invariant-loop-place : goal.invariant-loop-place
invariant-loop-place l = (js : List ℕ) → Marks l.initial.marks js → Marks l.marks (js ++ take l.place-index l.places)
