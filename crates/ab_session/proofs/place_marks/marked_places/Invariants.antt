use Rattle.std.specs.Prelude.{◌≡◌, ℕ, List}
use Rattle.ab_theory.specs.Assumptions.{in_order}
use Rattle.ab_session.specs.PlaceMarks.{Marks}
use Rattle.ab_session.proofs.place_marks.marked_places.Given as goal

abbrev pub invariant-loop-place : goal.invariant-loop-place
invariant-loop-place l = (js : List ℕ) → Marks l.marks js → l.places.items ≡ in_order l.place js
