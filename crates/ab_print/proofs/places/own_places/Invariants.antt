use Rattle.std.proofs.Common.{◌≡◌, ℕ, List, take}
use Rattle.ab_print.specs.Places.{places_of, places_at, own_name}
use Rattle.ab_print.specs.BinderNames.{is_this}
use Rattle.ab_print.proofs.places.own_places.Given as goal

abbrev pub invariant-loop-place : goal.invariant-loop-place
invariant-loop-place l = (x : List ℕ) → places_at l.places x ≡ places_of (λ s. is_this x (own_name l.types l.store s)) 0 (take l.place l.seen)
