use Rattle.std.proofs.Common.{◌≡◌, ◌++◌, ◌∷◌, [], List, ℕ, ap, subst, refl, ◌∙◌}
use Rattle.ab_print.specs.Places.{places_in, places_at, IsPut}
use Rattle.ab_print.proofs.Putting.{put_is, taken_out, put_again}
use Rattle.ab_print.proofs.places.add.Goals as goal

pub returns : goal.returns
returns c =
    let name : c.as_slice.result.now ≡ c.args.name.items = c.as_slice.ensures.value in
    let out : IsPut c.args.name.items [] c.args.places.now c.remove.new.self =
    subst (λ (y : List ℕ). IsPut y [] c.args.places.now c.remove.new.self) name (taken_out c.args.places.now c.remove.new.self c.as_slice.result.now [] c.remove.ensures.updates refl) in
    let before : c.numbers_in-numbers.result.items ≡ places_at c.args.places.now c.args.name.items = c.numbers_in-numbers.ensures ∙ ap places_in c.remove.ensures.value ∙ ap (places_at c.args.places.now) name in
    put_again c.args.places.now c.remove.new.self c.insert.new.self c.args.name.items [] (places_at c.args.places.now c.args.name.items ++ c.args.place ∷ []) out
    (put_is c.remove.new.self c.insert.new.self c.args.name c.push.new.self c.args.name.items (places_at c.args.places.now c.args.name.items ++ c.args.place ∷ []) c.in_ok-insert.ensures.updates refl
    (c.in_ok-push.ensures.items ∙ ap (λ (ps : List ℕ). ps ++ c.args.place ∷ []) before))
