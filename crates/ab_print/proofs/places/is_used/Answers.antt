use Rattle.std.proofs.Common.{◌≡◌, ap, sym, subst, ◌∙◌}
use Rattle.std.specs.Option.{option_copied}
use Rattle.ab_print.specs.Places.{places_in, places_at, IsInOrder}
use Rattle.ab_print.proofs.places.is_used.Goals as goal

pub lies_within-requires : goal.lies_within-requires
lies_within-requires c =
    let held : places_at c.args.places.now c.args.name.now ≡ c.in-Some.numbers.now.items = ap places_in (sym c.get.ensures.value ∙ ap option_copied c.in-Some.is) in
    subst IsInOrder (held ∙ sym c.deref.ensures.value) (c.requires c.args.name.now)
