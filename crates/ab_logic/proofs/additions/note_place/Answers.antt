use Rattle.std.specs.HashMap.{get}
use Rattle.std.proofs.Common.{[], ◌∷◌, ◌++◌, None, Some, Result, Ok, Err, if◌then◌else◌, sym, ◌∙◌, ap, rules}
use Rattle.std.specs.Result.{OnErr}
use Rattle.ab_logic.specs.Additions.{same_constant, noted}
use Rattle.ab_logic.proofs.ClausePlaces.{noted_on, noted_same}
use Rattle.ab_logic.proofs.additions.note_place.Goals as goal

with_err : {T E P : Type 0} (r : Result T E) → P → OnErr r P
with_err (Ok x) p = tt
with_err (Err e) p = p

pub returns-in_err-push-clause-err : goal.returns-in_err-push-clause-err
returns-in_err-push-clause-err c =
    with_err c.from_residual.result
    (noted_same c.args.places.now (c.get_mut.follows.lender c.push.new.self) c.args.head c.push.new.self ((c.get_mut.follows.holds c.push.new.self).3 (search rules)).0
    (Some c.in-Some.found.now) (sym c.in-Some.ensures.value) c.in_err-push.ensures.items)

pub returns-clause-noted : goal.returns-clause-noted
returns-clause-noted c =
    let same = c.get_mut.follows.holds-at-none in
    let first = c.get_mut.follows.lender-at-none in
    λ p.
    noted_on first c.insert.new.self c.args.head c.in_ok-first.first c.in_ok-insert.ensures.updates.0 None (c.args.place ∷ [])
    (ap (λ m. get same_constant m c.args.head) same ∙ sym c.in_default.ensures.value) c.in_ok-first.ensures.items p
    ∙ ap (λ m. noted m p ++ (if same_constant c.args.head p then (c.args.place ∷ []) else [])) same
