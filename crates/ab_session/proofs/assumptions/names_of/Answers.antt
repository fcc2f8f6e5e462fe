use Rattle.std.proofs.Common.{◌≤◌, length, get_or, sym, ◌∙◌, ap}
use Rattle.std.proofs.lemmas.Grind.{get_or_default_zero}
use Rattle.ab_formulas.specs.Declarations.{theorems_in}
use Rattle.ab_formulas.proofs.TheoremPlaces.{place_below}
use Rattle.ab_logic.specs.Worlds.{read, declarations_of}
use Rattle.ab_session.proofs.DebtPlaces.{name_there, name_next, one_more_name}
use Rattle.ab_session.proofs.assumptions.names_of.Goals as goal
use Rattle.ab_session.proofs.assumptions.names_of.Goals.{in-None, in-Some}

pub loop-place-preserved : goal.loop-place-preserved
loop-place-preserved c = λ F js.
    let D = declarations_of c.args.world.now in
    let next = c.args.next.now in
    let ps = c.args.places.now in
    let i = c.loop-place.place-index in
    let j = get_or ps i 0 in
    let low : j ≤ length (theorems_in D) = place_below (length (theorems_in D)) ps j c.requires (i, c.loop-place-test.true, get_or_default_zero ps i j c.loop-place-test.true) in
    c.in_ok-push.ensures.items
    ∙ one_more_name D next F js ps i c.in_ok-copy.field-0 c.loop-place.names.items c.loop-place-test.true (c.loop-place.invariant F js)
    (elim c.match-theorem_at.branch [
      | in-None w ↦ name_next D next F js j (sym w.in-None.ensures.reads) low ∙ ap (λ r. r.now) (sym w.name-is) ∙ sym c.in_ok-copy.ensures
      | in-Some w ↦ name_there D next F js j (w.in-Some.entry.now.name, read c.args.world.now w.in-Some.entry.now.formula) (sym w.in-Some.ensures.reads) ∙ ap (λ r. r.now) (sym w.name-is) ∙ sym c.in_ok-copy.ensures
    ])
