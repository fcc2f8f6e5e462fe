use Rattle.std.proofs.Common.{ℕ, sym, subst}
use Rattle.ab_unify.specs.Problem.{cells_read}
use Rattle.ab_logic.specs.Worlds.{declarations_of}
use Rattle.ab_theory.specs.Rules.{Fails}
use Rattle.ab_theory.specs.Steps.{initial}
use Rattle.ab_steps.proofs.Following.{place_of}
use Rattle.ab_hypothesis.proofs.Changed.{on_ok, closed_by}
use Rattle.ab_hypothesis.proofs.Goes.{holds_at}
use Rattle.ab_hypothesis.proofs.replacements.close.Goals as goal

pub surely-requires-clause-place : goal.surely-requires-clause-place
surely-requires-clause-place g c =
    let there = c.requires.there in
    place_of c.args.world.now c.args.proof.now c.args.place there.0 there.1 there.2 there.3

pub surely-requires-clause-sure : goal.surely-requires-clause-sure
surely-requires-clause-sure g c =
    let w = c.args.world.now in
    let there = c.requires.there in
    let cells = cells_read w.types w.store in
    holds_at w c.args.proof.now c.args.place (initial c.in_ok-given.given) there.0 there.1 there.2 there.3
    (subst (λ y. (i : ℕ) → Fails (declarations_of w) cells (initial y) there.2 i → ⊥) (sym c.in_ok-given.ensures) (there.4 cells))

pub returns-clause-closed : goal.returns-clause-closed
returns-clause-closed g c =
    on_ok c.surely.result (closed_by c.args.world.now c.surely.new.world c.args.proof.now c.surely.new.proof c.args.place c.in_ok-given.given) c.surely.ensures.took
