use Rattle.std.specs.Prelude.{[]}
use Rattle.std.proofs.Common.{sym, ◌∙◌, ap}
use Rattle.ab_formulas.specs.Sequents.{formula_of}
use Rattle.ab_logic.specs.Worlds.{read}
use Rattle.ab_steps.proofs.Following.{first_at}
use Rattle.ab_hypothesis.proofs.Moves.{has_at}
use Rattle.ab_hypothesis.proofs.Taking.{begun_kept, begun_moved, never_unnamed}
use Rattle.ab_hypothesis.proofs.beginnings.begin.Goals as goal

pub unreachable-requires : goal.unreachable-requires
unreachable-requires g c =
    let w = c.args.world.now in
    never_unnamed w c.args.proof.now c.in_ok-own.own c.in_ok-given.given c.in_ok-given.ensures c.requires.open
    (λ s rest e. ap (λ k. formula_of k c.in_ok-own.own) (sym (c.first_goal.ensures.reads s rest e)) ∙ c.in_ok-own.ensures.new w)
    (c.in_ok-copied.ensures.unnamed c.if-copied.false)

pub returns-then-copied-clause-begun : goal.returns-then-copied-clause-begun
returns-then-copied-clause-begun g c =
    let w = c.args.world.now in
    begun_kept w c.copy-then-keep.new.world c.args.proof.now c.copy-then-keep.new.proof c.args.keep c.args.name.now c.in_ok-own.own c.in_ok-given.given (read w c.args.formula) c.if-keep.true c.in_ok-given.ensures
    (λ s rest e. ap (λ k. formula_of k c.in_ok-own.own) (sym (c.first_goal.ensures.reads s rest e)) ∙ c.in_ok-own.ensures.new w)
    (c.in_ok-copied.ensures.copied c.if-copied.true)

pub unreachable-requires-else-moved : goal.unreachable-requires-else-moved
unreachable-requires-else-moved g c =
    let w = c.args.world.now in
    never_unnamed w c.args.proof.now c.in_ok-own.own c.in_ok-given.given c.in_ok-given.ensures c.requires.open
    (λ s rest e. ap (λ k. formula_of k c.in_ok-own.own) (sym (c.first_goal.ensures.reads s rest e)) ∙ c.in_ok-own.ensures.new w)
    (c.in_ok-moved.ensures.unnamed c.if-moved.false)

pub returns-then-moved-clause-begun : goal.returns-then-moved-clause-begun
returns-then-moved-clause-begun g c =
    let w = c.args.world.now in
    let p = c.args.proof.now in
    let F = read w c.args.formula in
    begun_moved w c.shift.new.world p c.shift.new.proof c.args.keep c.args.name.now c.in_ok-own.own c.in_ok-given.given F c.if-keep.false c.in_ok-given.ensures
    (λ s rest e. ap (λ k. formula_of k c.in_ok-own.own) (sym (c.first_goal.ensures.reads s rest e)) ∙ c.in_ok-own.ensures.new w)
    (λ s rest e. has_at w p 0 c.args.name.now F c.requires.there [] rest s (first_at w p s rest e))
    (c.in_ok-moved.ensures.moved c.if-moved.true)
