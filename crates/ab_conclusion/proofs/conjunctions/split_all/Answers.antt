use Rattle.std.proofs.Common.{◌≡◌, ◌+◌, ◌-◌, [], length, subst, arith}
use Rattle.ab_grammar.specs.CommandTrees as told
use Rattle.ab_unify.specs.Problem.{cells_read}
use Rattle.ab_logic.specs.Worlds.{declarations_of}
use Rattle.ab_effects.specs.ProofCommands.{effect}
use Rattle.ab_steps.specs.ab_kernel.specs.Layout.{goals_of}
use Rattle.ab_steps.specs.ProofEffects.{RefusedBy}
use Rattle.ab_steps.specs.declared.fault.ProofCommandFault.TheVariants.{WrongShape}
use Rattle.ab_steps.proofs.Following.{advances, first_at, some_goal, follows_on}
use Rattle.ab_conclusion.proofs.PartingGoals.{split_apart, split_all_fails}
use Rattle.ab_conclusion.proofs.conjunctions.split_all.Goals as goal

pub overflow_sub-behind : goal.overflow_sub-behind
overflow_sub-behind g c =
    let some = some_goal _ c.requires.open in
    let counted = c.open_goals-behind.ensures c.args.world.now in
    omega (arith, some, counted)

pub attempt-requires-clause-place : goal.attempt-requires-clause-place
attempt-requires-clause-place g c = some_goal _ c.requires.open

pub returns-then-not-taken-clause-refused : goal.returns-then-not-taken-clause-refused
returns-then-not-taken-clause-refused g c fault same l s rest e =
    let t = c.in_ok-taken.ensures.failed c.if-not-taken.true [] rest s (first_at c.args.world.now c.args.proof.now s rest e) in
    let is : WrongShape ≡ fault = cc in
    subst (RefusedBy (effect (declarations_of c.args.world.now) l told.split_all s)) is
    (split_all_fails (declarations_of c.args.world.now) (cells_read c.args.world.now.types c.args.world.now.store) l s t.0 t.1)

pub returns-in-Ok-clause-follows : goal.returns-in-Ok-clause-follows
returns-in-Ok-clause-follows g c = follows_on _ _ _ _ _ _ c.attempt.ensures.follows c.split_before.ensures.follows

pub returns-in-Ok-clause-applied : goal.returns-in-Ok-clause-applied
returns-in-Ok-clause-applied g c l s rest e =
    let some = some_goal _ c.requires.open in
    let counted = c.open_goals-behind.ensures c.args.world.now in
    let behind : c.open_goals-behind.result - 1 + 1 ≡ length (goals_of c.args.world.now c.args.proof.now) = omega (arith, some, counted) in
    split_apart c.args.world.now c.attempt.new.world c.split_before.new.world c.args.proof.now c.attempt.new.proof c.split_before.new.proof
    (c.open_goals-behind.result - 1) l s rest e behind (c.in_ok-taken.ensures.took c.if-not-taken.false) c.in-Ok.ensures.parted

pub returns-in-Err-clause-follows : goal.returns-in-Err-clause-follows
returns-in-Err-clause-follows g c =
    c.take_back.ensures.follows c.args.world.now c.args.proof.now
    (advances (follows_on _ _ _ _ _ _ c.attempt.ensures.follows c.split_before.ensures.follows)) (c.steps-count.ensures c.args.world.now)

pub returns-in-Err-clause-unchanged : goal.returns-in-Err-clause-unchanged
returns-in-Err-clause-unchanged g c =
    c.take_back.ensures.unchanged c.args.world.now c.args.proof.now
    (advances (follows_on _ _ _ _ _ _ c.attempt.ensures.follows c.split_before.ensures.follows)) (c.steps-count.ensures c.args.world.now)
