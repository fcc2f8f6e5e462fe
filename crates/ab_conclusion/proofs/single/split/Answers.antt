use Rattle.std.specs.Prelude.{[]}
use Rattle.std.proofs.Common.{◌≡◌, subst}
use Rattle.ab_grammar.specs.CommandTrees as told
use Rattle.ab_unify.specs.Problem.{cells_read}
use Rattle.ab_logic.specs.Worlds.{declarations_of}
use Rattle.ab_effects.specs.ProofCommands.{effect}
use Rattle.ab_steps.specs.ProofEffects.{RefusedBy}
use Rattle.ab_steps.specs.declared.fault.ProofCommandFault.TheVariants.{WrongShape}
use Rattle.ab_steps.proofs.Following.{first_at, some_goal}
use Rattle.ab_conclusion.proofs.OneStep.{split_leads, split_fails}
use Rattle.ab_conclusion.proofs.single.split.Goals as goal

pub attempt-requires-clause-place : goal.attempt-requires-clause-place
attempt-requires-clause-place g c = some_goal _ c.requires.open

pub returns-then-taken-clause-applied : goal.returns-then-taken-clause-applied
returns-then-taken-clause-applied g c l s rest e =
    let t = c.in_ok-taken.ensures.took c.if-taken.true [] rest s (first_at c.args.world.now c.args.proof.now s rest e) in
    (t.0, split_leads (declarations_of c.args.world.now) l s t.0 t.1, t.2)

pub returns-else-taken-clause-refused : goal.returns-else-taken-clause-refused
returns-else-taken-clause-refused g c fault same l s rest e =
    let t = c.in_ok-taken.ensures.failed c.if-taken.false [] rest s (first_at c.args.world.now c.args.proof.now s rest e) in
    let is : WrongShape ≡ fault = cc in
    subst (RefusedBy (effect (declarations_of c.args.world.now) l told.split s)) is
    (split_fails (declarations_of c.args.world.now) (cells_read c.args.world.now.types c.args.world.now.store) l s t.0 t.1)
