use Rattle.std.specs.Prelude.{[]}
use Rattle.ab_logic.specs.Worlds.{declarations_of}
use Rattle.ab_steps.proofs.Following.{first_at, some_goal}
use Rattle.ab_conclusion.proofs.OneStep.{skip_leads}
use Rattle.ab_conclusion.proofs.single.skip.Goals as goal

pub surely-requires-clause-place : goal.surely-requires-clause-place
surely-requires-clause-place g c = some_goal _ c.requires.open

pub returns-clause-applied : goal.returns-clause-applied
returns-clause-applied g c l s rest e =
    let t = c.in_ok-surely.ensures.took [] rest s (first_at c.args.world.now c.args.proof.now s rest e) in
    (t.0, skip_leads (declarations_of c.args.world.now) l s t.0 t.1, t.2)
