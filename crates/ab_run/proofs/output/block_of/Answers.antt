use Rattle.std.proofs.Common.{◌≡◌, IfOk, sym, subst}
use Rattle.std.specs.Option.{option_copied}
use Rattle.ab_session.specs.ab_states.specs.State.{goals_of, goals_in}
use Rattle.ab_session.specs.ab_states.specs.Reply.{reply_of}
use Rattle.ab_blocks.specs.Blocks.{block}
use Rattle.ab_session.specs.Contents.{state_of}
use Rattle.ab_run.proofs.output.block_of.Goals as goal

pub returns : goal.returns
returns c =
    let s = state_of c.args.session.now in
    let e = c.world.ensures.same in
    let goals = subst (λ w. goals_of s ≡ goals_in w (option_copied c.open_proof.result)) (sym e) (sym c.open_proof.ensures.goals) in
    subst (λ w. IfOk c.block.result (λ b. b.items ≡ block (reply_of w c.args.reply.now) s)) e (c.block.ensures s (sym c.kept.ensures) (sym c.all_subgoals.ensures) goals)
