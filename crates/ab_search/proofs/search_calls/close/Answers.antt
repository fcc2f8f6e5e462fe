use Rattle.ab_patterns.proofs.Renewed.{on_err_then}
use Rattle.ab_steps.proofs.Following.{advances}
use Rattle.ab_search.proofs.Searching.{proof_later, history_later, follows_later, follows_behind, gave_behind}
use Rattle.ab_search.proofs.search_calls.close.Goals as goal

pub returns-in_err-entries-clause-follows : goal.returns-in_err-entries-clause-follows
returns-in_err-entries-clause-follows g c =
    let l = c.final_path.ensures.later in
    follows_later c.args.world.now c.final_path.new.world c.args.proof.now l.grows l.declared c.requires.proof

pub returns-in_err-entries-clause-unchanged : goal.returns-in_err-entries-clause-unchanged
returns-in_err-entries-clause-unchanged g c =
    let l = c.final_path.ensures.later in
    on_err_then c.from_residual.result (history_later c.args.world.now c.final_path.new.world c.args.proof.now l.grows l.declared c.requires.proof)

pub carry_out-requires-clause-proof : goal.carry_out-requires-clause-proof
carry_out-requires-clause-proof g c =
    let l = c.final_path.ensures.later in
    proof_later c.args.world.now c.final_path.new.world c.args.proof.now l.grows l.declared c.requires.proof

pub returns-in-Ok-clause-follows : goal.returns-in-Ok-clause-follows
returns-in-Ok-clause-follows g c =
    let l = c.final_path.ensures.later in
    follows_behind c.args.world.now c.final_path.new.world c.args.proof.now l.grows l.declared c.requires.proof
    c.carry_out.new.world c.carry_out.new.proof c.carry_out.ensures.follows

pub returns-in-Ok-clause-gave_way : goal.returns-in-Ok-clause-gave_way
returns-in-Ok-clause-gave_way g c =
    let l = c.final_path.ensures.later in
    gave_behind c.args.world.now c.final_path.new.world c.args.proof.now l.grows l.declared c.requires.proof
    c.carry_out.new.world c.carry_out.new.proof 1 0 c.in-Ok.ensures.gave_way

pub returns-clause-follows : goal.returns-clause-follows
returns-clause-follows g c =
    let w = c.args.world.now in
    let p = c.args.proof.now in
    let l = c.final_path.ensures.later in
    c.take_back.ensures.follows w p
    (advances (follows_behind w c.final_path.new.world p l.grows l.declared c.requires.proof c.carry_out.new.world c.carry_out.new.proof c.carry_out.ensures.follows))
    (c.steps-standing.ensures w)

pub returns-clause-unchanged : goal.returns-clause-unchanged
returns-clause-unchanged g c =
    let w = c.args.world.now in
    let p = c.args.proof.now in
    let l = c.final_path.ensures.later in
    c.take_back.ensures.unchanged w p
    (advances (follows_behind w c.final_path.new.world p l.grows l.declared c.requires.proof c.carry_out.new.world c.carry_out.new.proof c.carry_out.ensures.follows))
    (c.steps-standing.ensures w)
