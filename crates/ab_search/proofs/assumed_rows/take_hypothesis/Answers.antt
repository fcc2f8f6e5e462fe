use Rattle.std.proofs.lemmas.Result.{on_ok_weaker}
use Rattle.ab_steps.specs.ab_kernel.proofs.Later.{still_proof}
use Rattle.ab_search.proofs.MadeBeside.{only_made, made_first, gave_made_first}
use Rattle.ab_search.proofs.assumed_rows.take_hypothesis.Goals as goal

pub returns-in_err-like-clause-follows : goal.returns-in_err-like-clause-follows
returns-in_err-like-clause-follows g c =
    let got = c.compare_unmarked.ensures.got in
    only_made c.args.world.now c.compare_unmarked.new.world c.args.proof.now c.requires.proof got.grows got.declared

pub take_all_bound-requires-clause-proof : goal.take_all_bound-requires-clause-proof
take_all_bound-requires-clause-proof g c =
    let got = c.compare_unmarked.ensures.got in
    still_proof c.args.world.now c.compare_unmarked.new.world got.grows got.declared c.args.proof.now c.requires.proof

pub returns-clause-follows : goal.returns-clause-follows
returns-clause-follows g c =
    let got = c.compare_unmarked.ensures.got in
    made_first c.args.world.now c.compare_unmarked.new.world c.take_all_bound.new.world c.args.proof.now c.take_all_bound.new.proof c.requires.proof got.grows got.declared c.take_all_bound.ensures.follows

pub returns-clause-gave_way : goal.returns-clause-gave_way
returns-clause-gave_way g c =
    let got = c.compare_unmarked.ensures.got in
    on_ok_weaker c.take_all_bound.result
    (gave_made_first c.args.world.now c.compare_unmarked.new.world c.take_all_bound.new.world c.args.proof.now c.take_all_bound.new.proof c.args.place 1 c.requires.proof got.grows)
    c.take_all_bound.ensures.gave_way
