use Rattle.std.proofs.lemmas.Result.{on_ok_weaker}
use Rattle.ab_steps.specs.ab_kernel.proofs.Later.{still_proof}
use Rattle.ab_search.proofs.MadeBeside.{only_made, made_first, gave_made_first}
use Rattle.ab_search.proofs.quantifier_steps.take_term.Goals as goal

pub returns-in_err-here-clause-follows : goal.returns-in_err-here-clause-follows
returns-in_err-here-clause-follows g c =
    let got = c.term_at.ensures.got in
    only_made c.args.world.now c.term_at.new.world c.args.proof.now c.requires.proof got.grows got.declared

pub take-requires-clause-proof : goal.take-requires-clause-proof
take-requires-clause-proof g c =
    let got = c.term_at.ensures.got in
    still_proof c.args.world.now c.term_at.new.world got.grows got.declared c.args.proof.now c.requires.proof

pub returns-clause-follows : goal.returns-clause-follows
returns-clause-follows g c =
    let got = c.term_at.ensures.got in
    made_first c.args.world.now c.term_at.new.world c.take.new.world c.args.proof.now c.take.new.proof c.requires.proof got.grows got.declared c.take.ensures.follows

pub returns-clause-gave_way : goal.returns-clause-gave_way
returns-clause-gave_way g c =
    let got = c.term_at.ensures.got in
    on_ok_weaker c.take.result (gave_made_first c.args.world.now c.term_at.new.world c.take.new.world c.args.proof.now c.take.new.proof c.args.place 1 c.requires.proof got.grows) c.take.ensures.taken
