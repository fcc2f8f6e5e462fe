use Rattle.std.proofs.lemmas.List.Elements.{All-weaker}
use Rattle.std.proofs.lemmas.Result.{on_ok_weaker}
use Rattle.ab_logic.specs.Worlds.{Holds}
use Rattle.ab_steps.specs.ab_kernel.proofs.Later.{still_proof}
use Rattle.ab_search_paths.specs.Paths.{IsTermIn}
use Rattle.ab_search.proofs.MadeBeside.{only_made, made_first, gave_made_first}
use Rattle.ab_search.proofs.unfolding_steps.take_clause.Goals as goal

pub unfolding_by_clause-requires-clause-sequent : goal.unfolding_by_clause-requires-clause-sequent
unfolding_by_clause-requires-clause-sequent g c = c.in_ok-goal.ensures.sequent c.args.world.now c.requires.world c.requires.proof

pub unfolding_by_clause-requires-clause-values : goal.unfolding_by_clause-requires-clause-values
unfolding_by_clause-requires-clause-values g c =
    let w = c.args.world.now in
    All-weaker (IsTermIn w) (Holds w) (λ t is. is.1.0) c.args.clause.now.values.items c.requires.clause.values

pub returns-in_err-made-clause-follows : goal.returns-in_err-made-clause-follows
returns-in_err-made-clause-follows g c =
    let made = c.unfolding_by_clause.ensures in
    only_made c.args.world.now c.unfolding_by_clause.new.world c.args.proof.now c.requires.proof made.grows made.declared

pub unfold-requires-clause-proof : goal.unfold-requires-clause-proof
unfold-requires-clause-proof g c =
    let made = c.unfolding_by_clause.ensures in
    still_proof c.args.world.now c.unfolding_by_clause.new.world made.grows made.declared c.args.proof.now c.requires.proof

pub returns-clause-follows : goal.returns-clause-follows
returns-clause-follows g c =
    let made = c.unfolding_by_clause.ensures in
    made_first c.args.world.now c.unfolding_by_clause.new.world c.unfold.new.world c.args.proof.now c.unfold.new.proof c.requires.proof made.grows made.declared c.unfold.ensures.follows

pub returns-clause-gave_way : goal.returns-clause-gave_way
returns-clause-gave_way g c =
    on_ok_weaker c.unfold.result
    (gave_made_first c.args.world.now c.unfolding_by_clause.new.world c.unfold.new.world c.args.proof.now c.unfold.new.proof c.args.place 1 c.requires.proof c.unfolding_by_clause.ensures.grows) c.unfold.ensures.gave_way
