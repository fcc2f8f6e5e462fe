use Rattle.std.proofs.lemmas.Result.{on_ok_weaker}
use Rattle.ab_steps.specs.ab_kernel.proofs.Later.{still_proof}
use Rattle.ab_steps.proofs.Following.{follows_on}
use Rattle.ab_search.proofs.Counting.{on_first}
use Rattle.ab_search.proofs.MadeBeside.{only_made, made_first, made_last, gave_made_first}
use Rattle.ab_search_paths.proofs.Likenesses.{likeness_stays}
use Rattle.ab_search.proofs.opened_hypotheses.take_terms.Goals as goal

pub returns-in_err-like-clause-follows : goal.returns-in_err-like-clause-follows
returns-in_err-like-clause-follows g c =
    let got = c.compare_unmarked.ensures.got in
    only_made c.args.world.now c.compare_unmarked.new.world c.args.proof.now c.requires.proof got.grows got.declared

pub take-requires-clause-proof : goal.take-requires-clause-proof
take-requires-clause-proof g c =
    let got = c.compare_unmarked.ensures.got in
    still_proof c.args.world.now c.compare_unmarked.new.world got.grows got.declared c.args.proof.now c.requires.proof

pub returns-in_err-take-clause-follows : goal.returns-in_err-take-clause-follows
returns-in_err-take-clause-follows g c =
    let got = c.compare_unmarked.ensures.got in
    made_first c.args.world.now c.compare_unmarked.new.world c.take.new.world c.args.proof.now c.take.new.proof c.requires.proof got.grows got.declared c.take.ensures.follows

pub last_variable_given-requires-clause-formula : goal.last_variable_given-requires-clause-formula
last_variable_given-requires-clause-formula g c =
    c.take.ensures.follows.grows.ids c.args.hypothesis (c.compare_unmarked.ensures.got.grows.ids c.args.hypothesis c.requires.hypothesis)

pub last_variable_given-requires-clause-like : goal.last_variable_given-requires-clause-like
last_variable_given-requires-clause-like g c =
    let like = c.in_ok-like.like in
    likeness_stays c.compare_unmarked.new.world.types c.take.new.world.types c.take.ensures.follows.grows.types like.names.items like.targets.items c.in_ok-like.ensures.like

pub returns-in_err-term-clause-follows : goal.returns-in_err-term-clause-follows
returns-in_err-term-clause-follows g c =
    let w = c.args.world.now in
    let v = c.take.new.world in
    let made = c.compare_unmarked.ensures.got in
    let got = c.last_variable_given.ensures.got in
    made_last w v c.last_variable_given.new.world c.args.proof.now c.take.new.proof
    (made_first w c.compare_unmarked.new.world v c.args.proof.now c.take.new.proof c.requires.proof made.grows made.declared c.take.ensures.follows) got.grows got.declared

pub take-requires-2-clause-proof : goal.take-requires-2-clause-proof
take-requires-2-clause-proof g c =
    let got = c.last_variable_given.ensures.got in
    still_proof c.take.new.world c.last_variable_given.new.world got.grows got.declared c.take.new.proof c.take.ensures.follows.proof

pub returns-clause-follows : goal.returns-clause-follows
returns-clause-follows g c =
    let w = c.args.world.now in
    let v = c.take.new.world in
    let u = c.last_variable_given.new.world in
    let p = c.args.proof.now in
    let q = c.take.new.proof in
    let made = c.compare_unmarked.ensures.got in
    let got = c.last_variable_given.ensures.got in
    follows_on w u c.take-2.new.world p q c.take-2.new.proof
    (made_last w v u p q (made_first w c.compare_unmarked.new.world v p q c.requires.proof made.grows made.declared c.take.ensures.follows) got.grows got.declared)
    c.take-2.ensures.follows

pub returns-clause-gave_way : goal.returns-clause-gave_way
returns-clause-gave_way g c =
    let w = c.args.world.now in
    let v = c.take.new.world in
    let u = c.last_variable_given.new.world in
    let x = c.take-2.new.world in
    let p = c.args.proof.now in
    let q = c.take.new.proof in
    let r = c.take-2.new.proof in
    on_ok_weaker c.take-2.result
    (λ gave. on_first w v x p q r c.args.place 0 1
    (gave_made_first w c.compare_unmarked.new.world v p q c.args.place 1 c.requires.proof c.compare_unmarked.ensures.got.grows c.in_ok-take.ensures.taken)
    (gave_made_first v u x q r c.args.place 1 c.take.ensures.follows.proof c.last_variable_given.ensures.got.grows gave))
    c.take-2.ensures.taken
