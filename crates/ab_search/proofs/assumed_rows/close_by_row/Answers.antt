use Rattle.std.proofs.lemmas.Result.{on_ok_weaker}
use Rattle.ab_steps.proofs.Following.{follows_on}
use Rattle.ab_search.proofs.Counting.{on_first}
use Rattle.ab_search.proofs.RulePlans.{row_then}
use Rattle.ab_search.proofs.assumed_rows.close_by_row.Goals as goal

pub put_terms-requires-clause-row : goal.put_terms-requires-clause-row
put_terms-requires-clause-row g c =
    let w = c.args.world.now in
    let v = c.take.new.world in
    let row = c.args.row.now in
    row_then v c.take_hypothesis.new.world c.take_hypothesis.ensures.follows.grows row (row_then w v c.take.ensures.follows.grows row c.requires.row)

pub returns-in_err-taken-clause-follows : goal.returns-in_err-taken-clause-follows
returns-in_err-taken-clause-follows g c =
    follows_on c.args.world.now c.take.new.world c.take_hypothesis.new.world c.args.proof.now c.take.new.proof c.take_hypothesis.new.proof c.take.ensures.follows c.take_hypothesis.ensures.follows

pub returns-in_err-put_terms-clause-follows : goal.returns-in_err-put_terms-clause-follows
returns-in_err-put_terms-clause-follows g c =
    let w = c.args.world.now in
    let p = c.args.proof.now in
    let v = c.take_hypothesis.new.world in
    let q = c.take_hypothesis.new.proof in
    follows_on w v c.put_terms.new.world p q c.put_terms.new.proof (follows_on w c.take.new.world v p c.take.new.proof q c.take.ensures.follows c.take_hypothesis.ensures.follows) c.put_terms.ensures.follows

pub returns-clause-follows : goal.returns-clause-follows
returns-clause-follows g c =
    let w = c.args.world.now in
    let p = c.args.proof.now in
    let v = c.take_hypothesis.new.world in
    let q = c.take_hypothesis.new.proof in
    let u = c.put_terms.new.world in
    let r = c.put_terms.new.proof in
    follows_on w u c.close_apart.new.world p r c.close_apart.new.proof
    (follows_on w v u p q r (follows_on w c.take.new.world v p c.take.new.proof q c.take.ensures.follows c.take_hypothesis.ensures.follows) c.put_terms.ensures.follows) c.close_apart.ensures.follows

pub returns-clause-gave_way : goal.returns-clause-gave_way
returns-clause-gave_way g c =
    let w = c.args.world.now in
    let p = c.args.proof.now in
    let x = c.take.new.world in
    let y = c.take.new.proof in
    let v = c.take_hypothesis.new.world in
    let q = c.take_hypothesis.new.proof in
    let u = c.put_terms.new.world in
    let r = c.put_terms.new.proof in
    let place = c.args.place in
    let one = on_first w x v p y q place 0 1 c.in_ok-take.ensures.taken c.in_ok-taken.ensures.gave_way in
    let two = on_first w v u p q r place 0 1 one c.in_ok-put_terms.ensures.gave_way in
    on_ok_weaker c.close_apart.result (λ gave. on_first w u c.close_apart.new.world p r c.close_apart.new.proof place 0 0 two gave) c.close_apart.ensures.gave_way
