use Rattle.std.proofs.Common.{ap, arith}
use Rattle.std.proofs.lemmas.Result.{on_ok_weaker}
use Rattle.ab_theory.specs.Derivations.{History, open_goals}
use Rattle.ab_steps.proofs.Following.{follows_on, as_before}
use Rattle.ab_search.proofs.Counting.{gave_before}
use Rattle.ab_search.proofs.opened_hypotheses.close_or_take_apart.Goals as goal

pub returns-clause-follows : goal.returns-clause-follows
returns-clause-follows g c =
    follows_on c.args.world.now c.is_closed_by.new.world c.take_apart.new.world c.args.proof.now c.is_closed_by.new.proof c.take_apart.new.proof c.is_closed_by.ensures.follows c.take_apart.ensures.follows

pub returns-clause-gave_way : goal.returns-clause-gave_way
returns-clause-gave_way g c =
    let w = c.args.world.now in
    let v = c.is_closed_by.new.world in
    let p = c.args.proof.now in
    let q = c.is_closed_by.new.proof in
    let same = as_before w v p q c.is_closed_by.ensures.follows.grows c.requires.proof (c.in_ok-is_closed_by.ensures.kept c.if-branch.false) in
    on_ok_weaker c.take_apart.result
    (λ gave. (gave.0, gave_before w v c.take_apart.new.world p q c.take_apart.new.proof c.args.place gave.0 (ap (λ (h : History). open_goals h.tree) same) gave.1, gave.2))
    c.take_apart.ensures.gave_way

pub returns-then-branch-clause-gave_way : goal.returns-then-branch-clause-gave_way
returns-then-branch-clause-gave_way g c = (0, c.in_ok-is_closed_by.ensures.closed c.if-branch.true, omega arith)
