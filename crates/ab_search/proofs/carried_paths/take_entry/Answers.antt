use Rattle.std.proofs.Common.{length, sym, subst}
use Rattle.std.proofs.lemmas.Result.{on_ok_weaker}
use Rattle.ab_steps.proofs.Following.{follows_not}
use Rattle.ab_search.specs.GoalCounts.{FirstGaveWay}
use Rattle.ab_search_paths.specs.Paths.{HoldsTaken}
use Rattle.ab_search.proofs.carried_paths.take_entry.Goals as goal

pub returns-in_err-place-clause-follows : goal.returns-in_err-place-clause-follows
returns-in_err-place-clause-follows g c = follows_not c.args.world.now c.args.proof.now c.requires.world c.requires.proof

pub returns-in_err-place-clause-stand_ins : goal.returns-in_err-place-clause-stand_ins
returns-in_err-place-clause-stand_ins g c = c.next.ensures.stand_ins c.args.world.now c.requires.stand_ins

pub take_rule_with-requires-clause-stand_ins : goal.take_rule_with-requires-clause-stand_ins
take_rule_with-requires-clause-stand_ins g c = c.next.ensures.stand_ins c.args.world.now c.requires.stand_ins

pub take_rule_with-requires-clause-rule : goal.take_rule_with-requires-clause-rule
take_rule_with-requires-clause-rule g c = subst (HoldsTaken c.args.world.now) c.in-Rule.is c.requires.entry.taken

pub take_simple-requires-clause-stand_ins : goal.take_simple-requires-clause-stand_ins
take_simple-requires-clause-stand_ins g c = c.next.ensures.stand_ins c.args.world.now c.requires.stand_ins

pub returns-in-Rule-clause-gave_way : goal.returns-in-Rule-clause-gave_way
returns-in-Rule-clause-gave_way g c =
    on_ok_weaker c.take_rule_with.result
    (λ gave. subst (λ n. FirstGaveWay c.args.world.now c.args.proof.now c.take_rule_with.new.world c.take_rule_with.new.proof n (length c.take_rule_with.new.progress.pending.items)) (sym c.in_ok-place.ensures.pending) gave)
    c.take_rule_with.ensures.gave_way

pub returns-in_ok-take_simple-in_default-clause-gave_way : goal.returns-in_ok-take_simple-in_default-clause-gave_way
returns-in_ok-take_simple-in_default-clause-gave_way g c =
    subst (λ n. FirstGaveWay c.args.world.now c.args.proof.now c.take_simple.new.world c.take_simple.new.proof n (length c.take_simple.new.progress.pending.items)) (sym c.in_ok-place.ensures.pending)
    c.in_ok-take_simple-in_default.ensures.gave_way
