use Rattle.std.specs.Prelude.{Ok}
use Rattle.std.proofs.Common.{◌+◌, length, sym, ◌∙◌, ap, subst}
use Rattle.ab_steps.proofs.Following.{follows_on}
use Rattle.ab_search.specs.GoalCounts.{FirstGaveWay}
use Rattle.ab_search_paths.specs.Paths.{AreStandIns}
use Rattle.ab_search.proofs.Counting.{among}
use Rattle.ab_search.proofs.PendingGoals.{one_less, less_behind}
use Rattle.ab_search_paths.proofs.Staying.{stand_ins_then}
use Rattle.ab_search.proofs.carried_paths.take_rule_with.Goals as goal

pub returns-in_err-ways-clause-stand_ins : goal.returns-in_err-ways-clause-stand_ins
returns-in_err-ways-clause-stand_ins g c =
    let f = c.take_rule.ensures.follows in
    stand_ins_then c.args.world.now c.take_rule.new.world f.grows f.declared c.args.progress.now.stand_ins.items c.requires.stand_ins

pub returns-in_err-wait-in-Gone-clause-stand_ins : goal.returns-in_err-wait-in-Gone-clause-stand_ins
returns-in_err-wait-in-Gone-clause-stand_ins g c =
    let f = c.take_rule.ensures.follows in
    subst (λ list. AreStandIns c.take_rule.new.world list) (sym (ap (λ l. l.items) c.wait.ensures.stand_ins))
    (stand_ins_then c.args.world.now c.take_rule.new.world f.grows f.declared c.args.progress.now.stand_ins.items c.requires.stand_ins)

pub returns-in_err-close_by_empty_list-in-Empty-clause-follows : goal.returns-in_err-close_by_empty_list-in-Empty-clause-follows
returns-in_err-close_by_empty_list-in-Empty-clause-follows g c =
    follows_on c.args.world.now c.take_rule.new.world c.close_by_empty_list.new.world c.args.proof.now c.take_rule.new.proof c.close_by_empty_list.new.proof
    c.take_rule.ensures.follows c.close_by_empty_list.ensures.follows

pub returns-in_err-close_by_empty_list-in-Empty-clause-stand_ins : goal.returns-in_err-close_by_empty_list-in-Empty-clause-stand_ins
returns-in_err-close_by_empty_list-in-Empty-clause-stand_ins g c =
    let f = follows_on c.args.world.now c.take_rule.new.world c.close_by_empty_list.new.world c.args.proof.now c.take_rule.new.proof c.close_by_empty_list.new.proof
    c.take_rule.ensures.follows c.close_by_empty_list.ensures.follows in
    stand_ins_then c.args.world.now c.close_by_empty_list.new.world f.grows f.declared c.args.progress.now.stand_ins.items c.requires.stand_ins

pub returns-in_ok-wait-in-Gone-clause-gave_way : goal.returns-in_ok-wait-in-Gone-clause-gave_way
returns-in_ok-wait-in-Gone-clause-gave_way g c =
    let w = c.args.world.now in
    let v = c.take_rule.new.world in
    let p = c.args.proof.now in
    let q = c.take_rule.new.proof in
    let k = length c.args.progress.now.pending.items in
    subst (λ n. FirstGaveWay w p v q (k + 1) n) (sym c.in_ok-wait-in-Gone.ensures.pending)
    (among w v p q c.args.place k 1 c.requires.place (c.take_rule.ensures.gone c.in-Gone.ways (c.in_ok-ways.was ∙ ap Ok c.in-Gone.is)))

pub returns-in_ok-wait-in-Gone-clause-stand_ins : goal.returns-in_ok-wait-in-Gone-clause-stand_ins
returns-in_ok-wait-in-Gone-clause-stand_ins g c =
    let f = c.take_rule.ensures.follows in
    subst (λ list. AreStandIns c.take_rule.new.world list) (sym (ap (λ l. l.items) c.wait.ensures.stand_ins))
    (stand_ins_then c.args.world.now c.take_rule.new.world f.grows f.declared c.args.progress.now.stand_ins.items c.requires.stand_ins)

pub returns-in-Closed-clause-gave_way : goal.returns-in-Closed-clause-gave_way
returns-in-Closed-clause-gave_way g c =
    one_less c.args.world.now c.take_rule.new.world c.args.proof.now c.take_rule.new.proof c.args.place (length c.args.progress.now.pending.items) c.requires.place
    (c.take_rule.ensures.closed c.in-Closed.ways (c.in_ok-ways.was ∙ ap Ok c.in-Closed.is))

pub returns-in-Closed-clause-stand_ins : goal.returns-in-Closed-clause-stand_ins
returns-in-Closed-clause-stand_ins g c =
    let f = c.take_rule.ensures.follows in
    stand_ins_then c.args.world.now c.take_rule.new.world f.grows f.declared c.args.progress.now.stand_ins.items c.requires.stand_ins

pub returns-in_ok-close_by_empty_list-in-Empty-clause-follows : goal.returns-in_ok-close_by_empty_list-in-Empty-clause-follows
returns-in_ok-close_by_empty_list-in-Empty-clause-follows g c =
    follows_on c.args.world.now c.take_rule.new.world c.close_by_empty_list.new.world c.args.proof.now c.take_rule.new.proof c.close_by_empty_list.new.proof
    c.take_rule.ensures.follows c.close_by_empty_list.ensures.follows

pub returns-in_ok-close_by_empty_list-in-Empty-clause-gave_way : goal.returns-in_ok-close_by_empty_list-in-Empty-clause-gave_way
returns-in_ok-close_by_empty_list-in-Empty-clause-gave_way g c =
    less_behind c.args.world.now c.take_rule.new.world c.close_by_empty_list.new.world c.args.proof.now c.take_rule.new.proof c.close_by_empty_list.new.proof
    c.args.place (length c.args.progress.now.pending.items) c.requires.place c.requires.proof c.take_rule.ensures.follows
    (c.take_rule.ensures.empty (c.in_ok-ways.was ∙ ap Ok c.in-Empty.is)) c.in_ok-close_by_empty_list-in-Empty.ensures.gave_way

pub returns-in_ok-close_by_empty_list-in-Empty-clause-stand_ins : goal.returns-in_ok-close_by_empty_list-in-Empty-clause-stand_ins
returns-in_ok-close_by_empty_list-in-Empty-clause-stand_ins g c =
    let f = follows_on c.args.world.now c.take_rule.new.world c.close_by_empty_list.new.world c.args.proof.now c.take_rule.new.proof c.close_by_empty_list.new.proof
    c.take_rule.ensures.follows c.close_by_empty_list.ensures.follows in
    stand_ins_then c.args.world.now c.close_by_empty_list.new.world f.grows f.declared c.args.progress.now.stand_ins.items c.requires.stand_ins
