use Rattle.std.proofs.Common.{length}
use Rattle.std.proofs.lemmas.Result.{on_ok_weaker}
use Rattle.ab_search.proofs.PendingGoals.{one_less}
use Rattle.ab_search_paths.proofs.Staying.{stand_ins_then}
use Rattle.ab_search.proofs.carried_paths.take_simple.Goals as goal

pub returns-in-Truth-clause-gave_way : goal.returns-in-Truth-clause-gave_way
returns-in-Truth-clause-gave_way g c =
    on_ok_weaker c.take.result
    (one_less c.args.world.now c.take.new.world c.args.proof.now c.take.new.proof c.args.place (length c.args.progress.now.pending.items) c.requires.place)
    c.take.ensures.taken

pub returns-in-Truth-clause-stand_ins : goal.returns-in-Truth-clause-stand_ins
returns-in-Truth-clause-stand_ins g c =
    let f = c.take.ensures.follows in
    stand_ins_then c.args.world.now c.take.new.world f.grows f.declared c.args.progress.now.stand_ins.items c.requires.stand_ins

pub returns-in-Equality-clause-gave_way : goal.returns-in-Equality-clause-gave_way
returns-in-Equality-clause-gave_way g c =
    on_ok_weaker c.take-in-Equality.result
    (one_less c.args.world.now c.take-in-Equality.new.world c.args.proof.now c.take-in-Equality.new.proof c.args.place (length c.args.progress.now.pending.items) c.requires.place)
    c.take-in-Equality.ensures.taken

pub returns-in-Equality-clause-stand_ins : goal.returns-in-Equality-clause-stand_ins
returns-in-Equality-clause-stand_ins g c =
    let f = c.take-in-Equality.ensures.follows in
    stand_ins_then c.args.world.now c.take-in-Equality.new.world f.grows f.declared c.args.progress.now.stand_ins.items c.requires.stand_ins

pub returns-in-Hypothesis-clause-gave_way : goal.returns-in-Hypothesis-clause-gave_way
returns-in-Hypothesis-clause-gave_way g c =
    on_ok_weaker c.close_by.result
    (one_less c.args.world.now c.close_by.new.world c.args.proof.now c.close_by.new.proof c.args.place (length c.args.progress.now.pending.items) c.requires.place)
    c.close_by.ensures.gave_way

pub returns-in-Hypothesis-clause-stand_ins : goal.returns-in-Hypothesis-clause-stand_ins
returns-in-Hypothesis-clause-stand_ins g c =
    let f = c.close_by.ensures.follows in
    stand_ins_then c.args.world.now c.close_by.new.world f.grows f.declared c.args.progress.now.stand_ins.items c.requires.stand_ins
