use Rattle.std.proofs.Common.{◌+◌, length, sym, ap, subst}
use Rattle.std.proofs.lemmas.Result.{on_ok_weaker}
use Rattle.ab_search.specs.GoalCounts.{FirstGaveWay}
use Rattle.ab_search_paths.specs.Paths.{AreStandIns}
use Rattle.ab_search.proofs.Counting.{among}
use Rattle.ab_search_paths.proofs.Staying.{stand_ins_then}
use Rattle.ab_search.proofs.carried_paths.take_one.Goals as goal

pub returns-in_err-take-clause-stand_ins : goal.returns-in_err-take-clause-stand_ins
returns-in_err-take-clause-stand_ins g c =
    stand_ins_then c.args.world.now c.take.new.world c.take.ensures.follows.grows c.take.ensures.follows.declared c.args.progress.now.stand_ins.items c.requires.stand_ins

pub returns-clause-gave_way : goal.returns-clause-gave_way
returns-clause-gave_way g c =
    let w = c.args.world.now in
    let v = c.take.new.world in
    let p = c.args.proof.now in
    let q = c.take.new.proof in
    let k = length c.args.progress.now.pending.items in
    on_ok_weaker c.wait.result
    (λ longer. subst (λ n. FirstGaveWay w p v q (k + 1) n) (sym longer) (among w v p q c.args.place k 1 c.requires.place c.in_ok-take.ensures.taken))
    c.wait.ensures.pending

pub returns-clause-stand_ins : goal.returns-clause-stand_ins
returns-clause-stand_ins g c =
    subst (λ list. AreStandIns c.take.new.world list) (sym (ap (λ l. l.items) c.wait.ensures.stand_ins))
    (stand_ins_then c.args.world.now c.take.new.world c.take.ensures.follows.grows c.take.ensures.follows.declared c.args.progress.now.stand_ins.items c.requires.stand_ins)
