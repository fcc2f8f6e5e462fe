use Rattle.std.proofs.Common.{◌+◌, length, sym, ap, subst}
use Rattle.std.proofs.lemmas.Result.{on_ok_weaker}
use Rattle.ab_search.specs.GoalCounts.{FirstGaveWay}
use Rattle.ab_search_paths.specs.Paths.{AreStandIns}
use Rattle.ab_search.proofs.Counting.{among}
use Rattle.ab_search.proofs.carried_paths.take_more.Goals as goal

pub returns-clause-gave_way : goal.returns-clause-gave_way
returns-clause-gave_way g c =
    let w = c.args.world.now in
    let v = c.put_in_or_unfold.new.world in
    let p = c.args.proof.now in
    let q = c.put_in_or_unfold.new.proof in
    let k = length c.args.progress.now.pending.items in
    on_ok_weaker c.wait.result
    (λ longer. subst (λ n. FirstGaveWay w p v q (k + 1) n) (sym longer) (among w v p q c.args.place k 1 c.requires.place c.in_ok-put_in_or_unfold.ensures.gave_way))
    c.wait.ensures.pending

pub returns-clause-stand_ins : goal.returns-clause-stand_ins
returns-clause-stand_ins g c =
    subst (λ list. AreStandIns c.put_in_or_unfold.new.world list) (sym (ap (λ l. l.items) c.wait.ensures.stand_ins)) c.put_in_or_unfold.ensures.stand_ins
