use Rattle.std.proofs.Common.{sym, subst}
use Rattle.ab_search_paths.specs.Paths.{AreStandIns}
use Rattle.ab_search_paths.proofs.Staying.{fewer_stand_ins}
use Rattle.ab_search.proofs.carried_paths.Progress.next.Goals as goal

pub returns-in-Some-clause-stand_ins : goal.returns-in-Some-clause-stand_ins
returns-in-Some-clause-stand_ins c = λ w h.
    subst (AreStandIns w) (sym c.truncate.ensures.items) (fewer_stand_ins w c.in-Some.next.stand_ins c.args.self.now.stand_ins.items h)
