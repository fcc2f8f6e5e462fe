use Rattle.std.proofs.Common.{sym, subst, arith}
use Rattle.ab_logic.specs.Worlds.{Holds}
use Rattle.ab_search_paths.proofs.MoreTerms.{got_on}
use Rattle.ab_search_paths.proofs.likeness.compare.Goals as goal

pub returns-clause-got : goal.returns-clause-got
returns-clause-got g c = got_on c.args.world.now c.put_in.new.world c.compare_opened.new.world c.in_ok-here.ensures.got c.compare_opened.ensures.got
