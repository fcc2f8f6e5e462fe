use Rattle.std.proofs.Common.{subst}
use Rattle.std.specs.List.{All}
use Rattle.ab_search_paths.specs.Paths.{IsBeside}
use Rattle.ab_search_paths.proofs.StandIns.{one_more}
use Rattle.ab_search_paths.proofs.likeness.add_stand_in.Goals as goal

pub returns : goal.returns
returns c =
    let w = c.args.world.now in
    let one = c.args.one in
    let found = c.in_ok-fits.ensures c.if-not-branch.false in
    record {
      stand_ins = one_more w c.args.stand_ins.now.items c.push.new.self.items one c.requires.stand_ins c.requires.typed found.0 (subst (All (IsBeside w one)) c.deref.ensures.value found.1) c.in_ok-push.ensures.items;
    }
