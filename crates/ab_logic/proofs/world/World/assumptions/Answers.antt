use Rattle.std.proofs.Common.{◌∙◌, sym}
use Rattle.ab_logic.proofs.Declaring.{assumed_found}
use Rattle.ab_logic.proofs.world.World.assumptions.Goals as goal

pub returns : goal.returns
returns c =
    let w = c.args.self.now in
    c.assumptions.ensures ∙ sym (assumed_found w 0 w.additions c.args.name.now)
