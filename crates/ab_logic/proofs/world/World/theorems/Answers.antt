use Rattle.std.specs.Prelude.{length}
use Rattle.std.proofs.Common.{◌∙◌, sym, ap}
use Rattle.std.proofs.lemmas.List.{length-map}
use Rattle.ab_logic.proofs.Declaring.{theorems_are}
use Rattle.ab_logic.proofs.world.World.theorems.Goals as goal

pub returns : goal.returns
returns c = c.theorems.ensures ∙ sym (length-map _ _) ∙ ap length (sym (theorems_are c.args.self.now 0 c.args.self.now.additions))
