use Rattle.std.proofs.Common.{ap, ◌∙◌}
use Rattle.std.specs.Option.{option_map}
use Rattle.ab_logic.specs.Worlds.{definition_of}
use Rattle.ab_logic.proofs.Blocks.{block_found}
use Rattle.ab_logic.proofs.world.World.block.Goals as goal

pub returns-clause-reads : goal.returns-clause-reads
returns-clause-reads c =
    let w = c.args.self.now in
    ap (option_map (definition_of w)) c.block.ensures ∙ block_found w c.has_unique_ids.ensures.constants c.args.predicate c.requires.predicate 0 w.additions c.requires.world.additions
