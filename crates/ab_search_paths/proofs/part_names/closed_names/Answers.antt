use Rattle.ab_search_paths.proofs.Parts.{added}
use Rattle.ab_search_paths.proofs.part_names.closed_names.Goals as goal

pub returns-in-Part-clause-grows : goal.returns-in-Part-clause-grows
returns-in-Part-clause-grows g c = (added c.args.world.now c.closed_names_of.new.store c.requires.world c.closed_names_of.ensures.adds).0

pub returns-in-Part-clause-declared : goal.returns-in-Part-clause-declared
returns-in-Part-clause-declared g c = (added c.args.world.now c.closed_names_of.new.store c.requires.world c.closed_names_of.ensures.adds).1
