use Rattle.std.proofs.Common.{sym}
use Rattle.ab_walk.specs.ab_next_ways.proofs.RuleChoice.{judgement_typed}
use Rattle.ab_search_paths.proofs.ways_taken.ruled_judgement.Goals as goal

pub returns-then-knows_rules-clause-typed : goal.returns-then-knows_rules-clause-typed
returns-then-knows_rules-clause-typed c = judgement_typed c.args.world.now c.in_ok-judgement.judgement c.in_ok-judgement.ensures.held c.args.formula c.requires.formula (sym c.in_ok-judgement.ensures.reads)
