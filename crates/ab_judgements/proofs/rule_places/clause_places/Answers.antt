use Rattle.std.proofs.Common.{map, ap, ◌∙◌}
use Rattle.ab_logic.specs.Worlds.{read}
use Rattle.ab_judgements.specs.RuleWalks.{clause_there}
use Rattle.ab_judgements.proofs.RuleSlots.{head_places}
use Rattle.ab_judgements.proofs.rule_places.clause_places.Goals as goal

pub returns-in-Some : goal.returns-in-Some
returns-in-Some c =
    let w = c.args.world.now in
    ap (map (clause_there w)) c.clause_places.ensures
    ∙ head_places w c.has_unique_ids.ensures.table c.in-Some.head c.in-Some.ensures.held c.requires.world (read w c.args.atom) c.in-Some.ensures.reads
