use Rattle.ab_judgements.proofs.PlaceRules.{part_fits}
use Rattle.ab_judgements.proofs.rule_places.part_rule.Goals as goal

pub returns-in_ok-copied-in-Some-clause-fits : goal.returns-in_ok-copied-in-Some-clause-fits
returns-in_ok-copied-in-Some-clause-fits c = λ w j are.
    let copied = c.in_ok-copied-in-Some.copied in
    let l = c.in-Some.ensures.lookup in
    part_fits w j c.args.parts.now are c.args.place l.3.0 c.in-Some.part.now copied l.1 c.in_ok-copied-in-Some.ensures.names c.in_ok-copied-in-Some.ensures.goals c.in_ok-copied-in-Some.ensures.atom
