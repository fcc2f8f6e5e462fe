use Rattle.std.proofs.Common.{map, sym, ◌∙◌, ap}
use Rattle.ab_theory.specs.Pieces as spec
use Rattle.ab_uses.specs.GivenReadings.{given_of}
use Rattle.ab_uses.proofs.TermsGiven.{none_given}
use Rattle.ab_uses.proofs.formula_parts.part_of.Goals as goal

pub returns-in-None-clause-left : goal.returns-in-None-clause-left
returns-in-None-clause-left c =
    let gs = map (given_of c.args.world.now) c.args.left.now.items in
    sym (none_given c.args.name gs (sym (c.in-None.ensures.value ∙ ap (λ l. spec.given_for c.args.name (map (given_of c.args.world.now) l)) c.deref.ensures.value)))
