use Rattle.std.specs.List.{All}
use Rattle.std.proofs.Common.{sym, subst}
use Rattle.ab_logic.specs.Worlds.{Holds}
use Rattle.ab_steps.specs.ab_kernel.specs.ab_judgements.specs.ab_alternatives.specs.ab_instances.proofs.Made.{names_held}
use Rattle.ab_search.proofs.rule_plans.plan_with_hypothesis.Goals as goal

pub returns-clause-plan : goal.returns-clause-plan
returns-clause-plan g c =
    let w = c.args.world.now in
    let v = c.carry_terms.new.world in
    let held = subst (All (Holds v)) (sym c.deref-2.ensures.value) c.in_ok-here.ensures.held in
    let found = c.in_ok-assumed_with.ensures in
    record {
      constants = names_held w.types v.types c.carry_terms.ensures.got.grows.types c.args.at.constants.items c.requires.at.constants;
      formula = found.formula v held;
      names = found.names v held;
    }
