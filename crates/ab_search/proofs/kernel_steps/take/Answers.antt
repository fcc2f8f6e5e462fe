use Rattle.std.specs.Prelude.{Ok, Some}
use Rattle.std.proofs.Common.{◌∙◌, ap}
use Rattle.ab_search.proofs.kernel_steps.take.Goals as goal

pub returns-in-Some-clause-taken : goal.returns-in-Some-clause-taken
returns-in-Some-clause-taken g c =
    c.try_step.ensures.taken c.args.goals (c.in_ok-count.was ∙ ap Ok (c.in-Some.is ∙ ap Some c.if-count-goals.true))
