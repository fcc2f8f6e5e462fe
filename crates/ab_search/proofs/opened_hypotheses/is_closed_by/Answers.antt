use Rattle.std.specs.Prelude.{Ok, Some}
use Rattle.std.proofs.Common.{◌∙◌, ap}
use Rattle.ab_search.proofs.opened_hypotheses.is_closed_by.Goals as goal

pub returns-in-Some-clause-closed : goal.returns-in-Some-clause-closed
returns-in-Some-clause-closed g c = λ yes.
    c.try_step.ensures.taken 0 (c.in_ok-taken.was ∙ ap Ok (c.in-Some.is ∙ ap Some c.if-count-eq0.true))
