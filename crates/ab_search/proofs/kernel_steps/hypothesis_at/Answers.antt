use Rattle.ab_search.proofs.kernel_steps.hypothesis_at.Goals as goal

pub returns-in-Some : goal.returns-in-Some
returns-in-Some c = record { held = λ w proof. c.in-Some.ensures.held w (c.in_ok-goal_at.ensures.held w proof) }
