use Rattle.ab_expressions.specs.Frames.{frames_of}
use Rattle.ab_expressions.proofs.Enders.{if_ok}
use Rattle.ab_expressions.proofs.step.step.Goals as goal

pub returns-in-BinderType-default : goal.returns-in-BinderType-default
returns-in-BinderType-default c = rw c.in-BinderType-default.is-0 (if_ok c.step_binder_type.result (λ r h. h (frames_of c.args.frames.now)) c.step_binder_type.ensures)
