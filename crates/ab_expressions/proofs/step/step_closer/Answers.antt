use Rattle.std.proofs.Common.{sym, subst}
use Rattle.ab_grammar.proofs.Machine as machine
use Rattle.ab_expressions.specs.Reader.{seen}
use Rattle.ab_expressions.specs.Frames.{frames_of}
use Rattle.ab_expressions.specs.States.{IsClosed}
use Rattle.ab_expressions.proofs.Enders.{if_ok}
use Rattle.ab_expressions.proofs.step.step_closer.Goals as goal

pub returns-in-Some : goal.returns-in-Some
returns-in-Some c = if_ok c.close.result
    (λ r h. subst (λ (q : machine.Shut). IsClosed q (seen c.args.token) (frames_of c.close.new.frames) r) (sym (rw c.in-Some.is at c.in_ok-inner.ensures)) h)
    c.close.ensures
