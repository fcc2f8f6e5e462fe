use Rattle.std.proofs.Common.{List, ℕ, ◌∙◌, subst}
use Rattle.ab_run.specs.declared.status.Status.TheVariants.{NoFile}
use Rattle.ab_run.specs.Endings.{missing}
use Rattle.ab_run.specs.Progress.{EndedWith}
use Rattle.ab_run.proofs.Whole.{wrote_line}
use Rattle.ab_run.proofs.scripts.tell_missing.Goals as goal

pub returns-in-Ok : goal.returns-in-Ok
returns-in-Ok g c =
    wrote_line (missing c.args.name.now) c.end_with.result (g.O.Sink.written c.args.out.now) (g.O.Sink.written c.end_with.new.out) (g.O.Sink.faults c.args.out.now) (g.O.Sink.faults c.end_with.new.out)
    (subst (λ (q : List ℕ). EndedWith c.end_with.result NoFile q (g.O.Sink.written c.args.out.now) (g.O.Sink.written c.end_with.new.out) (g.O.Sink.faults c.args.out.now) (g.O.Sink.faults c.end_with.new.out))
    (c.deref.ensures.value ∙ c.in-Ok.ensures) c.end_with.ensures.ended)
