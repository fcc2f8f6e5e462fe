use Rattle.std.proofs.Common.{List, ℕ, inl, option_map, ◌∙◌, subst}
use Rattle.ab_sigmod.specs.Outcomes.{seen}
use Rattle.ab_session.specs.Contents.{state_of}
use Rattle.ab_run.specs.Outcome.{RanText}
use Rattle.ab_run.proofs.scripts.run_drill.Goals as goal

pub returns-in-Ok : goal.returns-in-Ok
returns-in-Ok g c = record {
  ran =
      inl (subst (λ (t : List ℕ). RanText c.args.way t c.run_text.result.0 (option_map state_of c.run_text.result.1) (g.O.Sink.written c.args.out.now) (g.O.Sink.written c.run_text.new.out) (g.O.Sink.faults c.args.out.now) (g.O.Sink.faults c.run_text.new.out)
      (seen (g.F.Files.files c.args.files.now) (g.F.Files.plan c.args.files.now) (g.F.Files.faults c.args.files.now) (g.F.Files.misses c.args.files.now) (g.F.Files.long_files c.args.files.now))
      (seen (g.F.Files.files c.run_text.new.files) (g.F.Files.plan c.run_text.new.files) (g.F.Files.faults c.run_text.new.files) (g.F.Files.misses c.run_text.new.files) (g.F.Files.long_files c.run_text.new.files)))
      (c.deref.ensures.value ∙ c.in-Ok.ensures) c.run_text.ensures.ran);
}
