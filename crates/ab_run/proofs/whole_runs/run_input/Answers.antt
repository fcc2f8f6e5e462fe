use Rattle.ab_sigmod.specs.Outcomes.{seen}
use Rattle.ab_run.proofs.Endings.{ran_at_once}
use Rattle.ab_run.proofs.whole_runs.run_input.Goals as goal

pub returns-in_default : goal.returns-in_default
returns-in_default g c = record {
  ran =
      ran_at_once c.args.way (g.S.Source.left c.args.input.now) (g.O.Sink.written c.args.out.now) (g.S.Source.faults c.args.input.now) (g.O.Sink.faults c.args.out.now) (seen (g.F.Files.files c.args.files.now) (g.F.Files.plan c.args.files.now) (g.F.Files.faults c.args.files.now) (g.F.Files.misses c.args.files.now) (g.F.Files.long_files c.args.files.now));
}

pub returns-in_default-new : goal.returns-in_default-new
returns-in_default-new g c = record {
  ran =
      ran_at_once c.args.way (g.S.Source.left c.args.input.now) (g.O.Sink.written c.args.out.now) (g.S.Source.faults c.args.input.now) (g.O.Sink.faults c.args.out.now) (seen (g.F.Files.files c.args.files.now) (g.F.Files.plan c.args.files.now) (g.F.Files.faults c.args.files.now) (g.F.Files.misses c.args.files.now) (g.F.Files.long_files c.args.files.now));
}
