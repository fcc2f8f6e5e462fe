use Rattle.ab_sigmod.specs.Outcomes.{seen}
use Rattle.ab_run.proofs.Texts.{text_at_once}
use Rattle.ab_run.proofs.scripts.run_text.Goals as goal

pub returns-in_default : goal.returns-in_default
returns-in_default g c = record {
  ran =
      text_at_once c.args.way c.args.text.now (g.O.Sink.written c.args.out.now) (g.O.Sink.faults c.args.out.now) (seen (g.F.Files.files c.args.files.now) (g.F.Files.plan c.args.files.now) (g.F.Files.faults c.args.files.now) (g.F.Files.misses c.args.files.now) (g.F.Files.long_files c.args.files.now));
}
