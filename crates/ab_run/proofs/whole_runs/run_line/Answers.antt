use Rattle.std.proofs.Common.{sym, subst, option_map}
use Rattle.ab_line.specs.Lines.{origin_of, request_of_line}
use Rattle.ab_sigmod.specs.Outcomes.{seen}
use Rattle.ab_session.specs.Contents.{state_of}
use Rattle.ab_run.specs.Outside.{outside}
use Rattle.ab_run.specs.Ways.{way_of}
use Rattle.ab_run.specs.Outcome.{RanDrill, RanFor}
use Rattle.ab_run.proofs.whole_runs.run_line.Goals as goal

pub returns-in-Drill-clause-ran : goal.returns-in-Drill-clause-ran
returns-in-Drill-clause-ran g c =
    let files = c.args.files.now in
    let next = c.run_drill.new.files in
    let first = seen (g.F.Files.files files) (g.F.Files.plan files) (g.F.Files.faults files) (g.F.Files.misses files) (g.F.Files.long_files files) in
    let last = seen (g.F.Files.files next) (g.F.Files.plan next) (g.F.Files.faults next) (g.F.Files.misses next) (g.F.Files.long_files next) in
    subst
    (λ script. RanFor (way_of (request_of_line c.args.line.now)) (origin_of script) c.run_drill.result.0 (option_map state_of c.run_drill.result.1)
    (outside (g.S.Source.left c.args.input.now) (g.O.Sink.written c.args.out.now) (g.S.Source.faults c.args.input.now) (g.O.Sink.faults c.args.out.now) first)
    (outside (g.S.Source.left c.args.input.now) (g.O.Sink.written c.run_drill.new.out) (g.S.Source.faults c.args.input.now) (g.O.Sink.faults c.run_drill.new.out) last)) (sym c.in-Drill.is)
    (subst (λ way. RanDrill way c.in-Drill.size c.run_drill.result.0 (option_map state_of c.run_drill.result.1) (g.O.Sink.written c.args.out.now) (g.O.Sink.written c.run_drill.new.out) (g.O.Sink.faults c.args.out.now) (g.O.Sink.faults c.run_drill.new.out) first last)
    c.way_of-way.ensures c.run_drill.ensures.ran)
