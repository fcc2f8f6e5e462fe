use Rattle.std.proofs.Common.{◌≡◌, ◌≤◌, false, [], length}
use Rattle.ab_lex.specs.PendingText.{SameRest}
use Rattle.ab_sigmod.specs.Outcomes.{seen}
use Rattle.ab_run.specs.Progress.{Answered, to_come, standing_of}
use Rattle.ab_run.proofs.output.answer_ready.Given as goal

abbrev pub invariant-items : goal.invariant-items
invariant-items g l = record {
  answered : Answered l.fn.way (g.O.Sink.written l.fn.out) (g.O.Sink.written l.out) (seen (g.F.Files.files l.fn.files) (g.F.Files.plan l.fn.files) (g.F.Files.faults l.fn.files) (g.F.Files.misses l.fn.files) (g.F.Files.long_files l.fn.files))
      (seen (g.F.Files.files l.files) (g.F.Files.plan l.files) (g.F.Files.faults l.files) (g.F.Files.misses l.files) (g.F.Files.long_files l.files)) (to_come l.fn.splitter) (to_come l.splitter) (standing_of l.fn.progress) (standing_of l.progress);
  goes_on : l.progress.ended ≡ false;
  rest : SameRest l.fn.splitter l.splitter;
  faults_never_fall : g.O.Sink.faults l.fn.out ≤ g.O.Sink.faults l.out;
}

abbrev pub decreases-items : goal.decreases-items
decreases-items g l = length (to_come l.splitter [])
