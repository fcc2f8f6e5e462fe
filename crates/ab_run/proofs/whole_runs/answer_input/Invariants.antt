use Rattle.std.proofs.Common.{◌≡◌, ◌≤◌, ◌+◌, ◌-◌, length}
use Rattle.ab_sigmod.specs.Outcomes.{seen}
use Rattle.ab_run.specs.declared.whole_runs.TheConstants.{MAX_INPUT, PIECE}
use Rattle.ab_run.specs.Progress.{Running, standing_of}
use Rattle.ab_run.proofs.whole_runs.answer_input.Given as goal

abbrev pub invariant-pieces : goal.invariant-pieces
invariant-pieces g l = record {
  running : Running l.fn.way (g.S.Source.left l.fn.input) (g.S.Source.left l.input) (g.O.Sink.written l.fn.out) (g.O.Sink.written l.out) (seen (g.F.Files.files l.fn.files) (g.F.Files.plan l.fn.files) (g.F.Files.faults l.fn.files) (g.F.Files.misses l.fn.files) (g.F.Files.long_files l.fn.files))
      (seen (g.F.Files.files l.files) (g.F.Files.plan l.files) (g.F.Files.faults l.files) (g.F.Files.misses l.files) (g.F.Files.long_files l.files)) l.splitter (standing_of l.progress) l.taken;
  room : length l.piece ≡ PIECE;
  reads : g.S.Source.faults l.fn.input ≤ g.S.Source.faults l.input;
  writes : g.O.Sink.faults l.fn.out ≤ g.O.Sink.faults l.out;
}

abbrev pub decreases-pieces : goal.decreases-pieces
decreases-pieces g l = MAX_INPUT + 1 - l.taken
