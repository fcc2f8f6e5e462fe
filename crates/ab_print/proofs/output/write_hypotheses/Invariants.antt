use Rattle.std.proofs.Common.{◌≡◌, ◌++◌, drop, map}
use Rattle.ab_logic.specs.SequentReadings.{hypothesis_of}
use Rattle.ab_print.specs.GoalText.{cell_name, hypothesis_lines}
use Rattle.ab_print.proofs.output.write_hypotheses.Given as goal

abbrev pub invariant-lines : goal.invariant-lines
invariant-lines l =
    l.out.items ++ hypothesis_lines (cell_name l.world.store) (map (hypothesis_of l.world) (drop l.hypothesis-index l.hypotheses))
    ≡ l.fn.out.items ++ hypothesis_lines (cell_name l.world.store) (map (hypothesis_of l.world) l.hypotheses)
