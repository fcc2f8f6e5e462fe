use Rattle.std.specs.List.{AllWithin}
use Rattle.ab_logic.specs.Worlds.{HoldsCell}
use Rattle.ab_remains.specs.RaisedMarks.{IsRaised}
use Rattle.ab_remains.proofs.sequent_marks.mark_to_cells.Given as goal

abbrev pub invariant-loop-cell : goal.invariant-loop-cell
invariant-loop-cell l =
    IsRaised l.world (λ v. AllWithin (λ c. HoldsCell l.world c → HoldsCell v c) l.cells 0 l.cell-index) (λ v. AllWithin (HoldsCell v) l.cells 0 l.cell-index) l.fn.mark l.raised
