use Rattle.std.proofs.Common.{length}
use Rattle.ab_judgement_forms.proofs.named_scopes.+under_cells.Given as goal

abbrev pub decreases-under_cells : goal.decreases-under_cells
decreases-under_cells l = length l.cells.now
