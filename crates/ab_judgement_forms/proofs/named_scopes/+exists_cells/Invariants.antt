use Rattle.std.proofs.Common.{length}
use Rattle.ab_judgement_forms.proofs.named_scopes.+exists_cells.Given as goal

abbrev pub decreases-exists_cells : goal.decreases-exists_cells
decreases-exists_cells l = length l.cells.now
