use Rattle.ab_unifiers.proofs.Cells.{answer_cells}
use Rattle.ab_unifiers.proofs.unification_laws.made_variables_are_cells.Goals as goal

pub returns-clause-kept : goal.returns-clause-kept
returns-clause-kept g c = λ x es cells more ys s flexible over p. (answer_cells x es cells ys flexible over more s p).0

pub returns-clause-typed : goal.returns-clause-typed
returns-clause-typed g c = λ x es cells more ys s flexible over p. (answer_cells x es cells ys flexible over more s p).1
