use Rattle.std.proofs.Common.{sym, subst}
use Rattle.ab_norm.specs.ab_types.specs.Entries.{Table}
use Rattle.ab_norm.specs.ab_store.specs.Naming.{LogicalIsTyped}
use Rattle.ab_sequents.proofs.body_marks.mark_formula.Goals.{in-Star, in-At, in-Plus, in-Hash}
use Rattle.ab_sequents.proofs.body_marks.mark_formula.Goals as goal

pub returns-clause-adds : goal.returns-clause-adds
returns-clause-adds c = record {
  before = c.spine.ensures.before;
  cells = c.spine.ensures.cells;
  typed = λ types is. c.spine.ensures.typed types is (elim c.match-sign.branch [ in-Star w ↦ subst (LogicalIsTyped types) (sym w.mark-is) tt | in-At w ↦ subst (LogicalIsTyped types) (sym w.mark-is) tt | in-Plus w ↦ subst (LogicalIsTyped types) (sym w.mark-is) tt | in-Hash w ↦ subst (LogicalIsTyped types) (sym w.mark-is) tt ]);
}
