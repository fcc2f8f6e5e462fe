use Rattle.std.proofs.Common.{sym, subst}
use Rattle.ab_norm.specs.ab_store.specs.Naming.{LogicalIsTyped}
use Rattle.ab_judgement_forms.proofs.opened_goals.with_mark.Goals as goal
use Rattle.ab_judgement_forms.proofs.opened_goals.with_mark.Goals.{in-Star, in-At, in-Plus, in-Hash}

pub returns-clause-adds : goal.returns-clause-adds
returns-clause-adds c =
    let T = c.args.types.now in
    let typed : LogicalIsTyped T c.match-sign.mark = elim c.match-sign.branch [
      | in-Star w ↦ subst (LogicalIsTyped T) (sym w.mark-is) tt
      | in-At w ↦ subst (LogicalIsTyped T) (sym w.mark-is) tt
      | in-Plus w ↦ subst (LogicalIsTyped T) (sym w.mark-is) tt
      | in-Hash w ↦ subst (LogicalIsTyped T) (sym w.mark-is) tt
    ] in
    record { before = c.spine.ensures.before; cells = c.spine.ensures.cells; typed = c.spine.ensures.typed T c.requires.store typed }
