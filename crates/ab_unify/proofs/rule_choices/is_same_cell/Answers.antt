use Rattle.std.proofs.Common.{sym, ◌∙◌, ap}
use Rattle.std.specs.Cmp.{unsigned_Decides}
use Rattle.ab_norm.specs.ab_store.specs.declared.node.CellId.{CellId}
use Rattle.ab_unify.proofs.Listed.{same_cell}
use Rattle.ab_unify.proofs.rule_choices.is_same_cell.Goals as goal

pub returns : goal.returns
returns c = (
  λ e. same_cell c.args.a c.args.b ((unsigned_Decides c.args.a.0 c.args.b.0).0 (sym c.eq.ensures ∙ e)),
  λ e. c.eq.ensures ∙ (unsigned_Decides c.args.a.0 c.args.b.0).1 (ap (λ (k : CellId). k.0) e),
)
