use Rattle.std.proofs.Common.{sym, subst}
use Rattle.std.specs.List.{All}
use Rattle.std.proofs.lemmas.List.Elements.{All-weaker}
use Rattle.ab_norm.specs.ab_store.specs.Trees.{HoldsCell}
use Rattle.ab_declare.proofs.kept_clauses.close_clause.Goals as goal

pub returns-clause-held : goal.returns-clause-held
returns-clause-held c = λ types. record {
  variables = subst (All (HoldsCell c.exists_all.new.store)) (sym c.from_vec-2.ensures)
      (All-weaker (HoldsCell c.args.store.now) (HoldsCell c.exists_all.new.store) c.in_ok-body.ensures.adds.before.cell_ids c.in_ok-split.split.others.items c.in_ok-split.ensures.others_held);
  head = c.in_ok-body.ensures.adds.before.ids c.args.head c.requires.head;
  body = c.in_ok-body.ensures.held;
}
