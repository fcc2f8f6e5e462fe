use Rattle.std.proofs.Common.{◌≡◌, ◌≤◌, drop}
use Rattle.std.specs.List.{All}
use Rattle.ab_norm.specs.Nominals.{HoldsNominal}
use Rattle.ab_norm.specs.ab_store.specs.declared.node.TermId.{TermId}
use Rattle.ab_norm.specs.ab_store.specs.Trees.{Holds}
use Rattle.ab_unify.specs.StoreChanges.{Grows}
use Rattle.ab_unify.specs.UnifyAnswers.{AreInAge}
use Rattle.ab_alternatives.specs.ab_instances.specs.ListReadings.{names_read}
use Rattle.ab_uses.specs.ClosedReadings.{closed_reading}
use Rattle.ab_uses.proofs.closed_parts.fill_all.Given as goal

abbrev pub invariant-loop-cell : goal.invariant-loop-cell
invariant-loop-cell g l = record {
  grows : Grows l.types l.fn.store l.types l.store;
  known : All (HoldsNominal l.types) l.known.items;
  in_age : AreInAge (drop l.cell-index l.cells);
  left : (t : TermId) → Holds l.fn.store t → closed_reading l.types l.store (names_read l.types l.known.items) (drop l.cell-index l.cells) t ≡ closed_reading l.types l.fn.store (names_read l.types l.fn.known.items) l.cells t;
  steps : l.fn.steps ≤ l.steps;
}
