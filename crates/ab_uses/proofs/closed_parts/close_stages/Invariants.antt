use Rattle.std.proofs.Common.{◌≡◌, ◌≤◌, map, take}
use Rattle.std.specs.List.{All}
use Rattle.ab_norm.specs.ab_store.specs.Reading.{reading}
use Rattle.ab_norm.specs.NodeGrowth.{AddsTypedTerms}
use Rattle.ab_unify.specs.StoreChanges.{Grows}
use Rattle.ab_uses.specs.StageReadings.{stage_by}
use Rattle.ab_uses.specs.UseCells.{StageIsTyped, stages_read}
use Rattle.ab_uses.proofs.closed_parts.close_stages.Given as goal

abbrev pub invariant-loop-stage : goal.invariant-loop-stage
invariant-loop-stage g l = record {
  grows : Grows l.types l.fn.store l.types l.store;
  adds : AddsTypedTerms l.types l.initial.store l.store;
  typed : All (StageIsTyped l.types l.store) l.list.items;
  reads : stages_read l.types l.store l.list.items ≡ map (stage_by l.types (reading l.types l.initial.store)) (take l.stage-index l.stages);
  steps : l.initial.steps ≤ l.steps;
}
