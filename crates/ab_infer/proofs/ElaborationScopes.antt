-- What a walk stands on, from what elaboration is given.
use Rattle.ab_norm.specs.ab_types.specs.Entries.{Table}
use Rattle.ab_norm.specs.ab_types.specs.Sound.{IsTable}
use Rattle.ab_norm.specs.ab_store.specs.Trees.{Contents}
use Rattle.ab_norm.specs.ab_store.specs.Naming.{IsTypedBy}
use Rattle.ab_inference.specs.declared.constraints.Formulas.{Formulas}
use Rattle.ab_inference.specs.Inferences.{IsFormulas}
use Rattle.ab_infer.specs.declared.scope.Scope.{Scope}
use Rattle.ab_infer.specs.NameScopes.{HoldsScope}
use Rattle.ab_infer.proofs.Larger.{store_more}
use Rattle.ab_infer.specs.Rows.{IsGround, AddsTypes}
use Rattle.ab_infer.proofs.Grounds.{scope_more}

pub ground : (old new : Table) (store : Contents) (f : Formulas) (s : Scope) → AddsTypes old new → IsTable new → IsTypedBy old store → IsFormulas new f → HoldsScope old store s → IsGround new store f s
ground old new store f s adds table typed formulas held = record {
  table = table;
  typed = store_more old new adds.kept store typed;
  are_formulas = formulas;
  holds_scope = scope_more old new adds store s held;
}
