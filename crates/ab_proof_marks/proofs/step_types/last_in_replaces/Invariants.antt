use Rattle.std.specs.List.{AllWithin}
use Rattle.ab_store.specs.ab_types.specs.Ids.{HoldsType}
use Rattle.ab_kernel.specs.ab_rules.specs.declared.replaces.Replace.{Replace}
use Rattle.ab_proof_marks.specs.NamedTypes.{IsLastType}
use Rattle.ab_proof_marks.proofs.step_types.last_in_replaces.Given as goal

abbrev pub invariant-loop-replace : goal.invariant-loop-replace
invariant-loop-replace l = IsLastType (λ t. AllWithin (λ (r : Replace). HoldsType t r.from.ty) l.replaces 0 l.replace-index) l.last
