use Rattle.ab_store.specs.ab_types.specs.Ids.{type_of}
use Rattle.ab_inference.proofs.Pathing.{size}
use Rattle.ab_inference.proofs.prop_free.+is_prop_free.Given as goal

abbrev pub decreases-is_prop_free : goal.decreases-is_prop_free
decreases-is_prop_free l = size (type_of l.types.now l.ty)
