use Rattle.std.proofs.Common.{◌⊎◌, map, take}
use Rattle.std.specs.Prelude.{Contains}
use Rattle.ab_norm.specs.ab_store.specs.declared.node.Binding.{Binding}
use Rattle.ab_unify.proofs.Sets.{HasJust}
use Rattle.ab_unify.proofs.made_cells.made_cells.Given as goal

abbrev pub invariant-bound : goal.invariant-bound
invariant-bound l = HasJust l.made (Contains (map (λ (b : Binding). b.cell) (take l.binding-index l.bound)))

abbrev pub invariant-left : goal.invariant-left
invariant-left l = HasJust l.made (λ c. Contains (map (λ (b : Binding). b.cell) l.bound) c ⊎ Contains (take l.cell-index l.left) c)

abbrev pub invariant-given : goal.invariant-given
invariant-given l = HasJust l.made (λ c. (Contains (map (λ (b : Binding). b.cell) l.bound) c ⊎ Contains l.left c) × (¬ Contains (take l.cell-index l.given) c))
