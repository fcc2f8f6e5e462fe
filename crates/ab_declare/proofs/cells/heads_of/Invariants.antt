use Rattle.std.proofs.Common.{◌≡◌, map, take}
use Rattle.ab_norm.specs.ab_store.specs.declared.node.Head.TheVariants.{Cell}
use Rattle.ab_declare.proofs.cells.heads_of.Given as goal

abbrev pub invariant-loop-cell : goal.invariant-loop-cell
invariant-loop-cell l = l.heads.items ≡ map Cell (take l.cell-index l.cells)
