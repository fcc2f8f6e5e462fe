use Rattle.std.proofs.Common.{◌≡◌, drop}
use Rattle.ab_meaning.specs.Scopes as scopes
use Rattle.ab_infer.specs.NameScopes.{entries_in}
use Rattle.ab_infer.proofs.name_meanings.variable_named.Given as goal

abbrev pub invariant-loop-cell : goal.invariant-loop-cell
invariant-loop-cell l = scopes.variable_named (entries_in l.types l.store l.variables) l.name ≡ scopes.variable_named (entries_in l.types l.store (drop l.cell-index l.variables)) l.name
