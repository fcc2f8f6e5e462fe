use Rattle.std.proofs.Common.{◌≡◌, drop}
use Rattle.ab_norm.specs.ab_types.specs.Entries.{Table}
use Rattle.ab_meaning.specs.Scopes as scopes
use Rattle.ab_infer.specs.NameScopes.{nominals_in}
use Rattle.ab_infer.proofs.name_meanings.settled_nominal.Given as goal

abbrev pub invariant-loop-nominal : goal.invariant-loop-nominal
invariant-loop-nominal l = (types : Table) → scopes.settled_nominal (nominals_in types l.nominals) l.number ≡ scopes.settled_nominal (nominals_in types (drop l.nominal-index l.nominals)) l.number
