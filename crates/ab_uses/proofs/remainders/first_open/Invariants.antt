use Rattle.std.proofs.Common.{◌≡◌, [], filter, take}
use Rattle.ab_norm.specs.ab_types.specs.Entries.{Table}
use Rattle.ab_uses.specs.UseSolutions.{is_open}
use Rattle.ab_uses.proofs.remainders.first_open.Given as goal

abbrev pub invariant-loop-cell : goal.invariant-loop-cell
invariant-loop-cell l = (types : Table) → filter (is_open types l.store l.terms) (take l.cell-index l.cells) ≡ []
