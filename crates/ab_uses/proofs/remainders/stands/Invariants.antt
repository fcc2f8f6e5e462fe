use Rattle.std.proofs.Common.{◌≡◌, false, take}
use Rattle.ab_norm.specs.ab_types.specs.Entries.{Table}
use Rattle.ab_uses.specs.UseSolutions.{stands_in}
use Rattle.ab_uses.proofs.remainders.stands.Given as goal

abbrev pub invariant-loop-term : goal.invariant-loop-term
invariant-loop-term l = (types : Table) → stands_in types l.store (take l.term-index l.terms) l.cell ≡ false
