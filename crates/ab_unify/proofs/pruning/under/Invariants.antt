use Rattle.std.proofs.Common.{◌≡◌, zero, ◌∷◌, map, take}
use Rattle.ab_term.specs.Terms.{index}
use Rattle.ab_term.specs.Substitution.{shift_head}
use Rattle.ab_norm.specs.ab_types.specs.Entries.{Table}
use Rattle.ab_norm.specs.ab_store.specs.Trees.{Contents, head_reading}
use Rattle.ab_unify.specs.StoreChanges.{AreNames}
use Rattle.ab_unify.proofs.pruning.under.Given as goal

abbrev pub invariant-loop-name : goal.invariant-loop-name
invariant-loop-name l = record {
  reads : (types : Table) (store : Contents) → map (head_reading types store) l.inner.items ≡ index zero ∷ map (shift_head zero) (map (head_reading types store) (take l.name-index l.names));
  names : (types : Table) → AreNames types l.names → AreNames types l.inner.items;
}
