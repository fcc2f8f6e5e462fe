use Rattle.std.proofs.Common.{◌≡◌, map, take}
use Rattle.std.specs.List.{All}
use Rattle.ab_norm.specs.ab_types.specs.Entries.{Table}
use Rattle.ab_norm.specs.ab_types.specs.Sound.{IsTable}
use Rattle.ab_norm.specs.ab_store.specs.Trees.{Contents, head_reading}
use Rattle.ab_norm.specs.ab_store.specs.Naming.{HeadIsTyped}
use Rattle.ab_term.specs.Abstraction.{among}
use Rattle.ab_patterns.proofs.flags.common.Given as goal

abbrev pub invariant-loop-name : goal.invariant-loop-name
invariant-loop-name l =
    (types : Table) (store : Contents) → IsTable types → All (HeadIsTyped types) l.names → All (HeadIsTyped types) l.others
    → l.keep.items ≡ map (among (map (head_reading types store) l.others)) (map (head_reading types store) (take l.name-index l.names))
