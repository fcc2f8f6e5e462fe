use Rattle.std.proofs.Common.{◌≡◌, map, drop}
use Rattle.std.specs.List.{All}
use Rattle.ab_norm.specs.ab_types.specs.Entries.{Table}
use Rattle.ab_norm.specs.ab_types.specs.Sound.{IsTable}
use Rattle.ab_norm.specs.ab_store.specs.Trees.{Contents, head_reading}
use Rattle.ab_norm.specs.ab_store.specs.Naming.{HeadIsTyped}
use Rattle.ab_term.specs.Abstraction.{among}
use Rattle.ab_patterns.proofs.names.is_among.Given as goal

-- none so far is the head
abbrev pub invariant-loop-other : goal.invariant-loop-other
invariant-loop-other l =
    (types : Table) (store : Contents) → IsTable types → All (HeadIsTyped types) l.heads → HeadIsTyped types l.head
    → among (map (head_reading types store) (drop l.other-index l.heads)) (head_reading types store l.head) ≡ among (map (head_reading types store) l.heads) (head_reading types store l.head)
