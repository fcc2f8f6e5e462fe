use Rattle.std.proofs.Common.{◌≡◌, ◌++◌, map, drop}
use Rattle.std.specs.List.{All}
use Rattle.ab_norm.specs.ab_types.specs.Entries.{Table}
use Rattle.ab_norm.specs.ab_types.specs.Sound.{IsTable}
use Rattle.ab_norm.specs.ab_store.specs.Trees.{Contents, head_reading}
use Rattle.ab_norm.specs.ab_store.specs.Naming.{HeadIsTyped}
use Rattle.ab_unifiers.specs.Unification.{agreeing}
use Rattle.ab_patterns.proofs.flags.agreement_flags.Given as goal

abbrev pub invariant-loop-place : goal.invariant-loop-place
invariant-loop-place l =
    (types : Table) (store : Contents) → IsTable types → All (HeadIsTyped types) l.names → All (HeadIsTyped types) l.others
    → l.keep.items ++ agreeing (map (head_reading types store) (drop l.place l.names)) (map (head_reading types store) (drop l.place l.others))
    ≡ agreeing (map (head_reading types store) l.names) (map (head_reading types store) l.others)
