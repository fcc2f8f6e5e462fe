use Rattle.std.specs.List.{All}
use Rattle.ab_store.specs.ab_types.specs.Entries.{Table}
use Rattle.ab_store.specs.Reading.{Contents, Holds, tree_of}
use Rattle.ab_norm.specs.ResolvedTerms.{KeepsPut, Becomes}
use Rattle.ab_norm.proofs.bindings_put_in.keep_for_all.Given as goal

abbrev pub invariant-loop-id : goal.invariant-loop-id
invariant-loop-id l =
    (types : Table) (store : Contents) → KeepsPut types store l.fn.memo → Holds store l.answer
    → All (Becomes types store l.count (tree_of types store l.answer)) l.ids → KeepsPut types store l.memo
