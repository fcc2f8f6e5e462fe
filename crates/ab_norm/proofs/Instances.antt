-- Arguments that are put in one after another.
use Rattle.std.proofs.Common.{◌≡◌, ℕ, ◌+◌, ◌<◌, List, map, drop, length, get_or, sym, ◌∙◌, ap}
use Rattle.std.specs.List.{All}
use Rattle.std.proofs.lemmas.List.{drop_more}
use Rattle.ab_term.specs.Substitution.{instance, instance_by_all}
use Rattle.ab_store.specs.ab_types.specs.Entries.{Table}
use Rattle.ab_store.specs.declared.node.TermId.{TermId}
use Rattle.ab_term.specs.Terms.{Read}
use Rattle.ab_store.specs.Trees.{Contents, Holds, tree_of}
use Rattle.ab_norm.specs.NodeGrowth.{AddsTerms}

-- one more argument, and the rest give the same
pub instance_more : (types : Table) (s0 s1 s2 : Contents) (here next d : TermId) (args : List TermId) (i : ℕ) (answer : Read)
    → AddsTerms s0 s1
    → All (Holds s0) args
    → i < length args
    → tree_of types s2 next ≡ instance (tree_of types s1 here) (tree_of types s1 (get_or args i d))
    → instance_by_all (tree_of types s1 here) (map (tree_of types s0) (drop i args)) ≡ answer
    → instance_by_all (tree_of types s2 next) (map (tree_of types s0) (drop (i + 1) args)) ≡ answer
instance_more types s0 s1 s2 here next d args i answer adds held l applied so_far =
    ap (λ t. instance_by_all t (map (tree_of types s0) (drop (i + 1) args))) (applied ∙ ap (instance (tree_of types s1 here)) (adds.before.trees types (get_or args i d) (held i d l)))
    ∙ sym (ap (λ us. instance_by_all (tree_of types s1 here) (map (tree_of types s0) us)) (drop_more args i d l))
    ∙ so_far
