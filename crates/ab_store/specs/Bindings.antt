-- Which cells stand in a term, and how bindings stand to one another.
use Rattle.std.specs.Prelude.{◌≡◌, ◌≢◌, List, [], map, None, All, AllPairs, Contains}
use Rattle.ab_term.specs.Variables.{variables}
use Rattle.ab_store.specs.declared.node.TermId.{TermId}
use Rattle.ab_store.specs.declared.node.CellId.{CellId}
use Rattle.ab_store.specs.Reading.{Contents, Holds, HoldsCell, tree_of, binding_of}

-- the cells of the tree of an id, in order, each as often as it stands there. They are the same in every table, so the
-- empty one serves.
abbrev pub cells_of : Contents → TermId → List CellId
cells_of store t = map (λ x. record { 0 = x.name }) (variables (tree_of [] store t))

abbrev pub StandsIn : Contents → CellId → TermId → Type 0
StandsIn store c t = Contains (cells_of store t) c

abbrev pub IsUnbound : Contents → CellId → Type 0
IsUnbound store c = binding_of store c ≡ None

-- no bound cell stands in the term
abbrev pub IsResolved : Contents → TermId → Type 0
IsResolved store t = All (IsUnbound store) (cells_of store t)

-- BINDINGS ARE IN ORDER: each cell is bound once, and no cell stands in the term that it is bound to, nor in one that
-- another is bound to later. So a bound cell's term holds only cells that are unbound or were bound later.
pub record AreInOrder (store : Contents) : Type 0 where
  pub held : All (λ b. HoldsCell store b.cell × Holds store b.term) store.bindings
  pub once : AllPairs (λ a b. a.cell ≢ b.cell) store.bindings
  pub apart : All (λ b. ¬ StandsIn store b.cell b.term) store.bindings
  pub later : AllPairs (λ a b. ¬ StandsIn store a.cell b.term) store.bindings
