-- Formulas under `exists` over cells, which become the bound names.
use Rattle.std.specs.Prelude.{zero, List, [], ◌∷◌}
use Rattle.ab_term.specs.Logical.{existential}
use Rattle.ab_term.specs.Terms.{Variable, logical, variable, lam, spine, no_terms, term, Read}
use Rattle.ab_term.specs.Abstraction.{close}
use Rattle.ab_norm.specs.ab_types.specs.Entries.{Table}
use Rattle.ab_norm.specs.ab_store.specs.declared.node.CellId.{CellId}
use Rattle.ab_norm.specs.ab_store.specs.Trees.{Contents, cell_of}
use Rattle.ab_norm.specs.ab_store.specs.Reading.{cell_variable}

module _ (types : Table) (store : Contents) where
  -- `exists x, t`, where the bound name stands in t already: x is called as the cell
  abbrev pub exists_of : CellId → Read → Read
  exists_of c t = let A = (cell_variable types store c).type in spine (logical (existential A)) (term (lam A (cell_of store c).hint t) no_terms)

  -- `exists` over the cells, the first outermost
  abbrev pub exists_over : List CellId → Read → Read
  exists_over [] t = t
  exists_over (c ∷ cs) t = exists_of c (close zero (variable (cell_variable types store c)) (exists_over cs t))
