-- New cells, and each of them given the same arguments. Public contracts don't speak of this.
use Rattle.std.specs.Prelude.{ℕ, suc, List, [], ◌∷◌, codes}
use Rattle.ab_term.specs.Terms.{Terms, variable, Read}
use Rattle.ab_term.specs.Expansion.{expansion_of}
use Rattle.ab_norm.specs.ab_types.specs.Entries.{Table}
use Rattle.ab_norm.specs.ab_types.specs.Ids.{type_of}
use Rattle.ab_norm.specs.ab_store.specs.declared.node.CellId.{CellId}
use Rattle.ab_norm.specs.ab_store.specs.Trees.{Contents, cell_of}
use Rattle.ab_norm.specs.ab_store.specs.Reading.{cell_variable}

-- as many cells as there are in the list, with the numbers from there on
abbrev pub ids_from : {X : Type 0} → ℕ → List X → List CellId
ids_from n [] = []
ids_from n (c ∷ cs) = record { 0 = n } ∷ ids_from (suc n) cs

-- each of the first, given the arguments, at the type of the second
abbrev pub given_all : Table → Contents → Terms ℕ (List ℕ) → List CellId → List CellId → List Read
given_all types store args [] cs = []
given_all types store args (m ∷ ms) [] = []
given_all types store args (m ∷ ms) (c ∷ cs) = expansion_of (codes "x") (type_of types (cell_of store c).ty) (variable (cell_variable types store m)) args ∷ given_all types store args ms cs
