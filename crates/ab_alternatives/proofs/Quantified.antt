-- What `exists` over cells reads as.
use Rattle.std.proofs.Common.{◌≡◌, ◌==◌, ℕ, false, List, [], ◌∷◌, length, map, refl, ap}
use Rattle.ab_term.specs.Terms.{Nominal, Read}
use Rattle.ab_norm.specs.ab_types.specs.Entries.{Table}
use Rattle.ab_norm.specs.ab_store.specs.declared.node.CellId.{CellId}
use Rattle.ab_norm.specs.ab_store.specs.Trees.{Contents}
use Rattle.ab_patterns.specs.Existentials as cells
use Rattle.ab_theory.specs.Unfolding.{exists_over, exists_all}
use Rattle.ab_logic.specs.Worlds.{variable_at}
use Rattle.ab_alternatives.specs.RightAlternatives.{nabla_by, closed_by}

pub all_over : (types : Table) (s : Contents) (cs : List CellId) (t : Read) → cells.exists_over types s cs t ≡ exists_all (map (variable_at types s) cs) t
all_over types s [] t = refl
all_over types s (c ∷ cs) t = ap (exists_over (variable_at types s c)) (all_over types s cs t)

-- so it does where there are cells, which are as they were in a store before
pub closed_over_some : (types : Table) (S V : Contents) → V.cells ≡ S.cells → (cs : List CellId) → (length cs == 0) ≡ false → (xs : List (List ℕ)) (ns : List Nominal) (F : Read)
    → exists_all (map (variable_at types V) cs) (nabla_by xs ns F) ≡ closed_by (map (variable_at types S) cs) xs ns F
closed_over_some types S V e [] some xs ns F = absurd cc
closed_over_some types S V e (c ∷ cs) some xs ns F = ap (λ C. exists_all (map (variable_at types (record { nodes = V.nodes; cells = C; bindings = V.bindings; room = V.room })) (c ∷ cs)) (nabla_by xs ns F)) e
