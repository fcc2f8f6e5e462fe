-- Cells as variables, once a table has grown and a cell is made.
use Rattle.std.proofs.Common.{◌≡◌, ℕ, ◌+◌, List, [], ◌∷◌, ◌++◌, map, length, refl, sym, ◌∙◌, ap, subst, codes}
use Rattle.std.specs.Prelude.{All}
use Rattle.std.proofs.lemmas.List.{get_or-map, map-append}
use Rattle.std.proofs.lemmas.List.Elements.{All-head, All-tail}
use Rattle.ab_term.specs.Types.{Ty}
use Rattle.ab_norm.specs.ab_types.specs.Entries.{Table, IsExtendedBy as IsPartOf}
use Rattle.ab_norm.specs.ab_types.specs.Ids.{HoldsType, type_of}
use Rattle.ab_norm.specs.ab_types.proofs.Entries.{same_type}
use Rattle.ab_norm.specs.ab_store.specs.declared.node.CellId.{CellId}
use Rattle.ab_norm.specs.ab_store.specs.declared.node.CellEntry.{CellEntry}
use Rattle.ab_norm.specs.ab_store.specs.Trees.{Contents, HoldsCell, cell_of}
use Rattle.ab_norm.specs.ab_store.specs.Reading.{cell_variable}
use Rattle.ab_norm.specs.ab_store.specs.Naming.{IsTypedBy}
use Rattle.ab_patterns.specs.ab_unifiers.specs.Replacements as solve
use Rattle.ab_patterns.specs.ab_unifiers.proofs.Falling.{map_length}
use Rattle.ab_unify.specs.Problem.{cell_read, cells_read, variables_read}
use Rattle.ab_unify.specs.StoreChanges.{Grows, IsFree}
use Rattle.ab_unify.proofs.Growth.{grown_variable, one_more}

same_entries : (T : Table) (more : Table) (cs : List CellEntry) → All (λ c. HoldsType T c.ty) cs → map (cell_read (T ++ more)) cs ≡ map (cell_read T) cs
same_entries T more [] all = refl
same_entries T more (c ∷ cs) all =
    ap (λ A. record { hint = c.hint; type = A } ∷ map (cell_read (T ++ more)) cs) (same_type T more c.ty (All-head (λ c. HoldsType T c.ty) c cs all))
    ∙ ap (λ l. cell_read T c ∷ l) (same_entries T more cs (All-tail (λ c. HoldsType T c.ty) c cs all))

pub cells_same : (T U : Table) → IsPartOf T U → (cs : List CellEntry) → All (λ c. HoldsType T c.ty) cs → map (cell_read U) cs ≡ map (cell_read T) cs
cells_same T U part cs all = subst (λ X. map (cell_read X) cs ≡ map (cell_read T) cs) (sym part.1) (same_entries T part.0 cs all)

pub variables_same : (T U : Table) (S V : Contents) → Grows T S U V → IsTypedBy T S → (ds : List CellId) → All (IsFree S) ds → variables_read U V ds ≡ variables_read T S ds
variables_same T U S V g typed [] all = refl
variables_same T U S V g typed (d ∷ ds) all =
    ap (λ v. v ∷ variables_read U V ds) (grown_variable T U S V g typed d (All-head (IsFree S) d ds all).0)
    ∙ ap (λ l. cell_variable T S d ∷ l) (variables_same T U S V g typed ds (All-tail (IsFree S) d ds all))

module _ (T U : Table) (S V : Contents) (g : Grows T S U V) (typed : IsTypedBy T S) (cell made : CellId) (held : HoldsCell S cell) (number : made.0 ≡ length S.cells) (one : length V.cells ≡ length S.cells + 1)
    (hint : (cell_of V made).hint ≡ (cell_of S cell).hint) (A : Ty) (ty : type_of U (cell_of V made).ty ≡ A) where
  pub made_cells : (cells : List (solve.Cell (List ℕ))) → cells_read T S ≡ cells → cells_read U V ≡ cells ++ solve.made (codes "x") cells (cell_variable T S cell) A ∷ []
  made_cells cells are =
      ap (map (cell_read U)) (one_more T U S V typed g made number one)
      ∙ map-append (cell_read U) S.cells (cell_of V made ∷ [])
      ∙ ap (λ l. l ++ cell_read U (cell_of V made) ∷ []) (cells_same T U g.table S.cells typed.cells)
      ∙ ap (λ h. cells_read T S ++ record { hint = h; type = type_of U (cell_of V made).ty } ∷ []) (hint ∙ sym named)
      ∙ ap (λ B. cells_read T S ++ record { hint = solve.hint_of (codes "x") (cells_read T S) (cell_variable T S cell); type = B } ∷ []) ty
      ∙ ap (λ l. l ++ solve.made (codes "x") l (cell_variable T S cell) A ∷ []) are
    where
      named : solve.hint_of (codes "x") (cells_read T S) (cell_variable T S cell) ≡ (cell_of S cell).hint
      named = ap (λ (c : solve.Cell (List ℕ)). c.hint) (get_or-map (cell_read T) S.cells cell.0 (record { hint = []; ty = record { 0 = 0 } }) (record { hint = codes "x"; type = (cell_variable T S cell).type }) held)

  -- the new cell as a variable
  pub made_variable : (cells : List (solve.Cell (List ℕ))) → cells_read T S ≡ cells → cell_variable U V made ≡ solve.next_variable (codes "x") cells A
  made_variable cells are =
      ap (λ B. record { name = made.0; type = B }) ty
      ∙ ap (λ (n : ℕ). record { name = n; type = A }) (number ∙ sym (map_length (cell_read T) S.cells) ∙ ap length are)
