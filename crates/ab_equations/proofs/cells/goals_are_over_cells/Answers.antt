use Rattle.std.specs.Prelude.{slice_get}
use Rattle.std.proofs.Common.{◌≡◌, ℕ, zero, suc, ◌<◌, List, [], ◌∷◌, map, length, get_or, Some, refl, arith}
use Rattle.std.proofs.lemmas.List.Elements.{All-map, All-weaker}
use Rattle.ab_norm.specs.ab_types.specs.Entries.{Table}
use Rattle.ab_norm.specs.ab_store.specs.declared.node.CellId.{CellId}
use Rattle.ab_norm.specs.ab_store.specs.declared.node.CellEntry.{CellEntry}
use Rattle.ab_unify.specs.Problem.{cell_read, cells_read}
use Rattle.ab_formulas.specs.Sequents.{Variable}
use Rattle.ab_logic.specs.Worlds.{HoldsCell, variable_of}
use Rattle.ab_equations.proofs.cells.goals_are_over_cells.Goals as goal

cell_at : (types : Table) (cells : List CellEntry) (i : ℕ) (d : CellEntry) → i < length cells → slice_get (map (cell_read types) cells) i ≡ Some (cell_read types (get_or cells i d))
cell_at types [] i d l = absurd (omega (arith, l))
cell_at types (c ∷ cells) zero d l = refl
cell_at types (c ∷ cells) (suc i) d l = cell_at types cells i d (omega (arith, l))

pub returns : goal.returns
returns c = λ w s h.
    All-map (λ (x : Variable). slice_get (cells_read w.types w.store) x.number ≡ Some (record { hint = x.name; type = x.type })) (variable_of w) s.variables
    (All-weaker (HoldsCell w) (λ (c : CellId). slice_get (cells_read w.types w.store) c.0 ≡ Some (record { hint = (variable_of w c).name; type = (variable_of w c).type }))
    (λ c l. cell_at w.types w.store.cells c.0 (record { hint = []; ty = record { 0 = 0 } }) l) s.variables h.variables)
