-- All variables that were ever made are the cells of a world, and the number behind them is new.
use Rattle.std.specs.Prelude.{slice_get, option_map}
use Rattle.std.proofs.Common.{◌≡◌, ◌≢◌, ℕ, List, Some, length, ◌∙◌, ap, arith}
use Rattle.std.proofs.lemmas.List.Elements.{All-map, All-weaker}
use Rattle.std.proofs.lemmas.Option.{slice_get_within, slice_get-map, slice_get-get_or}
use Rattle.ab_norm.specs.ab_store.specs.Trees.{cell_of}
use Rattle.ab_norm.specs.ab_store.specs.declared.node.CellId.{CellId}
use Rattle.ab_unify.specs.Problem.{cell_read, cells_read}
use Rattle.ab_logic.specs.Worlds.{HoldsCell, variable_of}
use Rattle.ab_logic.specs.SequentReadings.{sequent_of, HoldsSequent}
use Rattle.ab_logic.specs.declared.world.World.{World}
use Rattle.ab_logic.specs.declared.sequent.Sequent.{Sequent as Kept}
use Rattle.ab_formulas.specs.Sequents.{Variable}
use Rattle.ab_theory.specs.Equations.{AreCells}
pub use Rattle.ab_theory.proofs.NewNumbers.{new_number}

-- a goal's variables are cells of its world
pub over_cells : (w : World) (s : Kept) → HoldsSequent w s → AreCells (cells_read w.types w.store) (sequent_of w s)
over_cells w s h =
    All-map (λ (x : Variable). slice_get (cells_read w.types w.store) x.number ≡ Some (record { hint = x.name; type = x.type })) (variable_of w) s.variables
    (All-weaker (HoldsCell w) (λ c. slice_get (cells_read w.types w.store) c.0 ≡ Some (cell_read w.types (cell_of w.store c))) there s.variables h.variables)
  where
    there : (c : CellId) → HoldsCell w c → slice_get (cells_read w.types w.store) c.0 ≡ Some (cell_read w.types (cell_of w.store c))
    there c l = slice_get-map (cell_read w.types) w.store.cells c.0 ∙ ap (option_map (cell_read w.types)) (slice_get-get_or w.store.cells c.0 _ l)
