-- A world in which a cell more was made, over which a formula is.
use Rattle.std.specs.List.{All}
use Rattle.std.specs.Prelude.{Contains}
use Rattle.std.proofs.Common.{◌≡◌, inl, inr, ℕ, ◌+◌, ◌<◌, List, [], ◌∷◌, ◌++◌, length, get_or, refl, sym, ◌∙◌, ap, subst, arith, length-append}
use Rattle.std.proofs.lemmas.List.{map-append}
use Rattle.std.proofs.lemmas.List.Elements.{All-push, All-weaker, Contains-append_cases}
use Rattle.ab_term.specs.Types.{Ty}
use Rattle.ab_term.specs.Terms.{Variable}
use Rattle.ab_term.specs.Variables.{variables}
use Rattle.ab_term.proofs.Lists.{Contains-none, Contains-cases}
use Rattle.ab_norm.specs.ab_store.specs.declared.node.CellId.{CellId}
use Rattle.ab_norm.specs.ab_store.specs.declared.node.TermId.{TermId}
use Rattle.ab_norm.specs.ab_store.specs.Reading.{reading, cell_variable, bound_in}
use Rattle.ab_unifiers.specs.Replacements.{Cell}
use Rattle.ab_unifiers.proofs.Agreeing.{contains_holds}
use Rattle.ab_unifiers.proofs.Falling.{map_length}
use Rattle.ab_unify.specs.Problem.{cell_read, cells_read, variables_read}
use Rattle.ab_unify.specs.StoreChanges.{IsFree}
use Rattle.ab_unify.proofs.Over.{reads_over}
use Rattle.ab_instances.proofs.Made.{variables_at}
use Rattle.ab_logic.specs.WorldGrowth as world
use Rattle.ab_logic.specs.Worlds.{IsWorld, Holds, read}
use Rattle.ab_logic.specs.declared.world.World.{World}
use Rattle.ab_search_ways.specs.GoalReadings.{IsAside}
use Rattle.ab_search_ways.proofs.LaterWorlds.{unbound_reads, later_formula, all_free, later_variables}

-- a variable of a term that is there is a cell that is
pub cell_there : (w : World) → IsWorld w → (t : TermId) → Holds w t → (y : Variable ℕ) → Contains (variables (read w t)) y → y.name < length w.store.cells
cell_there w is t h y m =
    subst (λ n. y.name < n) (map_length (cell_read w.types) w.store.cells)
    (reads_over w.types w.store is.typed t h y (contains_holds (variables (reading w.types w.store t)) y (subst (λ r. Contains (variables r) y) (sym (unbound_reads w is t)) m)))

module _ (w v : World) (is : IsWorld w) (g : world.Grows w v) (cell : CellId) (hint : List ℕ) (A : Ty) (number : cell.0 ≡ length w.store.cells)
    (cells : cells_read v.types v.store ≡ cells_read w.types w.store ++ record { hint = hint; type = A } ∷ []) where
  abbrev new : List (Cell (List ℕ))
  new = record { hint = hint; type = A } ∷ []

  pub opened_free : IsFree v.store cell
  opened_free = (
    (let more : length v.store.cells ≡ length w.store.cells + 1 =
        sym (map_length (cell_read v.types) v.store.cells) ∙ ap length cells ∙ length-append (cells_read w.types w.store) new ∙ ap (λ n. n + 1) (map_length (cell_read w.types) w.store.cells) in
        omega (arith, number, more)),
    ap (λ bs. bound_in bs cell) g.world.unbound,
  )

  pub all_opened_free : (cs : List CellId) → All (IsFree w.store) cs → All (IsFree v.store) (cs ++ cell ∷ [])
  all_opened_free cs all = All-push (IsFree v.store) cs cell (all_free w v g cs all) opened_free

  opened_is : cell_variable v.types v.store cell ≡ record { name = length w.store.cells; type = A }
  opened_is =
      ap (λ n. cell_variable v.types v.store (record { 0 = n })) number
      ∙ ap (λ (l : List (Variable ℕ)). get_or l 0 (record { name = length w.store.cells; type = A }))
      (variables_at v.types v.store (length w.store.cells) (cells_read w.types w.store) new (cell ∷ []) (sym (map_length (cell_read w.types) w.store.cells)) refl cells)

  pub opened_variables : (cs : List CellId) → All (IsFree w.store) cs → variables_read v.types v.store (cs ++ cell ∷ []) ≡ variables_read w.types w.store cs ++ record { name = length w.store.cells; type = A } ∷ []
  opened_variables cs all =
      map-append (cell_variable v.types v.store) cs (cell ∷ [])
      ∙ ap (λ l. l ++ cell_variable v.types v.store cell ∷ []) (later_variables w v g cs all)
      ∙ ap (λ (y : Variable ℕ). variables_read w.types w.store cs ++ y ∷ []) opened_is

  opened_aside : (cs : List CellId) (t : TermId) → IsAside w cs t → IsAside v (cs ++ cell ∷ []) t
  opened_aside cs t a = record {
    formula = later_formula w v g t a.formula;
    apart = λ y m c.
        let there : Contains (variables (read w t)) y = subst (λ r. Contains (variables r) y) (g.readings t a.formula.0) m in
        let less = cell_there w is t a.formula.0 y there in
        elim (Contains-append_cases cs (cell ∷ []) (record { 0 = y.name }) c) [
          | inl old ↦ a.apart y there old
          | inr here ↦ (elim (Contains-cases cell [] (record { 0 = y.name }) here) [
            | inl e ↦ (let same : cell.0 ≡ y.name = ap (λ (k : CellId). k.0) e in absurd (omega (arith, less, same, number)))
            | inr none ↦ Contains-none (record { 0 = y.name }) none
          ])
        ];
  }

  pub all_opened_aside : (cs : List CellId) (ts : List TermId) → All (IsAside w cs) ts → All (IsAside v (cs ++ cell ∷ [])) ts
  all_opened_aside cs ts all = All-weaker (IsAside w cs) (IsAside v (cs ++ cell ∷ [])) (opened_aside cs) ts all
