-- A world in which an alternative was made, and was tried.
use Rattle.std.specs.Prelude.{AllPairs}
use Rattle.std.proofs.Common.{◌≡◌, ◌≢◌, List, [], ◌∷◌, map, refl, ap}
use Rattle.std.specs.List.{All}
use Rattle.std.proofs.lemmas.List.Elements.{All-nil, All-cons, All-head, All-tail}
use Rattle.std.proofs.lemmas.List.Kept.{AllPairs-cons}
use Rattle.ab_term.proofs.Lists.{AllPairs-none, AllPairs-parts}
use Rattle.ab_norm.specs.ab_types.specs.Entries.{Table}
use Rattle.ab_norm.specs.ab_store.specs.declared.node.CellId.{CellId}
use Rattle.ab_norm.specs.ab_store.specs.Trees.{Contents}
use Rattle.ab_unify.specs.StoreChanges as changed
use Rattle.ab_logic.specs.WorldGrowth.{Grows}
use Rattle.ab_formulas.specs.Sequents.{Variable}
use Rattle.ab_logic.specs.Worlds.{IsWorld, variable_of, declarations_of}
use Rattle.ab_logic.specs.declared.world.World.{World}
use Rattle.ab_equations.proofs.Going.{world_meanwhile}
use Rattle.ab_equations.proofs.Restored.{again, declarations_same}

module _ (w : World) (U : Table) (V : Contents) (is : IsWorld w) (g : changed.Grows w.types w.store U V) where
  abbrev pub later : World
  later = record { types = U; store = V; additions = w.additions }

  pub grown : V.bindings ≡ [] → Grows w later
  grown unbound = again w later (world_meanwhile w is) g refl is.sentences is.definitions unbound

  pub declared : declarations_of later ≡ declarations_of w
  declared = declarations_same w later (world_meanwhile w is) g refl

pub different_cells : (w : World) (cs : List CellId) → AllPairs (λ (x y : Variable). x.number ≢ y.number) (map (variable_of w) cs) → AllPairs (λ c d. c ≢ d) cs
different_cells w [] h = AllPairs-none (λ c d. c ≢ d)
different_cells w (c ∷ cs) h =
    let parts = AllPairs-parts (λ (x y : Variable). x.number ≢ y.number) (variable_of w c) (map (variable_of w) cs) h in
    AllPairs-cons (λ c d. c ≢ d) c cs (far cs parts.0) (different_cells w cs parts.1)
  where
    far : (ds : List CellId) → All (λ (y : Variable). c.0 ≢ y.number) (map (variable_of w) ds) → All (λ (d : CellId). c ≢ d) ds
    far [] all = All-nil (λ (d : CellId). c ≢ d)
    far (d ∷ ds) all = All-cons (λ (d : CellId). c ≢ d) d ds (λ e. All-head (λ (y : Variable). c.0 ≢ y.number) (variable_of w d) (map (variable_of w) ds) all (ap (λ (k : CellId). k.0) e))
        (far ds (All-tail (λ (y : Variable). c.0 ≢ y.number) (variable_of w d) (map (variable_of w) ds) all))

-- A world in which there was no other binding in the end.
module _ (w x : World) (is : IsWorld w) (additions : x.additions ≡ w.additions) where
  pub grown_to : changed.Grows w.types w.store x.types x.store → x.store.bindings ≡ [] → Grows w x
  grown_to g unbound = again w x (world_meanwhile w is) g additions is.sentences is.definitions unbound

  pub declared_to : changed.Grows w.types w.store x.types x.store → declarations_of x ≡ declarations_of w
  declared_to g = declarations_same w x (world_meanwhile w is) g additions
