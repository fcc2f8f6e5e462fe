-- The names of a goal's variables, cell by cell.
use Rattle.std.proofs.Common.{◌≡◌, ℕ, zero, suc, ◌<◌, List, [], ◌∷◌, map, length, get_or, sym, ◌∙◌, ap, subst, arith}
use Rattle.std.specs.List.{Contains}
use Rattle.ab_term.proofs.Lists.{Contains-here, Contains-there, Contains-map, Contains-from_map}
use Rattle.ab_norm.specs.ab_store.specs.declared.node.CellId.{CellId}
use Rattle.ab_norm.specs.ab_store.specs.Trees.{cell_of}
use Rattle.ab_formulas.specs.Sequents.{Variable}
use Rattle.ab_logic.specs.Worlds.{variable_of}
use Rattle.ab_logic.specs.declared.world.World.{World}

member : (cs : List CellId) (i : ℕ) (d : CellId) → i < length cs → Contains cs (get_or cs i d)
member [] i d l = absurd (omega arith)
member (c ∷ cs) zero d l = Contains-here c cs
member (c ∷ cs) (suc i) d l = Contains-there c cs (get_or cs i d) (member cs i d (omega arith))

module _ (w : World) (cells : List CellId) (name : List ℕ) where
  pub name_there : (i : ℕ) (d : CellId) → i < length cells → (cell_of w.store (get_or cells i d)).hint ≡ name
      → Contains (map (λ (x : Variable). x.name) (map (variable_of w) cells)) name
  name_there i d l e =
      subst (Contains (map (λ (x : Variable). x.name) (map (variable_of w) cells))) e
      (Contains-map (λ (x : Variable). x.name) (map (variable_of w) cells) (variable_of w (get_or cells i d))
      (Contains-map (variable_of w) cells (get_or cells i d) (member cells i d l)))

  pub no_name : ((i : ℕ) (d : CellId) → i < length cells → (cell_of w.store (get_or cells i d)).hint ≡ name → ⊥)
      → Contains (map (λ (x : Variable). x.name) (map (variable_of w) cells)) name → ⊥
  no_name none c =
      let x = Contains-from_map (λ (x : Variable). x.name) (map (variable_of w) cells) name c in
      let k = Contains-from_map (variable_of w) cells x.0 x.1 in
      none k.1.0 k.0 k.1.1 (ap (λ (q : CellId). (cell_of w.store q).hint) k.1.2 ∙ ap (λ (y : Variable). y.name) k.2 ∙ x.2)
