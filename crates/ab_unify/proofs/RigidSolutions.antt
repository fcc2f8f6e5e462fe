-- A pattern against a rigid term: what is put in, once the term is pruned.
use Rattle.std.proofs.Common.{◌≡◌, ◌≢◌, ℕ, ◌<◌, List, [], length, true, false, codes, sym, ◌∙◌, subst}
use Rattle.std.specs.Prelude.{All}
use Rattle.std.proofs.lemmas.Bool.{false≢true}
use Rattle.std.proofs.lemmas.List.Elements.{All-contains}
use Rattle.ab_term.specs.Types.{Ty, kind}
use Rattle.ab_term.specs.Terms.{Variable, Head, Term, Terms}
use Rattle.ab_term.specs.Typing.{Signature, HasType, TakeType}
use Rattle.ab_term.specs.Variables.{variables, value_in, image}
use Rattle.ab_term.specs.Sameness.{same_number}
use Rattle.ab_term.proofs.Compositions.{image_typed}
use Rattle.ab_term.proofs.Lists.{Contains-from_map}
use Rattle.ab_norm.specs.ab_types.specs.Entries.{Table}
use Rattle.ab_norm.specs.ab_store.specs.declared.node.CellId.{CellId}
use Rattle.ab_norm.specs.ab_store.specs.Trees.{Contents, HoldsCell}
use Rattle.ab_norm.specs.ab_store.specs.Reading.{cell_variable}
use Rattle.ab_patterns.specs.ab_unifiers.specs.Patterns.{value}
use Rattle.ab_patterns.specs.ab_unifiers.specs.Replacements.{Cell, Change, holds, has_patterns, occurs, no_foreign, pruned}
use Rattle.ab_patterns.specs.ab_unifiers.specs.Unification.{begun}
use Rattle.ab_patterns.specs.ab_unifiers.specs.Unifiers.{AreKnown}
use Rattle.ab_patterns.specs.ab_unifiers.proofs.Views.{IsPattern}
use Rattle.ab_patterns.specs.ab_unifiers.proofs.Values.{pattern_named, value_typed}
use Rattle.ab_patterns.specs.ab_unifiers.proofs.Falling.{map_length}
use Rattle.ab_patterns.specs.ab_unifiers.proofs.Avoiding.{Avoids, image_avoids, avoids_if}
use Rattle.ab_patterns.specs.ab_unifiers.proofs.Pruned.{pruned_fine}
use Rattle.ab_patterns.specs.ab_unifiers.proofs.Flexible.{Inv, inv_keeps, begun_fine}
use Rattle.ab_patterns.proofs.Standing.{holds_contains}
use Rattle.ab_unify.specs.Problem.{cell_read, cells_read, variables_read}
use Rattle.ab_unify.specs.StoreChanges.{IsFree}

-- cells that are there are known
pub known_cells : (types : Table) (store : Contents) (ds : List CellId) → All (IsFree store) ds → AreKnown (cells_read types store) (variables_read types store ds)
known_cells types store ds all v h =
    let found = Contains-from_map (cell_variable types store) ds v (holds_contains (variables_read types store ds) v h) in
    let low : HoldsCell store found.0 = (All-contains (IsFree store) ds found.0 all found.1).0 in
    subst (λ (u : Variable ℕ). u.name < length (cells_read types store)) found.2 (subst (λ n. found.0.0 < n) (sym (map_length (cell_read types) store.cells)) low)

module _ (sg : Signature) (cells : List (Cell (List ℕ))) (ys : List (Variable ℕ)) (known : AreKnown cells ys) (G : List Ty) (k : List ℕ) (y : Variable ℕ) (ts : Terms ℕ (List ℕ)) (names : List (Head ℕ)) (t : Term ℕ (List ℕ))
    (h : holds ys y ≡ true) (p : IsPattern y.type ts names) (ds : TakeType sg G ts y.type (kind k)) (d : HasType sg G t (kind k)) (hp : has_patterns ys t ≡ true) (oc : occurs y t ≡ false) (nf : no_foreign ys names t ≡ true) where
  abbrev pub after : Change (List ℕ)
  after = pruned (codes "x") ys names t (begun (codes "x") cells ys y)

  pub solved_parts : HasType sg [] (value (codes "x") y names (image same_number after.pairs t)) y.type × Avoids y (image same_number after.pairs t)
  solved_parts =
      let result = pruned_fine sg (codes "x") ys (λ v. (holds ys v ≡ true) × (y ≢ v)) (Inv sg (codes "x") cells ys known y) (inv_keeps sg (codes "x") cells ys known y) names t (begun (codes "x") cells ys y) d
      (begun_fine sg (codes "x") cells ys known y h) (λ v a b. (b, λ e. false≢true (sym oc ∙ subst (λ u. holds (variables t) u ≡ true) (sym e) a))) hp nf in
      let fine = result.0.fine in
      let typed = image_typed sg same_number after.pairs fine.safe.typed d in (
        (value_typed sg (codes "x") y names (image same_number after.pairs t) G k (pattern_named sg p ds) typed result.1).0,
        image_avoids y (value_in same_number after.pairs) fine.inv.«without» t (avoids_if y t oc),
      )
