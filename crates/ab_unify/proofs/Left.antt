-- Which cells a run leaves unbound: just those whose variables weren't replaced.
use Rattle.std.proofs.Common.{◌≡◌, ◌⊎◌, inl, inr, ℕ, zero, suc, ◌<◌, ◌≤◌, List, [], ◌∷◌, map, length, get_or, true, false, Some, option_map, refl, sym, ◌∙◌, ap, subst, arith}
use Rattle.std.specs.Prelude.{Contains, slice_get}
use Rattle.std.proofs.lemmas.Bool.{false≢true, false_from_ne_true, cases_lt}
use Rattle.std.proofs.lemmas.List.Elements.{All-contains}
use Rattle.ab_term.specs.Terms.{Variable}
use Rattle.ab_term.specs.Variables.{Substitution}
use Rattle.ab_term.proofs.Lists.{Contains-map, Contains-from_map}
use Rattle.ab_norm.specs.ab_types.specs.Entries.{Table}
use Rattle.ab_norm.specs.ab_store.specs.declared.node.CellId.{CellId}
use Rattle.ab_norm.specs.ab_store.specs.declared.node.CellEntry.{CellEntry}
use Rattle.ab_norm.specs.ab_store.specs.Trees.{Contents, HoldsCell}
use Rattle.ab_norm.specs.ab_store.specs.Reading.{cell_variable}
use Rattle.ab_norm.specs.ab_store.specs.Bindings.{IsUnbound}
use Rattle.ab_patterns.specs.declared.equation.Numbered.{Numbered}
use Rattle.ab_patterns.specs.ab_unifiers.specs.Replacements.{Cell, holds}
use Rattle.ab_patterns.specs.ab_unifiers.specs.Unifiers.{IsCell, keys}
use Rattle.ab_patterns.specs.ab_unifiers.proofs.Agreeing.{contains_holds}
use Rattle.ab_patterns.specs.ab_unifiers.proofs.Falling.{map_length}
use Rattle.ab_patterns.proofs.Standing.{holds_contains}
use Rattle.ab_unify.specs.Problem.{cell_read, cells_read, variables_read}
use Rattle.ab_unify.specs.StoreChanges.{IsFree}
use Rattle.ab_unify.proofs.Growth.{grown_variable}
use Rattle.ab_unify.proofs.Listed.{same_cell}
use Rattle.ab_unify.specs.UnifyAnswers.{AreLeft}
use Rattle.ab_unify.specs.States.{state_of, Reaches}
use Rattle.ab_unify.proofs.Keyed.{Keyed}

-- a cell has its type
is_cell : (types : Table) (cells : List CellEntry) (i : ℕ) (d : CellEntry) → i < length cells → option_map (λ (c : Cell (List ℕ)). c.type) (slice_get (map (cell_read types) cells) i) ≡ Some (cell_read types (get_or cells i d)).type
is_cell types [] i d l = absurd (omega (arith, l))
is_cell types (c ∷ cells) zero d l = refl
is_cell types (c ∷ cells) (suc i) d l = is_cell types cells i d (omega (arith, l))

high : (k n : ℕ) → (k < n → ⊥) → n ≤ k
high k zero h = omega arith
high zero (suc n) h = absurd (h (omega arith))
high (suc k) (suc n) h = let l = high k n (λ l. h (omega (arith, l))) in omega (arith, l)

module _ (types more : Table) (store now : Contents) (begun left : List CellId) (s : Substitution ℕ (List ℕ)) (reached : Reaches types store begun more now left s) (es : List Numbered)
    (keyed : Keyed (cells_read types store) (variables_read types store begun) (state_of more now es left s)) where
  pub left_cells : AreLeft store begun more now s
  left_cells c which held = (unbound, free)
    where
      y : Variable ℕ
      y = cell_variable more now c

      unbound : IsUnbound now c → holds (keys s) y ≡ false
      unbound none = false_from_ne_true (holds (keys s) y) (λ key.
          keyed.gone y key (contains_holds (variables_read more now left) y (Contains-map (cell_variable more now) left c (reached.left c (held, none) which))))

      newer : length store.cells ≤ c.0 → (length (cells_read types store) ≤ y.name) × IsCell (cells_read more now) y
      newer l = (
        subst (λ n. n ≤ c.0) (sym (map_length (cell_read types) store.cells)) l,
        is_cell more now.cells c.0 (record { hint = []; ty = record { 0 = 0 } }) held,
      )

      older : Contains begun c → HoldsCell store c → holds (variables_read types store begun) y ≡ true
      older m l =
          subst (λ v. holds (variables_read types store begun) v ≡ true)
          (sym (grown_variable types more store now reached.grows reached.start c l))
          (contains_holds (variables_read types store begun) (cell_variable types store c) (Contains-map (cell_variable types store) begun c m))

      is : (holds (variables_read types store begun) y ≡ true) ⊎ ((length (cells_read types store) ≤ y.name) × IsCell (cells_read more now) y)
      is = elim which [
        | inl m ↦ elim (cases_lt c.0 (length store.cells)) [ inl l ↦ inl (older m l) | inr h ↦ inr (newer (omega (arith, h))) ]
        | inr new ↦ inr (newer (high c.0 (length store.cells) new))
      ]

      free : holds (keys s) y ≡ false → IsUnbound now c
      free stays = elim (keyed.each y is) [
        | inl f ↦ (let found = Contains-from_map (cell_variable more now) left y (holds_contains (variables_read more now left) y f) in
            let same : found.0 ≡ c = same_cell found.0 c (ap (λ (v : Variable ℕ). v.name) found.2) in
            subst (IsUnbound now) same (All-contains (IsFree now) left found.0 reached.free found.1).1)
        | inr key ↦ absurd (false≢true (sym stays ∙ key))
      ]
