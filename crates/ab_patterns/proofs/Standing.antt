-- A cell stands in a term where the test for its variable says so.
use Rattle.std.proofs.Common.{◌≡◌, ◌⊎◌, inl, inr, ℕ, List, [], ◌∷◌, ◌++◌, Bool, true, false, ◌||◌, refl, sym, ◌∙◌, ap, subst}
use Rattle.std.specs.Prelude.{Contains}
use Rattle.std.proofs.lemmas.Bool.{false≢true, false_from_ne_true}
use Rattle.std.proofs.lemmas.List.Elements.{All-contains}
use Rattle.ab_term.specs.Terms.{Variable, Terms, lam, spine, no_terms, term, Read}
use Rattle.ab_term.specs.Variables.{variables, variables_of_head, variables_of_all}
use Rattle.ab_term.specs.Sameness.{same_numbered}
use Rattle.ab_term.proofs.Same.{same_numbered-Decides}
use Rattle.ab_term.proofs.Lists.{Contains-here, Contains-there, Contains-map, Contains-from_map}
use Rattle.ab_norm.specs.ab_types.specs.Entries.{Table}
use Rattle.ab_norm.specs.ab_types.specs.Ids.{type_of}
use Rattle.ab_norm.specs.ab_store.specs.declared.node.TermId.{TermId}
use Rattle.ab_norm.specs.ab_store.specs.declared.node.CellId.{CellId}
use Rattle.ab_norm.specs.ab_store.specs.Trees.{Contents, cell_in, tree_of}
use Rattle.ab_norm.specs.ab_store.specs.Reading.{cell_variable}
use Rattle.ab_norm.specs.ab_store.specs.Bindings.{StandsIn}
use Rattle.ab_norm.specs.ab_store.proofs.Cells.{IsCell, stands, numbered, variables_are_cells}
use Rattle.ab_unifiers.specs.Replacements.{holds}
use Rattle.ab_unifiers.proofs.Agreeing.{contains_holds}
use Rattle.ab_unifiers.proofs.Avoiding.{Avoids, AllAvoid, head_avoids, not_held}

pub holds_contains : (ys : List (Variable ℕ)) (y : Variable ℕ) → holds ys y ≡ true → Contains ys y
holds_contains [] y e = absurd (false≢true e)
holds_contains (v ∷ vs) y e = go (same_numbered v y) refl e (holds_contains vs y)
  where
    go : (b : Bool) → same_numbered v y ≡ b → (b || holds vs y) ≡ true → (holds vs y ≡ true → Contains vs y) → Contains (v ∷ vs) y
    go true s f rest = subst (Contains (v ∷ vs)) ((same_numbered-Decides v y).0 s) (Contains-here v vs)
    go false s f rest = Contains-there v vs y (rest f)

both_missing : (y : Variable ℕ) (vs ws : List (Variable ℕ)) → holds vs y ≡ false → holds ws y ≡ false → holds (vs ++ ws) y ≡ false
both_missing y vs ws e f = false_from_ne_true (holds (vs ++ ws) y) (λ h. go (not_held vs ws y h))
  where
    go : (holds vs y ≡ true) ⊎ (holds ws y ≡ true) → ⊥
    go (inl g) = false≢true (sym e ∙ g)
    go (inr g) = false≢true (sym f ∙ g)

module _ (y : Variable ℕ) where
  mutual
    pub avoids_then : (t : Read) → Avoids y t → holds (variables t) y ≡ false
    avoids_then (lam A x t) a = avoids_then t a
    avoids_then (spine h ts) a = both_missing y (variables_of_head h) (variables_of_all ts) (head_avoids y h a.0) (all_avoid_then ts a.1)

    all_avoid_then : (ts : Terms ℕ (List ℕ)) → AllAvoid y ts → holds (variables_of_all ts) y ≡ false
    all_avoid_then no_terms a = refl
    all_avoid_then (term t ts) a = both_missing y (variables t) (variables_of_all ts) (avoids_then t a.0) (all_avoid_then ts a.1)

module _ (types : Table) (s : Contents) (c : CellId) (t : TermId) where
  pub stands_holds : StandsIn s c t → holds (variables (tree_of types s t)) (cell_variable types s c) ≡ true
  stands_holds st =
      let found = Contains-from_map (λ (x : Variable ℕ). x.name) (variables (tree_of types s t)) c.0 (numbered types s c t st) in
      let cell : found.0 ≡ cell_variable types s c = All-contains (IsCell types s.cells) (variables (tree_of types s t)) found.0 (variables_are_cells types s t) found.1
      ∙ ap (λ n. record { name = n; type = type_of types (cell_in s.cells (record { 0 = n })).ty }) found.2 in
      contains_holds (variables (tree_of types s t)) (cell_variable types s c) (subst (Contains (variables (tree_of types s t))) cell found.1)

  pub holds_stands : holds (variables (tree_of types s t)) (cell_variable types s c) ≡ true → StandsIn s c t
  holds_stands e = stands types s c t (Contains-map (λ (x : Variable ℕ). x.name) (variables (tree_of types s t)) (cell_variable types s c) (holds_contains (variables (tree_of types s t)) (cell_variable types s c) e))

  pub stands_or_avoids : (StandsIn s c t) ⊎ (holds (variables (tree_of types s t)) (cell_variable types s c) ≡ false)
  stands_or_avoids = go (holds (variables (tree_of types s t)) (cell_variable types s c)) refl
    where
      go : (b : Bool) → holds (variables (tree_of types s t)) (cell_variable types s c) ≡ b → (StandsIn s c t) ⊎ (holds (variables (tree_of types s t)) (cell_variable types s c) ≡ false)
      go true e = inl (holds_stands e)
      go false e = inr e
