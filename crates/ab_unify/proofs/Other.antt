-- A term that is another cell, given names.
use Rattle.std.proofs.Common.{◌≡◌, ◌≢◌, ℕ, List, [], ◌∷◌, map, Bool, true, false, codes, refl, sym, ◌∙◌, ap, subst}
use Rattle.std.proofs.lemmas.Bool.{false≢true}
use Rattle.ab_term.specs.Types.{Ty, kind}
use Rattle.ab_term.specs.Terms as tree
use Rattle.ab_term.specs.Terms.{Variable, Term}
use Rattle.ab_term.specs.Typing.{HasType}
use Rattle.ab_term.specs.Abstraction.{Named, among}
use Rattle.ab_term.specs.Variables.{variables, image}
use Rattle.ab_term.specs.Sameness.{same_numbered, same_number}
use Rattle.ab_term.proofs.Lists.{All-from_contains}
use Rattle.ab_term.proofs.Same.{same_numbered-Decides}
use Rattle.ab_norm.specs.ab_types.specs.Entries.{Table, signature}
use Rattle.ab_norm.specs.ab_types.specs.Ids.{type_of}
use Rattle.ab_norm.specs.ab_store.specs.declared.node.TermId.{TermId}
use Rattle.ab_norm.specs.ab_store.specs.declared.node.CellId.{CellId}
use Rattle.ab_norm.specs.ab_store.specs.declared.node.Head.{Head}
use Rattle.ab_norm.specs.ab_store.specs.Trees.{Contents, cell_in, cell_of, head_in, tree_of, head_reading}
use Rattle.ab_norm.specs.ab_store.specs.Reading.{bound_in, cell_variable}
use Rattle.ab_norm.specs.ab_store.specs.Bindings.{cells_of, StandsIn, IsUnbound, IsResolved}
use Rattle.ab_norm.specs.NodeGrowth.{AddsTypedTerms}
use Rattle.ab_patterns.specs.ab_unifiers.specs.Patterns.{applied, value}
use Rattle.ab_patterns.specs.ab_unifiers.specs.Replacements.{holds}
use Rattle.ab_patterns.specs.ab_unifiers.specs.Replacements as solve
use Rattle.ab_patterns.specs.ab_unifiers.proofs.Avoiding.{AreNames as AllNames, value_avoids}
use Rattle.ab_patterns.specs.ab_unifiers.proofs.Values.{applied_typed, value_typed}
use Rattle.ab_patterns.specs.ab_unifiers.proofs.Readings.{applied_only}
use Rattle.ab_patterns.specs.ab_unifiers.proofs.Ruling.{image_none}
use Rattle.ab_patterns.proofs.Standing.{avoids_then, stands_holds}
use Rattle.ab_patterns.proofs.Bound.{same_cell}
use Rattle.ab_unify.proofs.Listed as listed

module _ (types : Table) (s t : Contents) (adds : AddsTypedTerms types s t) (cell other : CellId) (names others : List Head) (term : TermId)
    (is : tree_of types t term ≡ applied (codes "x") (cell_variable types s other) (map (head_reading types s) others)) where
  only_other : AllNames (map (head_reading types s) others) → (d : CellId) → StandsIn t d term → d ≡ other
  only_other named d st = go (same_numbered (cell_variable types s other) (cell_variable types s d)) refl
    where
      go : (b : Bool) → same_numbered (cell_variable types s other) (cell_variable types s d) ≡ b → d ≡ other
      go true e = sym (listed.same_cell other d (ap (λ (v : Variable ℕ). v.name) ((same_numbered-Decides (cell_variable types s other) (cell_variable types s d)).0 e)))
      go false e = absurd (false≢true (
          sym (avoids_then (cell_variable types s d) (applied (codes "x") (cell_variable types s other) (map (head_reading types s) others))
          (value_avoids (cell_variable types s d) (codes "x") (cell_variable types s cell) (cell_variable types s other) [] (map (head_reading types s) others) named e))
          ∙ ap (λ u. holds (variables u) (cell_variable types s d)) (sym is)
          ∙ ap (holds (variables (tree_of types t term))) (sym (same_cell types s t d adds.cells))
          ∙ stands_holds types t d term st))

  pub other_resolved : AllNames (map (head_reading types s) others) → IsUnbound s other → IsResolved t term
  other_resolved named free = All-from_contains (IsUnbound t) (cells_of t term) (λ d m. ap (λ bs. bound_in bs d) adds.before.bindings ∙ subst (IsUnbound s) (sym (only_other named d m)) free)

  pub other_apart : AllNames (map (head_reading types s) others) → other ≢ cell → ¬ StandsIn t cell term
  other_apart named differ st = differ (sym (only_other named cell st))

  -- what is put in, as it is called in the store with the new term
  pub same_value : value (codes "x") (cell_variable types t cell) (map (head_reading types t) names) (tree_of types t term)
      ≡ value (codes "x") (cell_variable types s cell) (map (head_reading types s) names) (applied (codes "x") (cell_variable types s other) (map (head_reading types s) others))
  same_value =
      ap (λ y. value (codes "x") y (map (head_reading types t) names) (tree_of types t term)) (same_cell types s t cell adds.cells)
      ∙ ap (λ cs. value (codes "x") (cell_variable types s cell) (map (head_in types cs) names) (tree_of types t term)) adds.cells
      ∙ ap (value (codes "x") (cell_variable types s cell) (map (head_reading types s) names)) is

  pub other_fits : (G : List Ty) (k : List ℕ) → Named (signature types) G (map (head_reading types s) names) (type_of types (cell_of s cell).ty) (kind k) → Named (signature types) G (map (head_reading types s) others) (type_of types (cell_of s other).ty) (kind k)
      → ((h : tree.Head ℕ) → among (map (head_reading types s) others) h ≡ true → among (map (head_reading types s) names) h ≡ true)
      → HasType (signature types) [] (value (codes "x") (cell_variable types t cell) (map (head_reading types t) names) (tree_of types t term)) (type_of types (cell_of t cell).ty)
  other_fits G k first second within =
      subst (λ u. HasType (signature types) [] u (type_of types (cell_of t cell).ty)) (sym same_value)
      (subst (λ cs. HasType (signature types) [] (value (codes "x") (cell_variable types s cell) (map (head_reading types s) names) (applied (codes "x") (cell_variable types s other) (map (head_reading types s) others))) (type_of types (cell_in cs cell).ty)) (sym adds.cells)
      (value_typed (signature types) (codes "x") (cell_variable types s cell) (map (head_reading types s) names) (applied (codes "x") (cell_variable types s other) (map (head_reading types s) others)) G k first
      (applied_typed (signature types) (codes "x") (cell_variable types s other) k second)
      (applied_only (codes "x") (cell_variable types s other) (map (head_reading types s) others) (map (head_reading types s) names) within)).0)

  -- the pair that is put in
  pub same_pair : solve.one (codes "x") (cell_variable types t cell) (map (head_reading types t) names) (tree_of types t term)
      ≡ solve.one (codes "x") (cell_variable types s cell) (map (head_reading types s) names) (image same_number [] (applied (codes "x") (cell_variable types s other) (map (head_reading types s) others)))
  same_pair =
      ap (λ y. (y, value (codes "x") (cell_variable types t cell) (map (head_reading types t) names) (tree_of types t term)) ∷ []) (same_cell types s t cell adds.cells)
      ∙ ap (λ u. (cell_variable types s cell, u) ∷ []) same_value
      ∙ ap (λ u. solve.one (codes "x") (cell_variable types s cell) (map (head_reading types s) names) u) (sym (image_none (applied (codes "x") (cell_variable types s other) (map (head_reading types s) others))))
