-- What is put in for a cell: which cells stand in it, and what the readings become.
use Rattle.std.proofs.Common.{◌≡◌, ◌⊎◌, inl, inr, List, [], ◌∷◌, ◌++◌, map, true, false, cond, ◌==◌, Some, None, codes, refl, sym, ◌∙◌, ap, subst}
use Rattle.std.specs.Cmp.{unsigned_Decides}
use Rattle.std.proofs.lemmas.Bool.{false≢true}
use Rattle.std.proofs.lemmas.List.Elements.{All-contains}
use Rattle.ab_term.specs.Types.{Ty}
use Rattle.ab_term.specs.Typing.{HasType}
use Rattle.ab_term.specs.Variables.{variables, image}
use Rattle.ab_term.specs.Sameness.{same_number}
use Rattle.ab_term.proofs.Lists.{All-from_contains}
use Rattle.ab_norm.specs.ab_types.specs.Entries.{Table, signature}
use Rattle.ab_norm.specs.ab_types.specs.Ids.{type_of}
use Rattle.ab_norm.specs.ab_store.specs.declared.node.TermId.{TermId}
use Rattle.ab_norm.specs.ab_store.specs.declared.node.CellId.{CellId}
use Rattle.ab_norm.specs.ab_store.specs.declared.node.Head.{Head}
use Rattle.ab_norm.specs.ab_store.specs.declared.node.Binding.{Binding}
use Rattle.ab_norm.specs.ab_store.specs.Trees.{Contents, Holds, HoldsCell, term_at, terms_from, cell_in, cell_of, tree_of, head_reading}
use Rattle.ab_norm.specs.ab_store.specs.Reading.{bound_in, reading, cell_variable}
use Rattle.ab_norm.specs.ab_store.specs.Bindings.{cells_of, StandsIn, IsUnbound, IsResolved}
use Rattle.ab_norm.specs.ab_store.specs.Growth.{IsExtendedBy}
use Rattle.ab_norm.specs.ab_store.specs.Naming.{IsTerm}
use Rattle.ab_norm.specs.ab_store.proofs.Putting.{resolved_reads}
use Rattle.ab_norm.specs.ab_store.proofs.Rebinding.{bound_behind}
use Rattle.ab_unifiers.specs.Patterns.{value}
use Rattle.ab_unifiers.specs.Replacements.{holds, one}
use Rattle.ab_unifiers.proofs.Avoiding.{abstracted_avoids, avoids_if}
use Rattle.ab_patterns.proofs.Standing.{avoids_then, stands_holds, stands_or_avoids}

pub same_cell : (types : Table) (s t : Contents) (c : CellId) → t.cells ≡ s.cells → cell_variable types t c ≡ cell_variable types s c
same_cell types s t c e = ap (λ cs. record { name = c.0; type = type_of types (cell_in cs c).ty }) e

-- a cell that was bound last is bound
pub now_bound : (bs : List Binding) (c : CellId) (t : TermId) → bound_in bs c ≡ None → bound_in (bs ++ record { cell = c; term = t } ∷ []) c ≡ None → ⊥
now_bound bs c t free e =
    let itself : (c.0 == c.0) ≡ true = (unsigned_Decides c.0 c.0).1 refl in
    let some : Some t ≡ None = sym (ap (λ k. cond k (Some t) None) itself) ∙ sym (bound_behind bs (record { cell = c; term = t } ∷ []) c free) ∙ e in
    absurd (cc)

pub still_term : (types : Table) (s t : Contents) → IsExtendedBy s t → (G : List Ty) (r : TermId) (A : Ty) → IsTerm types s G r A → IsTerm types t G r A
still_term types s t more G r A is = (more.ids r is.0, subst (λ u. HasType (signature types) G u A) (sym (more.trees types r is.0)) is.1)

pub same_nodes : (types : Table) (s t : Contents) (r : TermId) → t.nodes ≡ s.nodes → t.cells ≡ s.cells → tree_of types t r ≡ tree_of types s r
same_nodes types s t r nodes cells = ap (λ ns. term_at types (terms_from types t.cells [] ns) r) nodes ∙ ap (λ cs. term_at types (terms_from types cs [] s.nodes) r) cells

module _ (types : Table) (s t : Contents) (more : IsExtendedBy s t) (cells : t.cells ≡ s.cells) (cell : CellId) (names : List Head) (term made : TermId)
    (is : tree_of types t made ≡ value (codes "x") (cell_variable types s cell) (map (head_reading types s) names) (tree_of types s term)) where
  pub stands_in_term : (c : CellId) → StandsIn t c made → StandsIn s c term
  stands_in_term c st = go (stands_or_avoids types s c term)
    where
      go : (StandsIn s c term) ⊎ (holds (variables (tree_of types s term)) (cell_variable types s c) ≡ false) → StandsIn s c term
      go (inl here) = here
      go (inr e) = absurd (false≢true (
          sym (avoids_then (cell_variable types s c) (value (codes "x") (cell_variable types s cell) (map (head_reading types s) names) (tree_of types s term))
          (abstracted_avoids (cell_variable types s c) (codes "x") (cell_variable types s cell).type (map (head_reading types s) names) (tree_of types s term) (avoids_if (cell_variable types s c) (tree_of types s term) e)))
          ∙ ap (λ u. holds (variables u) (cell_variable types s c)) (sym is)
          ∙ ap (holds (variables (tree_of types t made))) (sym (same_cell types s t c cells))
          ∙ stands_holds types t c made st))

  pub made_apart : ¬ StandsIn s cell term → ¬ StandsIn t cell made
  made_apart n st = n (stands_in_term cell st)

  pub made_resolved : IsResolved s term → IsResolved t made
  made_resolved clear = All-from_contains (IsUnbound t) (cells_of t made) (λ c m. ap (λ bs. bound_in bs c) more.bindings ∙ All-contains (IsUnbound s) (cells_of s term) c clear (stands_in_term c m))

  pub made_term : HoldsCell s cell → Holds t made → HasType (signature types) [] (value (codes "x") (cell_variable types s cell) (map (head_reading types s) names) (tree_of types s term)) (type_of types (cell_of s cell).ty)
      → IsTerm types t [] made (type_of types (cell_of t cell).ty)
  made_term here held fits = (
    held,
    subst (λ u. HasType (signature types) [] u (type_of types (cell_of t cell).ty)) (sym is)
        (subst (λ c. HasType (signature types) [] (value (codes "x") (cell_variable types s cell) (map (head_reading types s) names) (tree_of types s term)) (type_of types c.ty)) (sym (more.cells cell here)) fits),
  )

  pub made_reads : IsResolved s term → (new : Contents) (r : TermId) → Holds s r
      → reading types new r ≡ image same_number ((cell_variable types t cell, reading types t made) ∷ []) (reading types t r)
      → reading types new r ≡ image same_number (one (codes "x") (cell_variable types s cell) (map (head_reading types s) names) (tree_of types s term)) (reading types s r)
  made_reads clear new r held e =
      e
      ∙ ap (λ y. image same_number ((y, reading types t made) ∷ []) (reading types t r)) (same_cell types s t cell cells)
      ∙ ap (λ u. image same_number ((cell_variable types s cell, u) ∷ []) (reading types t r)) (resolved_reads types t made (made_resolved clear) ∙ is)
      ∙ ap (image same_number (one (codes "x") (cell_variable types s cell) (map (head_reading types s) names) (tree_of types s term))) (more.readings types r held)
