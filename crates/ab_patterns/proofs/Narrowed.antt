-- A cell that is given some of the names of another.
use Rattle.std.proofs.Common.{◌≡◌, ◌≢◌, ℕ, List, [], ◌∷◌, map, length, Bool, true, false, codes, refl, sym, ◌∙◌, ap, subst, arith}
use Rattle.std.specs.Prelude.{All}
use Rattle.std.proofs.lemmas.Bool.{false≢true}
use Rattle.std.proofs.lemmas.List.Elements.{All-nil, All-cons, All-head, All-tail}
use Rattle.ab_term.specs.Types.{Ty, kind}
use Rattle.ab_term.specs.Terms as tree
use Rattle.ab_term.specs.Terms.{Variable}
use Rattle.ab_term.specs.Typing.{HasType}
use Rattle.ab_term.specs.Abstraction.{is_name, Named}
use Rattle.ab_term.specs.Variables.{variables, image}
use Rattle.ab_term.specs.Sameness.{same_numbered, same_number}
use Rattle.ab_term.proofs.Lists.{All-from_contains}
use Rattle.ab_term.proofs.Same.{same_numbered-Decides}
use Rattle.ab_norm.specs.ab_types.specs.Entries.{Table, signature}
use Rattle.ab_norm.specs.ab_types.specs.Ids.{type_of}
use Rattle.ab_norm.specs.ab_store.specs.declared.node.TermId.{TermId}
use Rattle.ab_norm.specs.ab_store.specs.declared.node.CellId.{CellId}
use Rattle.ab_norm.specs.ab_store.specs.declared.node.Head.{Head}
use Rattle.ab_norm.specs.ab_store.specs.Trees.{Contents, Holds, HoldsCell, head_in, cell_of, tree_of, head_reading}
use Rattle.ab_norm.specs.ab_store.specs.Reading.{bound_in, reading, cell_variable}
use Rattle.ab_norm.specs.ab_store.specs.Bindings.{cells_of, StandsIn, IsUnbound, IsResolved}
use Rattle.ab_norm.specs.ab_store.specs.Growth.{IsExtendedBy}
use Rattle.ab_unifiers.specs.Patterns.{value, applied, kept, kept_type}
use Rattle.ab_unifiers.specs.Replacements.{holds, one}
use Rattle.ab_unifiers.proofs.Avoiding.{AreNames, value_avoids}
use Rattle.ab_unifiers.proofs.Pruning.{narrow_safe}
use Rattle.ab_patterns.proofs.Standing.{avoids_then, stands_holds}
use Rattle.ab_patterns.proofs.Bound.{same_cell}

pub kept_all : {X : Type 0} (P : X → Type 0) (keep : List Bool) (xs : List X) → All P xs → All P (kept keep xs)
kept_all P [] xs all = All-nil P
kept_all P (b ∷ bs) [] all = All-nil P
kept_all P (true ∷ bs) (x ∷ xs) all = All-cons P x (kept bs xs) (All-head P x xs all) (kept_all P bs xs (All-tail P x xs all))
kept_all P (false ∷ bs) (x ∷ xs) all = kept_all P bs xs (All-tail P x xs all)

pub kept_map : {X Y : Type 0} (f : X → Y) (keep : List Bool) (xs : List X) → map f (kept keep xs) ≡ kept keep (map f xs)
kept_map f [] xs = refl
kept_map f (b ∷ bs) [] = refl
kept_map f (true ∷ bs) (x ∷ xs) = ap (λ l. f x ∷ l) (kept_map f bs xs)
kept_map f (false ∷ bs) (x ∷ xs) = kept_map f bs xs

kept_names : (keep : List Bool) (hs : List (tree.Head ℕ)) → AreNames hs → AreNames (kept keep hs)
kept_names [] hs n = tt
kept_names (b ∷ bs) [] n = tt
kept_names (true ∷ bs) (h ∷ hs) n = (n.0, kept_names bs hs n.1)
kept_names (false ∷ bs) (h ∷ hs) n = kept_names bs hs n.1

pub are_names : {X : Type 0} (f : X → tree.Head ℕ) (xs : List X) → All (λ h. is_name (f h) ≡ true) xs → AreNames (map f xs)
are_names f [] all = tt
are_names f (x ∷ xs) all = (All-head (λ h. is_name (f h) ≡ true) x xs all, are_names f xs (All-tail (λ h. is_name (f h) ≡ true) x xs all))

module _ (types : Table) (s t : Contents) (more : IsExtendedBy s t) (cells : t.cells ≡ s.cells) (cell made : CellId) (names left : List Head) (keep : List Bool) (term : TermId)
    (which : left ≡ kept keep names)
    (is : tree_of types t term ≡ applied (codes "x") (cell_variable types s made) (map (head_reading types s) left))
    (named : AreNames (map (head_reading types s) names)) where
  pub whole : tree_of types t term ≡ applied (codes "x") (cell_variable types s made) (kept keep (map (head_reading types s) names))
  whole = is ∙ ap (applied (codes "x") (cell_variable types s made)) (ap (map (head_reading types s)) which ∙ kept_map (head_reading types s) keep names)

  only_made : (c : CellId) → StandsIn t c term → c ≡ made
  only_made c st = go (same_numbered (cell_variable types s made) (cell_variable types s c)) refl
    where
      go : (b : Bool) → same_numbered (cell_variable types s made) (cell_variable types s c) ≡ b → c ≡ made
      go true e = sym (ap (λ (n : ℕ). record { 0 = n }) (ap (λ (v : Variable ℕ). v.name) ((same_numbered-Decides (cell_variable types s made) (cell_variable types s c)).0 e)))
      go false e = absurd (false≢true (
          sym (avoids_then (cell_variable types s c) (applied (codes "x") (cell_variable types s made) (kept keep (map (head_reading types s) names)))
          (value_avoids (cell_variable types s c) (codes "x") (cell_variable types s cell) (cell_variable types s made) [] (kept keep (map (head_reading types s) names)) (kept_names keep (map (head_reading types s) names) named) e))
          ∙ ap (λ u. holds (variables u) (cell_variable types s c)) (sym whole)
          ∙ ap (holds (variables (tree_of types t term))) (sym (same_cell types s t c cells))
          ∙ stands_holds types t c term st))

  pub term_apart : made ≢ cell → ¬ StandsIn t cell term
  term_apart other st = other (sym (only_made cell st))

  pub term_resolved : IsUnbound s made → IsResolved t term
  term_resolved free = All-from_contains (IsUnbound t) (cells_of t term) (λ c m. ap (λ bs. bound_in bs c) more.bindings ∙ subst (IsUnbound s) (sym (only_made c m)) free)

  -- what is put in, as it is called in the store with the new term
  same_value : value (codes "x") (cell_variable types t cell) (map (head_reading types t) names) (tree_of types t term)
      ≡ value (codes "x") (cell_variable types s cell) (map (head_reading types s) names) (applied (codes "x") (cell_variable types s made) (kept keep (map (head_reading types s) names)))
  same_value =
      ap (λ y. value (codes "x") y (map (head_reading types t) names) (tree_of types t term)) (same_cell types s t cell cells)
      ∙ ap (λ cs. value (codes "x") (cell_variable types s cell) (map (head_in types cs) names) (tree_of types t term)) cells
      ∙ ap (value (codes "x") (cell_variable types s cell) (map (head_reading types s) names)) whole

  module _ (ty : type_of types (cell_of s made).ty ≡ kept_type keep (type_of types (cell_of s cell).ty)) where
    pub value_fits : (G : List Ty) (k : List ℕ) → Named (signature types) G (map (head_reading types s) names) (type_of types (cell_of s cell).ty) (kind k) → length keep ≡ length (map (head_reading types s) names) → HoldsCell s cell
        → HasType (signature types) [] (value (codes "x") (cell_variable types t cell) (map (head_reading types t) names) (tree_of types t term)) (type_of types (cell_of t cell).ty)
    value_fits G k fits long held =
        let safe = narrow_safe (signature types) (codes "x") G k made.0 (cell_variable types s cell) (map (head_reading types s) names) keep fits long in
        let old : HasType (signature types) [] (value (codes "x") (cell_variable types s cell) (map (head_reading types s) names) (applied (codes "x") (record { name = made.0; type = kept_type keep (type_of types (cell_of s cell).ty) }) (kept keep (map (head_reading types s) names)))) (type_of types (cell_of s cell).ty) =
        safe.typed 0 (cell_variable types s cell, tree_of types s term) (omega arith) in
        subst (λ u. HasType (signature types) [] u (type_of types (cell_of t cell).ty)) (sym same_value)
        (subst (λ c. HasType (signature types) [] (value (codes "x") (cell_variable types s cell) (map (head_reading types s) names) (applied (codes "x") (cell_variable types s made) (kept keep (map (head_reading types s) names)))) (type_of types c.ty)) (sym (more.cells cell held))
        (subst (λ A. HasType (signature types) [] (value (codes "x") (cell_variable types s cell) (map (head_reading types s) names) (applied (codes "x") (record { name = made.0; type = A }) (kept keep (map (head_reading types s) names)))) (type_of types (cell_of s cell).ty)) (sym ty) old))

  pub narrowed_reads : (new : Contents) (r : TermId) → Holds s r
      → reading types new r ≡ image same_number (one (codes "x") (cell_variable types t cell) (map (head_reading types t) names) (tree_of types t term)) (reading types t r)
      → reading types new r ≡ image same_number (one (codes "x") (cell_variable types s cell) (map (head_reading types s) names) (applied (codes "x") (cell_variable types s made) (kept keep (map (head_reading types s) names)))) (reading types s r)
  narrowed_reads new r held e =
      e
      ∙ ap (λ y. image same_number ((y, value (codes "x") (cell_variable types t cell) (map (head_reading types t) names) (tree_of types t term)) ∷ []) (reading types t r)) (same_cell types s t cell cells)
      ∙ ap (λ u. image same_number ((cell_variable types s cell, u) ∷ []) (reading types t r)) same_value
      ∙ ap (image same_number (one (codes "x") (cell_variable types s cell) (map (head_reading types s) names) (applied (codes "x") (cell_variable types s made) (kept keep (map (head_reading types s) names))))) (more.readings types r held)
