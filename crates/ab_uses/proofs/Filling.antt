-- A cell that nothing is bound to gets a new constant: it is of the cell's type, and what was there stays.
use Rattle.std.specs.Prelude.{slice_get}
use Rattle.std.proofs.Common.{◌≡◌, ◌<◌, List, [], ◌∷◌, map, length, false, Some, None, sym, ◌∙◌, ap, subst}
use Rattle.std.specs.List.{All}
use Rattle.std.proofs.lemmas.Bool.{false≢true}
use Rattle.std.proofs.lemmas.List.Elements.{All-head}
use Rattle.ab_term.specs.Types.{Ty}
use Rattle.ab_term.specs.Terms as tree
use Rattle.ab_norm.specs.ab_types.specs.Entries.{Table}
use Rattle.ab_norm.specs.ab_types.specs.Ids.{type_of}
use Rattle.ab_norm.specs.ab_store.specs.declared.node.TermId.{TermId}
use Rattle.ab_norm.specs.ab_store.specs.declared.node.CellId.{CellId}
use Rattle.ab_norm.specs.ab_store.specs.declared.mark.Mark.{Mark}
use Rattle.ab_norm.specs.ab_store.specs.Trees.{Contents, Holds, HoldsCell, cell_of, tree_of}
use Rattle.ab_norm.specs.ab_store.specs.Reading.{cell_variable}
use Rattle.ab_norm.specs.ab_store.specs.Bindings.{StandsIn}
use Rattle.ab_norm.specs.ab_store.specs.Growth.{IsExtendedBy}
use Rattle.ab_norm.specs.ab_store.specs.Marks.{HasMark, KeepsMark}
use Rattle.ab_norm.specs.ab_store.specs.Naming.{IsTypedBy, IsTerm}
use Rattle.ab_norm.specs.ab_store.proofs.Marking.{kept_on}
use Rattle.ab_norm.specs.declared.nominal.Nominal.{Nominal}
use Rattle.ab_norm.specs.Nominals.{nominal_of}
use Rattle.ab_norm.specs.NodeGrowth.{AddsTypedTerms}
use Rattle.ab_unifiers.specs.Replacements.{occurs}
use Rattle.ab_unifiers.specs.Choices.{new_constant, choices}
use Rattle.ab_patterns.proofs.Bound.{same_cell, same_nodes, still_term}
use Rattle.ab_patterns.proofs.Standing.{stands_holds}
use Rattle.ab_unify.specs.StoreChanges.{Grows}
use Rattle.ab_unify.proofs.Put.{put_grows}
use Rattle.ab_alternatives.specs.ab_instances.specs.ListReadings.{names_read}

head_same : {X : Type 0} (x y : X) (xs ys : List X) → x ∷ xs ≡ y ∷ ys → x ≡ y
head_same x y xs ys e = cc

pub first_holds : {X : Type 0} (P : X → Type 0) (xs : List X) (x : X) → slice_get xs 0 ≡ Some x → All P xs → P x
first_holds P [] x e all = absurd (cc)
first_holds P (y ∷ ys) x e all = let same : y ≡ x = cc in subst P same (All-head P y ys all)

none_and_some : {X : Type 0} (x : X) (xs : List X) → [] ≡ x ∷ xs → ⊥
none_and_some x xs e = absurd (cc)

-- the choices of one constant: there is one, of a new constant
module _ (types : Table) (A : Ty) (held : List tree.Nominal) where
  pub some_choice : (list : List (List Nominal)) → map (names_read types) list ≡ choices (A ∷ []) [] held → slice_get list 0 ≡ None → ⊥
  some_choice [] e f = none_and_some (new_constant held A ∷ []) [] e
  some_choice (ns ∷ rest) e f = absurd (cc)

  pub some_constant : (list : List (List Nominal)) → map (names_read types) list ≡ choices (A ∷ []) [] held → (ns : List Nominal) → slice_get list 0 ≡ Some ns → slice_get ns 0 ≡ None → ⊥
  some_constant [] e ns f g = none_and_some (new_constant held A ∷ []) [] e
  some_constant ([] ∷ rest) e ns f g = none_and_some (new_constant held A) [] (head_same _ _ (map (names_read types) rest) [] e)
  some_constant ((b ∷ bs) ∷ rest) e ns f g =
      let same : b ∷ bs ≡ ns = cc in
      go b bs (ap (λ l. slice_get l 0) same ∙ g)
    where
      go : (b : Nominal) (bs : List Nominal) → slice_get (b ∷ bs) 0 ≡ None → ⊥
      go b bs e = absurd (cc)

  pub is_new : (list : List (List Nominal)) → map (names_read types) list ≡ choices (A ∷ []) [] held → (ns : List Nominal) (a : Nominal) → slice_get list 0 ≡ Some ns → slice_get ns 0 ≡ Some a
      → nominal_of types a ≡ new_constant held A
  is_new [] e ns a f g = absurd (cc)
  is_new ([] ∷ rest) e ns a f g = absurd (none_and_some (new_constant held A) [] (head_same _ _ (map (names_read types) rest) [] e))
  is_new ((b ∷ bs) ∷ rest) e ns a f g =
      let same : b ∷ bs ≡ ns = cc in
      let first : b ≡ a = go b bs a (ap (λ l. slice_get l 0) same ∙ g) in
      ap (nominal_of types) (sym first) ∙ head_same _ _ (names_read types bs) [] (head_same _ _ (map (names_read types) rest) [] e)
    where
      go : (b : Nominal) (bs : List Nominal) (a : Nominal) → slice_get (b ∷ bs) 0 ≡ Some a → b ≡ a
      go b bs a e = cc

-- a cell that doesn't occur in a term doesn't stand in it, also once there is room
pub not_standing : (types : Table) (s v : Contents) → IsExtendedBy s v → v.cells ≡ s.cells → (c : CellId) (t : TermId) → Holds s t → occurs (cell_variable types s c) (tree_of types s t) ≡ false → ¬ StandsIn v c t
not_standing types s v more same c t held e stands =
    false≢true (sym e
    ∙ ap (occurs (cell_variable types s c)) (sym (more.trees types t held))
    ∙ ap (λ y. occurs y (tree_of types v t)) (sym (same_cell types s v c same))
    ∙ stands_holds types v c t stands)

-- the new term is of the type of the cell
pub fits_cell : (types : Table) (s u v : Contents) → AddsTypedTerms types s u → IsExtendedBy u v → (c : CellId) → HoldsCell s c → (t : TermId) (A : Ty) → type_of types (cell_of s c).ty ≡ A → IsTerm types u [] t A
    → IsTerm types v [] t (type_of types (cell_of v c).ty)
fits_cell types s u v adds more c held t A e is =
    subst (IsTerm types v [] t) (sym e ∙ sym (ap (λ d. type_of types d.ty) (more.cells c (adds.before.cell_ids c held) ∙ adds.before.cells c held))) (still_term types u v more [] t A is)

-- a cell is bound, once there is room
pub grows_bound : (types : Table) (s r v : Contents) → IsExtendedBy s r → IsTypedBy types v → v.nodes ≡ r.nodes → v.cells ≡ r.cells → r.cells ≡ s.cells → ((m : Mark) → HasMark r m → KeepsMark r v m) → Grows types s types v
grows_bound types s r v more typed nodes cells same marks =
    put_grows types s v typed (λ t h. (subst (λ ns. t.0 < length ns) (sym nodes) (more.ids t h), same_nodes types r v t nodes cells ∙ more.trees types t h)) (cells ∙ same) (λ m h. let k = more.marks m h in kept_on s r v m k (marks m k.has))
