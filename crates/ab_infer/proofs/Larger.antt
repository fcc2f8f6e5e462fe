-- Steps, read in a larger table.
use Rattle.std.specs.List.{All}
use Rattle.std.proofs.Common.{◌≡◌, ℕ, List, [], ◌∷◌, ◌++◌, length, Option, Some, None, option_map, refl, sym, ap, ◌∙◌, subst}
use Rattle.std.proofs.lemmas.List.Elements.{All-head, All-tail, All-nil, All-cons}
use Rattle.ab_term.specs.Types.{Ty}
use Rattle.ab_term.specs.Logical as plain
use Rattle.ab_term.specs.Terms as tree
use Rattle.ab_term.specs.Typing.{Signature, head_type, IsExtendedBy}
use Rattle.ab_norm.specs.ab_types.specs.Entries as entries
use Rattle.ab_norm.specs.ab_types.specs.Entries.{Table, signature}
use Rattle.ab_norm.specs.ab_types.specs.Ids.{HoldsType, type_of}
use Rattle.ab_norm.specs.ab_types.specs.declared.ids.TypeId.{TypeId}
use Rattle.ab_norm.specs.ab_types.proofs.Entries.{holds_type, same_type, same_constant, same_signature}
use Rattle.ab_norm.specs.ab_store.specs.declared.node.CellEntry.{CellEntry}
use Rattle.ab_norm.specs.ab_store.specs.declared.node.Logical.{Logical}
use Rattle.ab_norm.specs.ab_store.specs.declared.node.Logical.TheVariants.{True, False, And, Or, Arrow, Equal, Forall, Exists, Nabla, Judge, Focus, Star, At, Plus, Hash, Pi, Imply, With}
use Rattle.ab_norm.specs.ab_store.specs.declared.node.Head.{Head}
use Rattle.ab_norm.specs.ab_store.specs.declared.node.Head.TheVariants.{Const, Logic, Nominal, Cell, Index}
use Rattle.ab_norm.specs.ab_store.specs.Trees.{Contents, cell_in, logical_of, head_in}
use Rattle.ab_norm.specs.ab_store.specs.Naming.{HeadNames, LogicalIsTyped, HeadIsTyped, IsTypedBy}
use Rattle.ab_norm.specs.ab_store.proofs.Tables.{head_typed, still_typed}
use Rattle.ab_meaning.specs.ResolvedNames.{Name}
use Rattle.ab_inference.specs.declared.op.Op.{Op}
use Rattle.ab_inference.specs.declared.op.Op.TheVariants as op
use Rattle.ab_inference.specs.declared.constraints.Formulas.{Formulas}
use Rattle.ab_inference.specs.Inferences.{IsFormulas}
use Rattle.ab_inference.specs.Programs.{item_of, items_of, OpTyped, HoldsWritten, bind_item, known_item, binding_of}
use Rattle.ab_infer.specs.NormalTerms.{HasHeadType, OpFits}

more_head : (sg more : Signature) → IsExtendedBy sg more → (G : List Ty) (h : tree.Head ℕ) (A : Ty) → head_type sg G h ≡ Some A → head_type more G h ≡ Some A
more_head sg more e G (tree.constant c) A h = e c A h
more_head sg more e G (tree.logical l) A h = h
more_head sg more e G (tree.nominal a) A h = h
more_head sg more e G (tree.variable x) A h = h
more_head sg more e G (tree.index i) A h = h

module _ (s t : Table) where
  same_logical : (l : Logical) → LogicalIsTyped s l → logical_of (s ++ t) l ≡ logical_of s l
  same_logical True h = refl
  same_logical False h = refl
  same_logical And h = refl
  same_logical Or h = refl
  same_logical Arrow h = refl
  same_logical (Equal a) h = ap plain.equality (same_type s t a h)
  same_logical (Forall a) h = ap plain.universal (same_type s t a h)
  same_logical (Exists a) h = ap plain.existential (same_type s t a h)
  same_logical (Nabla a) h = ap plain.nabla (same_type s t a h)
  same_logical Judge h = refl
  same_logical Focus h = refl
  same_logical (Star i) h = refl
  same_logical (At i) h = refl
  same_logical (Plus i) h = refl
  same_logical (Hash i) h = refl
  same_logical (Pi a) h = ap plain.spec_universal (same_type s t a h)
  same_logical Imply h = refl
  same_logical With h = refl

  pub formulas_on : (f : Formulas) → IsFormulas s f → IsFormulas (s ++ t) f
  formulas_on f h = record {
    prop_held = holds_type s t f.prop h.prop_held;
    prop_is = same_type s t f.prop h.prop_held ∙ h.prop_is;
    o_held = holds_type s t f.o h.o_held;
    o_is = same_type s t f.o h.o_held ∙ h.o_is;
  }

  written_on : (w : Option TypeId) → HoldsWritten s w → HoldsWritten (s ++ t) w
  written_on None h = h
  written_on (Some id) h = holds_type s t id h

  same_written : (w : Option TypeId) → HoldsWritten s w → option_map (type_of (s ++ t)) w ≡ option_map (type_of s) w
  same_written None h = refl
  same_written (Some id) h = ap Some (same_type s t id h)

  module _ (C : List CellEntry) (cells : All (λ c. HoldsType s c.ty) C) where
    same_head : (h : Head) → HeadIsTyped s h → HeadNames (length C) h → head_in (s ++ t) C h ≡ head_in s C h
    same_head (Const c) h names = ap (λ (k : _). tree.constant k.name) (same_constant s t c h)
    same_head (Logic l) h names = ap tree.logical (same_logical l h)
    same_head (Nominal n a) h names = ap (λ A. tree.nominal (record { number = n; type = A })) (same_type s t a h)
    same_head (Cell c) h names = ap (λ A. tree.variable (record { name = c.0; type = A })) (same_type s t (cell_in C c).ty (cells c.0 _ names))
    same_head (Index i) h names = refl

    head_on : (h : Head) (A : Ty) → HasHeadType s C h A → HasHeadType (s ++ t) C h A
    head_on h A f = record {
      held = f.held;
      typed = head_typed s t h f.typed;
      is = λ G. ap (head_type (signature (s ++ t)) G) (same_head h f.typed f.held) ∙ more_head (signature s) (signature (s ++ t)) (same_signature s t) G (head_in s C h) A (f.is G);
    }

    op_typed : (n frees : ℕ) (o : Op) → OpTyped s n frees o → OpTyped (s ++ t) n frees o
    op_typed n frees (op.Bound i m) h = h
    op_typed n frees (op.Known g id) h = holds_type s t id h
    op_typed n frees (op.Free j p) h = h
    op_typed n frees op.Apply h = h
    op_typed n frees op.Behind h = h
    op_typed n frees (op.Abs x m p) h = h
    op_typed n frees (op.Equal m) h = h
    op_typed n frees (op.Bind q x m p w) h = (h.0, written_on w h.1)

    op_fits : (n frees : ℕ) (o : Op) → OpTyped s n frees o → OpFits s C o → OpFits (s ++ t) C o
    op_fits n frees (op.Bound i m) h f = f
    op_fits n frees (op.Known g id) h f = subst (HasHeadType (s ++ t) C g) (sym (same_type s t id h)) (head_on g (type_of s id) f)
    op_fits n frees (op.Free j p) h f = f
    op_fits n frees op.Apply h f = f
    op_fits n frees op.Behind h f = f
    op_fits n frees (op.Abs x m p) h f = f
    op_fits n frees (op.Equal m) h f = f
    op_fits n frees (op.Bind q x m p w) h f = f

    same_item : (n frees : ℕ) (names : List Name) (o : Op) → OpTyped s n frees o → OpFits s C o → item_of (s ++ t) C names o ≡ item_of s C names o
    same_item n frees names (op.Bound i m) h f = refl
    same_item n frees names (op.Known g id) h f =
        ap (λ k. known_item k (type_of (s ++ t) id)) (same_head g f.typed f.held) ∙ ap (known_item (head_in s C g)) (same_type s t id h)
    same_item n frees names (op.Free j p) h f = refl
    same_item n frees names op.Apply h f = refl
    same_item n frees names op.Behind h f = refl
    same_item n frees names (op.Abs x m p) h f = refl
    same_item n frees names (op.Equal m) h f = refl
    same_item n frees names (op.Bind q x m p w) h f = ap (bind_item (binding_of q) x m p) (same_written w h.1)

    pub all_typed : (n frees : ℕ) (os : List Op) → All (OpTyped s n frees) os → All (OpTyped (s ++ t) n frees) os
    all_typed n frees [] h = All-nil (OpTyped (s ++ t) n frees)
    all_typed n frees (o ∷ os) h =
        All-cons (OpTyped (s ++ t) n frees) o os (op_typed n frees o (All-head (OpTyped s n frees) o os h)) (all_typed n frees os (All-tail (OpTyped s n frees) o os h))

    pub all_fit : (n frees : ℕ) (os : List Op) → All (OpTyped s n frees) os → All (OpFits s C) os → All (OpFits (s ++ t) C) os
    all_fit n frees [] h f = All-nil (OpFits (s ++ t) C)
    all_fit n frees (o ∷ os) h f =
        All-cons (OpFits (s ++ t) C) o os (op_fits n frees o (All-head (OpTyped s n frees) o os h) (All-head (OpFits s C) o os f))
        (all_fit n frees os (All-tail (OpTyped s n frees) o os h) (All-tail (OpFits s C) o os f))

    pub same_items : (n frees : ℕ) (names : List Name) (os : List Op) → All (OpTyped s n frees) os → All (OpFits s C) os → items_of (s ++ t) C names os ≡ items_of s C names os
    same_items n frees names [] h f = refl
    same_items n frees names (o ∷ os) h f =
        ap (λ i. i ∷ items_of (s ++ t) C names os) (same_item n frees names o (All-head (OpTyped s n frees) o os h) (All-head (OpFits s C) o os f))
        ∙ ap (λ is. item_of s C names o ∷ is) (same_items n frees names os (All-tail (OpTyped s n frees) o os h) (All-tail (OpFits s C) o os f))

module _ (old new : Table) (more : entries.IsExtendedBy old new) where
  pub formulas_more : (f : Formulas) → IsFormulas old f → IsFormulas new f
  formulas_more f h = subst (λ t. IsFormulas t f) (sym more.1) (formulas_on old more.0 f h)

  pub type_more : (id : TypeId) → HoldsType old id → type_of new id ≡ type_of old id
  type_more id h = ap (λ t. type_of t id) more.1 ∙ same_type old more.0 id h

  pub store_more : (store : Contents) → IsTypedBy old store → IsTypedBy new store
  store_more store h = subst (λ t. IsTypedBy t store) (sym more.1) (still_typed old more.0 store h)

  module _ (store : Contents) (typed : IsTypedBy old store) where
    pub typed_more_steps : (n frees : ℕ) (os : List Op) → All (OpTyped old n frees) os → All (OpTyped new n frees) os
    typed_more_steps n frees os h = subst (λ t. All (OpTyped t n frees) os) (sym more.1) (all_typed old more.0 store.cells typed.cells n frees os h)

    pub fits_more : (n frees : ℕ) (os : List Op) → All (OpTyped old n frees) os → All (OpFits old store.cells) os → All (OpFits new store.cells) os
    fits_more n frees os h f = subst (λ t. All (OpFits t store.cells) os) (sym more.1) (all_fit old more.0 store.cells typed.cells n frees os h f)

    pub items_more : (n frees : ℕ) (names : List Name) (os : List Op) → All (OpTyped old n frees) os → All (OpFits old store.cells) os → items_of new store.cells names os ≡ items_of old store.cells names os
    items_more n frees names os h f = ap (λ t. items_of t store.cells names os) more.1 ∙ same_items old more.0 store.cells typed.cells n frees names os h f
