-- A store under a table that has grown.
use Rattle.std.proofs.Common.{◌≡◌, ℕ, suc, ◌<◌, List, [], ◌∷◌, ◌++◌, map, length, get_or, refl, sym, ◌∙◌, ap, subst, arith}
use Rattle.std.specs.List.{All}
use Rattle.std.proofs.lemmas.List.Elements.{All-head, All-tail, All-weaker}
use Rattle.ab_term.specs.Logical as plain
use Rattle.ab_term.specs.Terms as tree
use Rattle.ab_term.specs.Terms.{lam, spine, terms_of, Read}
use Rattle.ab_term.specs.Types.{Ty}
use Rattle.ab_term.specs.Typing.{HasType}
use Rattle.ab_term.specs.Sameness.{same_number}
use Rattle.ab_term.specs.Variables.{one_by_one}
use Rattle.ab_term.proofs.Unique.{more_typed}
use Rattle.ab_types.specs.Entries.{Table, signature}
use Rattle.ab_types.specs.Ids.{HoldsType, type_of}
use Rattle.ab_types.proofs.Entries.{holds_type, holds_constant, same_type, same_constant, same_signature}
use Rattle.ab_store.specs.declared.node.TermId.{TermId}
use Rattle.ab_store.specs.declared.node.Logical.{Logical}
use Rattle.ab_store.specs.declared.node.Logical.TheVariants.{True, False, And, Or, Arrow, Equal, Forall, Exists, Nabla, Judge, Focus, Star, At, Plus, Hash, Pi, Imply, With}
use Rattle.ab_store.specs.declared.node.Head.{Head}
use Rattle.ab_store.specs.declared.node.Head.TheVariants.{Const, Logic, Nominal, Cell, Index}
use Rattle.ab_store.specs.declared.node.Node.{Node}
use Rattle.ab_store.specs.declared.node.Node.TheVariants.{Lam, Spine}
use Rattle.ab_store.specs.declared.node.CellEntry.{CellEntry}
use Rattle.ab_store.specs.Trees.{Contents, cell_in, cell_of, logical_of, head_in, term_at, term_of_node, terms_from, tree_of}
use Rattle.ab_store.specs.Reading.{pairs, reading}
use Rattle.ab_store.specs.Naming.{HeadNames, NodeNames, LogicalIsTyped, HeadIsTyped, NodeIsTyped, BindingIsTyped, IsTypedBy, IsTerm}
use Rattle.ab_store.specs.declared.node.Binding.{Binding}
use Rattle.ab_store.proofs.Nodes.{none}
use Rattle.ab_store.proofs.Putting.{pair}

module _ (s t : Table) where
  logical_typed : (l : Logical) → LogicalIsTyped s l → LogicalIsTyped (s ++ t) l
  logical_typed True h = h
  logical_typed False h = h
  logical_typed And h = h
  logical_typed Or h = h
  logical_typed Arrow h = h
  logical_typed (Equal a) h = holds_type s t a h
  logical_typed (Forall a) h = holds_type s t a h
  logical_typed (Exists a) h = holds_type s t a h
  logical_typed (Nabla a) h = holds_type s t a h
  logical_typed Judge h = h
  logical_typed Focus h = h
  logical_typed (Star i) h = h
  logical_typed (At i) h = h
  logical_typed (Plus i) h = h
  logical_typed (Hash i) h = h
  logical_typed (Pi a) h = holds_type s t a h
  logical_typed Imply h = h
  logical_typed With h = h

  same_logical : (l : Logical) → LogicalIsTyped s l → logical_of (s ++ t) l ≡ logical_of s l
  same_logical True h = refl
  same_logical False h = refl
  same_logical And h = refl
  same_logical Or h = refl
  same_logical Arrow h = refl
  same_logical (Equal a) h = ap plain.equality (same_type s t a h)
  same_logical (Forall a) h = ap plain.universal (same_type s t a h)
  same_logical (Exists a) h = ap plain.existential (same_type s t a h)
  same_logical (Nabla a) h = ap plain.nabla (same_type s t a h)
  same_logical Judge h = refl
  same_logical Focus h = refl
  same_logical (Star i) h = refl
  same_logical (At i) h = refl
  same_logical (Plus i) h = refl
  same_logical (Hash i) h = refl
  same_logical (Pi a) h = ap plain.spec_universal (same_type s t a h)
  same_logical Imply h = refl
  same_logical With h = refl

  pub head_typed : (h : Head) → HeadIsTyped s h → HeadIsTyped (s ++ t) h
  head_typed (Const c) h = holds_constant s t c h
  head_typed (Logic l) h = logical_typed l h
  head_typed (Nominal n a) h = holds_type s t a h
  head_typed (Cell c) h = h
  head_typed (Index i) h = h

  pub node_typed : (n : Node) → NodeIsTyped s n → NodeIsTyped (s ++ t) n
  node_typed (Lam a x b) h = holds_type s t a h
  node_typed (Spine g ts) h = head_typed g h

  module _ (C : List CellEntry) (cells : All (λ c. HoldsType s c.ty) C) where
    same_head : (h : Head) → HeadIsTyped s h → HeadNames (length C) h → head_in (s ++ t) C h ≡ head_in s C h
    same_head (Const c) h names = ap (λ (k : _). tree.constant k.name) (same_constant s t c h)
    same_head (Logic l) h names = ap tree.logical (same_logical l h)
    same_head (Nominal n a) h names = ap (λ A. tree.nominal (record { number = n; type = A })) (same_type s t a h)
    same_head (Cell c) h names = ap (λ A. tree.variable (record { name = c.0; type = A })) (same_type s t (cell_in C c).ty (cells c.0 _ names))
    same_head (Index i) h names = refl

    same_node : (xs : List Read) (j : ℕ) (n : Node) → NodeIsTyped s n → NodeNames j (length C) n → term_of_node (s ++ t) C xs n ≡ term_of_node s C xs n
    same_node xs j (Lam a x b) h names = ap (λ A. lam A x (term_at s xs b)) (same_type s t a h)
    same_node xs j (Spine g ts) h names = ap (λ k. spine k (terms_of (map (term_at s xs) ts))) (same_head g h names.0)

    same_terms : (acc : List Read) (ns : List Node) → All (NodeIsTyped s) ns → ((j : ℕ) (d : Node) → j < length ns → (m : ℕ) × NodeNames m (length C) (get_or ns j d)) → terms_from (s ++ t) C acc ns ≡ terms_from s C acc ns
    same_terms acc [] h names = refl
    same_terms acc (n ∷ ns) h names =
        let first = names 0 n (omega arith) in
        ap (λ x. terms_from (s ++ t) C (acc ++ x ∷ []) ns) (same_node acc first.0 n (All-head (NodeIsTyped s) n ns h) first.1)
        ∙ same_terms (acc ++ term_of_node s C acc n ∷ []) ns (All-tail (NodeIsTyped s) n ns h) (λ j d l. names (suc j) d (omega arith))

  module _ (store : Contents) (typed : IsTypedBy s store) where
    pub same_tree : (id : TermId) → tree_of (s ++ t) store id ≡ tree_of s store id
    same_tree id =
        ap (λ l. get_or l id.0 none) (same_terms store.cells typed.cells [] store.nodes typed.nodes (λ j d l. (j, typed.earlier j d l)))

    same_cell : (b : Binding) → BindingIsTyped s store b → type_of (s ++ t) (cell_of store b.cell).ty ≡ type_of s (cell_of store b.cell).ty
    same_cell b h = same_type s t (cell_of store b.cell).ty (typed.cells b.cell.0 _ h.0)

    pub same_term : (G : List Ty) (id : TermId) (A : Ty) → IsTerm s store G id A → IsTerm (s ++ t) store G id A
    same_term G id A is =
        (is.0, subst (λ r. HasType (signature (s ++ t)) G r A) (sym (same_tree id)) (more_typed (signature s) (signature (s ++ t)) (same_signature s t) is.1))

    same_binding : (b : Binding) → BindingIsTyped s store b → BindingIsTyped (s ++ t) store b
    same_binding b h = (h.0, subst (IsTerm (s ++ t) store [] b.term) (sym (same_cell b h)) (same_term [] b.term (type_of s (cell_of store b.cell).ty) h.1))

    pub still_typed : IsTypedBy (s ++ t) store
    still_typed = record {
      earlier = typed.earlier;
      nodes = All-weaker (NodeIsTyped s) (NodeIsTyped (s ++ t)) node_typed store.nodes typed.nodes;
      cells = All-weaker (λ (c : CellEntry). HoldsType s c.ty) (λ (c : CellEntry). HoldsType (s ++ t) c.ty) (λ c. holds_type s t c.ty) store.cells typed.cells;
      bindings = All-weaker (BindingIsTyped s store) (BindingIsTyped (s ++ t) store) same_binding store.bindings typed.bindings;
    }

    same_pairs : (bs : List Binding) → All (BindingIsTyped s store) bs → map (pair (s ++ t) store) bs ≡ map (pair s store) bs
    same_pairs [] all = refl
    same_pairs (b ∷ bs) all =
        ap (λ A. (record { name = b.cell.0; type = A }, tree_of (s ++ t) store b.term) ∷ map (pair (s ++ t) store) bs) (same_cell b (All-head (BindingIsTyped s store) b bs all))
        ∙ ap (λ r. (record { name = b.cell.0; type = type_of s (cell_of store b.cell).ty }, r) ∷ map (pair (s ++ t) store) bs) (same_tree b.term)
        ∙ ap (λ l. pair s store b ∷ l) (same_pairs bs (All-tail (BindingIsTyped s store) b bs all))

    pub same_reading : (id : TermId) → reading (s ++ t) store id ≡ reading s store id
    same_reading id =
        ap (λ l. one_by_one same_number l (tree_of (s ++ t) store id)) (same_pairs store.bindings typed.bindings)
        ∙ ap (one_by_one same_number (pairs s store)) (same_tree id)
