-- A store that grows: what it keeps, and what is bound stays bound.
use Rattle.std.proofs.Common.{◌≡◌, ℕ, suc, ◌+◌, ◌<◌, ◌≤◌, List, [], ◌∷◌, ◌++◌, length, take, drop, get_or, Bool, true, false, cond, ◌==◌, Some, None, refl, sym, ◌∙◌, ap, subst, arith, take_all, take-append-drop, drop-cons}
use Rattle.std.specs.Prelude.{All}
use Rattle.std.proofs.lemmas.List.{drop_all}
use Rattle.std.proofs.lemmas.List.Elements.{All-weaker}
use Rattle.ab_term.specs.Types.{Ty}
use Rattle.ab_term.specs.Terms.{Term}
use Rattle.ab_term.specs.Typing.{HasType}
use Rattle.ab_term.specs.Variables.{Substitution, IsTyped}
use Rattle.ab_term.proofs.Unique.{more_typed}
use Rattle.ab_norm.specs.ab_types.specs.Entries.{Table, signature, IsExtendedBy as IsPartOf}
use Rattle.ab_norm.specs.ab_types.specs.Ids.{type_of}
use Rattle.ab_norm.specs.ab_types.proofs.Entries.{same_type, same_signature, extended_by_itself, extended_twice}
use Rattle.ab_norm.specs.ab_store.specs.declared.node.TermId.{TermId}
use Rattle.ab_norm.specs.ab_store.specs.declared.node.CellId.{CellId}
use Rattle.ab_norm.specs.ab_store.specs.declared.node.CellEntry.{CellEntry}
use Rattle.ab_norm.specs.ab_store.specs.declared.node.Binding.{Binding}
use Rattle.ab_norm.specs.ab_store.specs.declared.mark.Mark.{Mark}
use Rattle.ab_norm.specs.ab_store.specs.Trees.{Contents, HoldsCell, cell_of}
use Rattle.ab_norm.specs.ab_store.specs.Reading.{bound_in, cell_variable}
use Rattle.ab_norm.specs.ab_store.specs.Bindings.{IsUnbound}
use Rattle.ab_norm.specs.ab_store.specs.Marks.{HasMark, at_mark}
use Rattle.ab_norm.specs.ab_store.specs.Naming.{NodesNameEarlier, BindingIsTyped, IsTypedBy, IsTerm}
use Rattle.ab_norm.specs.ab_store.proofs.Marking.{kept_on, kept_itself}
use Rattle.ab_norm.specs.NodeGrowth.{AddsTerms, AddsTypedTerms}
use Rattle.ab_unify.specs.StoreChanges.{Grows}

pub grows_none : (types : Table) (s : Contents) → IsTypedBy types s → Grows types s types s
grows_none types s typed = record {
  table = extended_by_itself types;
  kinds = refl;
  constants = refl;
  typed = typed;
  trees = λ t h. (h, refl);
  cells = λ c h. (h, refl);
  marks = λ m h. kept_itself s m h;
}

pub grows_on : (T U W : Table) (S V X : Contents) → Grows T S U V → Grows U V W X → Grows T S W X
grows_on T U W S V X a b = record {
  table = extended_twice T U W a.table b.table;
  kinds = b.kinds ∙ a.kinds;
  constants = b.constants ∙ a.constants;
  typed = b.typed;
  trees = λ t h. let u = a.trees t h in let v = b.trees t u.0 in (v.0, v.1 ∙ u.1);
  cells = λ c h. let u = a.cells c h in let v = b.cells c u.0 in (v.0, v.1 ∙ u.1);
  marks = λ m h. let k = a.marks m h in kept_on S V X m k (b.marks m k.has);
}

pub grows_terms : (types : Table) (s t : Contents) → AddsTypedTerms types s t → Grows types s types t
grows_terms types s t adds = record {
  table = extended_by_itself types;
  kinds = refl;
  constants = refl;
  typed = adds.typed;
  trees = λ r h. (adds.before.ids r h, adds.before.trees types r h);
  cells = λ c h. (adds.before.cell_ids c h, adds.before.cells c h);
  marks = λ m h. adds.before.marks m h;
}

pub typed_terms : (types : Table) (s t : Contents) → IsTypedBy types s → AddsTerms s t → AddsTypedTerms types s t
typed_terms types s t typed adds = record { before = adds.before; cells = adds.cells; typed = adds.typed types typed }

pub lifted : (T U : Table) → IsPartOf T U → {G : List Ty} {t : Term ℕ (List ℕ)} {A : Ty} → HasType (signature T) G t A → HasType (signature U) G t A
lifted T U part {G = G} {t = t} {A = A} d = subst (λ X. HasType (signature X) G t A) (sym part.1) (more_typed (signature T) (signature (T ++ part.0)) (same_signature T part.0) d)

pub lifted_all : (T U : Table) → IsPartOf T U → (s : Substitution ℕ (List ℕ)) → IsTyped (signature T) s → IsTyped (signature U) s
lifted_all T U part s all = All-weaker (λ p. HasType (signature T) [] p.1 p.0.type) (λ p. HasType (signature U) [] p.1 p.0.type) (λ p d. lifted T U part d) s all

module _ (T U : Table) (S V : Contents) (g : Grows T S U V) where
  pub grown_term : (G : List Ty) (r : TermId) (A : Ty) → IsTerm T S G r A → IsTerm U V G r A
  grown_term G r A is =
      let there = g.trees r is.0 in
      (there.0, subst (λ u. HasType (signature U) G u A) (sym there.1) (lifted T U g.table is.1))

  -- the type of a cell
  pub grown_type : IsTypedBy T S → (c : CellId) → HoldsCell S c → type_of U (cell_of V c).ty ≡ type_of T (cell_of S c).ty
  grown_type typed c h =
      ap (λ e. type_of U e.ty) (g.cells c h).1
      ∙ ap (λ X. type_of X (cell_of S c).ty) g.table.1
      ∙ same_type T g.table.0 (cell_of S c).ty (typed.cells c.0 _ h)

  pub grown_variable : IsTypedBy T S → (c : CellId) → HoldsCell S c → cell_variable U V c ≡ cell_variable T S c
  grown_variable typed c h = ap (λ A. record { name = c.0; type = A }) (grown_type typed c h)

-- everything, as a mark
abbrev pub whole : Contents → Mark
whole s = record { bindings = length s.bindings; nodes = length s.nodes; cells = length s.cells }

pub has_whole : (types : Table) (s : Contents) → IsTypedBy types s → HasMark s (whole s)
has_whole types s typed = record {
  bindings = omega arith;
  nodes = omega arith;
  cells = omega arith;
  nodes_name = subst (λ l. NodesNameEarlier (length s.cells) l) (sym (take_all (length s.nodes) s.nodes (omega arith))) typed.earlier;
  bindings_name = subst (All (λ (b : Binding). (b.cell.0 < length s.cells) × (b.term.0 < length s.nodes))) (sym (take_all (length s.bindings) s.bindings (omega arith)))
      (All-weaker (BindingIsTyped types s) (λ (b : Binding). (b.cell.0 < length s.cells) × (b.term.0 < length s.nodes)) (λ b h. (h.0, h.1.0)) s.bindings typed.bindings);
}

bound_before : (bs cs : List Binding) (c : CellId) → bound_in (bs ++ cs) c ≡ None → bound_in bs c ≡ None
bound_before [] cs c e = refl
bound_before (b ∷ bs) cs c e = go (bound_before bs cs c) (b.cell.0 == c.0) e
  where
    go : (bound_in (bs ++ cs) c ≡ None → bound_in bs c ≡ None) → (k : Bool) → cond k (Some b.term) (bound_in (bs ++ cs) c) ≡ None → cond k (Some b.term) (bound_in bs c) ≡ None
    go rest true e = e
    go rest false e = rest e

module _ (T U : Table) (S V : Contents) (typed : IsTypedBy T S) (g : Grows T S U V) where
  same_front : at_mark V (whole S) ≡ at_mark S (whole S)
  same_front = (g.marks (whole S) (has_whole T S typed)).same

  pub front_bindings : take (length S.bindings) V.bindings ≡ S.bindings
  front_bindings = ap (λ u. u.bindings) same_front ∙ take_all (length S.bindings) S.bindings (omega arith)

  pub front_cells : take (length S.cells) V.cells ≡ S.cells
  front_cells = ap (λ u. u.cells) same_front ∙ take_all (length S.cells) S.cells (omega arith)

  pub front_nodes : take (length S.nodes) V.nodes ≡ S.nodes
  front_nodes = ap (λ u. u.nodes) same_front ∙ take_all (length S.nodes) S.nodes (omega arith)

  -- what is unbound was unbound
  pub was_unbound : (c : CellId) → IsUnbound V c → IsUnbound S c
  was_unbound c e =
      bound_before S.bindings (drop (length S.bindings) V.bindings) c
      (subst (λ bs. bound_in bs c ≡ None) (sym (take-append-drop (length S.bindings) V.bindings) ∙ ap (λ l. l ++ drop (length S.bindings) V.bindings) front_bindings) e)

  -- one cell more
  pub one_more : (made : CellId) → made.0 ≡ length S.cells → length V.cells ≡ length S.cells + 1 → V.cells ≡ S.cells ++ cell_of V made ∷ []
  one_more made number one =
      let d : CellEntry = record { hint = []; ty = record { 0 = 0 } } in
      sym (take-append-drop (length S.cells) V.cells)
      ∙ ap (λ l. l ++ drop (length S.cells) V.cells) front_cells
      ∙ ap (λ l. S.cells ++ l) (drop-cons V.cells (length S.cells) d (omega (arith, one)) ∙ ap (λ l. get_or V.cells (length S.cells) d ∷ l) (drop_all (suc (length S.cells)) V.cells (omega (arith, one))))
      ∙ ap (λ n. S.cells ++ get_or V.cells n d ∷ []) (sym number)

  -- a cell that is there now was there, or is new
  pub was_held : (made d : CellId) → made.0 ≡ length S.cells → length V.cells ≡ length S.cells + 1 → HoldsCell V d → (d.0 ≡ made.0 → ⊥) → HoldsCell S d
  was_held made d number one held other = last d.0 (length S.cells) (omega (arith, held, one)) (λ e. other (e ∙ sym number))
    where
      last : (k n : ℕ) → k ≤ n → (k ≡ n → ⊥) → k < n
      last k n l other = omega (arith, l, other)
