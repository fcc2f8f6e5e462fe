-- What cells are bound to, one after another; and the answer once what was bound is undone.
use Rattle.std.specs.List.{All}
use Rattle.std.proofs.Common.{◌≡◌, ℕ, ◌+◌, ◌<◌, List, [], ◌∷◌, ◌++◌, map, take, length, get_or, Bool, true, false, cond, ◌==◌, refl, sym, ◌∙◌, ap, subst, arith}
use Rattle.std.specs.Prelude.{Option, Some, None, IfSome}
use Rattle.std.specs.Cmp.{unsigned_Decides}
use Rattle.std.proofs.lemmas.List.{map-append, take_more}
use Rattle.std.proofs.lemmas.List.Elements.{All-head, All-tail, All-push, All-weaker}
use Rattle.ab_norm.specs.ab_types.specs.Entries.{Table}
use Rattle.ab_norm.specs.ab_types.specs.Ids.{type_of}
use Rattle.ab_norm.specs.ab_store.specs.declared.node.CellId.{CellId}
use Rattle.ab_norm.specs.ab_store.specs.declared.node.CellEntry.{CellEntry}
use Rattle.ab_norm.specs.ab_store.specs.declared.node.TermId.{TermId}
use Rattle.ab_norm.specs.ab_store.specs.declared.node.Binding.{Binding}
use Rattle.ab_norm.specs.ab_store.specs.Trees.{Contents, HoldsCell, cell_in, cell_of}
use Rattle.ab_norm.specs.ab_store.specs.Reading.{bound_in, binding_of}
use Rattle.ab_norm.specs.ab_store.specs.Naming.{IsTypedBy, IsTerm, BindingIsTyped}
use Rattle.ab_norm.specs.NodeGrowth.{AddsTypedTerms}
use Rattle.ab_instances.proofs.Bound.{same_term}
use Rattle.ab_search_ways.specs.Answers.{HoldsValue, IsAnswerFor, IsAnswered}
use Rattle.ab_search_ways.specs.declared.way.Value.{Value}
use Rattle.ab_search_ways.specs.declared.way.Tried.{Tried}
use Rattle.ab_search_ways.specs.declared.way.Tried.TheVariants.{Apart, Stuck, Refused, Ahead}
use Rattle.ab_search_ways.proofs.Bare.{kept_term}

-- what a cell is bound to is a term of its type
pub bound_typed : (types : Table) (s : Contents) (bs : List Binding) (c : CellId) (u : TermId) → All (BindingIsTyped types s) bs → bound_in bs c ≡ Some u → IsTerm types s [] u (type_of types (cell_of s c).ty)
bound_typed types s [] c u all e = absurd (cc)
bound_typed types s (b ∷ bs) c u all e = go (b.cell.0 == c.0) refl e (bound_typed types s bs c u (All-tail (BindingIsTyped types s) b bs all))
  where
    go : (k : Bool) → (b.cell.0 == c.0) ≡ k → cond k (Some b.term) (bound_in bs c) ≡ Some u → (bound_in bs c ≡ Some u → IsTerm types s [] u (type_of types (cell_of s c).ty)) → IsTerm types s [] u (type_of types (cell_of s c).ty)
    go true same is more =
        let one = All-head (BindingIsTyped types s) b bs all in
        let number : b.cell.0 ≡ c.0 = (unsigned_Decides b.cell.0 c.0).0 same in
        let term : b.term ≡ u = cc in
        subst (λ t. IsTerm types s [] t (type_of types (cell_of s c).ty)) term (subst (λ n. IsTerm types s [] b.term (type_of types (cell_in s.cells (record { 0 = n })).ty)) number one.1)
    go false same is more = more is

module _ (types : Table) (s t : Contents) (adds : AddsTypedTerms types s t) where
  pub value_kept : (v : Value) → HoldsValue types s v → HoldsValue types t v
  value_kept v h = record {
    cell = subst (λ (k : List CellEntry). v.cell.0 < length k) (sym adds.cells) h.cell;
    term = term_kept v.term h.term;
  }
    where
      term_kept : (o : Option TermId) → IfSome o (λ u. IsTerm types s [] u (type_of types (cell_of s v.cell).ty)) → IfSome o (λ u. IsTerm types t [] u (type_of types (cell_of t v.cell).ty))
      term_kept None k = k
      term_kept (Some u) k = subst (λ (cs : List CellEntry). IsTerm types t [] u (type_of types (cell_in cs v.cell).ty)) (sym adds.cells) (kept_term types s t adds [] u (type_of types (cell_of s v.cell).ty) k)

  -- one value more
  pub values_more : (cs : List CellId) (done now : List Value) (i : ℕ) (d : CellId) (v : Value) → i < length cs → v.cell ≡ get_or cs i d → HoldsValue types t v → now ≡ done ++ v ∷ []
      → IsAnswerFor types s (take i cs) done → IsAnswerFor types t (take (i + 1) cs) now
  values_more cs done now i d v l same held is h = record {
    each =
        ap (map (λ (x : Value). x.cell)) is
        ∙ map-append (λ (x : Value). x.cell) done (v ∷ [])
        ∙ ap (λ xs. xs ++ v.cell ∷ []) h.each
        ∙ ap (λ c. take i cs ++ c ∷ []) same
        ∙ sym (take_more cs i d l);
    held = subst (All (HoldsValue types t)) (sym is) (All-push (HoldsValue types t) done v (All-weaker (HoldsValue types s) (HoldsValue types t) value_kept done h.held) held);
  }

-- the value of a bound cell
pub value_made : (types : Table) (s t : Contents) (c : CellId) (r : TermId) → t.cells ≡ s.cells → HoldsCell s c → IsTerm types t [] r (type_of types (cell_of s c).ty) → HoldsValue types t (record { cell = c; term = Some r })
value_made types s t c r cells held typed = record {
  cell = subst (λ (k : List CellEntry). c.0 < length k) (sym cells) held;
  term = subst (λ (cs : List CellEntry). IsTerm types t [] r (type_of types (cell_in cs c).ty)) (sym cells) typed;
}

-- in a store with the same nodes and cells
module _ (types : Table) (s t : Contents) (nodes : t.nodes ≡ s.nodes) (cells : t.cells ≡ s.cells) where
  pub value_still : (v : Value) → HoldsValue types s v → HoldsValue types t v
  value_still v h = record {
    cell = subst (λ (k : List CellEntry). v.cell.0 < length k) (sym cells) h.cell;
    term = term_still v.term h.term;
  }
    where
      term_still : (o : Option TermId) → IfSome o (λ u. IsTerm types s [] u (type_of types (cell_of s v.cell).ty)) → IfSome o (λ u. IsTerm types t [] u (type_of types (cell_of t v.cell).ty))
      term_still None k = k
      term_still (Some u) k = subst (λ (cs : List CellEntry). IsTerm types t [] u (type_of types (cell_in cs v.cell).ty)) (sym cells) (same_term types s t nodes cells [] u (type_of types (cell_of s v.cell).ty) k)

  pub answer_still : (cs : List CellId) (r : Tried) → IsAnswered types s cs r → IsAnswered types t cs r
  answer_still cs Apart k = k
  answer_still cs (Stuck i) k = k
  answer_still cs Refused k = k
  answer_still cs (Ahead p) k = record { each = k.each; held = All-weaker (HoldsValue types s) (HoldsValue types t) value_still p.answer.items k.held }
