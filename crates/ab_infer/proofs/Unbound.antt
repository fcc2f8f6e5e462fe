-- A term with no bound cell reads as its tree.
use Rattle.std.specs.List.{All}
use Rattle.std.proofs.Common.{◌≡◌, ℕ, List, [], map, None, sym, subst, arith}
use Rattle.std.proofs.lemmas.List.{get_or-map, length-map}
use Rattle.std.proofs.lemmas.List.Elements.{All-nil, All-cons, All-append, All-map}
use Rattle.ab_term.specs.Types.{Ty}
use Rattle.ab_term.specs.Terms.{Variable, constant, logical, nominal, variable, index, lam, spine, Terms, no_terms, term, Read}
use Rattle.ab_term.specs.Variables.{variables, variables_of_all}
use Rattle.ab_norm.specs.ab_types.specs.Entries.{Table, signature}
use Rattle.ab_norm.specs.ab_store.specs.declared.node.TermId.{TermId}
use Rattle.ab_norm.specs.ab_store.specs.declared.node.CellId.{CellId}
use Rattle.ab_norm.specs.ab_store.specs.Trees.{Contents, tree_of}
use Rattle.ab_norm.specs.ab_store.specs.Reading.{bound_in, reading}
use Rattle.ab_norm.specs.ab_store.specs.Bindings.{cells_of, IsResolved}
use Rattle.ab_norm.specs.ab_store.proofs.Cells.{cells_are}
use Rattle.ab_norm.specs.ab_store.proofs.Putting.{resolved_reads}
use Rattle.ab_meaning.specs.ResolvedNames.{Resolved}
use Rattle.ab_infer.specs.Heads.{AreHeads, AreAllHeads, AreRawHeads, KnownAre}
use Rattle.ab_infer.specs.Outcomes.{nominal_of, IsNormal, IsUnboundHead}
use Rattle.ab_infer.proofs.HeadsKept.{heads_kept}
use Rattle.ab_infer.proofs.ReadHeads.{reading_heads}

module _ (store : Contents) where
  abbrev Unbound : ℕ → Type 0
  Unbound n = bound_in store.bindings (record { 0 = n }) ≡ None

  mutual
    in_term : (t : Read) → AreHeads (IsUnboundHead store) t → All (λ (x : Variable ℕ). Unbound x.name) (variables t)
    in_term (lam A x t) h = in_term t h
    in_term (spine (constant c) ts) h = in_terms ts h.1
    in_term (spine (logical l) ts) h = in_terms ts h.1
    in_term (spine (nominal a) ts) h = in_terms ts h.1
    in_term (spine (variable x) ts) h = All-cons (λ (y : Variable ℕ). Unbound y.name) x (variables_of_all ts) h.0 (in_terms ts h.1)
    in_term (spine (index i) ts) h = in_terms ts h.1

    in_terms : (ts : Terms ℕ (List ℕ)) → AreAllHeads (IsUnboundHead store) ts → All (λ (x : Variable ℕ). Unbound x.name) (variables_of_all ts)
    in_terms no_terms h = All-nil (λ (x : Variable ℕ). Unbound x.name)
    in_terms (term t ts) h = All-append (λ (x : Variable ℕ). Unbound x.name) (variables t) (variables_of_all ts) (in_term t h.0) (in_terms ts h.1)

  resolved_of : (types : Table) (t : TermId) → AreHeads (IsUnboundHead store) (tree_of types store t) → IsResolved store t
  resolved_of types t h = λ i d l.
      let numbers : All Unbound (map (λ (c : CellId). c.0) (cells_of store t)) =
      subst (All Unbound) (cells_are types store t) (All-map Unbound (λ (x : Variable ℕ). x.name) (variables (tree_of types store t)) (in_term (tree_of types store t) h)) in
      subst Unbound (get_or-map (λ (c : CellId). c.0) (cells_of store t) i d 0 l) (numbers i 0 (omega (arith, l, length-map (cells_of store t) (λ (c : CellId). c.0))))

  pub normal_reads : (types : Table) (e : Resolved) (A : Ty) (t : TermId) → KnownAre (IsUnboundHead store) (Unit {0}) e → IsNormal types store e A t → reading types store t ≡ tree_of types store t
  normal_reads types e A t k n =
      let P = IsUnboundHead store in
      let raw : AreRawHeads P n.reading =
      subst (AreRawHeads P) n.one.is
      (reading_heads P (Unit {0}) nominal_of n.one.reading.types (λ i. tt) (λ B. tt) (λ q B f. tt) (λ u y f. tt) k n.one.reading.reads) in
      resolved_reads types store t (resolved_of types t (subst (AreHeads P) (sym n.is) (heads_kept P (λ i. tt) (signature types) [] n.reading raw)))
