-- The cells of a kept clause can be bound to new ones, given constants; what they are as variables of the clause.
use Rattle.std.proofs.Common.{◌≡◌, ◌≢◌, ℕ, suc, ◌<◌, ◌≤◌, List, [], ◌∷◌, map, length, codes, refl, sym, ◌∙◌, ap, subst, arith}
use Rattle.std.specs.Prelude.{AllPairs, Contains}
use Rattle.std.specs.List.{All}
use Rattle.std.proofs.lemmas.Bool.{false≢true}
use Rattle.std.proofs.lemmas.List.Elements.{All-head, All-tail, All-contains}
use Rattle.std.proofs.lemmas.List.Kept.{AllPairs-cons}
use Rattle.ab_term.specs.Terms as tree
use Rattle.ab_term.specs.Terms.{Variable}
use Rattle.ab_term.specs.Variables.{variables}
use Rattle.ab_term.proofs.Lists.{AllPairs-none, All-from_contains, Contains-map, Contains-from_map}
use Rattle.ab_norm.specs.ab_types.specs.Entries.{Table, signature}
use Rattle.ab_norm.specs.ab_types.specs.Ids.{type_of}
use Rattle.ab_norm.specs.ab_store.specs.declared.node.TermId.{TermId}
use Rattle.ab_norm.specs.ab_store.specs.declared.node.CellId.{CellId}
use Rattle.ab_norm.specs.ab_store.specs.Trees.{Contents, HoldsCell, cell_of, tree_of}
use Rattle.ab_norm.specs.ab_store.specs.Reading.{cell_variable}
use Rattle.ab_norm.specs.ab_store.specs.Bindings.{cells_of}
use Rattle.ab_norm.specs.ab_store.specs.Naming.{IsTypedBy, IsTerm}
use Rattle.ab_norm.specs.ab_store.proofs.Cells as stored
use Rattle.ab_unifiers.specs.Unifiers.{AreDifferent}
use Rattle.ab_unifiers.proofs.Agreeing.{contains_holds}
use Rattle.ab_unifiers.specs.Clauses.{Each, numbered}
use Rattle.ab_unifiers.specs.Alternatives.{cells_over, made_terms}
use Rattle.ab_unifiers.proofs.Rows.{numbered_within}
use Rattle.ab_unifiers.proofs.Unifier.{made_over_vars}
use Rattle.ab_unifiers.proofs.Variables.{Has, has_held}
use Rattle.ab_typing.specs.DefinitionReadings.{variable_of}
use Rattle.ab_formulas.specs.CaseClauses as cases
use Rattle.ab_formulas.specs.CaseClauses.{in_terms}
use Rattle.ab_unify.specs.Problem.{cell_read, variables_read, cells_at}
use Rattle.ab_unify.specs.StoreChanges.{Grows}
use Rattle.ab_unify.proofs.Growth.{grown_type, grown_variable}
use Rattle.ab_instances.specs.ListReadings.{trees_at}
use Rattle.ab_instances.specs.CellBindings.{IsFor, CanBeBound}

abbrev x : List ℕ
x = codes "x"

-- cells as a clause's variables
pub in_terms_are : (T : Table) (S : Contents) (cs : List CellId) → map in_terms (map (variable_of T S) cs) ≡ variables_read T S cs
in_terms_are T S [] = refl
in_terms_are T S (c ∷ cs) = ap (λ l. cell_variable T S c ∷ l) (in_terms_are T S cs)

pub cells_are : (T : Table) (S : Contents) (cs : List CellId) → map cases.cell_of (map (variable_of T S) cs) ≡ cells_at T S cs
cells_are T S [] = refl
cells_are T S (c ∷ cs) = ap (λ l. cell_read T (cell_of S c) ∷ l) (cells_are T S cs)

pub variables_stay : (T0 T : Table) (S0 S : Contents) → Grows T0 S0 T S → IsTypedBy T0 S0 → (cs : List CellId) → All (HoldsCell S0) cs → variables_read T S cs ≡ variables_read T0 S0 cs
variables_stay T0 T S0 S g typed [] held = refl
variables_stay T0 T S0 S g typed (c ∷ cs) held =
    ap (λ v. v ∷ variables_read T S cs) (grown_variable T0 T S0 S g typed c (All-head (HoldsCell S0) c cs held))
    ∙ ap (λ l. cell_variable T0 S0 c ∷ l) (variables_stay T0 T S0 S g typed cs (All-tail (HoldsCell S0) c cs held))

-- different variables are different cells
pub different_cells : (T : Table) (S : Contents) (cs : List CellId) → AreDifferent (variables_read T S cs) → AllPairs (λ c d. c ≢ d) cs
different_cells T S [] h = AllPairs-none (λ c d. c ≢ d)
different_cells T S (c ∷ cs) h =
    AllPairs-cons (λ c d. c ≢ d) c cs
    (All-from_contains (λ d. c ≢ d) cs (λ d m e. false≢true (sym h.0 ∙ contains_holds (variables_read T S cs) (cell_variable T S c) (subst (λ k. Contains (variables_read T S cs) (cell_variable T S k)) (sym e) (Contains-map (cell_variable T S) cs d m)))))
    (different_cells T S cs h.1)

-- THE CELLS CAN BE BOUND
pub can_bind : (T0 T : Table) (S0 S : Contents) → IsTypedBy T0 S0 → Grows T0 S0 T S → (ns : List tree.Nominal) (cells : List CellId) (terms : List TermId)
    → AllPairs (λ c d. c ≢ d) cells → All (HoldsCell S0) cells → Each (λ c t. IsTerm T S [] t (type_of T0 (cell_of S0 c).ty)) cells terms
    → trees_at T S terms ≡ made_terms x (length S0.cells) ns (cells_at T0 S0 cells) → CanBeBound T S cells terms
can_bind T0 T S0 S typed g ns cells terms different held are reads = record {
  different = different;
  each = go 0 cells terms held are (subst (Each (λ y t. Has IsNew t) (numbered 0 (cells_at T0 S0 cells))) (sym reads) (made_over_vars (signature T) x IsNew 0 (length S0.cells) ns (cells_at T0 S0 cells) (λ z h. (numbered_within (length S0.cells) (cells_over x ns (cells_at T0 S0 cells)) z h).0)));
}
  where
    IsNew : Variable ℕ → Type 0
    IsNew y = length S0.cells ≤ y.name

    apart : (t : TermId) → Has IsNew (tree_of T S t) → (d : CellId) → Contains (cells_of S t) d → ¬ Contains cells d
    apart t new d m k =
        let found = Contains-from_map (λ (v : Variable ℕ). v.name) (variables (tree_of T S t)) d.0 (stored.numbered T S d t m) in
        let late : length S0.cells ≤ found.0.name = has_held IsNew (tree_of T S t) new found.0 (contains_holds (variables (tree_of T S t)) found.0 found.1) in
        let early : d.0 < length S0.cells = All-contains (HoldsCell S0) cells d held k in
        let same : found.0.name ≡ d.0 = found.2 in
        omega (arith, late, early, same)

    go : (k : ℕ) (cs : List CellId) (ts : List TermId) → All (HoldsCell S0) cs → Each (λ c t. IsTerm T S [] t (type_of T0 (cell_of S0 c).ty)) cs ts
        → Each (λ y t. Has IsNew t) (numbered k (cells_at T0 S0 cs)) (trees_at T S ts) → Each (IsFor T S cells) cs ts
    go k [] [] h e new = tt
    go k [] (t ∷ ts) h e new = absurd e
    go k (c ∷ cs) [] h e new = absurd e
    go k (c ∷ cs) (t ∷ ts) h e new =
        let there : HoldsCell S0 c = All-head (HoldsCell S0) c cs h in (
          record {
            held = (g.cells c there).0;
            typed = subst (IsTerm T S [] t) (sym (grown_type T0 T S0 S g typed c there)) e.0;
            apart = apart t new.0;
          },
          go (suc k) cs ts (All-tail (HoldsCell S0) c cs h) e.1 new.1,
        )
