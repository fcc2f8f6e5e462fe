-- Formulas without their marks, in a store where cells are bound.
use Rattle.std.proofs.Common.{◌≡◌, ℕ, List, sym, ◌∙◌, ap, subst}
use Rattle.std.specs.Prelude.{Contains}
use Rattle.ab_term.specs.Types.{Ty}
use Rattle.ab_term.specs.Terms.{Nominal, Variable, Read}
use Rattle.ab_term.specs.Typing.{HasType}
use Rattle.ab_term.specs.Names.{support}
use Rattle.ab_term.specs.Variables.{variables}
use Rattle.ab_term.proofs.Lists.{Contains-map, Contains-from_map}
use Rattle.ab_term.proofs.Stands.{Either, has, has_variables}
use Rattle.ab_norm.specs.ab_types.specs.Entries.{Table, signature}
use Rattle.ab_norm.specs.ab_store.specs.declared.node.TermId.{TermId}
use Rattle.ab_norm.specs.ab_store.specs.Trees.{Contents, tree_of}
use Rattle.ab_norm.specs.ab_store.specs.Reading.{bound_in, reading}
use Rattle.ab_norm.specs.ab_store.specs.Bindings.{IsResolved}
use Rattle.ab_norm.specs.ab_store.specs.Growth.{IsExtendedBy}
use Rattle.ab_norm.specs.ab_store.specs.Naming.{IsTerm}
use Rattle.ab_norm.specs.ab_store.proofs.Cells.{numbers}
use Rattle.ab_norm.specs.ab_store.proofs.Putting.{resolved_reads}
use Rattle.ab_norm.specs.NodeGrowth.{AddsTypedTerms}
use Rattle.ab_norm.proofs.Clear.{resolved_by, unbound_by}
use Rattle.ab_formulas.specs.Marks.{erased}
use Rattle.ab_search_trees.specs.Guesses.{HoldsOf}
use Rattle.ab_search_trees.proofs.Unmarked.{erased_has}
use Rattle.ab_search_trees.proofs.Hypotheses.{erased_names}

erased_variables : (t : Read) (y : Variable ℕ) → Contains (variables (erased t)) y → Contains (variables t) y
erased_variables t =
    has_variables (λ b. Contains (support t) b) (λ y. Contains (variables t) y) (erased t)
    (erased_has (Either (λ b. Contains (support t) b) (λ y. Contains (variables t) y)) t (has (λ b. Contains (support t) b) (λ y. Contains (variables t) y) t (λ b m. m) (λ y m. m)))

erased_numbers : (t : Read) (n : ℕ) → Contains (numbers (erased t)) n → Contains (numbers t) n
erased_numbers t n m =
    let r = Contains-from_map (λ (x : Variable ℕ). x.name) (variables (erased t)) n m in
    subst (Contains (numbers t)) r.2 (Contains-map (λ (x : Variable ℕ). x.name) (variables t) r.0 (erased_variables t r.0 r.1))

-- of a term in which no bound cell stands
pub erased_reads : (types : Table) (s t : Contents) → IsExtendedBy s t → (id r : TermId) → IsResolved s id → tree_of types t r ≡ erased (tree_of types s id) → reading types t r ≡ erased (reading types s id)
erased_reads types s t more id r plain e =
    let clear : IsResolved t r = resolved_by types t r (λ n m.
    ap (λ bs. bound_in bs (record { 0 = n })) more.bindings
    ∙ unbound_by types s id plain n (erased_numbers (tree_of types s id) n (subst (λ l. Contains (numbers l) n) e m))) in
    resolved_reads types t r clear ∙ e ∙ ap erased (sym (resolved_reads types s id plain))

-- its constants are the formula's
pub erased_over : (ns : List Nominal) (t : Read) → HoldsOf ns t → HoldsOf ns (erased t)
erased_over ns t h a m = h a (erased_names t a m)

pub kept_term : (types : Table) (s t : Contents) → AddsTypedTerms types s t → (G : List Ty) (r : TermId) (A : Ty) → IsTerm types s G r A → IsTerm types t G r A
kept_term types s t adds G r A h = (adds.before.ids r h.0, subst (λ u. HasType (signature types) G u A) (sym (adds.before.trees types r h.0)) h.1)
