-- A new variable over constants.
use Rattle.std.specs.Prelude.{IfOk}
use Rattle.std.proofs.Common.{◌≡◌, ℕ, ◌+◌, ◌<◌, Result, Ok, Err, OnOk, List, [], ◌∷◌, ◌++◌, map, length, codes, refl, sym, ◌∙◌, ap, subst, arith, append-nil}
use Rattle.std.specs.List.{All}
use Rattle.std.proofs.lemmas.List.{map-append}
use Rattle.ab_term.specs.Types.{Ty, prop}
use Rattle.ab_term.specs.Terms as tree
use Rattle.ab_term.specs.Abstraction.{over, given_names}
use Rattle.ab_term.specs.Typing.{HasType}
use Rattle.ab_term.proofs.Hinted.{given_typed}
use Rattle.ab_norm.specs.ab_types.specs.Entries.{Table, signature}
use Rattle.ab_norm.specs.ab_types.specs.Ids.{HoldsType, type_of}
use Rattle.ab_norm.specs.ab_types.specs.declared.ids.TypeId.{TypeId}
use Rattle.ab_norm.specs.ab_store.specs.declared.node.CellId.{CellId}
use Rattle.ab_norm.specs.ab_store.specs.declared.node.TermId.{TermId}
use Rattle.ab_norm.specs.ab_store.specs.Trees.{Contents, HoldsCell, cell_of, tree_of}
use Rattle.ab_norm.specs.ab_store.specs.Naming.{IsTypedBy}
use Rattle.ab_norm.specs.NodeGrowth.{AddsTypedTerms}
use Rattle.ab_norm.specs.declared.nominal.Nominal.{Nominal}
use Rattle.ab_unifiers.specs.Choices.{outside}
use Rattle.ab_unify.specs.Problem.{cell_read, cells_read}
use Rattle.ab_unify.specs.StoreChanges.{Grows}
use Rattle.ab_unify.proofs.Growth.{one_more, grown_term, grows_on, grows_terms}
use Rattle.ab_unify.proofs.Cells.{cells_same}
use Rattle.ab_norm.specs.Nominals.{HoldsNominal}
use Rattle.ab_norm.proofs.Frame.{typed_on}
use Rattle.ab_alternatives.specs.ab_instances.specs.ListReadings.{names_read, trees_at}
use Rattle.ab_alternatives.specs.ab_instances.proofs.Made.{names_stay}
use Rattle.ab_theory.specs.Pieces.{variable_for}
use Rattle.ab_theory.specs.Uses.{used, cell_over, with_term}
use Rattle.ab_consequences.specs.Leading.{instance_by}
use Rattle.ab_consequences.specs.UseStages.{stages_of}
use Rattle.ab_uses.specs.UseCells.{HasParts, IsUnderWay, GoesOn, GoesOnBy, stages_read}
use Rattle.ab_uses.specs.declared.made_uses.Made.{Made}
use Rattle.ab_uses.proofs.Fronts.{variable_put, front_more}
use Rattle.ab_uses.proofs.Parted.{signature_more, type_stays}
use Rattle.ab_uses.proofs.Moved.{trees_on, stages_same}

-- one cell more
pub all_with : (T U : Table) (S V : Contents) → IsTypedBy T S → Grows T S U V → (made : CellId) → made.0 ≡ length S.cells → length V.cells ≡ length S.cells + 1
    → (names : List tree.Nominal) (hint : List ℕ) (A : Ty) → (cell_of V made).hint ≡ hint → type_of U (cell_of V made).ty ≡ over names A
    → cells_read U V ≡ cells_read T S ++ cell_over names hint A ∷ []
all_with T U S V typed g made number one names hint A hint_is ty_is =
    ap (map (cell_read U)) (one_more T U S V typed g made number one)
    ∙ map-append (cell_read U) S.cells (cell_of V made ∷ [])
    ∙ ap (λ l. l ++ cell_read U (cell_of V made) ∷ []) (cells_same T U g.table S.cells typed.cells)
    ∙ ap (λ h. cells_read T S ++ record { hint = h; type = type_of U (cell_of V made).ty } ∷ []) hint_is
    ∙ ap (λ (B : Ty). cells_read T S ++ record { hint = hint; type = B } ∷ []) ty_is

pub new_number : (n m k : ℕ) → (n < m → ⊥) → n < k → k ≡ m + 1 → n ≡ m
new_number n m k not_old new one = omega (arith, not_old, new, one)

-- the variable is put for the name of a quantifier
module _ (T U : Table) (S V W : Contents) (typed : IsTypedBy T S) (g : Grows T S U V) (adds : AddsTypedTerms U V W) (m n : Made) (was : IsUnderWay T S m) (way : IsUnderWay U W n)
    (cell : CellId) (number : cell.0 ≡ length S.cells) (cells : n.cells.items ≡ m.cells.items ++ cell ∷ []) (ants : n.antecedents.items ≡ m.antecedents.items) where
  pub variable_goes : (held names free : List tree.Nominal) (hint : List ℕ) (A : Ty) → free ≡ outside held names
      → cells_read U V ≡ cells_read T S ++ cell_over free hint A ∷ []
      → tree_of U W n.result ≡ with_term (tree_of T S m.result) (given_names (codes "x") (record { name = cell.0; type = over free A }) free A)
      → GoesOn T S m (used held (length S.cells) (variable_for hint A ∷ []) names (tree_of T S m.result)) U W n
  variable_goes held names free hint A free_is all tree = record {
    outside = refl;
    all = ap (map (cell_read U)) adds.cells ∙ all ∙ ap (λ l. cells_read T S ++ cell_over l hint A ∷ []) free_is;
    cells = cells ∙ ap (λ (k : ℕ). m.cells.items ++ record { 0 = k } ∷ []) number;
    antecedents = ap (trees_at U W) ants ∙ trees_on T U S W (grows_on T U U S V W g (grows_terms U V W adds)) m.antecedents.items was.formulas ∙ sym (append-nil (trees_at T S m.antecedents.items));
    result = tree
        ∙ ap (λ (k : ℕ). with_term (tree_of T S m.result) (given_names (codes "x") (record { name = k; type = over free A }) free A)) number
        ∙ ap (λ l. with_term (tree_of T S m.result) (given_names (codes "x") (record { name = length S.cells; type = over l A }) l A)) free_is;
    under_way = way;
  }

-- and what is made of the formula is a formula
pub variable_fits : (T U : Table) (S W : Contents) → Grows T S U W → (m : Made) → IsUnderWay T S m → (hint : List ℕ) (A : Ty) → HasParts (signature T) (variable_for hint A ∷ []) (tree_of T S m.result)
    → (term : TermId) (n : ℕ) (names : List tree.Nominal) (B : Ty) → B ≡ A → tree_of U W term ≡ given_names (codes "x") (record { name = n; type = over names B }) names B
    → HasType (signature U) [] (with_term (tree_of U W m.result) (tree_of U W term)) prop
variable_fits T U S W g m way hint A front term n names B same_type is =
    let there = grown_term T U S W g [] m.result prop way.formula in
    let same = (g.trees m.result way.formula.0).1 in
    variable_put (signature U) (subst (HasParts (signature U) (variable_for hint A ∷ [])) (sym same) (front_more (signature T) (signature U) (signature_more T U S W g) front)) there.1
    (subst (HasType (signature U) [] (tree_of U W term)) same_type
    (subst (λ u. HasType (signature U) [] u B) (sym is) (given_typed (signature U) (codes "x") [] (record { name = n; type = over names B }) names B refl)))

-- all of it together
pub variable_put_in : {E : Type 0} (T U : Table) (S V W X : Contents) → IsTypedBy T S → (g : Grows T S U V) → (given : AddsTypedTerms U V W) → AddsTypedTerms U W X → (m k n : Made) → IsUnderWay T S m → (cell : CellId) → cell.0 ≡ length S.cells
    → k.cells.items ≡ m.cells.items ++ cell ∷ [] → k.antecedents ≡ m.antecedents → k.result ≡ m.result → n.cells ≡ k.cells → n.antecedents ≡ k.antecedents
    → (held chosen free : List Nominal) → All (HoldsNominal T) free → names_read T free ≡ outside (names_read T held) (names_read T chosen) → (free1 : List Nominal) → free1 ≡ free → (free2 : List Nominal) → free2 ≡ free
    → (hint : List ℕ) (ty : TypeId) → HoldsType T ty
    → cells_read U V ≡ cells_read T S ++ cell_over (names_read T free1) hint (type_of T ty) ∷ []
    → (term : TermId) → tree_of U W term ≡ given_names (codes "x") (record { name = cell.0; type = over (names_read U free2) (type_of U ty) }) (names_read U free2) (type_of U ty)
    → (r : Result (Unit {0}) E) → OnOk r (IsUnderWay U X n) → OnOk r (tree_of U X n.result ≡ with_term (tree_of U W k.result) (tree_of U W term))
    → OnOk r (GoesOn T S m (used (names_read T held) (length S.cells) (variable_for hint (type_of T ty) ∷ []) (names_read T chosen) (tree_of T S m.result)) U X n)
variable_put_in T U S V W X typed g given opened m k n was cell number pushed k_ants k_result n_cells n_ants held chosen free free_held free_is free1 free1_is free2 free2_is hint ty ty_held all term term_is (Err e) way result = tt
variable_put_in T U S V W X typed g given opened m k n was cell number pushed k_ants k_result n_cells n_ants held chosen free free_held free_is free1 free1_is free2 free2_is hint ty ty_held all term term_is (Ok v) way result =
    let A = type_of T ty in
    let fs = names_read T free in
    let both = grows_on T U U S V W g (grows_terms U V W given) in
    let given_is = term_is
    ∙ ap (λ ns. given_names (codes "x") (record { name = cell.0; type = over (names_read U ns) (type_of U ty) }) (names_read U ns) (type_of U ty)) free2_is
    ∙ ap (λ l. given_names (codes "x") (record { name = cell.0; type = over l (type_of U ty) }) l (type_of U ty)) (names_stay T U g.table free free_held)
    ∙ ap (λ B. given_names (codes "x") (record { name = cell.0; type = over fs B }) fs B) (type_stays T U g.table ty ty_held) in
    variable_goes T U S V X typed g (typed_on U V W X given opened) m n was way cell number (ap (λ l. l.items) n_cells ∙ pushed) (ap (λ l. l.items) (n_ants ∙ k_ants)) (names_read T held) (names_read T chosen) fs hint A free_is
    (all ∙ ap (λ ns. cells_read T S ++ cell_over (names_read T ns) hint A ∷ []) free1_is)
    (result
    ∙ ap (λ t. with_term (tree_of U W t) (tree_of U W term)) k_result
    ∙ ap (λ F. with_term F (tree_of U W term)) (both.trees m.result was.formula.0).1
    ∙ ap (with_term (tree_of T S m.result)) given_is)

-- and the stage is the variable's
pub variable_stage : {E : Type 0} (T U : Table) (S V W X : Contents) → (g : Grows T S U V) → (given : AddsTypedTerms U V W) → (m k n : Made) → IsUnderWay T S m → k.stages ≡ m.stages → (cell : CellId) → cell.0 ≡ length S.cells
    → (held chosen free : List Nominal) → All (HoldsNominal T) free → names_read T free ≡ outside (names_read T held) (names_read T chosen) → (free2 : List Nominal) → free2 ≡ free
    → (hint : List ℕ) (ty : TypeId) → HoldsType T ty
    → (term : TermId) → tree_of U W term ≡ given_names (codes "x") (record { name = cell.0; type = over (names_read U free2) (type_of U ty) }) (names_read U free2) (type_of U ty)
    → (r : Result (Unit {0}) E) → OnOk r (GoesOnBy U W k (instance_by (tree_of U W term) ∷ []) U X n)
    → OnOk r (GoesOnBy T S m (stages_of (names_read T held) (length S.cells) (variable_for hint (type_of T ty) ∷ []) (names_read T chosen)) U X n)
variable_stage T U S V W X g given m k n was stages cell number held chosen free free_held free_is free2 free2_is hint ty ty_held term term_is (Err e) staged = tt
variable_stage T U S V W X g given m k n was stages cell number held chosen free free_held free_is free2 free2_is hint ty ty_held term term_is (Ok v) staged =
    let A = type_of T ty in
    let out = outside (names_read T held) (names_read T chosen) in
    let both = grows_on T U U S V W g (grows_terms U V W given) in
    let is = term_is
    ∙ ap (λ ns. given_names (codes "x") (record { name = cell.0; type = over (names_read U ns) (type_of U ty) }) (names_read U ns) (type_of U ty)) free2_is
    ∙ ap (λ l. given_names (codes "x") (record { name = cell.0; type = over l (type_of U ty) }) l (type_of U ty)) (names_stay T U g.table free free_held ∙ free_is)
    ∙ ap (λ B. given_names (codes "x") (record { name = cell.0; type = over out B }) out B) (type_stays T U g.table ty ty_held)
    ∙ ap (λ (i : ℕ). given_names (codes "x") (record { name = i; type = over out A }) out A) number in
    staged
    ∙ ap (λ l. stages_read U W l.items ++ instance_by (tree_of U W term) ∷ []) stages
    ∙ ap (λ l. l ++ instance_by (tree_of U W term) ∷ []) (stages_same T U S W both m.stages.items was.stages)
    ∙ ap (λ t. stages_read T S m.stages.items ++ instance_by t ∷ []) is

-- the same of what making a cell answers
pub made_all : {E : Type 0} (T U : Table) (S V : Contents) → IsTypedBy T S → Grows T S U V → (r : Result CellId E) → IfOk r (λ c. HoldsCell V c) → IfOk r (λ c. ¬ HoldsCell S c) → OnOk r (length V.cells ≡ length S.cells + 1)
    → (names : List tree.Nominal) (hint : List ℕ) (A : Ty) (ty : TypeId) (copied : List ℕ) → IfOk r (λ c. (cell_of V c).hint ≡ copied) → copied ≡ hint → IfOk r (λ c. (cell_of V c).ty ≡ ty) → type_of U ty ≡ over names A
    → OnOk r (cells_read U V ≡ cells_read T S ++ cell_over names hint A ∷ [])
made_all T U S V typed g (Ok c) held fresh one names hint A ty copied hint_is copied_is ty_is over_is =
    all_with T U S V typed g c (new_number c.0 (length S.cells) (length V.cells) fresh held one) one names hint A (hint_is ∙ copied_is) (ap (type_of U) ty_is ∙ over_is)
made_all T U S V typed g (Err e) held fresh one names hint A ty copied hint_is copied_is ty_is over_is = tt
