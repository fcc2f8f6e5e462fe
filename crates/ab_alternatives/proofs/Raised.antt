-- Cells that are raised: their numbers and hints, and that the old ones can be bound to terms over them.
use Rattle.std.specs.Prelude.{Contains, AllPairs, codes}
use Rattle.std.specs.List.{All}
use Rattle.std.proofs.Common.{◌≡◌, ◌≢◌, ℕ, suc, ◌<◌, ◌≤◌, List, [], ◌∷◌, ◌++◌, map, take, length, get_or, refl, sym, ◌∙◌, ap, subst, arith, append_assoc, length-append, take_all}
use Rattle.std.proofs.lemmas.List.{length-map, get_or-map}
use Rattle.std.proofs.lemmas.List.Elements.{All-nil, All-cons, All-head, All-tail, All-contains, All-weaker}
use Rattle.ab_term.specs.Terms as tree
use Rattle.ab_term.specs.Terms.{Nominal, Variable}
use Rattle.ab_term.proofs.Lists.{AllPairs-none}
use Rattle.ab_norm.specs.ab_types.specs.Entries.{Table}
use Rattle.ab_norm.specs.ab_types.specs.Ids.{type_of}
use Rattle.ab_norm.specs.ab_store.specs.declared.node.TermId.{TermId}
use Rattle.ab_norm.specs.ab_store.specs.declared.node.CellId.{CellId}
use Rattle.ab_norm.specs.ab_store.specs.declared.node.CellEntry.{CellEntry}
use Rattle.ab_norm.specs.ab_store.specs.Trees.{Contents, Holds, HoldsCell, cell_of, tree_of}
use Rattle.ab_norm.specs.ab_store.specs.Reading.{cell_variable}
use Rattle.ab_norm.specs.ab_store.specs.Naming.{IsTypedBy, IsTerm}
use Rattle.ab_unifiers.specs.Replacements.{Cell}
use Rattle.ab_unifiers.specs.Clauses.{Each, numbered}
use Rattle.ab_unifiers.specs.Alternatives.{cells_over, made_over, made_terms}
use Rattle.ab_unify.specs.Problem.{cell_read, cells_read, variables_read, cells_at}
use Rattle.ab_unify.specs.StoreChanges.{Grows}
use Rattle.ab_instances.specs.ListReadings.{trees_at}
use Rattle.ab_instances.specs.CellBindings.{CanBeBound}
use Rattle.ab_instances.specs.declared.raised_variables.Over.{Over}
use Rattle.ab_instances.proofs.Bound.{each_length}
use Rattle.ab_instances.proofs.Fitting.{can_bind, variables_stay}
use Rattle.ab_unifiers.proofs.Rows.{each_weaker}
use Rattle.ab_unify.proofs.Growth.{grown_term}
use Rattle.ab_alternatives.specs.LeftAlternatives.{IsRaised}

abbrev x : List ℕ
x = codes "x"

module _ (T : Table) (S : Contents) where
  -- the cell behind so many
  pub cell_at : (n : ℕ) (pre post : List (Cell (List ℕ))) (p : Cell (List ℕ)) → n ≡ length pre → cells_read T S ≡ pre ++ p ∷ post → (n < length S.cells) × (cell_read T (cell_of S (record { 0 = n })) ≡ p)
  cell_at n pre post p e cells =
      let long = length-append pre (p ∷ post) in
      let all : length S.cells ≡ length (pre ++ p ∷ post) = sym (length-map S.cells (cell_read T)) ∙ ap length cells in
      let within : n < length S.cells = omega (arith, e, long, all) in (
        within,
        sym (get_or-map (cell_read T) S.cells n (record { hint = []; ty = record { 0 = 0 } }) p within)
            ∙ ap (λ cs. get_or cs n p) cells ∙ ap (λ k. get_or (pre ++ p ∷ post) k p) e ∙ here pre,
      )
    where
      here : (xs : List (Cell (List ℕ))) → get_or (xs ++ p ∷ post) (length xs) p ≡ p
      here [] = refl
      here (y ∷ xs) = here xs

  -- cells with the numbers from there on
  pub record AreAt (n : ℕ) (post : List (Cell (List ℕ))) (cs : List CellId) : Type 0 where
    pub held : All (HoldsCell S) cs
    pub hints : map (λ c. (cell_of S c).hint) cs ≡ map (λ z. z.hint) post
    pub behind : All (λ c. n ≤ c.0) cs

  pub are_at : (n : ℕ) (pre post : List (Cell (List ℕ))) (cs : List CellId) → n ≡ length pre → cells_read T S ≡ pre ++ post → variables_read T S cs ≡ numbered n post → AreAt n post cs
  are_at n pre [] [] e cells vars = record { held = All-nil (HoldsCell S); hints = refl; behind = All-nil (λ (c : CellId). n ≤ c.0) }
  are_at n pre [] (c ∷ cs) e cells vars = absurd (cc)
  are_at n pre (p ∷ post) [] e cells vars = absurd (cc)
  are_at n pre (p ∷ post) (c ∷ cs) e cells vars =
      let first : cell_variable T S c ≡ record { name = n; type = p.type } = cc in
      let rest : variables_read T S cs ≡ numbered (suc n) post = cc in
      let number : c.0 ≡ n = ap (λ (v : Variable ℕ). v.name) first in
      let is_c : c ≡ record { 0 = n } = ap (λ k. record { 0 = k }) number in
      let here = cell_at n pre post p e cells in
      let long = length-append pre (p ∷ []) in
      let others = are_at (suc n) (pre ++ p ∷ []) post cs (omega (arith, e, long)) (cells ∙ sym (append_assoc pre (p ∷ []) post)) rest in
      record {
        held = All-cons (HoldsCell S) c cs (omega (arith, number, here.0)) others.held;
        hints = ap (λ h. h ∷ map (λ d. (cell_of S d).hint) cs) (ap (λ d. (cell_of S d).hint) is_c ∙ ap (λ (z : Cell (List ℕ)). z.hint) here.1) ∙ ap (λ hs. p.hint ∷ hs) others.hints;
        behind = All-cons (λ (d : CellId). n ≤ d.0) c cs (omega (arith, number)) (All-weaker (λ (d : CellId). suc n ≤ d.0) (λ (d : CellId). n ≤ d.0) (λ d l. omega (arith, l)) cs others.behind);
      }

over_hints : (ns : List tree.Nominal) (T : Table) (S : Contents) (cs : List CellId) → map (λ z. z.hint) (cells_over x ns (cells_at T S cs)) ≡ map (λ c. (cell_of S c).hint) cs
over_hints ns T S [] = refl
over_hints ns T S (c ∷ cs) = ap (λ hs. (cell_of S c).hint ∷ hs) (over_hints ns T S cs)

pub raised_is : (T0 T : Table) (S0 S : Contents) → IsTypedBy T0 S0 → Grows T0 S0 T S → (ys : List CellId) → All (HoldsCell S0) ys → AllPairs (λ c d. c ≢ d) ys → (ns : List tree.Nominal) → ns ≢ [] → (over : Over)
    → cells_read T S ≡ cells_read T0 S0 ++ cells_over x ns (cells_at T0 S0 ys)
    → variables_read T S over.cells.items ≡ made_over x (length S0.cells) ns (cells_at T0 S0 ys)
    → trees_at T S over.terms.items ≡ made_terms x (length S0.cells) ns (cells_at T0 S0 ys)
    → Each (λ c t. IsTerm T S [] t (type_of T0 (cell_of S0 c).ty)) ys over.terms.items → IsRaised T0 S0 ys ns T S over
raised_is T0 T S0 S typed g ys held different [] some over cells vars terms each = absurd (some refl)
raised_is T0 T S0 S typed g ys held different (a ∷ bs) some over cells vars terms each =
    let ns = a ∷ bs in
    let at = are_at T S (length S0.cells) (cells_read T0 S0) (cells_over x ns (cells_at T0 S0 ys)) over.cells.items (sym (length-map S0.cells (cell_read T0))) cells vars in
    let many : length over.terms.items ≡ length ys = each_length (λ c t. IsTerm T S [] t (type_of T0 (cell_of S0 c).ty)) ys over.terms.items each in
    let all : take (length over.terms.items) ys ≡ ys = take_all (length over.terms.items) ys (omega (arith, many)) in
    record {
      variables = vars;
      hints = at.hints ∙ over_hints ns T0 S0 ys;
      held = at.held;
      terms = terms;
      typed = subst (λ l. Each (λ c t. IsTerm T S [] t (type_of T0 (cell_of S0 c).ty)) l over.terms.items) (sym all) each;
      apart = All-weaker (λ (c : CellId). length S0.cells ≤ c.0) (λ (c : CellId). ¬ Contains (take (length over.terms.items) ys) c)
          (λ c late there. let early : c.0 < length S0.cells = All-contains (HoldsCell S0) ys c held (subst (λ l. Contains l c) all there) in omega (arith, late, early))
          over.cells.items at.behind;
    }

-- so the first of the old ones can be bound to the terms that there are
pub fit_of : (T0 T : Table) (S0 S : Contents) → IsTypedBy T0 S0 → Grows T0 S0 T S → (ys : List CellId) → All (HoldsCell S0) ys → AllPairs (λ c d. c ≢ d) ys → (ns : List tree.Nominal) (over : Over) → IsRaised T0 S0 ys ns T S over
    → (length over.terms.items ≤ length ys) × CanBeBound T S (take (length over.terms.items) ys) over.terms.items
fit_of T0 T S0 S typed g ys held different [] over raised =
    let none : over.terms.items ≡ [] = no_terms_there over.terms.items (ap length raised.terms) in
    subst (λ ts. (length ts ≤ length ys) × CanBeBound T S (take (length ts) ys) ts) (sym none) (omega arith, record { different = AllPairs-none (λ c d. c ≢ d); each = tt })
  where
    no_terms_there : (ts : List TermId) → length (trees_at T S ts) ≡ 0 → ts ≡ []
    no_terms_there [] e = refl
    no_terms_there (t ∷ ts) e = absurd (omega (arith, e))
fit_of T0 T S0 S typed g ys held different (a ∷ bs) over raised =
    let ns = a ∷ bs in
    let n = length over.terms.items in
    let made : n ≡ length ys =
    sym (length-map over.terms.items (tree_of T S)) ∙ ap length raised.terms ∙ made_many (length S0.cells) ns (cells_at T0 S0 ys) ∙ length-map ys (λ c. cell_read T0 (cell_of S0 c)) in
    let all : take n ys ≡ ys = take_all n ys (omega (arith, made)) in
    let each = subst (λ l. Each (λ c t. IsTerm T S [] t (type_of T0 (cell_of S0 c).ty)) l over.terms.items) all raised.typed in
    (omega (arith, made), subst (λ l. CanBeBound T S l over.terms.items) (sym all) (can_bind T0 T S0 S typed g ns ys over.terms.items different held each raised.terms))
  where
    made_many : (k : ℕ) (ns : List tree.Nominal) (cs : List (Cell (List ℕ))) → length (made_terms x k ns cs) ≡ length cs
    made_many k ns [] = refl
    made_many k ns (c ∷ cs) = ap suc (made_many (suc k) ns cs)

-- it stays so in a store that grows
pub raised_on : (T0 T U : Table) (S0 S V : Contents) → IsTypedBy T S → Grows T S U V → (ys : List CellId) (ns : List tree.Nominal) (over : Over) → All (Holds S) over.terms.items → IsRaised T0 S0 ys ns T S over → IsRaised T0 S0 ys ns U V over
raised_on T0 T U S0 S V typed g ys ns over terms_held raised = record {
  variables = variables_stay T U S V g typed over.cells.items raised.held ∙ raised.variables;
  hints = hints_stay over.cells.items raised.held ∙ raised.hints;
  held = All-weaker (HoldsCell S) (HoldsCell V) (λ c h. (g.cells c h).0) over.cells.items raised.held;
  terms = trees_stay over.terms.items terms_held ∙ raised.terms;
  typed = each_weaker (λ c t. IsTerm T S [] t (type_of T0 (cell_of S0 c).ty)) (λ c t. IsTerm U V [] t (type_of T0 (cell_of S0 c).ty))
      (λ c t h. grown_term T U S V g [] t (type_of T0 (cell_of S0 c).ty) h) (take (length over.terms.items) ys) over.terms.items raised.typed;
  apart = raised.apart;
}
  where
    hints_stay : (cs : List CellId) → All (HoldsCell S) cs → map (λ c. (cell_of V c).hint) cs ≡ map (λ c. (cell_of S c).hint) cs
    hints_stay [] all = refl
    hints_stay (c ∷ cs) all =
        ap (λ (e : CellEntry). e.hint ∷ map (λ d. (cell_of V d).hint) cs) (g.cells c (All-head (HoldsCell S) c cs all)).1
        ∙ ap (λ hs. (cell_of S c).hint ∷ hs) (hints_stay cs (All-tail (HoldsCell S) c cs all))

    trees_stay : (ts : List TermId) → All (Holds S) ts → trees_at U V ts ≡ trees_at T S ts
    trees_stay [] all = refl
    trees_stay (t ∷ ts) all =
        ap (λ r. r ∷ trees_at U V ts) (g.trees t (All-head (Holds S) t ts all)).1
        ∙ ap (λ rs. tree_of T S t ∷ rs) (trees_stay ts (All-tail (Holds S) t ts all))
