-- New variables that stand for cells.
use Rattle.std.specs.List.{All}
use Rattle.std.proofs.Common.{◌≡◌, ℕ, ◌+◌, List, [], ◌∷◌, ◌++◌, map, length, refl, sym, ◌∙◌, ap, subst, arith, append_assoc, append-nil}
use Rattle.ab_norm.specs.ab_types.specs.Entries.{Table}
use Rattle.ab_norm.specs.ab_store.specs.declared.node.Binding.{Binding}
use Rattle.ab_norm.specs.ab_store.specs.Trees.{Contents}
use Rattle.ab_norm.specs.ab_store.specs.Reading.{pairs}
use Rattle.ab_norm.specs.ab_store.specs.Growth.{IsExtendedBy}
use Rattle.ab_norm.specs.ab_store.specs.Naming.{BindingIsTyped, IsTypedBy}
use Rattle.ab_norm.specs.ab_store.proofs.Putting.{pair}
use Rattle.ab_norm.specs.ab_store.proofs.Agreeing.{Agree, Within, same_pairs}
use Rattle.ab_formulas.specs.Sequents.{Variable, Sequent, in_terms, over}
use Rattle.ab_theory.specs.Equations.{Naming, Named, variable_term, renaming}
use Rattle.ab_equations.specs.Meanwhile.{over_all}
use Rattle.std.proofs.lemmas.List.{map-append}
use Rattle.std.proofs.lemmas.List.Elements.{All-weaker}

-- each binding is of a cell and a term that are there
pub bindings_within : (types : Table) (s : Contents) → IsTypedBy types s → All (Within (length s.nodes) (length s.cells)) s.bindings
bindings_within types s typed = All-weaker (BindingIsTyped types s) (Within (length s.nodes) (length s.cells)) (λ b h. (h.0, h.1.0)) s.bindings typed.bindings

-- what is bound stays bound to the same
pub pairs_extended : (types : Table) (s t : Contents) → IsTypedBy types s → IsExtendedBy s t → pairs types t ≡ pairs types s
pairs_extended types s t typed e =
    let agree : Agree s t (length s.nodes) (length s.cells) = record { trees = λ more r h. e.trees more r h; cells = λ c h. e.cells c h } in
    ap (λ bs. map (pair types t) bs) e.bindings ∙ same_pairs s t (length s.nodes) (length s.cells) agree types s.bindings (bindings_within types s typed)

-- one binding more
pub pairs_bound : (types : Table) (s t : Contents) (b : Binding) → t.nodes ≡ s.nodes → t.cells ≡ s.cells → t.bindings ≡ s.bindings ++ b ∷ []
    → pairs types t ≡ pairs types s ++ pair types s b ∷ []
pairs_bound types s t b nodes cells bindings =
    ap (λ bs. map (pair types t) bs) bindings
    ∙ map-append (pair types t) s.bindings (b ∷ [])
    ∙ ap (λ (f : Binding → _). map f s.bindings ++ f b ∷ []) same
  where
    same : pair types t ≡ pair types s
    same =
        ap (λ ns. pair types (record { nodes = ns; cells = t.cells; bindings = t.bindings; room = t.room })) nodes
        ∙ ap (λ cs. pair types (record { nodes = s.nodes; cells = cs; bindings = t.bindings; room = t.room })) cells

-- one variable more
pub over_one_more : (y : Variable) (ys : List Variable) (s : Sequent) → over y (over_all ys s) ≡ over_all (ys ++ y ∷ []) s
over_one_more y ys s = ap (λ xs. record { variables = xs; hypotheses = s.hypotheses; conclusion = s.conclusion; counter = s.counter }) (append_assoc s.variables ys (y ∷ []))

over_first : (y : Variable) (ys : List Variable) (s : Sequent) → over_all ys (over y s) ≡ over_all (y ∷ ys) s
over_first y ys s = ap (λ xs. record { variables = xs; hypotheses = s.hypotheses; conclusion = s.conclusion; counter = s.counter }) (append_assoc s.variables (y ∷ []) ys)

pub over_none : (s : Sequent) → over_all [] s ≡ s
over_none s = ap (λ xs. record { variables = xs; hypotheses = s.hypotheses; conclusion = s.conclusion; counter = s.counter }) (append-nil s.variables)

pub named_one_more : (IsName : Naming) (s : Sequent) (n : ℕ) (xs ys : List Variable) (x y : Variable) → Named IsName s n xs ys → y.number ≡ n + length xs → y.type ≡ x.type → IsName (over_all ys s) x.name y.name
    → Named IsName s n (xs ++ x ∷ []) (ys ++ y ∷ [])
named_one_more IsName s n [] [] x y all number type name = (omega (arith, number), type, subst (λ g. IsName g x.name y.name) (over_none s) name, tt)
named_one_more IsName s n [] (z ∷ ys) x y all number type name = absurd all
named_one_more IsName s n (v ∷ xs) [] x y all number type name = absurd all
named_one_more IsName s n (v ∷ xs) (z ∷ ys) x y all number type name = (
  all.0,
  all.1,
  all.2,
  named_one_more IsName (over z s) (n + 1) xs ys x y all.3 (omega (arith, number)) type (subst (λ g. IsName g x.name y.name) (sym (over_first z ys s)) name),
)

pub named_length : (IsName : Naming) (s : Sequent) (n : ℕ) (xs ys : List Variable) → Named IsName s n xs ys → length ys ≡ length xs
named_length IsName s n [] [] all = refl
named_length IsName s n [] (z ∷ ys) all = absurd all
named_length IsName s n (v ∷ xs) [] all = absurd all
named_length IsName s n (v ∷ xs) (z ∷ ys) all = let more = named_length IsName (over z s) (n + 1) xs ys all.3 in omega (arith, more)

pub renaming_one_more : (xs ys : List Variable) (x y : Variable) → length ys ≡ length xs → renaming (xs ++ x ∷ []) (ys ++ y ∷ []) ≡ renaming xs ys ++ (in_terms x, variable_term y) ∷ []
renaming_one_more [] [] x y e = refl
renaming_one_more [] (z ∷ ys) x y e = absurd (omega (arith, e))
renaming_one_more (v ∷ xs) [] x y e = absurd (omega (arith, e))
renaming_one_more (v ∷ xs) (z ∷ ys) x y e = ap (λ l. (in_terms v, variable_term z) ∷ l) (renaming_one_more xs ys x y (omega (arith, e)))
