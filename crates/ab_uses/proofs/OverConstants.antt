-- A variable that is given constants, and constants that stand in a formula.
use Rattle.std.proofs.Common.{◌≡◌, ℕ, List, [], ◌∷◌, map, codes, length, Bool, true, false, cond, not, ◌==◌, refl, sym, ◌∙◌, ap, append-nil}
use Rattle.std.proofs.lemmas.List.{length-map}
use Rattle.ab_term.specs.Types.{Ty}
use Rattle.ab_term.specs.Terms as tree
use Rattle.ab_term.specs.Terms.{nominal, variable, terms_of, term, no_terms, Read}
use Rattle.ab_term.specs.Expansion.{expansion_of, expansion}
use Rattle.ab_term.specs.Abstraction.{over, name_terms, given_names}
use Rattle.ab_term.specs.Names.{support, support_of_all}
use Rattle.ab_norm.specs.ab_types.specs.Entries.{Table}
use Rattle.ab_norm.specs.ab_types.specs.Ids.{type_of}
use Rattle.ab_norm.specs.ab_types.specs.declared.ids.TypeId.{TypeId}
use Rattle.ab_norm.specs.ab_store.specs.declared.node.TermId.{TermId}
use Rattle.ab_norm.specs.ab_store.specs.declared.node.CellId.{CellId}
use Rattle.ab_norm.specs.ab_store.specs.declared.node.Head.TheVariants.{Cell}
use Rattle.ab_norm.specs.ab_store.specs.Trees.{Contents, cell_in, cell_of, head_reading}
use Rattle.ab_norm.specs.declared.nominal.Nominal.{Nominal}
use Rattle.ab_norm.specs.Nominals.{nominal_of}
use Rattle.ab_unifiers.specs.Clauses.{name_term}
use Rattle.ab_unifiers.specs.Choices.{is_in, in_order, outside}
use Rattle.ab_unifiers.proofs.Choosing.{in_contains, contains_in, ordered_contains, contains_ordered}
use Rattle.ab_alternatives.specs.ab_instances.specs.ListReadings.{names_read, trees_at}

abbrev x : List ℕ
x = codes "x"

terms_of-names : (ns : List tree.Nominal) (A : Ty) → terms_of (map (name_term x) ns) ≡ name_terms x (over ns A) (map nominal ns)
terms_of-names [] A = refl
terms_of-names (a ∷ ns) A = ap (term (expansion x a.type (nominal a))) (terms_of-names ns A)

pub given_reads : (types : Table) (S V : Contents) → V.cells ≡ S.cells → (cell : CellId) (ty : TypeId) (names : List Nominal) (args : List TermId)
    → type_of types (cell_of S cell).ty ≡ over (names_read types names) (type_of types ty)
    → trees_at types V args ≡ map (name_term x) (names_read types names)
    → (w : Read) → w ≡ expansion_of x (type_of types ty) (head_reading types V (Cell cell)) (terms_of (trees_at types V args))
    → w ≡ given_names x (record { name = cell.0; type = over (names_read types names) (type_of types ty) }) (names_read types names) (type_of types ty)
given_reads types S V same cell ty names args is trees w e =
    let ns = names_read types names in
    let A = type_of types ty in
    e
    ∙ ap (λ cs. expansion_of x A (variable (record { name = cell.0; type = type_of types (cell_in cs cell).ty })) (terms_of (trees_at types V args))) same
    ∙ ap (λ B. expansion_of x A (variable (record { name = cell.0; type = B })) (terms_of (trees_at types V args))) is
    ∙ ap (λ ts. expansion_of x A (variable (record { name = cell.0; type = over ns A })) ts) (ap terms_of trees ∙ terms_of-names ns A)

by_both : (b c : Bool) → (b ≡ true → c ≡ true) → (c ≡ true → b ≡ true) → b ≡ c
by_both true c f g = sym (f refl)
by_both false true f g = g refl
by_both false false f g = refl

same_in : (xs : List tree.Nominal) (a : tree.Nominal) → is_in (in_order xs) a ≡ is_in xs a
same_in xs a = by_both (is_in (in_order xs) a) (is_in xs a) (λ e. contains_in xs a (contains_ordered xs a (in_contains (in_order xs) a e))) (λ e. contains_in (in_order xs) a (ordered_contains xs a (in_contains xs a e)))

one_outside : (a : tree.Nominal) (ys : List tree.Nominal) → (length (outside (a ∷ []) ys) == 0) ≡ is_in ys a
one_outside a ys = go (is_in ys a)
  where
    go : (b : Bool) → (length (cond (not b) (a ∷ []) []) == 0) ≡ b
    go true = refl
    go false = refl

-- the constant stands in the formula, where it isn't outside its constants
pub stands_read : (types : Table) (a : Nominal) (apart standing : List Nominal) (F : Read) → names_read types apart ≡ outside (nominal_of types a ∷ []) (names_read types standing)
    → names_read types standing ≡ in_order (support_of_all (term F no_terms)) → (b : Bool) → b ≡ (length apart == 0) → b ≡ is_in (support F) (nominal_of types a)
stands_read types a apart standing F apart_is standing_is b e =
    e
    ∙ ap (λ n. n == 0) (sym (length-map apart (nominal_of types)) ∙ ap length apart_is)
    ∙ one_outside (nominal_of types a) (names_read types standing)
    ∙ ap (λ l. is_in l (nominal_of types a)) (standing_is ∙ ap in_order (append-nil (support F)))
    ∙ same_in (support F) (nominal_of types a)
