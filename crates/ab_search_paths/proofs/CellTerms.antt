-- Cells that are given constants.
use Rattle.std.proofs.Common.{◌≡◌, ℕ, ◌+◌, ◌<◌, ◌≤◌, List, [], ◌∷◌, map, drop, length, get_or, codes, refl, sym, ◌∙◌, ap, subst}
use Rattle.std.proofs.lemmas.List.{drop_all, drop_more}
use Rattle.ab_term.specs.Types.{Ty, arrow}
use Rattle.ab_term.specs.Terms as tree
use Rattle.ab_term.specs.Terms.{lam, terms_of, nominal}
use Rattle.ab_term.specs.Typing.{Signature, HasType, TakeType, typed_lam, take_none, take_term}
use Rattle.ab_term.specs.Abstraction.{close, over}
use Rattle.ab_term.proofs.Closing.{close_typed}
use Rattle.ab_term.proofs.Preservation.{here}
use Rattle.ab_term.proofs.Expansions.{expansion_typed}
use Rattle.ab_norm.specs.ab_types.specs.Entries.{Table, signature}
use Rattle.ab_norm.specs.ab_types.specs.Ids.{type_of}
use Rattle.ab_norm.specs.ab_store.specs.declared.node.TermId.{TermId}
use Rattle.ab_norm.specs.ab_store.specs.Naming.{IsTerm}
use Rattle.ab_norm.specs.ab_store.specs.Trees.{Contents, Holds, tree_of}
use Rattle.ab_norm.specs.NodeGrowth.{AddsTypedTerms}
use Rattle.ab_norm.specs.TypedArguments.{AreTaken}
use Rattle.ab_norm.specs.declared.nominal.Nominal.{Nominal}
use Rattle.ab_norm.specs.Nominals.{nominal_of}
use Rattle.ab_unifiers.specs.Clauses.{name_term}

-- names are of their types
names_taken : (sg : Signature) (ns : List tree.Nominal) (A : Ty) → TakeType sg [] (terms_of (map (name_term (codes "x")) ns)) (over ns A) A
names_taken sg [] A = take_none
names_taken sg (n ∷ ns) A = take_term (expansion_typed sg (codes "x") n.type [] (nominal n) refl) (names_taken sg ns A)

pub taken : (types : Table) (store : Contents) (args : List TermId) (names : List Nominal) (A B : Ty) → map (tree_of types store) args ≡ map (name_term (codes "x")) (map (nominal_of types) names)
    → A ≡ over (map (nominal_of types) names) B → AreTaken types store [] args A B
taken types store args names A B trees is =
    subst (λ us. TakeType (signature types) [] (terms_of us) A B) (sym trees)
    (subst (λ C. TakeType (signature types) [] (terms_of (map (name_term (codes "x")) (map (nominal_of types) names))) C B) (sym is) (names_taken (signature types) (map (nominal_of types) names) B))

-- a closed term stays one
pub still_closed : (types : Table) (s t : Contents) → AddsTypedTerms types s t → (r : TermId) → ((A : Ty) × IsTerm types s [] r A) → (A : Ty) × IsTerm types t [] r A
still_closed types s t adds r h = (h.0, (adds.before.ids r h.1.0, subst (λ u. HasType (signature types) [] u h.0) (sym (adds.before.trees types r h.1.0)) h.1.1))

-- a term abstracted over a constant
pub over_one : (types : Table) (s t u : Contents) (constant : Nominal) (hint : List ℕ) (A : Ty) (term closed r : TermId) → IsTerm types s [] term A
    → tree_of types t closed ≡ close 0 (nominal (nominal_of types constant)) (tree_of types s term) → tree_of types u r ≡ lam (type_of types constant.ty) hint (tree_of types t closed) → Holds u r
    → IsTerm types u [] r (arrow (type_of types constant.ty) A)
over_one types s t u constant hint A term closed r is closes makes held = (
  held,
  subst (λ x. HasType (signature types) [] x (arrow (type_of types constant.ty) A)) (sym (makes ∙ ap (lam (type_of types constant.ty) hint) closes))
      (typed_lam (close_typed (signature types) (nominal (nominal_of types constant)) here refl is.1)),
)

-- the type over the constants from a place on
pub over_none : (types : Table) (names : List Nominal) (n : ℕ) (A : Ty) → length names ≤ n → over (map (nominal_of types) (drop n names)) A ≡ A
over_none types names n A l = ap (λ ns. over (map (nominal_of types) ns) A) (drop_all n names l)

pub over_next : (types : Table) (names : List Nominal) (place next : ℕ) (d : Nominal) (A : Ty) → place < length names → next ≡ place + 1
    → over (map (nominal_of types) (drop place names)) A ≡ arrow (type_of types (get_or names place d).ty) (over (map (nominal_of types) (drop next names)) A)
over_next types names place next d A l is =
    ap (λ ns. over (map (nominal_of types) ns) A) (drop_more names place d l) ∙ ap (λ n. arrow (type_of types (get_or names place d).ty) (over (map (nominal_of types) (drop n names)) A)) (sym is)
