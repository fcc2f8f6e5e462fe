-- The definition of `member` as it is made: what is made reads as its clauses, and these are well kept.
use Rattle.std.proofs.Common.{◌≡◌, ℕ, List, [], ◌∷◌, Bool, true, false, ◌||◌, Contains, codes, refl, sym, ap, ◌∙◌, subst, arith, append-nil}
use Rattle.std.proofs.lemmas.Bool.{false≢true}
use Rattle.std.proofs.lemmas.List.Elements.{All-weaker}
use Rattle.ab_term.specs.Types.{Ty, o, olist}
use Rattle.ab_term.specs.Terms.{Variable, constant, spine, terms_of, Read}
use Rattle.ab_term.specs.Typing.{typed_spine, take_none, take_term}
use Rattle.ab_term.specs.Sameness.{same_numbered}
use Rattle.ab_term.specs.Constants.{names}
use Rattle.ab_store.specs.ab_types.specs.Entries.{Table, constants, signature, first_entries}
use Rattle.ab_store.specs.ab_types.specs.Ids.{type_of}
use Rattle.ab_store.specs.ab_types.specs.declared.ids.ConstId.{ConstId}
use Rattle.ab_store.specs.ab_types.specs.declared.ids.TypeId.{TypeId}
use Rattle.ab_store.specs.Trees.{Contents, HoldsCell, tree_of}
use Rattle.ab_store.specs.Growth.{IsExtendedBy}
use Rattle.ab_store.specs.declared.node.TermId.{TermId}
use Rattle.ab_store.specs.declared.node.CellId.{CellId}
use Rattle.ab_store.specs.declared.node.CellEntry.{CellEntry}
use Rattle.ab_unifiers.specs.Member.{clause_variable, member_first, member_later}
use Rattle.ab_formulas.specs.Clauses.{Clause}
use Rattle.ab_typing.specs.DefinitionReadings.{name_of, variable_of, clause_of, HoldsClause}
use Rattle.ab_typing.specs.declared.definitions.ClauseTerm.{ClauseTerm}
use Rattle.ab_formulas.specs.CaseClauses.{case_of, IsWellKept}
use Rattle.ab_formulas.specs.Formulas.{IsFormula}
use Rattle.ab_logic.specs.MemberDefinition.{kept_first, kept_later}
use Rattle.ab_logic.specs.Worlds.{IsKeptClause}
use Rattle.ab_logic.proofs.Blocks.{same_clause}

pub has_member : (types : Table) → types ≡ first_entries → Contains (names (constants types)) (codes "member")
has_member types is = subst (λ t. Contains (names (constants t)) (codes "member")) (sym is) (2, omega arith, refl)

pub has_cons : (types : Table) → types ≡ first_entries → Contains (names (constants types)) (codes "::")
has_cons types is = subst (λ t. Contains (names (constants t)) (codes "::")) (sym is) (1, omega arith, refl)

-- what they are in case analysis

pub first_is : case_of kept_first ≡ member_first
first_is = refl

pub later_is : case_of kept_later ≡ member_later
later_is = refl

-- what was made before reads the same later

pub variable_later : (types : Table) (s t : Contents) → IsExtendedBy s t → (c : CellId) → HoldsCell s c → variable_of types t c ≡ variable_of types s c
variable_later types s t e c h = ap (λ (k : CellEntry). record { number = c.0; type = type_of types k.ty; hint = k.hint }) (e.cells c h)

module _ (types : Table) (s t : Contents) (e : IsExtendedBy s t) (c : ClauseTerm) (h : HoldsClause types s c) where
  pub clause_later : clause_of types t c ≡ clause_of types s c
  clause_later =
      same_clause (record { types = types; store = s; additions = [] }) (record { types = types; store = t; additions = [] }) [] (sym (append-nil types)) e.ids (e.trees types) e.cell_ids
      (λ d held. ap (λ (k : CellEntry). record { number = d.0; type = type_of types k.ty; name = k.hint }) (e.cells d held)) c h

  pub clause_held : HoldsClause types t c
  clause_held = record { variables = All-weaker (HoldsCell s) (HoldsCell t) e.cell_ids c.variables h.variables; head = e.ids c.head h.head; body = e.ids c.body h.body }

-- what is made, by the table's words

pub own_variable : (types : Table) (s : Contents) (c : CellId) (n m : ℕ) (ty : TypeId) (A : Ty) (x : List ℕ) → variable_of types s c ≡ record { number = n; type = type_of types ty; hint = x } → n ≡ m → type_of types ty ≡ A
    → variable_of types s c ≡ record { number = m; type = A; hint = x }
own_variable types s c n m ty A x is number type = is ∙ ap (λ k. record { number = k; type = type_of types ty; hint = x }) number ∙ ap (λ B. record { number = m; type = B; hint = x }) type

pub own_term : (types : Table) (s : Contents) (t : TermId) (n m : ℕ) (ty : TypeId) (A : Ty) → tree_of types s t ≡ clause_variable n (type_of types ty) → n ≡ m → type_of types ty ≡ A → tree_of types s t ≡ clause_variable m A
own_term types s t n m ty A is number type = is ∙ ap (λ k. clause_variable k (type_of types ty)) number ∙ ap (clause_variable m) type

pub two_terms : (types : Table) (d : ConstId) (name : List ℕ) → name_of types d ≡ name → (t u v w : Read) → t ≡ v → u ≡ w
    → spine (constant (name_of types d)) (terms_of (t ∷ u ∷ [])) ≡ spine (constant name) (terms_of (v ∷ w ∷ []))
two_terms types d name is t u v w first second =
    ap (λ n. spine (constant n) (terms_of (t ∷ u ∷ []))) is ∙ ap (λ r. spine (constant name) (terms_of (r ∷ u ∷ []))) first ∙ ap (λ r. spine (constant name) (terms_of (v ∷ r ∷ []))) second

pub kept_clause : (types : Table) (s : Contents) (c : ClauseTerm) (k : Clause) → HoldsClause types s c → clause_of types s c ≡ k → types ≡ first_entries
    → IsWellKept (signature first_entries) k → IsFormula (signature first_entries) k.body → IsKeptClause types s c
kept_clause types s c k held reads is well body = record {
  held = held;
  well = subst (IsWellKept (signature types)) (sym reads) (subst (λ t. IsWellKept (signature t) k) (sym is) well);
  body = subst (IsFormula (signature types)) (sym (ap (λ (d : Clause). d.body) reads)) (subst (λ t. IsFormula (signature t) k.body) (sym is) body);
}

-- that they are well kept

abbrev at : ℕ → Ty → Variable ℕ
at n A = record { name = n; type = A }

twice : (a b : Bool) → (a || (a || (b || false))) ≡ true → (a || (b || false)) ≡ true
twice true b e = refl
twice false b e = e

one_more : (a b c : Bool) → (a || (c || false)) ≡ true → (a || (b || (c || false))) ≡ true
one_more true b c e = refl
one_more false true c e = refl
one_more false false c e = e

pub first_well : IsWellKept (signature first_entries) kept_first
first_well = record {
  different = (refl, (refl, tt));
  is_head = tt;
  head = typed_spine refl (take_term (typed_spine refl take_none) (take_term (typed_spine refl (take_term (typed_spine refl take_none) (take_term (typed_spine refl take_none) take_none))) take_none));
  body = typed_spine refl take_none;
  head_without_constants = refl;
  body_without_constants = refl;
  head_variables = λ y h. twice (same_numbered (at 0 o) y) (same_numbered (at 1 olist) y) h;
  body_variables = λ y h. absurd (false≢true h);
}

pub first_body : IsFormula (signature first_entries) kept_first.body
first_body = record { typed = typed_spine refl take_none; stands = (tt, tt) }

pub later_well : IsWellKept (signature first_entries) kept_later
later_well = record {
  different = (refl, (refl, (refl, tt)));
  is_head = tt;
  head = typed_spine refl (take_term (typed_spine refl take_none) (take_term (typed_spine refl (take_term (typed_spine refl take_none) (take_term (typed_spine refl take_none) take_none))) take_none));
  body = typed_spine refl (take_term (typed_spine refl take_none) (take_term (typed_spine refl take_none) take_none));
  head_without_constants = refl;
  body_without_constants = refl;
  head_variables = λ y h. h;
  body_variables = λ y h. one_more (same_numbered (at 2 o) y) (same_numbered (at 3 o) y) (same_numbered (at 4 olist) y) h;
}

pub later_body : IsFormula (signature first_entries) kept_later.body
later_body = record { typed = typed_spine refl (take_term (typed_spine refl take_none) (take_term (typed_spine refl take_none) take_none)); stands = (tt, (tt, (tt, tt))) }
