-- What a quantifier of a formula is given is a scope over its type.
use Rattle.std.proofs.Common.{◌≡◌, ℕ, List, [], sym, subst}
use Rattle.ab_term.specs.Types.{Ty, arrow, prop}
use Rattle.ab_term.specs.Logical as plain
use Rattle.ab_term.specs.Logical.{Logical, logical_type}
use Rattle.ab_term.specs.Terms.{constant, logical, nominal, variable, index, lam, spine, Terms, no_terms, term, Read}
use Rattle.ab_term.specs.Typing.{Signature, HasType, TakeType, typed_spine, take_term}
use Rattle.ab_norm.specs.ab_types.specs.Entries.{signature}
use Rattle.ab_norm.specs.ab_types.specs.Ids.{type_of}
use Rattle.ab_norm.specs.ab_types.specs.declared.ids.TypeId.{TypeId}
use Rattle.ab_norm.specs.ab_store.specs.declared.node.TermId.{TermId}
use Rattle.ab_norm.specs.ab_store.specs.Naming.{IsTerm}
use Rattle.ab_formulas.specs.Forms.{Form, for_all, exists, nabla, form_of, form_alone, form_with, form_between}
use Rattle.ab_logic.specs.Worlds.{Holds, read}
use Rattle.ab_logic.specs.declared.world.World.{World}
use Rattle.ab_search_ways.specs.GoalReadings.{IsFormulaIn}

module _ (sg : Signature) where
  abbrev ScopeIsTyped : Form → Type 0
  ScopeIsTyped (for_all A F) = HasType sg {Var = ℕ} {Hint = List ℕ} [] F (arrow A prop)
  ScopeIsTyped (exists A F) = HasType sg {Var = ℕ} {Hint = List ℕ} [] F (arrow A prop)
  ScopeIsTyped (nabla A F) = HasType sg {Var = ℕ} {Hint = List ℕ} [] F (arrow A prop)
  ScopeIsTyped _ = Unit {0}

  arguments_of : {l : Logical} {ts : Terms ℕ (List ℕ)} {A : Ty} → HasType sg [] (spine (logical l) ts) A → TakeType sg [] ts (logical_type l) A
  arguments_of {l = l} {ts = ts} {A = A} (typed_spine {A = D} e ds) = let same : D ≡ logical_type l = cc in subst (λ E. TakeType sg [] ts E A) same ds

  first_of : {A B C : Ty} {t : Read} {ts : Terms ℕ (List ℕ)} → TakeType sg [] (term t ts) (arrow A B) C → HasType sg [] t A
  first_of (take_term d ds) = d

  alone_typed : (l : Logical) → ScopeIsTyped (form_alone l)
  alone_typed plain.truth = tt
  alone_typed plain.falsity = tt
  alone_typed _ = tt

  with_typed : (l : Logical) (t : Read) → TakeType sg [] (term t no_terms) (logical_type l) prop → ScopeIsTyped (form_with l t)
  with_typed (plain.universal A) t d = first_of d
  with_typed (plain.existential A) t d = first_of d
  with_typed (plain.nabla A) t d = first_of d
  with_typed (plain.star i) t d = tt
  with_typed (plain.at_sign i) t d = tt
  with_typed (plain.plus i) t d = tt
  with_typed (plain.hash i) t d = tt
  with_typed _ t d = tt

  between_typed : (l : Logical) (t u : Read) → ScopeIsTyped (form_between l t u)
  between_typed plain.conjunction t u = tt
  between_typed plain.disjunction t u = tt
  between_typed plain.implication t u = tt
  between_typed (plain.equality A) t u = tt
  between_typed _ t u = tt

  scope_typed : (F : Read) → HasType sg [] F prop → ScopeIsTyped (form_of F)
  scope_typed (lam A x t) d = tt
  scope_typed (spine (constant c) ts) d = tt
  scope_typed (spine (nominal a) ts) d = tt
  scope_typed (spine (variable y) ts) d = tt
  scope_typed (spine (index i) ts) d = tt
  scope_typed (spine (logical l) no_terms) d = alone_typed l
  scope_typed (spine (logical l) (term t no_terms)) d = with_typed l t (arguments_of d)
  scope_typed (spine (logical l) (term t (term u no_terms))) d = between_typed l t u
  scope_typed (spine (logical l) (term t (term u (term v ts)))) d = tt

module _ (w : World) (F body : TermId) (A : TypeId) (d : IsFormulaIn w F) (there : Holds w body) where
  pub scope_of_nabla : nabla (type_of w.types A) (read w body) ≡ form_of (read w F) → IsTerm w.types w.store [] body (arrow (type_of w.types A) prop)
  scope_of_nabla e = (there, subst (ScopeIsTyped (signature w.types)) (sym e) (scope_typed (signature w.types) (read w F) d.1))

  pub scope_of_exists : exists (type_of w.types A) (read w body) ≡ form_of (read w F) → IsTerm w.types w.store [] body (arrow (type_of w.types A) prop)
  scope_of_exists e = (there, subst (ScopeIsTyped (signature w.types)) (sym e) (scope_typed (signature w.types) (read w F) d.1))

  pub scope_of_for_all : for_all (type_of w.types A) (read w body) ≡ form_of (read w F) → IsTerm w.types w.store [] body (arrow (type_of w.types A) prop)
  scope_of_for_all e = (there, subst (ScopeIsTyped (signature w.types)) (sym e) (scope_typed (signature w.types) (read w F) d.1))
