-- WHAT IS PUT IN AT LAST keeps what can be read: constants that fill what is open, and what stands in for variables.
use Rattle.std.proofs.Common.{◌≡◌, inl, inr, ℕ, List, [], ◌∷◌, map, codes, false, sym, ◌∙◌, ap, subst}
use Rattle.std.specs.Prelude.{Contains}
use Rattle.ab_term.specs.Types.{Ty}
use Rattle.ab_term.specs.Terms.{Nominal, Variable, nominal, variable, Terms, no_terms}
use Rattle.ab_term.specs.Typing.{Signature}
use Rattle.ab_term.specs.Translation.{forget}
use Rattle.ab_term.specs.Expansion.{expansion_of, expansion}
use Rattle.ab_term.specs.Abstraction.{over, abstracted, given_names, name_terms}
use Rattle.ab_term.proofs.Closed.{closed_typed}
use Rattle.ab_term.proofs.Closing.{forget-abstracted}
use Rattle.ab_term.proofs.Expansions.{reduce-expansion_of}
use Rattle.ab_term.proofs.Lists.{Contains-none, Contains-cases}
use Rattle.ab_term.proofs.Raising.{forget-given}
use Rattle.ab_term.proofs.Translations.{translate_typed}
use Rattle.ab_unifiers.specs.Replacements.{holds}
use Rattle.ab_unifiers.proofs.Past.{Bare}
use Rattle.ab_formulas.specs.Sequents.{Sequent, in_terms}
use Rattle.ab_pattern_matching.specs.Reading.{can_read}
use Rattle.ab_search_proofs.specs.Likeness.{StandIn, put_in, IsStandIn}
use Rattle.ab_term.proofs.Closing.{abstracted_typed}
use Rattle.ab_term.proofs.Hinted.{named_over, given_typed}
use Rattle.ab_search_clauses.proofs.Keeping.{Passes}
use Rattle.ab_search_clauses.proofs.Passing.{IsOne, UsesAll, given_expanded, uses_expanded, uses_over, uses_read}

pub name_passes : (sg : Signature) (us : List (Variable ℕ)) (A : Ty) (a : Nominal) → Passes sg us A (expansion tt A (nominal a))
name_passes sg us A a G c ts ds r = ap (can_read us) (reduce-expansion_of sg ℕ A G (nominal a) no_terms ts c ds) ∙ r

one_of_names : (ns : List Nominal) (A : Ty) (a : Nominal) → Contains ns a → IsOne (expansion tt a.type (nominal a)) (name_terms tt (over ns A) (map nominal ns))
one_of_names [] A a m = absurd (Contains-none a m)
one_of_names (b ∷ ns) A a m = elim (Contains-cases b ns a m) [
  | inl e ↦ inl (ap (λ (c : Nominal). expansion tt c.type (nominal c)) (sym e))
  | inr n ↦ inr (one_of_names ns A a n)
]

module _ (sg : Signature) (us : List (Variable ℕ)) (s : Sequent) (v : StandIn) (i : IsStandIn s v) (other : holds us (in_terms v.variable) ≡ false) where
  abbrev names : Terms ℕ (Unit {0})
  names = name_terms tt (over v.reordered v.type) (map nominal v.reordered)

  abbrev inner : Bare
  inner = expansion_of tt v.type (variable (in_terms v.variable)) (name_terms tt (over v.reordered v.type) (map nominal v.reordered))

  bare_stand_in : forget (put_in v) ≡ abstracted tt (over v.constants v.type) (map nominal v.constants) inner
  bare_stand_in =
      forget-abstracted (codes "x") (over v.constants v.type) (map nominal v.constants) (given_names (codes "x") (in_terms v.variable) v.reordered v.type)
      ∙ ap (abstracted tt (over v.constants v.type) (map nominal v.constants)) (forget-given (codes "x") (in_terms v.variable) v.reordered v.type
      ∙ ap (λ A. expansion_of tt v.type (variable (in_terms v.variable)) (name_terms tt A (map nominal v.reordered))) i.typed)

  uses : UsesAll us (over v.constants v.type) (abstracted tt (over v.constants v.type) (map nominal v.constants) inner)
  uses = uses_over us v.constants i.once v.type inner (uses_expanded us (in_terms v.variable) other v.type names)
      (λ a m. given_expanded us (in_terms v.variable) other (expansion tt a.type (nominal a)) v.type names (one_of_names v.reordered v.type a ((i.same a).0 m)))

  pub stand_in_passes : Passes sg us (over v.constants v.type) (forget (put_in v))
  stand_in_passes G c ts ds r = uses_read us sg (forget (put_in v)) ds (closed_typed sg G (translate_typed sg (λ k. k) (λ k. tt) (abstracted_typed sg (codes "x") (named_over sg [] v.constants v.type) (given_typed sg (codes "x") [] (in_terms v.variable) v.reordered v.type i.typed))))
      (subst (UsesAll us (over v.constants v.type)) (sym bare_stand_in) uses) r
