-- What is put in for a variable: closed, well-typed, without names, and the term once the names are given to it.
use Rattle.std.proofs.Common.{◌≡◌, ℕ, List, [], refl, sym, ◌∙◌, ap, subst}
use Rattle.ab_term.specs.Types.{Ty, kind}
use Rattle.ab_term.specs.Terms.{Variable, Head, Term, Terms, term}
use Rattle.ab_term.specs.Typing.{Signature, HasType, TakeType, typed_spine, take_none, take_term}
use Rattle.ab_term.specs.Substitution.{reduce}
use Rattle.ab_term.specs.Translation.{forget, forget_all}
use Rattle.ab_term.specs.Abstraction.{abstracted, name_terms, Named, named_none, named_more, Only}
use Rattle.ab_term.specs.Expansion.{expansion}
use Rattle.ab_term.proofs.Translations.{translate-reduce, translate_typed}
use Rattle.ab_term.proofs.Forgetting.{forget_plain}
use Rattle.ab_term.proofs.Strengthening.{expansion_head}
use Rattle.ab_term.proofs.Closing.{forget-abstracted}
use Rattle.ab_term.proofs.Hinted.{name_terms_typed}
use Rattle.ab_term.proofs.Abstracting.{abstracted_closed, reduce-abstracted}
use Rattle.ab_unifiers.specs.Patterns.{value, applied}
use Rattle.ab_unifiers.proofs.Views.{IsPattern, pattern_end, pattern_more}

module _ (sg : Signature) {Hint : Type 0} where
  -- a pattern's names have the types of its arguments
  pub pattern_named : {G : List Ty} {A C : Ty} {ts : Terms ℕ Hint} {hs : List (Head ℕ)} → IsPattern A ts hs → TakeType sg G ts A C → Named sg G hs A C
  pattern_named pattern_end take_none = named_none
  pattern_named {G = G} (pattern_more {A = A} {h = h} n d p) (take_term e es) =
      named_more (expansion_head sg tt A G h (subst (λ t. HasType sg G t A) n.expansion (translate_typed sg (λ v. v) (λ y. tt) e))) (pattern_named p es)

  -- the variable, given names of the right types
  pub applied_typed : (x : Hint) {G : List Ty} {hs : List (Head ℕ)} (y : Variable ℕ) (c : List ℕ) → Named sg G hs y.type (kind c) → HasType sg G (applied x y hs) (kind c)
  applied_typed x y c n = typed_spine refl (name_terms_typed sg x n)

  pub value_typed : (x : Hint) (y : Variable ℕ) (hs : List (Head ℕ)) (t : Term ℕ Hint) (G : List Ty) (c : List ℕ) → Named sg G hs y.type (kind c) → HasType sg G t (kind c) → Only hs t → HasType sg [] (value x y hs t) y.type × Only [] (value x y hs t)
  value_typed x y hs t G c n d o = abstracted_closed sg x y.type hs t G c n d o

module _ {Hint : Type 0} where
  pub forget_pattern : {A : Ty} {ts : Terms ℕ Hint} {hs : List (Head ℕ)} → IsPattern A ts hs → IsPattern A (forget_all ts) hs
  forget_pattern pattern_end = pattern_end
  forget_pattern (pattern_more {t = t} n d p) = pattern_more (record { name = n.name; expansion = forget_plain (forget t) ∙ n.expansion }) d (forget_pattern p)

-- a pattern's arguments are the forms of its names
pub pattern_terms : {A : Ty} {us : Terms ℕ (Unit {0})} {hs : List (Head ℕ)} → IsPattern A us hs → us ≡ name_terms tt A hs
pattern_terms pattern_end = refl
pattern_terms (pattern_more {A = A} {B = B} {t = t} {ts = ts} {h = h} {hs = hs} n d p) =
    ap (λ s. term s ts) (sym (forget_plain t) ∙ n.expansion) ∙ ap (term (expansion tt A h)) (pattern_terms p)

module _ (sg : Signature) where
  -- given the names, it is the term
  pub reduce_plain : {G : List Ty} {A : Ty} {c : List ℕ} {hs : List (Head ℕ)} (t : Term ℕ (Unit {0})) {ts : Terms ℕ (Unit {0})} → IsPattern A ts hs → Named sg G hs A (kind c) → HasType sg G t (kind c) → reduce A (abstracted tt A hs t) ts ≡ t
  reduce_plain {A = A} {hs = hs} t p n d = ap (reduce A (abstracted tt A hs t)) (pattern_terms p) ∙ reduce-abstracted sg t n d

module _ (sg : Signature) {Hint : Type 0} where
  pub reduce_value : {G : List Ty} {A : Ty} {c : List ℕ} {hs : List (Head ℕ)} (x : Hint) (t : Term ℕ Hint) {ts : Terms ℕ Hint} → IsPattern A ts hs → Named sg G hs A (kind c) → HasType sg G t (kind c) → forget (reduce A (abstracted x A hs t) ts) ≡ forget t
  reduce_value {A = A} {hs = hs} x t {ts = ts} p n d =
      translate-reduce (λ v. v) (λ y. tt) A (abstracted x A hs t) ts
      ∙ ap (λ u. reduce A u (forget_all ts)) (forget-abstracted x A hs t)
      ∙ reduce_plain sg (forget t) (forget_pattern p) n (translate_typed sg (λ v. v) (λ y. tt) d)
