-- Eta-long forms given eta-long forms as arguments: here the hints are those of such forms too.
use Rattle.std.proofs.Common.{◌≡◌, ℕ, List, [], ◌∷◌, map, refl, sym, ◌∙◌, ap}
use Rattle.ab_term.specs.Types.{Ty, kind, arrow}
use Rattle.ab_term.specs.Terms.{Nominal, Variable, Head, nominal, variable, Terms, no_terms, term, terms_of, joined}
use Rattle.ab_term.specs.Typing.{Signature, HasType, TakeType, take_none, take_term}
use Rattle.ab_term.specs.Substitution.{reduce, instance_by_all}
use Rattle.ab_term.specs.Expansion.{expansion_of, expansion}
use Rattle.ab_term.specs.Translation.{translate, translate_all, forget_all}
use Rattle.ab_term.specs.Abstraction.{Named, named_none, named_more, name_terms, over, given_names}
use Rattle.ab_term.proofs.Expansions.{reduce-some, expansion_typed, expansion_of_typed}
use Rattle.ab_term.proofs.Translations.{translate-reduce, translate-expansion_of, translate-expansion}
use Rattle.ab_term.proofs.Forgetting.{forget_head}
use Rattle.ab_term.proofs.InOrder.{reduce-instances}

-- each binder has the hint x
abbrev pub hinted : {Var Hint : Type 0} → Hint → Terms Var (Unit {0}) → Terms Var Hint
hinted x = translate_all (λ v. v) (λ y. x)

module _ (sg : Signature) {Var Hint : Type 0} (x : Hint) where
  pub reduce-hinted : {A B : Ty} {G : List Ty} (h : Head Var) (done : Terms Var (Unit {0})) {ts : Terms Var (Unit {0})} → TakeType sg G ts A B
      → reduce A (expansion_of x A h (hinted x done)) (hinted x ts) ≡ expansion_of x B h (hinted x (joined done ts))
  reduce-hinted {A = A} {B = B} h done {ts = ts} ds =
      ap (λ g. reduce A (expansion_of x A g (hinted x done)) (hinted x ts)) (sym (forget_head h))
      ∙ ap (λ u. reduce A u (hinted x ts)) (sym (translate-expansion_of (λ v. v) (λ y. x) tt A h done))
      ∙ sym (translate-reduce (λ v. v) (λ y. x) A (expansion_of tt A h done) ts)
      ∙ ap (translate (λ v. v) (λ y. x)) (reduce-some sg Var h done ds)
      ∙ translate-expansion_of (λ v. v) (λ y. x) tt B h (joined done ts)
      ∙ ap (λ g. expansion_of x B g (hinted x (joined done ts))) (forget_head h)

module _ {Hint : Type 0} (x : Hint) where
  pub hinted-names : (A : Ty) (hs : List (Head ℕ)) → hinted x (name_terms tt A hs) ≡ name_terms x A hs
  hinted-names A [] = refl
  hinted-names (kind k) (h ∷ hs) = refl
  hinted-names (arrow A B) (h ∷ hs) =
      ap (λ t. term t (hinted x (name_terms tt B hs))) (translate-expansion (λ v. v) (λ y. x) tt A h ∙ ap (expansion x A) (forget_head h))
      ∙ ap (term (expansion x A h)) (hinted-names B hs)

  pub forget-names : (A : Ty) (hs : List (Head ℕ)) → forget_all (name_terms x A hs) ≡ name_terms tt A hs
  forget-names A [] = refl
  forget-names (kind k) (h ∷ hs) = refl
  forget-names (arrow A B) (h ∷ hs) =
      ap (λ t. term t (forget_all (name_terms x B hs))) (translate-expansion (λ v. v) (λ y. tt) x A h ∙ ap (expansion tt A) (forget_head h))
      ∙ ap (term (expansion tt A h)) (forget-names B hs)

module _ (sg : Signature) {Hint : Type 0} (x : Hint) where
  pub name_terms_typed : {G : List Ty} {A C : Ty} {hs : List (Head ℕ)} → Named sg G hs A C → TakeType sg G (name_terms x A hs) A C
  name_terms_typed named_none = take_none
  name_terms_typed {G = G} (named_more {A = A} {h = h} e n) = take_term (expansion_typed sg x A G h e) (name_terms_typed n)

module _ (sg : Signature) where
  pub named_over : (G : List Ty) (ns : List Nominal) (A : Ty) → Named sg G (map nominal ns) (over ns A) A
  named_over G [] A = named_none
  named_over G (a ∷ ns) A = named_more refl (named_over G ns A)

module _ (sg : Signature) {Hint : Type 0} (x : Hint) where
  -- the form of a head, given names, is the head with them
  pub reduce-names : {G : List Ty} {A C : Ty} {hs : List (Head ℕ)} (h : Head ℕ) → Named sg G hs A C → reduce A (expansion x A h) (name_terms x A hs) ≡ expansion_of x C h (name_terms x A hs)
  reduce-names {A = A} {C = C} {hs = hs} h n =
      ap (reduce A (expansion x A h)) (sym (hinted-names x A hs))
      ∙ reduce-hinted sg x h no_terms (name_terms_typed sg tt n)
      ∙ ap (expansion_of x C h) (hinted-names x A hs)

  -- a raised variable, given its constants, has the type that is left
  pub given_typed : (G : List Ty) (y : Variable ℕ) (ns : List Nominal) (A : Ty) → y.type ≡ over ns A → HasType sg G (given_names x y ns A) A
  given_typed G y ns A e =
      expansion_of_typed sg x A G (variable y) y.type (name_terms x y.type (map nominal ns)) refl
      (rw e (name_terms_typed sg x (named_over sg G ns A)))

  terms_of-names : (ns : List Nominal) (A : Ty) → terms_of (map (λ a. expansion x a.type (nominal a)) ns) ≡ name_terms x (over ns A) (map nominal ns)
  terms_of-names [] A = refl
  terms_of-names (a ∷ ns) A = ap (term (expansion x a.type (nominal a))) (terms_of-names ns A)

  -- and is the variable's form, applied to them one after another
  pub given-instances : (n : ℕ) (ns : List Nominal) (A : Ty) →
      instance_by_all (expansion x (over ns A) (variable (record { name = n; type = over ns A }))) (map (λ a. expansion x a.type (nominal a)) ns) ≡ given_names x (record { name = n; type = over ns A }) ns A
  given-instances n ns A =
      let y : Variable ℕ = record { name = n; type = over ns A } in
      let all = map (λ (a : Nominal). expansion x a.type (nominal a)) ns in
      let named = named_over sg [] ns A in
      let args : TakeType sg [] (terms_of all) (over ns A) A = rw (terms_of-names ns A) (name_terms_typed sg x named) in
      sym (reduce-instances sg all (expansion_typed sg x (over ns A) [] (variable y) refl) args)
      ∙ ap (reduce (over ns A) (expansion x (over ns A) (variable y))) (terms_of-names ns A)
      ∙ reduce-names (variable y) named
