-- A typed formula has its parts in front, where what is given has the types of the names.
use Rattle.std.proofs.Common.{◌≡◌, ℕ, zero, suc, List, [], ◌∷◌, filter, Bool, true, false, not, cond, Option, Some, None, refl, sym, ◌∙◌, ap, subst, if◌then◌else◌}
use Rattle.std.specs.Prelude.{All, bytes_eq}
use Rattle.std.proofs.lemmas.List.Elements.{All-head, All-tail, All-nil, All-cons, All-filter}
use Rattle.std.proofs.lemmas.Slice.Eq.{bytes_eq-Decides}
use Rattle.ab_term.specs.Types.{Ty, arrow, prop}
use Rattle.ab_term.specs.Logical.{truth, falsity, conjunction, disjunction, implication, equality, universal, existential, nabla, judgement, focused_judgement, star, at_sign, plus, hash, spec_universal, spec_implication, spec_conjunction}
use Rattle.ab_term.specs.Terms.{constant, nominal, variable, index, logical, lam, spine, no_terms, term, Read}
use Rattle.ab_term.specs.Typing.{Signature, HasType, typed_lam, typed_spine, take_term}
use Rattle.ab_theory.specs.Pieces.{Piece, universal_of, nabla_of, antecedent_of, pieces, type_named, Given, given_for, given_otherwise, part_for, parts, constant_for}
use Rattle.ab_consequences.specs.UseStages.{HasParts, has_none, has_variable, has_given, has_constant, has_antecedent}

eq_symmetric : (x y : List ℕ) → bytes_eq x y ≡ bytes_eq y x
eq_symmetric x y = go (bytes_eq x y) refl (bytes_eq y x) refl
  where
    turned : (x y : List ℕ) → bytes_eq x y ≡ true → bytes_eq y x ≡ true
    turned x y e = (bytes_eq-Decides y x).1 (sym ((bytes_eq-Decides x y).0 e))

    go : (b : Bool) → bytes_eq x y ≡ b → (c : Bool) → bytes_eq y x ≡ c → b ≡ c
    go true e true f = refl
    go false e false f = refl
    go true e false f = absurd (let clash : true ≡ false = sym (turned x y e) ∙ f in cc)
    go false e true f = absurd (let clash : true ≡ false = sym (turned y x f) ∙ e in cc)

some_is : {X : Type 0} {x y : X} → Some x ≡ Some y → x ≡ y
some_is e = cc

module _ (sg : Signature) where
  abbrev Typed : Given → Type 0
  Typed g = HasType sg [] g.value g.type

  abbrev Named : List Piece → Given → Type 0
  Named ps g = type_named g.name ps ≡ Some g.type

  -- what is given for the outermost name is of its type
  given_typed : (x : List ℕ) (A : Ty) (ps : List Piece) (gs : List Given) (u : Read) → All Typed gs → All (Named (universal_of x A ∷ ps)) gs → given_for x gs ≡ Some u → HasType sg [] u A
  given_typed x A ps [] u typed named e = absurd (cc)
  given_typed x A ps (g ∷ gs) u typed named e =
      go (given_typed x A ps gs u (All-tail Typed g gs typed) (All-tail (Named (universal_of x A ∷ ps)) g gs named)) (bytes_eq g.name x) refl e
    where
      go : (given_for x gs ≡ Some u → HasType sg [] u A) → (b : Bool) → bytes_eq g.name x ≡ b → cond b (Some g.value) (given_for x gs) ≡ Some u → HasType sg [] u A
      go rest true is e =
          let here = All-head (Named (universal_of x A ∷ ps)) g gs named in
          let same : A ≡ g.type = some_is (sym (ap (λ b. cond b (Some A) (type_named g.name ps)) (eq_symmetric x g.name ∙ is)) ∙ here) in
          let value : g.value ≡ u = some_is e in
          subst (HasType sg [] u) (sym same) (subst (λ v. HasType sg [] v g.type) value (All-head Typed g gs typed))
      go rest false is e = rest e

  -- what is given for other names
  others_named : (x : List ℕ) (A : Ty) (ps : List Piece) (gs : List Given) → All (Named (universal_of x A ∷ ps)) gs → All (Named ps) (given_otherwise x gs)
  others_named x A ps [] named = All-nil (Named ps)
  others_named x A ps (g ∷ gs) named = go (others_named x A ps gs (All-tail (Named (universal_of x A ∷ ps)) g gs named)) (bytes_eq g.name x) refl
    where
      go : All (Named ps) (given_otherwise x gs) → (b : Bool) → bytes_eq g.name x ≡ b → All (Named ps) (cond (not b) (g ∷ given_otherwise x gs) (given_otherwise x gs))
      go rest true is = rest
      go rest false is = All-cons (Named ps) g (given_otherwise x gs)
          (sym (ap (λ b. cond b (Some A) (type_named g.name ps)) (eq_symmetric x g.name ∙ is)) ∙ All-head (Named (universal_of x A ∷ ps)) g gs named) rest

  universal_under : {G : List Ty} {A B : Ty} {y : List ℕ} {t : Read} → HasType sg G (spine (logical (universal A)) (term (lam B y t) no_terms)) prop → (B ≡ A) × HasType sg (B ∷ G) t prop
  universal_under {G = G} {A = A} {B = B} {t = t} (typed_spine e (take_term {A = D} (typed_lam {B = C} d) ds)) =
      let same : arrow B C ≡ arrow A prop = cc in (cc, subst (HasType sg (B ∷ G) t) (cc) d)

  nabla_under : {G : List Ty} {A B : Ty} {y : List ℕ} {t : Read} → HasType sg G (spine (logical (nabla A)) (term (lam B y t) no_terms)) prop → (B ≡ A) × HasType sg (B ∷ G) t prop
  nabla_under {G = G} {A = A} {B = B} {t = t} (typed_spine e (take_term {A = D} (typed_lam {B = C} d) ds)) =
      let same : arrow B C ≡ arrow A prop = cc in (cc, subst (HasType sg (B ∷ G) t) (cc) d)

  right_under : {G : List Ty} {A B : Read} → HasType sg G (spine (logical implication) (term A (term B no_terms))) prop → HasType sg G B prop
  right_under {G = G} {B = B} (typed_spine e (take_term {A = C} d (take_term {A = D} f ds))) = let second : D ≡ prop = cc in subst (HasType sg G B) second f

  -- THE FORMULA HAS ITS PARTS IN FRONT
  pub begun : (G : List Ty) (gs : List Given) (n : ℕ) (F : Read) → HasType sg G F prop → All Typed gs → All (Named (pieces n F)) gs → HasParts sg (parts gs (pieces n F)) F
  begun G gs n (lam A x t) d typed named = has_none
  begun G gs n (spine (constant c) ts) d typed named = has_none
  begun G gs n (spine (nominal a) ts) d typed named = has_none
  begun G gs n (spine (variable v) ts) d typed named = has_none
  begun G gs n (spine (index i) ts) d typed named = has_none
  begun G gs n (spine (logical truth) ts) d typed named = has_none
  begun G gs n (spine (logical falsity) ts) d typed named = has_none
  begun G gs n (spine (logical conjunction) ts) d typed named = has_none
  begun G gs n (spine (logical disjunction) ts) d typed named = has_none
  begun G gs n (spine (logical (equality A)) ts) d typed named = has_none
  begun G gs n (spine (logical (existential A)) ts) d typed named = has_none
  begun G gs n (spine (logical judgement) ts) d typed named = has_none
  begun G gs n (spine (logical focused_judgement) ts) d typed named = has_none
  begun G gs n (spine (logical (star i)) ts) d typed named = has_none
  begun G gs n (spine (logical (at_sign i)) ts) d typed named = has_none
  begun G gs n (spine (logical (plus i)) ts) d typed named = has_none
  begun G gs n (spine (logical (hash i)) ts) d typed named = has_none
  begun G gs n (spine (logical (spec_universal A)) ts) d typed named = has_none
  begun G gs n (spine (logical spec_implication) ts) d typed named = has_none
  begun G gs n (spine (logical spec_conjunction) ts) d typed named = has_none
  begun G gs n (spine (logical (universal A)) no_terms) d typed named = has_none
  begun G gs n (spine (logical (universal A)) (term (spine h us) no_terms)) d typed named = has_none
  begun G gs n (spine (logical (universal A)) (term (lam B x t) (term u us))) d typed named = has_none
  begun G gs n (spine (logical (universal A)) (term (spine h ts) (term u us))) d typed named = has_none
  begun G gs n (spine (logical (nabla A)) no_terms) d typed named = has_none
  begun G gs n (spine (logical (nabla A)) (term (spine h us) no_terms)) d typed named = has_none
  begun G gs n (spine (logical (nabla A)) (term (lam B x t) (term u us))) d typed named = has_none
  begun G gs n (spine (logical (nabla A)) (term (spine h ts) (term u us))) d typed named = has_none
  begun G gs zero (spine (logical implication) ts) d typed named = has_none
  begun G gs (suc zero) (spine (logical implication) no_terms) d typed named = has_none
  begun G gs (suc (suc n)) (spine (logical implication) no_terms) d typed named = has_none
  begun G gs (suc zero) (spine (logical implication) (term t no_terms)) d typed named = has_none
  begun G gs (suc (suc n)) (spine (logical implication) (term t no_terms)) d typed named = has_none
  begun G gs (suc zero) (spine (logical implication) (term t (term u (term v us)))) d typed named = has_none
  begun G gs (suc (suc n)) (spine (logical implication) (term t (term u (term v us)))) d typed named = has_none
  begun G gs (suc zero) (spine (logical implication) (term A (term B no_terms))) d typed named = has_antecedent has_none
  begun G gs (suc (suc n)) (spine (logical implication) (term A (term B no_terms))) d typed named = has_antecedent (begun G gs (suc n) B (right_under d) typed named)
  begun G gs n (spine (logical (nabla A)) (term (lam B x t) no_terms)) d typed named =
      let under = nabla_under d in
      subst (λ C. HasParts sg (constant_for A ∷ parts gs (pieces n t)) (spine (logical (nabla A)) (term (lam C x t) no_terms))) (sym under.0)
      (has_constant (begun (B ∷ G) gs n t under.1 typed named))
  begun G gs n (spine (logical (universal A)) (term (lam B x t) no_terms)) d typed named =
      let under = universal_under d in
      subst (λ C. HasParts sg (part_for x A (given_for x gs) ∷ parts (given_otherwise x gs) (pieces n t)) (spine (logical (universal A)) (term (lam C x t) no_terms))) (sym under.0)
      (go (given_for x gs) refl (begun (B ∷ G) (given_otherwise x gs) n t under.1 (All-filter (λ (g : Given). not (bytes_eq g.name x)) Typed gs typed) (others_named x A (pieces n t) gs named)))
    where
      go : (o : Option Read) → given_for x gs ≡ o → HasParts sg (parts (given_otherwise x gs) (pieces n t)) t → HasParts sg (part_for x A o ∷ parts (given_otherwise x gs) (pieces n t)) (spine (logical (universal A)) (term (lam A x t) no_terms))
      go None e rest = has_variable rest
      go (Some u) e rest = has_given (given_typed x A (pieces n t) gs u typed named e) rest
