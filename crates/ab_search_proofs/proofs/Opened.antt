-- A formula that is closed by `exists` and `nabla` is opened again: with a term for the name of an `exists`; and a name of `nabla` that doesn't
-- stand in its formula is taken off by whatever constant.
use Rattle.std.proofs.Common.{◌≡◌, ◌≢◌, inl, inr, ℕ, zero, List, [], ◌∷◌, ◌++◌, Bool, true, false, if◌then◌else◌, Some, None, option_map, refl, sym, ◌∙◌, ap, subst}
use Rattle.std.specs.Prelude.{All, Contains}
use Rattle.std.proofs.lemmas.Bool.{false_from_ne_true}
use Rattle.std.proofs.lemmas.List.Elements.{All-nil, All-cons, All-head, All-tail, Contains-append_cases}
use Rattle.ab_term.specs.Types.{Ty, prop}
use Rattle.ab_term.specs.Logical.{existential, nabla}
use Rattle.ab_term.specs.Terms as tree
use Rattle.ab_term.specs.Terms.{Nominal, Head, nominal, logical, variable, lam, spine, Term, Terms, no_terms, term, Read}
use Rattle.ab_term.specs.Typing.{Signature, HasType}
use Rattle.ab_term.specs.Names.{support}
use Rattle.ab_term.specs.Translation.{forget}
use Rattle.ab_term.specs.Substitution.{reduce, substitute, instance}
use Rattle.ab_term.specs.Abstraction.{close}
use Rattle.ab_term.specs.Variables.{Substitution, variables, value_in, image, image_by, IsTyped}
use Rattle.ab_term.specs.Sameness.{same_head, same_number, same_numbered}
use Rattle.ab_term.proofs.Closed.{closed_reach}
use Rattle.ab_term.proofs.Closing.{close_typed, forget-close, substitute-close}
use Rattle.ab_term.proofs.ClosingImages.{LeavesAlone, close-image, close_closed, support-close, variables-close}
use Rattle.ab_term.proofs.ClosedMaps.{IsClosedMap}
use Rattle.ab_term.proofs.Compositions.{map_typed}
use Rattle.ab_term.proofs.Depends.{image_unmoved}
use Rattle.ab_term.proofs.Expansions.{expansion_typed}
use Rattle.ab_term.proofs.Images.{image_by-substitute, closed_map}
use Rattle.ab_term.proofs.Lists.{Contains-none}
use Rattle.ab_term.proofs.Preservation.{here}
use Rattle.ab_term.proofs.Reaching.{substitute_by-short}
use Rattle.ab_term.proofs.Same.{same_numbered-Decides}
use Rattle.ab_term.proofs.Translations.{translate_typed, translate-instance}
use Rattle.ab_unifiers.specs.Replacements.{Cell}
use Rattle.ab_unifiers.proofs.Lifting.{own_value}
use Rattle.ab_unifiers.proofs.Past.{Map, bare, bare_typed, forget-image}
use Rattle.ab_formulas.specs.Forms as forms
use Rattle.ab_formulas.specs.Forms.{form_of}
use Rattle.ab_formulas.specs.Sequents.{Variable, in_terms}
use Rattle.ab_theory.specs.Unfolding.{exists_all, nabla_all}
use Rattle.ab_search_trees.proofs.Forms.{begins_logical, one_more, no_more}
use Rattle.ab_search_proofs.proofs.Back.{found_first, found_later}

-- the one variable with a term
abbrev pub one : Variable → Read → Substitution ℕ (List ℕ)
one y t = (in_terms y, t) ∷ []

-- nothing else is found
pub only_value : (y : Variable) (t : Read) (z : tree.Variable ℕ) (u : Read) → value_in same_number (one y t) z ≡ Some u → u ≡ t
only_value y t z u e = by_case (same_numbered (in_terms y) z) e
  where
    by_case : (b : Bool) → (if b then Some t else None) ≡ Some u → u ≡ t
    by_case false f = absurd (cc)
    by_case true f = let same : t ≡ u = cc in sym same

-- FORMS past hints

pub exists_shape : (A : Ty) (F G : Read) → forget G ≡ forget (spine (logical (existential A)) (term F no_terms)) → (S : Read) × (form_of G ≡ forms.exists A S) × (forget S ≡ forget F)
exists_shape A F G e =
    let b = begins_logical (existential A) (term (forget F) no_terms) G (sym e) in
    let m = one_more b.0 b.2 in
    (m.0, ap form_of (b.1 ∙ ap (spine (logical (existential A))) (m.2 ∙ ap (term m.0) (no_more m.4))), sym m.3)

pub nabla_shape : (A : Ty) (F G : Read) → forget G ≡ forget (spine (logical (nabla A)) (term F no_terms)) → (S : Read) × (form_of G ≡ forms.nabla A S) × (forget S ≡ forget F)
nabla_shape A F G e =
    let b = begins_logical (nabla A) (term (forget F) no_terms) G (sym e) in
    let m = one_more b.0 b.2 in
    (m.0, ap form_of (b.1 ∙ ap (spine (logical (nabla A))) (m.2 ∙ ap (term m.0) (no_more m.4))), sym m.3)

module _ (sg : Signature) where
  pub one_typed : (y : Variable) (t : Read) → HasType sg [] t y.type → IsTyped sg (one y t)
  one_typed y t d = All-cons (λ p. HasType sg [] p.1 p.0.type) (in_terms y, t) [] d (All-nil (λ p. HasType sg [] p.1 p.0.type))

  -- THE TERM FOR THE NAME is the term for the variable
  pub exists_put : (y : Variable) (F t : Read) → HasType sg [] F prop → HasType sg [] t y.type → forget (instance (lam y.type y.name (close zero (variable (in_terms y)) F)) t) ≡ forget (image same_number (one y t) F)
  exists_put y F t d td =
      let f : Map = bare (one y t) in
      let v = in_terms y in
      let A = y.type in
      let K = close zero (variable v) (forget F) in
      let bare_d : HasType sg [] (forget F) prop = translate_typed sg (λ k. k) (λ k. tt) d in
      let f_typed = bare_typed sg (one y t) (one_typed y t td) in
      let stays : image_by f K ≡ K = image_unmoved f K (λ z m. ap (option_map forget) (found_later v z t [] (λ e. (variables-close zero (variable v) (forget F) z m).1 (ap variable (sym e))))) in
      translate-instance (λ k. k) (λ k. tt) (lam A y.name (close zero (variable v) F)) t
      ∙ ap (λ b. substitute A (forget t) zero b) (forget-close zero (variable v) F)
      ∙ ap (λ b. substitute A (forget t) zero b) (sym stays)
      ∙ ap (λ w. substitute A w zero (image_by f K)) (sym (own_value sg (one y t) (one_typed y t td) v t (found_first v v t [] refl)))
      ∙ sym (image_by-substitute sg ℕ (Unit {0}) f f_typed here (expansion_typed sg tt A [] (variable v) refl) (close_typed sg (variable v) here refl bare_d))
      ∙ ap (image_by f) (substitute-close sg zero (variable v) refl bare_d)
      ∙ sym (forget-image (one y t) F)

  -- what is put in goes past other names

  alone_variable : (y w : Variable) (t : Read) → in_terms y ≢ in_terms w → ¬ Contains (variables t) (in_terms w) → LeavesAlone (variable (in_terms w)) (value_in same_number (one y t))
  alone_variable y w t n out z u e = by_case (same_numbered (in_terms y) z) refl e
    where
      by_case : (b : Bool) → same_numbered (in_terms y) z ≡ b → (if b then Some t else None) ≡ Some u → (same_head (variable z) (variable (in_terms w)) ≡ false) × (¬ Contains (variables u) (in_terms w))
      by_case false q f = absurd (cc)
      by_case true q f =
          let same : t ≡ u = cc in
          let found : in_terms y ≡ z = (same_numbered-Decides (in_terms y) z).0 q in
          (false_from_ne_true (same_numbered z (in_terms w)) (λ r. n (found ∙ (same_numbered-Decides z (in_terms w)).0 r)), λ m. out (subst (λ k. Contains (variables k) (in_terms w)) (sym same) m))

  alone_name : (y : Variable) (a : Nominal) (t : Read) → ¬ Contains (support t) a → LeavesAlone (nominal a) (value_in same_number (one y t))
  alone_name y a t out z u e = by_case (same_numbered (in_terms y) z) refl e
    where
      by_case : (b : Bool) → same_numbered (in_terms y) z ≡ b → (if b then Some t else None) ≡ Some u → (false ≡ false) × (¬ Contains (support u) a)
      by_case false q f = absurd (cc)
      by_case true q f = let same : t ≡ u = cc in (refl, λ m. out (subst (λ k. Contains (support k) a) (sym same) m))

  module _ (y : Variable) (t : Read) (d : HasType sg [] t y.type) where
    closed : IsClosedMap (value_in same_number (one y t))
    closed = closed_map sg ℕ (List ℕ) (value_in same_number (one y t)) (map_typed sg same_number (one y t) (one_typed y t d))

    pub put_past_names : (zs : List (Cell (List ℕ))) (cs : List Nominal) (F : Read) → All (λ a. ¬ Contains (support t) a) cs → image same_number (one y t) (nabla_all zs cs F) ≡ nabla_all zs cs (image same_number (one y t) F)
    put_past_names [] cs F out = refl
    put_past_names (z ∷ zs) [] F out = refl
    put_past_names (z ∷ zs) (a ∷ cs) F out =
        ap (λ b. spine (logical (nabla a.type)) (term (lam a.type z.hint b) no_terms))
        (sym (close-image (value_in same_number (one y t)) closed zero (nominal a) (alone_name y a t (All-head (λ c. ¬ Contains (support t) c) a cs out)) (nabla_all zs cs F))
        ∙ ap (close zero (nominal a)) (put_past_names zs cs F (All-tail (λ c. ¬ Contains (support t) c) a cs out)))

    pub put_past_variables : (ws : List Variable) (F : Read) → All (λ (w : Variable). (in_terms y ≢ in_terms w) × (¬ Contains (variables t) (in_terms w))) ws → image same_number (one y t) (exists_all ws F) ≡ exists_all ws (image same_number (one y t) F)
    put_past_variables [] F out = refl
    put_past_variables (w ∷ ws) F out =
        let h = All-head (λ (w : Variable). (in_terms y ≢ in_terms w) × (¬ Contains (variables t) (in_terms w))) w ws out in
        ap (λ b. spine (logical (existential w.type)) (term (lam w.type w.name b) no_terms))
        (sym (close-image (value_in same_number (one y t)) closed zero (variable (in_terms w)) (alone_variable y w t h.0 h.1) (exists_all ws F))
        ∙ ap (close zero (variable (in_terms w))) (put_past_variables ws F (All-tail (λ (w : Variable). (in_terms y ≢ in_terms w) × (¬ Contains (variables t) (in_terms w))) w ws out)))

  -- A NAME THAT DOESN'T STAND in the formula is taken off
  pub nabla_off : (A : Ty) (x : List ℕ) (a : Nominal) (F u : Read) → HasType sg [] F prop → ¬ Contains (support F) a → instance (lam A x (close zero (nominal a) F)) u ≡ F
  nabla_off A x a F u d out =
      let short = closed_reach sg d in
      ap (substitute A u zero) (close_closed zero (nominal a) F short out)
      ∙ substitute_by-short F (reduce A) u zero short

-- what stands in closed formulas stood there before

one_part : {X : Type 0} (l : List X) (a : X) → Contains ((l ++ [])) a → Contains l a
one_part l a m = elim (Contains-append_cases l [] a m) [ inl k ↦ k | inr k ↦ absurd (Contains-none a k) ]

pub nablas_hold : (zs : List (Cell (List ℕ))) (cs : List Nominal) (F : Read) (a : Nominal) → Contains (support (nabla_all zs cs F)) a → Contains (support F) a
nablas_hold [] cs F a m = m
nablas_hold (z ∷ zs) [] F a m = m
nablas_hold (z ∷ zs) (b ∷ cs) F a m = nablas_hold zs cs F a (support-close zero (nominal b) (nabla_all zs cs F) a (one_part (support (close zero (nominal b) (nabla_all zs cs F))) a m)).0

pub exists_hold : (ws : List Variable) (F : Read) (a : Nominal) → Contains (support (exists_all ws F)) a → Contains (support F) a
exists_hold [] F a m = m
exists_hold (w ∷ ws) F a m = exists_hold ws F a (support-close zero (variable (in_terms w)) (exists_all ws F) a (one_part (support (close zero (variable (in_terms w)) (exists_all ws F))) a m)).0
