-- What images, marks, layers and maps of constants have to do with one another, to the letter.
use Rattle.std.proofs.Common.{◌≡◌, ◌≢◌, inl, inr, ℕ, zero, List, [], ◌∷◌, map, filter, Bool, true, false, not, if◌then◌else◌, Option, Some, refl, sym, ◌∙◌, ap, subst}
use Rattle.std.specs.Prelude.{Contains, AllPairs}
use Rattle.std.proofs.lemmas.Bool.{false≢true}
use Rattle.std.proofs.lemmas.List.Kept.{AllPairs-cons}
use Rattle.ab_term.specs.Types.{same_type}
use Rattle.ab_term.specs.Logical as plain
use Rattle.ab_term.specs.Logical.{Logical}
use Rattle.ab_term.specs.Terms.{Nominal, Variable, constant, logical, nominal, variable, index, lam, spine, Terms, no_terms, term, Read}
use Rattle.ab_term.specs.Typing.{Signature}
use Rattle.ab_term.specs.Names.{same_nominal}
use Rattle.ab_term.specs.Variables.{image_by, image_all_by}
use Rattle.ab_term.proofs.Images.{IsTypedMap, shift-image_by}
use Rattle.ab_term.proofs.Lists.{Contains-none, Contains-cases, Contains-from_map, AllPairs-none, All-from_contains}
use Rattle.ab_term.proofs.Comparisons.{same_type-Decides, same_nominal-Decides}
use Rattle.ab_term.proofs.Permuting.{Each}
use Rattle.ab_unifiers.specs.Choices.{others, of_type}
use Rattle.ab_unifiers.proofs.Choosing.{gathered_from}
use Rattle.ab_formulas.specs.Formulas.{a_formula, a_scope, StandsIn, AllStandIn, places_of_constant}
use Rattle.ab_formulas.specs.Marks as signs
use Rattle.ab_formulas.specs.Marks.{Sign}
use Rattle.ab_formulas.specs.BodyMarks.{with_mark, is_one_of, marked_in, all_marked_in}
use Rattle.ab_search_trees.specs.Maps.{images_in, same_constants, mapping, targets, maps}
use Rattle.ab_search_trees.specs.Judgements.{judged, layer_of, opened_once}
use Rattle.ab_search_trees.proofs.Atoms.{filter_parts}

module _ (f : Variable ℕ → Option Read) (ps : List (List ℕ)) (m : Sign) where
  mark_image : (n : Sign) (t : Read) → with_mark n (image_by f t) ≡ image_by f (with_mark n t)
  mark_image signs.plain t = refl
  mark_image (signs.star_of i) t = refl
  mark_image (signs.at_of i) t = refl
  mark_image (signs.plus_of i) t = refl
  mark_image (signs.hash_of i) t = refl

  if_image : (b : Bool) (t : Read) → (if b then with_mark m (image_by f t) else image_by f t) ≡ image_by f (if b then with_mark m t else t)
  if_image true t = mark_image m t
  if_image false t = refl

  logical_image : (l : Logical) (ts : Terms ℕ (List ℕ)) → AllStandIn (places_of_constant l) ts
      → (AllStandIn a_formula ts → all_marked_in ps m (image_all_by f ts) ≡ image_all_by f (all_marked_in ps m ts)) → (AllStandIn a_scope ts → all_marked_in ps m (image_all_by f ts) ≡ image_all_by f (all_marked_in ps m ts))
      → marked_in ps m (image_by f (spine (logical l) ts)) ≡ image_by f (marked_in ps m (spine (logical l) ts))
  logical_image plain.conjunction ts s both scope = ap (spine (logical plain.conjunction)) (both s)
  logical_image plain.disjunction ts s both scope = ap (spine (logical plain.disjunction)) (both s)
  logical_image plain.implication ts s both scope = ap (spine (logical plain.implication)) (both s)
  logical_image (plain.universal A) ts s both scope = ap (spine (logical (plain.universal A))) (scope s)
  logical_image (plain.existential A) ts s both scope = ap (spine (logical (plain.existential A))) (scope s)
  logical_image (plain.nabla A) ts s both scope = ap (spine (logical (plain.nabla A))) (scope s)
  logical_image _ ts s both scope = refl

  mutual
    pub marked_image : (C : Read) → StandsIn a_formula C → marked_in ps m (image_by f C) ≡ image_by f (marked_in ps m C)
    marked_image (lam A x t) s = absurd s
    marked_image (spine (variable y) ts) s = absurd s.0
    marked_image (spine (index i) ts) s = absurd s.0
    marked_image (spine (constant c) ts) s = if_image (is_one_of ps (constant c)) (spine (constant c) ts)
    marked_image (spine (nominal a) ts) s = refl
    marked_image (spine (logical l) ts) s = logical_image l ts s.1 (all_marked_image ts) (scopes_marked_image ts)

    all_marked_image : (ts : Terms ℕ (List ℕ)) → AllStandIn a_formula ts → all_marked_in ps m (image_all_by f ts) ≡ image_all_by f (all_marked_in ps m ts)
    all_marked_image no_terms s = refl
    all_marked_image (term t ts) s = ap (λ v. term v (all_marked_in ps m (image_all_by f ts))) (marked_image t s.0) ∙ ap (term (image_by f (marked_in ps m t))) (all_marked_image ts s.1)

    scopes_marked_image : (ts : Terms ℕ (List ℕ)) → AllStandIn a_scope ts → all_marked_in ps m (image_all_by f ts) ≡ image_all_by f (all_marked_in ps m ts)
    scopes_marked_image no_terms s = refl
    scopes_marked_image (term (spine h vs) ts) s = absurd s.0
    scopes_marked_image (term (lam A x t) ts) s = ap (λ v. term (lam A x v) (all_marked_in ps m (image_all_by f ts))) (marked_image t s.0) ∙ ap (term (lam A x (image_by f (marked_in ps m t)))) (scopes_marked_image ts s.1)

-- a layer of an image
module _ (sg : Signature) (f : Variable ℕ → Option Read) (typed : IsTypedMap sg f) where
  some_image : {E F : Read} {o : Option Read} → Some E ≡ Some F → o ≡ Some (image_by f E) → o ≡ Some (image_by f F)
  some_image {E = E} {F = F} e q = let same : E ≡ F = cc in q ∙ ap (λ k. Some (image_by f k)) same

  layer_image : (L G F : Read) → layer_of L G ≡ Some F → layer_of (image_by f L) (image_by f G) ≡ Some (image_by f F)
  layer_image L (spine (logical plain.spec_conjunction) (term A (term B no_terms))) F e = some_image e refl
  layer_image L (spine (logical plain.spec_implication) (term A (term B no_terms))) F e = some_image e refl
  layer_image L (spine (logical (plain.spec_universal A)) (term (lam B x G) no_terms)) F e = some_image e (ap (λ k. Some (spine (logical (plain.nabla A)) (term (lam A x (judged k (image_by f G))) no_terms))) (shift-image_by sg ℕ (List ℕ) f typed L zero))
  layer_image L _ F e = absurd (cc)

  pub opened_image : (C F : Read) → opened_once C ≡ Some F → opened_once (image_by f C) ≡ Some (image_by f F)
  opened_image (spine (logical plain.judgement) (term L (term G no_terms))) F e = layer_image L G F e
  opened_image _ F e = absurd (cc)

-- MAPS are one to one and keep types
abbrev IsRight : List Nominal → List Nominal → List Nominal → Type 0
IsRight bs free ns = Each (λ (b : Nominal) (n : Nominal). n.type ≡ b.type) bs ns × AllPairs (λ a b. a ≢ b) ns × ((a : Nominal) → Contains ns a → Contains free a)

images_right : (bs free ns : List Nominal) → Contains (images_in bs free) ns → IsRight bs free ns
images_right [] free ns m = elim (Contains-cases [] [] ns m) [ inl e ↦ subst (IsRight [] free) e (tt, AllPairs-none (λ a b. a ≢ b), λ a c. absurd (Contains-none a c)) | inr n ↦ absurd (Contains-none ns n) ]
images_right (b ∷ bs) free ns m =
    let from = gathered_from (λ a. map (λ ks. a ∷ ks) (images_in bs (others a free))) (of_type b.type free) ns m in
    let a = from.0 in
    let rest = Contains-from_map (λ ks. a ∷ ks) (images_in bs (others a free)) ns from.2 in
    let ks = rest.0 in
    let r = images_right bs (others a free) ks rest.1 in
    let here = filter_parts (λ k. same_type k.type b.type) free a from.1 in
    let apart : (k : Nominal) → Contains ks k → a ≢ k = λ k c e. let out = filter_parts (λ j. not (same_nominal a j)) free k (r.2 k c) in absurd (false≢true (sym (ap not ((same_nominal-Decides a k).1 e)) ∙ out.1)) in
    subst (IsRight (b ∷ bs) free) rest.2 (
      ((same_type-Decides a.type b.type).0 here.1, r.0),
      AllPairs-cons (λ a b. a ≢ b) a ks (All-from_contains (λ k. a ≢ k) ks apart) r.1,
      λ k c. elim (Contains-cases a ks k c) [ inl e ↦ subst (Contains free) e here.0 | inr n ↦ (filter_parts (λ j. not (same_nominal a j)) free k (r.2 k n)).0 ],
    )

each_itself : (bs : List Nominal) → Each (λ (b : Nominal) (n : Nominal). n.type ≡ b.type) bs bs
each_itself [] = tt
each_itself (b ∷ bs) = (refl, each_itself bs)

pub map_right : (bs free : List Nominal) → AllPairs (λ a b. a ≢ b) bs → (ps : List (Nominal × Nominal)) → Contains (maps bs free) ps → (ns : List Nominal) × (ps ≡ mapping bs ns) × Each (λ (b : Nominal) (n : Nominal). n.type ≡ b.type) bs ns × AllPairs (λ a b. a ≢ b) ns
map_right bs free d ps m =
    let from = Contains-from_map (mapping bs) (targets bs free) ps m in
    elim (Contains-cases bs (filter (λ ns. not (same_constants bs ns)) (images_in bs free)) from.0 from.1) [
      | inl e ↦ (bs, sym from.2 ∙ ap (mapping bs) (sym e), each_itself bs, d)
      | inr n ↦ (let r = images_right bs free from.0 (filter_parts (λ ns. not (same_constants bs ns)) (images_in bs free) from.0 n).0 in (from.0, sym from.2, r.0, r.1))
    ]
