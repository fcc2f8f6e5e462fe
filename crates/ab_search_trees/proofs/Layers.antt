-- THE WAY BY A LAYER of a judgement, against guesses.
use Rattle.std.proofs.Common.{◌≡◌, ◌≢◌, inl, inr, ℕ, zero, suc, List, [], ◌∷◌, ◌++◌, codes, Bool, true, false, cond, Some, None, refl, sym, ◌∙◌, ap, subst}
use Rattle.std.specs.Prelude.{Contains}
use Rattle.std.proofs.lemmas.List.Elements.{Contains-append_cases}
use Rattle.ab_term.specs.Types.{Ty, arrow, prop, o, olist}
use Rattle.ab_term.specs.Logical as plain
use Rattle.ab_term.specs.Logical.{Logical}
use Rattle.ab_term.specs.Terms.{Nominal, constant, logical, nominal, variable, index, lam, spine, Terms, no_terms, term, Read}
use Rattle.ab_term.specs.Typing.{Signature, HasType, typed_lam, typed_spine, take_none, take_term}
use Rattle.ab_term.specs.Names.{support}
use Rattle.ab_term.specs.Substitution.{shift}
use Rattle.ab_term.specs.Translation.{forget, forget_all}
use Rattle.ab_term.specs.Variables.{variables, put_for, image_by, image_all_by}
use Rattle.ab_term.proofs.Lists.{Contains-none, Contains-here}
use Rattle.ab_term.proofs.Images.{shift-image_by}
use Rattle.ab_term.proofs.Preservation.{here, shift_typed}
use Rattle.ab_term.proofs.Stands.{support-shift, variables-shift}
use Rattle.ab_term.proofs.Translations.{translate-shift}
use Rattle.ab_unifiers.proofs.Following.{Put}
use Rattle.ab_unifiers.specs.Member.{HasMember, before}
use Rattle.ab_formulas.specs.Declarations.{Declarations, signature_in}
use Rattle.ab_formulas.specs.Forms.{Form, other, form_of}
use Rattle.ab_search_trees.specs.Goals.{Goal, Now, asking}
use Rattle.ab_search_trees.specs.Judgements.{judged, layer_of, opened_once, hides_head, is_blind}
use Rattle.ab_search_trees.specs.Ways.{leading_to, by_layer}
use Rattle.ab_search_trees.specs.Tree.{Leaf, blind, unseen, Leaves, a_goal}
use Rattle.ab_search_trees.proofs.Forms.{Makes, MakesAll, FormMade}
use Rattle.ab_search_trees.proofs.Facts.{Facts, IsPart, IsTask, facts_first, facts_second, arguments_of, first_of, rest_of}
use Rattle.ab_search_trees.proofs.Atoms.{IsFirm, formula_firm}
use Rattle.ab_search_trees.proofs.Against.{IsState, IsGuess, some_behind}
use Rattle.ab_search_trees.proofs.ByForm.{on_form, by_goals, made}
use Rattle.ab_search_trees.proofs.Complete.{ByLayer}

-- what is known of two arguments is known of a head given them
module _ {now : Now} {branch : List Nominal} {u : Bool} where
  facts_pair : (l : Logical) {t v : Read} → Facts now branch u t → Facts now branch u v → Facts now branch u (spine (logical l) (term t (term v no_terms)))
  facts_pair l {t = t} {v = v} f g = record {
    over = λ y m. elim (Contains-append_cases (variables t) (variables v ++ []) y m) [ inl a ↦ f.over y a | inr a ↦ elim (Contains-append_cases (variables v) [] y a) [ inl b ↦ g.over y b | inr b ↦ absurd (Contains-none y b) ] ];
    constants = λ y m. elim (Contains-append_cases (support t) (support v ++ []) y m) [ inl a ↦ f.constants y a | inr a ↦ elim (Contains-append_cases (support v) [] y a) [ inl b ↦ g.constants y b | inr b ↦ absurd (Contains-none y b) ] ];
    fixed = λ e y m. elim (Contains-append_cases (variables t) (variables v ++ []) y m) [ inl a ↦ f.fixed e y a | inr a ↦ elim (Contains-append_cases (variables v) [] y a) [ inl b ↦ g.fixed e y b | inr b ↦ absurd (Contains-none y b) ] ];
  }

  facts_given : (c : List ℕ) {t v : Read} → Facts now branch u t → Facts now branch u v → Facts now branch u (spine (constant c) (term t (term v no_terms)))
  facts_given c {t = t} {v = v} f g = record {
    over = λ y m. elim (Contains-append_cases (variables t) (variables v ++ []) y m) [ inl a ↦ f.over y a | inr a ↦ elim (Contains-append_cases (variables v) [] y a) [ inl b ↦ g.over y b | inr b ↦ absurd (Contains-none y b) ] ];
    constants = λ y m. elim (Contains-append_cases (support t) (support v ++ []) y m) [ inl a ↦ f.constants y a | inr a ↦ elim (Contains-append_cases (support v) [] y a) [ inl b ↦ g.constants y b | inr b ↦ absurd (Contains-none y b) ] ];
    fixed = λ e y m. elim (Contains-append_cases (variables t) (variables v ++ []) y m) [ inl a ↦ f.fixed e y a | inr a ↦ elim (Contains-append_cases (variables v) [] y a) [ inl b ↦ g.fixed e y b | inr b ↦ absurd (Contains-none y b) ] ];
  }

  facts_one : (l : Logical) {t : Read} → Facts now branch u t → Facts now branch u (spine (logical l) (term t no_terms))
  facts_one l {t = t} f = record {
    over = λ y m. elim (Contains-append_cases (variables t) [] y m) [ inl a ↦ f.over y a | inr b ↦ absurd (Contains-none y b) ];
    constants = λ y m. elim (Contains-append_cases (support t) [] y m) [ inl a ↦ f.constants y a | inr b ↦ absurd (Contains-none y b) ];
    fixed = λ e y m. elim (Contains-append_cases (variables t) [] y m) [ inl a ↦ f.fixed e y a | inr b ↦ absurd (Contains-none y b) ];
  }

  facts_shift : {t : Read} → Facts now branch u t → Facts now branch u (shift zero t)
  facts_shift {t = t} f = record {
    over = λ y m. f.over y (subst (λ l. Contains l y) (variables-shift zero t) m);
    constants = λ y m. f.constants y (subst (λ l. Contains l y) (support-shift zero t) m);
    fixed = λ e y m. f.fixed e y (subst (λ l. Contains l y) (variables-shift zero t) m);
  }

  facts_under_binder : {A : Ty} {x : List ℕ} {t : Read} → Facts now branch u t → Facts now branch u (lam A x t)
  facts_under_binder f = record { over = f.over; constants = f.constants; fixed = f.fixed }

  facts_body : {A : Ty} {x : List ℕ} {t : Read} → Facts now branch u (lam A x t) → Facts now branch u t
  facts_body f = record { over = f.over; constants = f.constants; fixed = f.fixed }

judged_typed : (sg : Signature) {G : List Ty} {L A : Read} → HasType sg G L olist → HasType sg G A o → HasType sg G (judged L A) prop
judged_typed sg d e = typed_spine refl (take_term d (take_term e take_none))

-- A LAYER that is opened in the second is opened in the first
record LayerMade (f : Put) (sg : Signature) (now : Now) (branch : List Nominal) (u : Bool) (C F : Read) : Type 0 where
  pub formula : Read
  pub opened : opened_once C ≡ Some formula
  pub part : IsPart sg now branch u formula
  pub makes : Makes f formula F

module _ (D : Declarations) (now : Now) (f : Put) (s : IsState (signature_in D) now f) (has_list : HasMember (signature_in D)) (branch : List Nominal) (u : Bool) where
  abbrev sg : Signature
  sg = signature_in D

  -- a term that doesn't begin with a variable that may be replaced keeps its head
  keeps_head : (l : Logical) (G : Read) (us : Terms ℕ (List ℕ)) → hides_head now.flexible G ≡ false → Makes f G (spine (logical l) us) → (ts : Terms ℕ (List ℕ)) × (G ≡ spine (logical l) ts) × MakesAll f ts us
  keeps_head l (lam A x t) us h m = absurd (cc)
  keeps_head l (spine (constant c) ts) us h m = absurd (cc)
  keeps_head l (spine (nominal a) ts) us h m = absurd (cc)
  keeps_head l (spine (index i) ts) us h m = absurd (cc)
  keeps_head l (spine (variable y) ts) us h m =
      let none : f y ≡ None = s.fits.none y h in
      let stays : spine (variable y) (image_all_by f (forget_all ts)) ≡ forget (spine (logical l) us) = sym (ap (λ k. put_for y k (image_all_by f (forget_all ts))) none) ∙ m in
      absurd (cc)
  keeps_head l (spine (logical k) ts) us h m =
      let same : k ≡ l = cc in
      let rest : MakesAll f ts us = cc in
      (ts, ap (λ j. spine (logical j) ts) same, rest)

  as_judged : (C L G : Read) → IsFirm C → Makes f C (judged L G) → (L1 : Read) × (G1 : Read) × (C ≡ judged L1 G1) × Makes f L1 L × Makes f G1 G
  as_judged (lam A x t) L G r m = absurd r
  as_judged (spine (variable y) ts) L G r m = absurd r
  as_judged (spine (constant c) ts) L G r m = absurd (cc)
  as_judged (spine (nominal a) ts) L G r m = absurd (cc)
  as_judged (spine (index i) ts) L G r m = absurd (cc)
  as_judged (spine (logical k) ts) L G r m =
      let same : k ≡ plain.judgement = cc in
      let rest : MakesAll f ts (term L (term G no_terms)) = cc in
      let r2 = two_made ts L G rest in
      (r2.0, r2.1, ap (λ j. spine (logical j) ts) same ∙ ap (spine (logical plain.judgement)) r2.2, r2.3, r2.4)
    where
      two_made : (ts : Terms ℕ (List ℕ)) (L G : Read) → MakesAll f ts (term L (term G no_terms)) → (L1 : Read) × (G1 : Read) × (ts ≡ term L1 (term G1 no_terms)) × Makes f L1 L × Makes f G1 G
      two_made no_terms L G m = absurd (cc)
      two_made (term t no_terms) L G m = absurd (let bad : MakesAll f no_terms (term G no_terms) = cc in cc)
      two_made (term t (term v no_terms)) L G m = let one : Makes f t L = cc in let two : Makes f v G = cc in (t, v, refl, one, two)
      two_made (term t (term v (term w ts))) L G m = absurd (let bad : MakesAll f (term v (term w ts)) (term G no_terms) = cc in let worse : MakesAll f (term w ts) no_terms = cc in cc)

  -- two arguments of a head that is kept
  two_of : (l : Logical) (G A B : Read) → hides_head now.flexible G ≡ false → Makes f G (spine (logical l) (term A (term B no_terms))) → (A1 : Read) × (B1 : Read) × (G ≡ spine (logical l) (term A1 (term B1 no_terms))) × Makes f A1 A × Makes f B1 B
  two_of l G A B h m = let k = keeps_head l G (term A (term B no_terms)) h m in go k.0 k.1 k.2
    where
      go : (ts : Terms ℕ (List ℕ)) → G ≡ spine (logical l) ts → MakesAll f ts (term A (term B no_terms)) → (A1 : Read) × (B1 : Read) × (G ≡ spine (logical l) (term A1 (term B1 no_terms))) × Makes f A1 A × Makes f B1 B
      go no_terms e r = absurd (cc)
      go (term t no_terms) e r = absurd (let bad : MakesAll f no_terms (term B no_terms) = cc in cc)
      go (term t (term v no_terms)) e r = let one : Makes f t A = cc in let two : Makes f v B = cc in (t, v, e, one, two)
      go (term t (term v (term w ts))) e r = absurd (let bad : MakesAll f (term v (term w ts)) (term B no_terms) = cc in let worse : MakesAll f (term w ts) no_terms = cc in cc)

  one_of : (l : Logical) (G A : Read) → hides_head now.flexible G ≡ false → Makes f G (spine (logical l) (term A no_terms)) → (A1 : Read) × (G ≡ spine (logical l) (term A1 no_terms)) × Makes f A1 A
  one_of l G A h m = let k = keeps_head l G (term A no_terms) h m in go k.0 k.1 k.2
    where
      go : (ts : Terms ℕ (List ℕ)) → G ≡ spine (logical l) ts → MakesAll f ts (term A no_terms) → (A1 : Read) × (G ≡ spine (logical l) (term A1 no_terms)) × Makes f A1 A
      go no_terms e r = absurd (cc)
      go (term t no_terms) e r = let one : Makes f t A = cc in (t, e, one)
      go (term t (term v ts)) e r = absurd (let bad : MakesAll f (term v ts) no_terms = cc in cc)

  makes_judged : (L G L2 G2 : Read) → Makes f L L2 → Makes f G G2 → Makes f (judged L G) (judged L2 G2)
  makes_judged L G L2 G2 d e = ap (λ v. spine (logical plain.judgement) (term v (term (image_by f (forget G)) no_terms))) d ∙ ap (λ v. spine (logical plain.judgement) (term (forget L2) (term v no_terms))) e

  -- of L and G, each typed and known
  module _ (L G L2 : Read) (L_typed : HasType sg [] L olist) (G_typed : HasType sg [] G o) (L_facts : Facts now branch u L) (G_facts : Facts now branch u G) (L_made : Makes f L L2) (seen : hides_head now.flexible G ≡ false) where
    abbrev Opened : Read → Type 0
    Opened F = (E : Read) × (layer_of L G ≡ Some E) × IsPart sg now branch u E × Makes f E F

    by_conjunction : (A B : Read) → Makes f G (spine (logical plain.spec_conjunction) (term A (term B no_terms))) → Opened (spine (logical plain.conjunction) (term (judged L2 A) (term (judged L2 B) no_terms)))
    by_conjunction A B m =
        let k = two_of plain.spec_conjunction G A B seen m in
        let A1 = k.0 in
        let B1 = k.1 in
        let E = spine (logical plain.conjunction) (term (judged L A1) (term (judged L B1) no_terms)) in
        let typed = arguments_of sg now branch u (subst (λ t. HasType sg [] t o) k.2 G_typed) in
        let facts = subst (λ t. Facts now branch u t) k.2 G_facts in (
          E,
          ap (layer_of L) k.2,
          record {
            formula = record { typed = typed_spine refl (take_term (judged_typed sg L_typed (first_of sg now branch u typed)) (take_term (judged_typed sg L_typed (first_of sg now branch u (rest_of sg now branch u typed))) take_none)); stands = (tt, ((tt, (tt, (tt, tt))), ((tt, (tt, (tt, tt))), tt))) };
            facts = facts_pair plain.conjunction (facts_pair plain.judgement L_facts (facts_first facts)) (facts_pair plain.judgement L_facts (facts_second facts));
          },
          ap (λ v. spine (logical plain.conjunction) (term v (term (image_by f (forget (judged L B1))) no_terms))) (makes_judged L A1 L2 A L_made k.3) ∙ ap (λ v. spine (logical plain.conjunction) (term (forget (judged L2 A)) (term v no_terms))) (makes_judged L B1 L2 B L_made k.4),
        )

    by_implication : (A B : Read) → Makes f G (spine (logical plain.spec_implication) (term A (term B no_terms))) → Opened (judged (before A L2) B)
    by_implication A B m =
        let k = two_of plain.spec_implication G A B seen m in
        let A1 = k.0 in
        let B1 = k.1 in
        let typed = arguments_of sg now branch u (subst (λ t. HasType sg [] t o) k.2 G_typed) in
        let facts = subst (λ t. Facts now branch u t) k.2 G_facts in
        let list_typed : HasType sg [] (before A1 L) olist = typed_spine has_list.cons (take_term (first_of sg now branch u typed) (take_term L_typed take_none)) in
        let list_made : Makes f (before A1 L) (before A L2) = ap (λ v. spine (constant (codes "::")) (term v (term (image_by f (forget L)) no_terms))) k.3 ∙ ap (λ v. spine (constant (codes "::")) (term (forget A) (term v no_terms))) L_made in (
          judged (before A1 L) B1,
          ap (layer_of L) k.2,
          record {
            formula = record { typed = judged_typed sg list_typed (first_of sg now branch u (rest_of sg now branch u typed)); stands = (tt, (tt, (tt, tt))) };
            facts = facts_pair plain.judgement (facts_given (codes "::") (facts_first facts) L_facts) (facts_second facts);
          },
          makes_judged (before A1 L) B1 (before A L2) B list_made k.4,
        )

    by_pi : (A B : Ty) (x : List ℕ) (t : Read) → Makes f G (spine (logical (plain.spec_universal A)) (term (lam B x t) no_terms)) → Opened (spine (logical (plain.nabla A)) (term (lam A x (judged (shift zero L2) t)) no_terms))
    by_pi A B x t m =
        let k = one_of (plain.spec_universal A) G (lam B x t) seen m in
        let typed = first_of sg now branch u (arguments_of sg now branch u (subst (λ t. HasType sg [] t o) k.1 G_typed)) in
        let facts = facts_first (subst (λ t. Facts now branch u t) k.1 G_facts) in
        go k.0 k.1 k.2 typed facts
      where
        go : (v : Read) → G ≡ spine (logical (plain.spec_universal A)) (term v no_terms) → Makes f v (lam B x t) → HasType sg [] v (arrow A o) → Facts now branch u v → Opened (spine (logical (plain.nabla A)) (term (lam A x (judged (shift zero L2) t)) no_terms))
        go (spine h ts) e q typed facts = elim typed [ ]
        go (lam C y v) e q (typed_lam d) facts =
            let body : Makes f v t = cc in
            let shifted : Makes f (shift zero L) (shift zero L2) =
            ap (image_by f) (translate-shift (λ v. v) (λ y. tt) L zero) ∙ sym (shift-image_by sg ℕ (Unit {0}) f s.fits.typed (forget L) zero) ∙ ap (shift zero) L_made ∙ sym (translate-shift (λ v. v) (λ y. tt) L2 zero) in (
              spine (logical (plain.nabla A)) (term (lam A y (judged (shift zero L) v)) no_terms),
              ap (layer_of L) e,
              record {
                formula = record { typed = typed_spine refl (take_term (typed_lam (judged_typed sg (shift_typed sg here L_typed) d)) take_none); stands = (tt, ((tt, (tt, (tt, tt))), tt)) };
                facts = facts_one (plain.nabla A) (facts_under_binder (facts_pair plain.judgement (facts_shift L_facts) (facts_body facts)));
              },
              ap (λ w. spine (logical (plain.nabla A)) (term (lam A tt w) no_terms)) (makes_judged (shift zero L) v (shift zero L2) t shifted body),
            )

    some_layer : {E F : Read} → Some E ≡ Some F → Opened E → Opened F
    some_layer {E = E} {F = F} e r = let same : E ≡ F = cc in subst Opened same r

    pub layer_lifts : (G2 F : Read) → Makes f G G2 → layer_of L2 G2 ≡ Some F → Opened F
    layer_lifts (spine (logical plain.spec_conjunction) (term A (term B no_terms))) F m e = some_layer e (by_conjunction A B m)
    layer_lifts (spine (logical plain.spec_implication) (term A (term B no_terms))) F m e = some_layer e (by_implication A B m)
    layer_lifts (spine (logical (plain.spec_universal A)) (term (lam B x t) no_terms)) F m e = some_layer e (by_pi A B x t m)
    layer_lifts _ F m e = absurd (cc)

  -- of a conclusion
  pub opened_lifts : (C H F : Read) → IsPart sg now branch u C → Makes f C H → is_blind now.flexible C ≡ false → opened_once H ≡ Some F → (E : Read) × (opened_once C ≡ Some E) × IsPart sg now branch u E × Makes f E F
  opened_lifts C (spine (logical plain.judgement) (term L (term G no_terms))) F p m h e =
      let j = as_judged C L G (formula_firm C p.formula.stands) m in
      let L1 = j.0 in
      let G1 = j.1 in
      let part : IsPart sg now branch u (judged L1 G1) = subst (IsPart sg now branch u) j.2 p in
      let typed = arguments_of sg now branch u part.formula.typed in
      let seen : hides_head now.flexible G1 ≡ false = sym (ap (is_blind now.flexible) j.2) ∙ h in
      let r = layer_lifts L1 G1 L (first_of sg now branch u typed) (first_of sg now branch u (rest_of sg now branch u typed)) (facts_first part.facts) (facts_second part.facts) j.3 seen G F j.4 e in
      (r.0, ap opened_once j.2 ∙ r.1, r.2, r.3)
  opened_lifts C _ F p m h e = absurd (cc)

module _ (D : Declarations) (has_list : HasMember (signature_in D)) where
  pub finds_layer : ByLayer D
  finds_layer h n F e opened deep hs c now f [] s t a ls l = absurd a
  finds_layer h n F e opened deep hs c now f (g ∷ gs) s t a ls l = go (is_blind now.flexible g.conclusion) refl
    where
      blind_leaf : is_blind now.flexible g.conclusion ≡ true → (ls : List Leaf) → Leaves D now (g ∷ gs) ls → ls ≢ []
      blind_leaf b ls (a_goal {ls = ms} p) = some_behind ms (λ q. absurd (let same : unseen now g ≡ blind ∷ [] = ap (λ b. cond b (blind ∷ []) []) b in let bad : blind ∷ [] ≡ [] = sym same ∙ q in cc))

      at_other : (k : Form) → form_of g.conclusion ≡ k → FormMade f k other → form_of g.conclusion ≡ other
      at_other other q m = q
      at_other _ q m = absurd m

      go : (b : Bool) → is_blind now.flexible g.conclusion ≡ b → ls ≢ []
      go true b = blind_leaf b ls l
      go false b =
          let r = opened_lifts D now f s has_list g.constants g.untouched g.conclusion h.conclusion F (t.0).conclusion (a.0).conclusion b opened in
          let next : Goal = record (asking r.0 g) { layers = n } in
          let w = leading_to D now g (next ∷ []) in
          let layers_left : g.layers ≡ suc n = sym (a.0).layers ∙ deep in
          let way_there : Contains (by_layer D now g g.layers (opened_once g.conclusion)) w = subst (λ k. Contains (by_layer D now g k (opened_once g.conclusion)) w) (sym layers_left) (subst (λ o. Contains (by_layer D now g (suc n) o) w) (sym r.1) (Contains-here w [])) in
          let task : IsTask (signature_in D) now next = record { conclusion = r.2; hypotheses = (t.0).hypotheses } in
          let guess : IsGuess f next (record (asking F h) { layers = n }) = record { conclusion = r.3; hypotheses = (a.0).hypotheses; depth = (a.0).depth; constants = (a.0).constants; untouched = (a.0).untouched; layers = refl } in
          on_form D now g gs other (at_other (form_of g.conclusion) refl (made D now f s g h t.0 a.0 other e)) w way_there
          (by_goals D now f g gs (next ∷ []) (record (asking F h) { layers = n } ∷ hs) s (task, t.1) (guess, a.1) c) ls l
