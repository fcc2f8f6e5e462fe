-- What a goal of the specification logic opens to is like what a like goal opens to.
use Rattle.std.proofs.Common.{◌≡◌, ℕ, zero, List, ◌∷◌, codes, refl, sym, ◌∙◌, ap, subst}
use Rattle.ab_term.specs.Types.{Ty, arrow, o}
use Rattle.ab_term.specs.Logical.{Logical, logical_type, conjunction, nabla, judgement, star, at_sign, plus, hash, focused_judgement, existential, spec_universal, spec_implication, spec_conjunction}
use Rattle.ab_term.specs.Terms.{Nominal, constant, logical, nominal, variable, index, Term, lam, spine, Terms, no_terms, term, Read}
use Rattle.ab_term.specs.Typing.{Signature, HasType, TakeType, typed_lam, typed_spine, take_term}
use Rattle.ab_term.specs.Names.{rename, moved_by}
use Rattle.ab_term.specs.Substitution.{shift}
use Rattle.ab_term.specs.Translation.{forget}
use Rattle.ab_term.specs.Variables.{value_in, image, IsTyped}
use Rattle.ab_term.specs.Sameness.{same_number}
use Rattle.ab_term.proofs.Compositions.{map_typed}
use Rattle.ab_term.proofs.Images.{shift-image_by}
use Rattle.ab_term.proofs.Renamings.{rename-shift}
use Rattle.ab_term.proofs.Translations.{translate-shift}
use Rattle.ab_unifiers.specs.Member.{before, in_the_list}
use Rattle.ab_formulas.specs.Marks.{Sign, plain, star_of, at_of, plus_of, hash_of}
use Rattle.ab_theory.specs.Judgements.{marked_judgement, marked_focus}
use Rattle.ab_theory.specs.Opening.{open_goal}
use Rattle.ab_theory.specs.SpecRules.{some_item}
use Rattle.ab_search_trees.proofs.Forms.{begins_logical, one_more, no_more, abstraction}
use Rattle.ab_search_proofs.specs.Likeness.{StandIn, replacing}
use Rattle.ab_search_proofs.proofs.VariableHeads.{image_begins, rename_begins, never_logical}

-- it opens to a judgement as it is
abbrev pub IsSingle : Read → Type 0
IsSingle (spine (logical (spec_universal A)) (term (lam B x G) no_terms)) = ⊥
IsSingle (spine (logical spec_implication) (term F (term G no_terms))) = ⊥
IsSingle (spine (logical spec_conjunction) (term F (term G no_terms))) = ⊥
IsSingle G = Unit {0}

pub single_opened : (m : Sign) (L G : Read) → IsSingle G → open_goal m L G ≡ marked_judgement m L G
single_opened m L (spine (logical (spec_universal A)) (term (lam B x G) no_terms)) i = absurd i
single_opened m L (spine (logical spec_implication) (term F (term G no_terms))) i = absurd i
single_opened m L (spine (logical spec_conjunction) (term F (term G no_terms))) i = absurd i
single_opened m L G i = refl

-- TYPES of its parts
module _ (sg : Signature) where
  pub arguments_of : {Γ : List Ty} (l : Logical) {ts : Terms ℕ (List ℕ)} {A : Ty} → HasType sg Γ (spine (logical l) ts) A → TakeType sg Γ ts (logical_type l) A
  arguments_of {Γ = Γ} l {ts = ts} {A = A} (typed_spine {A = D} e ds) = let same : D ≡ logical_type l = cc in subst (λ E. TakeType sg Γ ts E A) same ds

  pub first_of : {Γ : List Ty} {A B C : Ty} {t : Read} {ts : Terms ℕ (List ℕ)} → TakeType sg Γ (term t ts) (arrow A B) C → HasType sg Γ t A
  first_of (take_term d ds) = d

  pub rest_of : {Γ : List Ty} {A B C : Ty} {t : Read} {ts : Terms ℕ (List ℕ)} → TakeType sg Γ (term t ts) (arrow A B) C → TakeType sg Γ ts B C
  rest_of (take_term d ds) = ds

  pub body_of : {Γ : List Ty} {A B C : Ty} {x : List ℕ} {t : Read} → HasType sg Γ (lam C x t) (arrow A B) → HasType sg (A ∷ Γ) t B
  body_of (typed_lam d) = d

  module _ (vs : List StandIn) (typed : IsTyped sg (replacing vs)) (ps : List (Nominal × Nominal)) where
    abbrev m : Nominal → Nominal
    m = moved_by ps

    abbrev pub here : Read → Read
    here t = rename m (image same_number (replacing vs) t)

    -- past hints the second is the first, with others for variables and constants
    abbrev pub Like : Read → Read → Type 0
    Like t u = forget (here t) ≡ forget u

    pub like_shift : (t u : Read) → Like t u → Like (shift zero t) (shift zero u)
    like_shift t u e =
        ap (λ k. forget (rename m k)) (sym (shift-image_by sg ℕ (List ℕ) (value_in same_number (replacing vs)) (map_typed sg same_number (replacing vs) typed) t zero))
        ∙ ap forget (rename-shift m (image same_number (replacing vs) t) zero)
        ∙ translate-shift (λ k. k) (λ k. tt) (here t) zero
        ∙ ap (shift zero) e
        ∙ sym (translate-shift (λ k. k) (λ k. tt) u zero)

    pub like_two : (l : Logical) (t v u w : Read) → Like t u → Like v w → Like (spine (logical l) (term t (term v no_terms))) (spine (logical l) (term u (term w no_terms)))
    like_two l t v u w d e = ap (λ k. spine (logical l) (term k (term (forget (here v)) no_terms))) d ∙ ap (λ k. spine (logical l) (term (forget u) (term k no_terms))) e

    like_before : (F L G M : Read) → Like F G → Like L M → Like (before F L) (before G M)
    like_before F L G M d e = ap (λ k. spine (constant (codes "::")) (term k (term (forget (here L)) no_terms))) d ∙ ap (λ k. spine (constant (codes "::")) (term (forget G) (term k no_terms))) e

    like_judged : (k : Sign) (L G M H : Read) → Like L M → Like G H → Like (marked_judgement k L G) (marked_judgement k M H)
    like_judged plain L G M H d e = like_two judgement L G M H d e
    like_judged (star_of i) L G M H d e = ap (λ t. spine (logical (star i)) (term t no_terms)) (like_two judgement L G M H d e)
    like_judged (at_of i) L G M H d e = ap (λ t. spine (logical (at_sign i)) (term t no_terms)) (like_two judgement L G M H d e)
    like_judged (plus_of i) L G M H d e = ap (λ t. spine (logical (plus i)) (term t no_terms)) (like_two judgement L G M H d e)
    like_judged (hash_of i) L G M H d e = ap (λ t. spine (logical (hash i)) (term t no_terms)) (like_two judgement L G M H d e)

    like_focus : (k : Sign) (L F A M G B : Read) → Like L M → Like F G → Like A B → Like (marked_focus k L F A) (marked_focus k M G B)
    like_focus k L F A M G B d f e = by_sign k
      where
        three : Like (spine (logical focused_judgement) (term L (term F (term A no_terms)))) (spine (logical focused_judgement) (term M (term G (term B no_terms))))
        three =
            ap (λ z. spine (logical focused_judgement) (term z (term (forget (here F)) (term (forget (here A)) no_terms)))) d
            ∙ ap (λ z. spine (logical focused_judgement) (term (forget M) (term z (term (forget (here A)) no_terms)))) f
            ∙ ap (λ z. spine (logical focused_judgement) (term (forget M) (term (forget G) (term z no_terms)))) e

        by_sign : (k : Sign) → Like (marked_focus k L F A) (marked_focus k M G B)
        by_sign plain = three
        by_sign (star_of i) = ap (λ t. spine (logical (star i)) (term t no_terms)) three
        by_sign (at_of i) = ap (λ t. spine (logical (at_sign i)) (term t no_terms)) three
        by_sign (plus_of i) = ap (λ t. spine (logical (plus i)) (term t no_terms)) three
        by_sign (hash_of i) = ap (λ t. spine (logical (hash i)) (term t no_terms)) three

    -- SOME FORMULA OF THE LIST
    pub item_like : (k : Sign) (L M A B : Read) → Like L M → Like A B → Like (some_item k L A) (some_item k M B)
    item_like k L M A B l a =
        let F : Read = spine (index zero) no_terms in
        let list = like_shift L M l in
        ap (λ t. spine (logical (existential o)) (term (lam o tt t) no_terms))
        (like_two conjunction (marked_focus k (shift zero L) F (shift zero A)) (spine (constant (codes "member")) (in_the_list F (shift zero L))) (marked_focus k (shift zero M) F (shift zero B)) (spine (constant (codes "member")) (in_the_list F (shift zero M)))
        (like_focus k (shift zero L) F (shift zero A) (shift zero M) F (shift zero B) list refl (like_shift A B a))
        (ap (λ t. spine (constant (codes "member")) (term (spine (index zero) no_terms) (term t no_terms))) list))

    no_spine : {Γ : List Ty} {A B : Ty} (t : Read) → HasType sg Γ t (arrow A B) → (V : Term ℕ (Unit {0})) (C : Ty) → forget (here t) ≡ lam C tt V → (D : Ty) × (x : List ℕ) × (u : Read) × (t ≡ lam D x u)
    no_spine (lam D x u) d V C e = (D, x, u, refl)
    no_spine (spine h ts) d V C e = elim d [ ]

    -- what a single goal is like is single
    module _ (Γ : List Ty) where
      not_universal : (G : Read) (A B : Ty) (V : Term ℕ (Unit {0})) → HasType sg Γ G o → forget (here G) ≡ spine (logical (spec_universal A)) (term (lam B tt V) no_terms) → IsSingle G → ⊥
      not_universal (lam C x t) A B V d e i = cc
      not_universal (spine (constant c) ts) A B V d e i = cc
      not_universal (spine (nominal a) ts) A B V d e i = cc
      not_universal (spine (index n) ts) A B V d e i = cc
      not_universal (spine (variable y) ts) A B V d e i = never_logical (here (spine (variable y) ts)) (spec_universal A) (term (lam B tt V) no_terms) (rename_begins m (image same_number (replacing vs) (spine (variable y) ts)) (image_begins vs y ts)) e
      not_universal (spine (logical l) no_terms) A B V d e i = cc
      not_universal (spine (logical l) (term t (term u us))) A B V d e i = cc
      not_universal (spine (logical l) (term t no_terms)) A B V d e i =
          let same : l ≡ spec_universal A = cc in
          let rest : forget (here t) ≡ lam B tt V = cc in
          let all = subst (λ k. HasType sg Γ (spine (logical k) (term t no_terms)) o) same d in
          let is = no_spine t (first_of (arguments_of (spec_universal A) all)) V B rest in
          subst (λ u. IsSingle (spine (logical (spec_universal A)) (term u no_terms))) is.3 (subst (λ k. IsSingle (spine (logical k) (term t no_terms))) same i)

      not_two : (k : Logical) → ((t u : Read) → IsSingle (spine (logical k) (term t (term u no_terms))) → ⊥) → (G : Read) (V W : Term ℕ (Unit {0})) → forget (here G) ≡ spine (logical k) (term V (term W no_terms)) → IsSingle G → ⊥
      not_two k none (lam C x t) V W e i = cc
      not_two k none (spine (constant c) ts) V W e i = cc
      not_two k none (spine (nominal a) ts) V W e i = cc
      not_two k none (spine (index n) ts) V W e i = cc
      not_two k none (spine (variable y) ts) V W e i = never_logical (here (spine (variable y) ts)) k (term V (term W no_terms)) (rename_begins m (image same_number (replacing vs) (spine (variable y) ts)) (image_begins vs y ts)) e
      not_two k none (spine (logical l) no_terms) V W e i = cc
      not_two k none (spine (logical l) (term t no_terms)) V W e i = cc
      not_two k none (spine (logical l) (term t (term u (term v ts)))) V W e i = cc
      not_two k none (spine (logical l) (term t (term u no_terms))) V W e i = let same : l ≡ k = cc in none t u (subst (λ z. IsSingle (spine (logical z) (term t (term u no_terms)))) same i)

      pub single_like : (G H : Read) → HasType sg Γ G o → Like G H → IsSingle G → IsSingle H
      single_like G (spine (logical (spec_universal A)) (term (lam B x h) no_terms)) d e i = not_universal G A B (forget h) d e i
      single_like G (spine (logical spec_implication) (term F (term h no_terms))) d e i = not_two spec_implication (λ t u n. n) G (forget F) (forget h) e i
      single_like G (spine (logical spec_conjunction) (term F (term h no_terms))) d e i = not_two spec_conjunction (λ t u n. n) G (forget F) (forget h) e i
      single_like G H d e i = tt

    -- OPENED
    pub opened_like : (k : Sign) (Γ : List Ty) (L M G H : Read) → HasType sg Γ G o → Like L M → Like G H → Like (open_goal k L G) (open_goal k M H)
    opened_like k Γ L M (spine (logical (spec_universal A)) (term (lam B x g) no_terms)) H d l e =
        let b = begins_logical (spec_universal A) (term (forget (here (lam B x g))) no_terms) H e in
        let one = one_more b.0 b.2 in
        let scope = abstraction one.0 one.3 in
        let whole : H ≡ spine (logical (spec_universal A)) (term (lam B scope.0 scope.1) no_terms) = b.1 ∙ ap (spine (logical (spec_universal A))) (one.2 ∙ ap (term one.0) (no_more one.4) ∙ ap (λ t. term t no_terms) scope.2) in
        ap (λ t. spine (logical (nabla A)) (term (lam A tt t) no_terms)) (opened_like k (A ∷ Γ) (shift zero L) (shift zero M) g scope.1 (body_of (first_of (arguments_of (spec_universal A) d))) (like_shift L M l) scope.3)
        ∙ ap (λ z. forget (open_goal k M z)) (sym whole)
    opened_like k Γ L M (spine (logical spec_implication) (term F (term g no_terms))) H d l e =
        let b = begins_logical spec_implication (term (forget (here F)) (term (forget (here g)) no_terms)) H e in
        let one = one_more b.0 b.2 in
        let two = one_more one.1 one.4 in
        let whole : H ≡ spine (logical spec_implication) (term one.0 (term two.0 no_terms)) = b.1 ∙ ap (spine (logical spec_implication)) (one.2 ∙ ap (term one.0) (two.2 ∙ ap (term two.0) (no_more two.4))) in
        opened_like k Γ (before F L) (before one.0 M) g two.0 (first_of (rest_of (arguments_of spec_implication d))) (like_before F L one.0 M one.3 l) two.3
        ∙ ap (λ z. forget (open_goal k M z)) (sym whole)
    opened_like k Γ L M (spine (logical spec_conjunction) (term F (term g no_terms))) H d l e =
        let b = begins_logical spec_conjunction (term (forget (here F)) (term (forget (here g)) no_terms)) H e in
        let one = one_more b.0 b.2 in
        let two = one_more one.1 one.4 in
        let whole : H ≡ spine (logical spec_conjunction) (term one.0 (term two.0 no_terms)) = b.1 ∙ ap (spine (logical spec_conjunction)) (one.2 ∙ ap (term one.0) (two.2 ∙ ap (term two.0) (no_more two.4))) in
        like_two conjunction (open_goal k L F) (open_goal k L g) (open_goal k M one.0) (open_goal k M two.0)
        (opened_like k Γ L M F one.0 (first_of (arguments_of spec_conjunction d)) l one.3) (opened_like k Γ L M g two.0 (first_of (rest_of (arguments_of spec_conjunction d))) l two.3)
        ∙ ap (λ z. forget (open_goal k M z)) (sym whole)
    opened_like k Γ L M G H d l e = like_judged k L G M H l e ∙ ap forget (sym (single_opened k M H (single_like Γ G H d e tt)))
