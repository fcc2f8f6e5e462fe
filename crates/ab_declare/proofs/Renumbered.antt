-- What normal forms, clauses as they are kept and clauses of case analysis are with other numbers for variables.
use Rattle.std.proofs.Common.{◌≡◌, ℕ, zero, suc, Bool, true, false, cond, ◌||◌, ◌&&◌, List, [], ◌∷◌, map, length, codes, Option, Some, None, refl, sym, ap, ◌∙◌, if◌then◌else◌}
use Rattle.std.specs.Prelude.{not, filter, Contains}
use Rattle.ab_term.specs.Types.{Ty, kind, arrow}
use Rattle.ab_term.specs.Logical.{truth, falsity, conjunction, disjunction, implication, equality, universal, existential, nabla, judgement, focused_judgement, star, at_sign, plus, hash, spec_universal, spec_implication, spec_conjunction}
use Rattle.ab_term.specs.Terms.{Variable, Head, constant, logical, nominal, variable, index, lam, spine, Terms, no_terms, term, Read}
use Rattle.ab_term.specs.Typing.{Signature, head_type}
use Rattle.ab_term.specs.Substitution.{shift_head, instance, reduce}
use Rattle.ab_term.specs.Expansion.{expansion_of}
use Rattle.ab_term.specs.Beta.{atom, abstraction, application}
use Rattle.ab_term.specs.Translation.{translate_variable, translate_head, translate, translate_all}
use Rattle.ab_term.specs.Variables.{Substitution, variables, variables_of_all, put_for, image_by, image_all_by, value_in, image}
use Rattle.ab_term.specs.Sameness.{same_number, same_numbered, same_head}
use Rattle.ab_term.specs.Abstraction.{close_head, close, close_all}
use Rattle.ab_term.proofs.Lists.{Contains-here}
use Rattle.ab_term.proofs.Translations.{translate-instance, translate-expansion_of}
use Rattle.std.proofs.lemmas.List.Elements.{Contains-append_left, Contains-append_right}
use Rattle.ab_unifiers.specs.Replacements.{Cell, holds, occurs}
use Rattle.ab_unifiers.specs.Clauses as cases
use Rattle.ab_unifiers.specs.Clauses.{numbered, put_together}
use Rattle.ab_unifiers.specs.Prefixes.{prefix, opened, predicate_of, arguments_of, own_terms}
use Rattle.ab_unifiers.proofs.Tests.{numbered_moved, head_moved, shift_moved, occurs_moved}
use Rattle.ab_meaning.specs.Readings.{Raw}
use Rattle.ab_meaning.specs.Normal.{left_type, given_all, long_form, normal_given, normal_form}
use Rattle.ab_formulas.specs.Clauses.{ClauseVariable, Clause}
use Rattle.ab_formulas.specs.CaseClauses.{in_terms, cell_of, case_of}
use Rattle.ab_declare.specs.Existentials.{exists_over, exists_all}
use Rattle.ab_declare.specs.KeptClauses.{stands_in_body_alone, kept_clause}

module _ (f : ℕ → ℕ) where
  -- a term that may hold redexes
  abbrev pub moved : Raw → Raw
  moved (atom h) = atom (translate_head f h)
  moved (abstraction A x t) = abstraction A x (moved t)
  moved (application t u) = application (moved t) (moved u)

  abbrev H : Head ℕ → Head ℕ
  H = translate_head f

  abbrev pub T : Read → Read
  T = translate f (λ x. x)

  abbrev Ts : Terms ℕ (List ℕ) → Terms ℕ (List ℕ)
  Ts = translate_all f (λ x. x)

  abbrev pub moved_variable : ClauseVariable → ClauseVariable
  moved_variable v = record { number = f v.number; type = v.type; hint = v.hint }

  abbrev pub moved_clause : Clause → Clause
  moved_clause c = record { variables = map moved_variable c.variables; head = T c.head; body = T c.body }

  -- NORMAL FORMS

  head_type_moved : (sg : Signature) (G : List Ty) (h : Head ℕ) → head_type sg G (H h) ≡ head_type sg G h
  head_type_moved sg G (constant c) = refl
  head_type_moved sg G (logical l) = refl
  head_type_moved sg G (nominal a) = refl
  head_type_moved sg G (variable y) = refl
  head_type_moved sg G (index i) = refl

  left_moved : (A : Ty) (ts : Terms ℕ (List ℕ)) → left_type A (Ts ts) ≡ left_type A ts
  left_moved A no_terms = refl
  left_moved (kind k) (term t ts) = refl
  left_moved (arrow A B) (term t ts) = left_moved B ts

  given_moved : (t : Read) (ts : Terms ℕ (List ℕ)) → T (given_all t ts) ≡ given_all (T t) (Ts ts)
  given_moved t no_terms = refl
  given_moved t (term u us) = given_moved (instance t u) us ∙ ap (λ r. given_all r (Ts us)) (translate-instance f (λ x. x) t u)

  long_moved : (o : Option Ty) (h : Head ℕ) (ts : Terms ℕ (List ℕ)) → T (long_form o h ts) ≡ long_form o (H h) (Ts ts)
  long_moved None h ts = refl
  long_moved (Some A) h ts =
      translate-expansion_of f (λ x. x) (codes "x") (left_type A ts) h ts
      ∙ ap (λ B. expansion_of (codes "x") B (H h) (Ts ts)) (sym (left_moved A ts))

  normal_moved : (sg : Signature) (G : List Ty) (p : Raw) (ts : Terms ℕ (List ℕ)) → T (normal_given sg G p ts) ≡ normal_given sg G (moved p) (Ts ts)
  normal_moved sg G (atom h) ts = long_moved (head_type sg G h) h ts ∙ ap (λ o. long_form o (H h) (Ts ts)) (sym (head_type_moved sg G h))
  normal_moved sg G (abstraction A x t) ts =
      given_moved (lam A x (normal_form sg (A ∷ G) t)) ts ∙ ap (λ b. given_all (lam A x b) (Ts ts)) (normal_moved sg (A ∷ G) t no_terms)
  normal_moved sg G (application t u) ts =
      normal_moved sg G t (term (normal_form sg G u) ts) ∙ ap (λ v. normal_given sg G (moved t) (term v (Ts ts))) (normal_moved sg G u no_terms)

  pub normal_form_moved : (sg : Signature) (p : Raw) → T (normal_form sg [] p) ≡ normal_form sg [] (moved p)
  normal_form_moved sg p = normal_moved sg [] p no_terms

  -- CLAUSES AS THEY ARE KEPT

  module _ (agree : (i j : ℕ) → same_number (f i) (f j) ≡ same_number i j) where
    close_head_moved : (k : ℕ) (h g : Head ℕ) → H (close_head k h g) ≡ close_head k (H h) (H g)
    close_head_moved k h g = go (same_head g h) ∙ ap (λ b. cond b (index k) (shift_head k (H g))) (sym (head_moved f agree g h))
      where
        go : (b : Bool) → H (cond b (index k) (shift_head k g)) ≡ cond b (index k) (shift_head k (H g))
        go true = refl
        go false = sym (shift_moved f agree k g)

    mutual
      close_moved : (k : ℕ) (h : Head ℕ) (t : Read) → T (close k h t) ≡ close k (H h) (T t)
      close_moved k h (lam A x t) =
          ap (lam A x) (close_moved (suc k) (shift_head zero h) t ∙ ap (λ g. close (suc k) g (T t)) (sym (shift_moved f agree zero h)))
      close_moved k h (spine g ts) = ap (λ i. spine i (Ts (close_all k h ts))) (close_head_moved k h g) ∙ ap (spine (close_head k (H h) (H g))) (close_all_moved k h ts)

      close_all_moved : (k : ℕ) (h : Head ℕ) (ts : Terms ℕ (List ℕ)) → Ts (close_all k h ts) ≡ close_all k (H h) (Ts ts)
      close_all_moved k h no_terms = refl
      close_all_moved k h (term t ts) = ap (λ u. term u (Ts (close_all k h ts))) (close_moved k h t) ∙ ap (term (close k (H h) (T t))) (close_all_moved k h ts)

    over_moved : (v : ClauseVariable) (t : Read) → T (exists_over v t) ≡ exists_over (moved_variable v) (T t)
    over_moved v t = ap (λ u. spine (logical (existential v.type)) (term (lam v.type v.hint u) no_terms)) (close_moved zero (variable (in_terms v)) t)

    all_moved : (vs : List ClauseVariable) (t : Read) → T (exists_all vs t) ≡ exists_all (map moved_variable vs) (T t)
    all_moved [] t = refl
    all_moved (v ∷ vs) t = over_moved v (exists_all vs t) ∙ ap (exists_over (moved_variable v)) (all_moved vs t)

    filter_moved : (p q : ClauseVariable → Bool) → ((v : ClauseVariable) → q (moved_variable v) ≡ p v) → (vs : List ClauseVariable) → filter q (map moved_variable vs) ≡ map moved_variable (filter p vs)
    filter_moved p q same [] = refl
    filter_moved p q same (v ∷ vs) =
        ap (λ b. cond b (moved_variable v ∷ filter q (map moved_variable vs)) (filter q (map moved_variable vs))) (same v)
        ∙ (ap (λ ws. cond (p v) (moved_variable v ∷ ws) ws) (filter_moved p q same vs) ∙ go (p v))
      where
        go : (b : Bool) → cond b (moved_variable v ∷ map moved_variable (filter p vs)) (map moved_variable (filter p vs)) ≡ map moved_variable (cond b (v ∷ filter p vs) (filter p vs))
        go true = refl
        go false = refl

    alone_moved : (head body : Read) (v : ClauseVariable) → stands_in_body_alone (T head) (T body) (moved_variable v) ≡ stands_in_body_alone head body v
    alone_moved head body v =
        ap (λ b. b && not (occurs (in_terms (moved_variable v)) (T head))) (occurs_moved f agree (in_terms v) body)
        ∙ ap (λ b. occurs (in_terms v) body && not b) (occurs_moved f agree (in_terms v) head)

    pub kept_moved : (closes : Bool) (vs : List ClauseVariable) (head body : Read) → kept_clause closes (map moved_variable vs) (T head) (T body) ≡ moved_clause (kept_clause closes vs head body)
    kept_moved false vs head body = refl
    kept_moved true vs head body =
        let p = stands_in_body_alone head body in
        let q = stands_in_body_alone (T head) (T body) in
        ap (λ ws. record { variables = ws; head = T head; body = exists_all (filter q (map moved_variable vs)) (T body) })
        (filter_moved (λ v. not (p v)) (λ v. not (q v)) (λ v. ap not (alone_moved head body v)) vs)
        ∙ ap (λ b. record { variables = map moved_variable (filter (λ v. not (p v)) vs); head = T head; body = b })
        (ap (λ ws. exists_all ws (T body)) (filter_moved p q (alone_moved head body) vs) ∙ sym (all_moved (filter p vs) body))

    -- CLAUSES OF CASE ANALYSIS

    value_moved : (vs : List ClauseVariable) (ts : List Read) (y : Variable ℕ)
        → value_in same_number (put_together (map in_terms (map moved_variable vs)) ts) (translate_variable f y) ≡ value_in same_number (put_together (map in_terms vs) ts) y
    value_moved [] ts y = refl
    value_moved (v ∷ vs) [] y = refl
    value_moved (v ∷ vs) (t ∷ ts) y =
        ap (λ b. if b then Some t else value_in same_number (put_together (map in_terms (map moved_variable vs)) ts) (translate_variable f y)) (numbered_moved f agree (in_terms v) y)
        ∙ ap (λ o. if same_numbered (in_terms v) y then Some t else o) (value_moved vs ts y)

    module _ (a b : Variable ℕ → Option Read) (same : (y : Variable ℕ) → b (translate_variable f y) ≡ a y) where
      put_moved : (y : Variable ℕ) (ts us : Terms ℕ (List ℕ)) → us ≡ ts → (a y ≡ None → ⊥) → put_for (translate_variable f y) (b (translate_variable f y)) us ≡ put_for y (a y) ts
      put_moved y ts us e some = ap (λ o. put_for (translate_variable f y) o us) (same y) ∙ go (a y) some
        where
          go : (o : Option Read) → (o ≡ None → ⊥) → put_for (translate_variable f y) o us ≡ put_for y o ts
          go None n = absurd (n refl)
          go (Some u) n = ap (reduce y.type u) e

      mutual
        pub image_moved : (t : Read) → ((y : Variable ℕ) → Contains (variables t) y → a y ≡ None → ⊥) → image_by b (T t) ≡ image_by a t
        image_moved (lam A x t) some = ap (lam A x) (image_moved t some)
        image_moved (spine (constant c) ts) some = ap (spine (constant c)) (images_moved ts some)
        image_moved (spine (logical l) ts) some = ap (spine (logical l)) (images_moved ts some)
        image_moved (spine (nominal n) ts) some = ap (spine (nominal n)) (images_moved ts some)
        image_moved (spine (variable y) ts) some =
            put_moved y (image_all_by a ts) (image_all_by b (Ts ts)) (images_moved ts (λ z c. some z (Contains-append_right (y ∷ []) (variables_of_all ts) z c))) (some y (Contains-here y (variables_of_all ts)))
        image_moved (spine (index i) ts) some = ap (spine (index i)) (images_moved ts some)

        images_moved : (ts : Terms ℕ (List ℕ)) → ((y : Variable ℕ) → Contains (variables_of_all ts) y → a y ≡ None → ⊥) → image_all_by b (Ts ts) ≡ image_all_by a ts
        images_moved no_terms some = refl
        images_moved (term t ts) some =
            ap (λ u. term u (image_all_by b (Ts ts))) (image_moved t (λ y c. some y (Contains-append_left (variables t) (variables_of_all ts) y c)))
            ∙ ap (term (image_by a t)) (images_moved ts (λ y c. some y (Contains-append_right (variables t) (variables_of_all ts) y c)))

    prefix_moved : (t : Read) → prefix (T t) ≡ prefix t
    prefix_moved (lam A x t) = refl
    prefix_moved (spine (constant c) ts) = refl
    prefix_moved (spine (nominal a) ts) = refl
    prefix_moved (spine (variable y) ts) = refl
    prefix_moved (spine (index i) ts) = refl
    prefix_moved (spine (logical truth) ts) = refl
    prefix_moved (spine (logical falsity) ts) = refl
    prefix_moved (spine (logical conjunction) ts) = refl
    prefix_moved (spine (logical disjunction) ts) = refl
    prefix_moved (spine (logical implication) ts) = refl
    prefix_moved (spine (logical (equality A)) ts) = refl
    prefix_moved (spine (logical (universal A)) ts) = refl
    prefix_moved (spine (logical (existential A)) ts) = refl
    prefix_moved (spine (logical judgement) ts) = refl
    prefix_moved (spine (logical focused_judgement) ts) = refl
    prefix_moved (spine (logical (star i)) ts) = refl
    prefix_moved (spine (logical (at_sign i)) ts) = refl
    prefix_moved (spine (logical (plus i)) ts) = refl
    prefix_moved (spine (logical (hash i)) ts) = refl
    prefix_moved (spine (logical (spec_universal A)) ts) = refl
    prefix_moved (spine (logical spec_implication) ts) = refl
    prefix_moved (spine (logical spec_conjunction) ts) = refl
    prefix_moved (spine (logical (nabla A)) no_terms) = refl
    prefix_moved (spine (logical (nabla A)) (term (spine g us) ts)) = refl
    prefix_moved (spine (logical (nabla A)) (term (lam B x t) (term u us))) = refl
    prefix_moved (spine (logical (nabla A)) (term (lam B x t) no_terms)) = ap (λ cs. record { hint = x; type = A } ∷ cs) (prefix_moved t)

    cells_moved : (vs : List ClauseVariable) → map cell_of (map moved_variable vs) ≡ map cell_of vs
    cells_moved [] = refl
    cells_moved (v ∷ vs) = ap (λ cs. cell_of v ∷ cs) (cells_moved vs)

    abbrev case_with : List (Cell (List ℕ)) → List (Cell (List ℕ)) → Read → Read → cases.Clause (List ℕ)
    case_with own names head body =
        let atom = opened head (own_terms (codes "x") (numbered (length own) names)) in
        record { variables = own; names = names; predicate = predicate_of atom; arguments = arguments_of atom; body = body }

    abbrev own_values : List ClauseVariable → List (Cell (List ℕ)) → Substitution ℕ (List ℕ)
    own_values vs own = put_together (map in_terms vs) (own_terms (codes "x") (numbered 0 own))

    terms_for : (own : List (Cell (List ℕ))) (n : ℕ) (vs : List ClauseVariable) → own ≡ map cell_of vs → length (own_terms (codes "x") (numbered n own)) ≡ length vs
    terms_for own n vs e = ap (λ cs. length (own_terms (codes "x") (numbered n cs))) e ∙ go n vs
      where
        go : (n : ℕ) (vs : List ClauseVariable) → length (own_terms (codes "x") (numbered n (map cell_of vs))) ≡ length vs
        go n [] = refl
        go n (v ∷ vs) = ap suc (go (suc n) vs)

    has_value : (vs : List ClauseVariable) (ts : List Read) (y : Variable ℕ) → length ts ≡ length vs → holds (map in_terms vs) y ≡ true → value_in same_number (put_together (map in_terms vs) ts) y ≡ None → ⊥
    has_value [] ts y l h n = absurd (cc)
    has_value (v ∷ vs) [] y l h n = absurd (cc)
    has_value (v ∷ vs) (t ∷ ts) y l h n = go (same_numbered (in_terms v) y) h n (has_value vs ts y (cc))
      where
        go : (b : Bool) → (b || holds (map in_terms vs) y) ≡ true → (if b then Some t else value_in same_number (put_together (map in_terms vs) ts) y) ≡ None
            → (holds (map in_terms vs) y ≡ true → value_in same_number (put_together (map in_terms vs) ts) y ≡ None → ⊥) → ⊥
        go true h n rest = absurd (cc)
        go false h n rest = rest h n

    -- with other numbers for the variables of which alone it is, a clause is the same clause of case analysis
    pub case_moved : (c : Clause) → ((y : Variable ℕ) → Contains (variables c.head) y → holds (map in_terms c.variables) y ≡ true) → ((y : Variable ℕ) → Contains (variables c.body) y → holds (map in_terms c.variables) y ≡ true)
        → case_of (moved_clause c) ≡ case_of c
    case_moved c in_head in_body =
        let vs = c.variables in
        let own = map cell_of vs in
        let ts = own_terms (codes "x") (numbered 0 own) in
        let s = own_values vs own in
        let some : (y : Variable ℕ) → holds (map in_terms vs) y ≡ true → value_in same_number s y ≡ None → ⊥ = λ y. has_value vs ts y (terms_for own 0 vs refl) in
        let head : image same_number (own_values (map moved_variable vs) own) (T c.head) ≡ image same_number s c.head =
        image_moved (value_in same_number s) (value_in same_number (own_values (map moved_variable vs) own)) (value_moved vs ts) c.head (λ y m. some y (in_head y m)) in
        let body : image same_number (own_values (map moved_variable vs) own) (T c.body) ≡ image same_number s c.body =
        image_moved (value_in same_number s) (value_in same_number (own_values (map moved_variable vs) own)) (value_moved vs ts) c.body (λ y m. some y (in_body y m)) in
        whole vs (cells_moved vs) head body
      where
        whole : (vs : List ClauseVariable) → map cell_of (map moved_variable c.variables) ≡ map cell_of c.variables
            → image same_number (own_values (map moved_variable c.variables) (map cell_of c.variables)) (T c.head) ≡ image same_number (own_values c.variables (map cell_of c.variables)) c.head
            → image same_number (own_values (map moved_variable c.variables) (map cell_of c.variables)) (T c.body) ≡ image same_number (own_values c.variables (map cell_of c.variables)) c.body
            → case_of (moved_clause c) ≡ case_of c
        whole vs cells head body =
            ap (λ own. case_with own (prefix (T c.head)) (image same_number (own_values (map moved_variable c.variables) own) (T c.head)) (image same_number (own_values (map moved_variable c.variables) own) (T c.body))) cells
            ∙ (ap (λ names. case_with (map cell_of c.variables) names (image same_number (own_values (map moved_variable c.variables) (map cell_of c.variables)) (T c.head))
            (image same_number (own_values (map moved_variable c.variables) (map cell_of c.variables)) (T c.body))) (prefix_moved c.head)
            ∙ (ap (λ h. case_with (map cell_of c.variables) (prefix c.head) h (image same_number (own_values (map moved_variable c.variables) (map cell_of c.variables)) (T c.body))) head
            ∙ ap (λ b. case_with (map cell_of c.variables) (prefix c.head) (image same_number (own_values c.variables (map cell_of c.variables)) c.head) b) body))
