-- Formulas without their marks: types, what stands in them, and what a guess makes of them.
use Rattle.std.proofs.Common.{◌≡◌, ℕ, List, [], ◌∷◌, ◌++◌, Some, refl, sym, ◌∙◌, ap, subst}
use Rattle.ab_term.specs.Types.{Ty, kind, arrow, prop}
use Rattle.ab_term.specs.Terms.{Nominal, Head, constant, logical, nominal, variable, index, lam, spine, Terms, no_terms, term, Read}
use Rattle.ab_term.specs.Logical.{Logical, logical_type, truth, falsity, conjunction, disjunction, implication, equality, universal, existential, nabla, judgement, focused_judgement, star, at_sign, plus, hash, spec_universal, spec_implication, spec_conjunction}
use Rattle.ab_term.specs.Typing.{Signature, HasType, typed_lam, typed_spine, TakeType, take_none, take_term, head_type}
use Rattle.ab_term.specs.Names.{rename, rename_all, rename_head}
use Rattle.ab_term.specs.Translation.{forget, forget_all}
use Rattle.ab_term.specs.Variables.{variables_of_head, variables, variables_of_all, image_all_by}
use Rattle.ab_term.proofs.Standing.{Has, AllHave}
use Rattle.ab_unifiers.proofs.Following.{Put}
use Rattle.ab_formulas.specs.Formulas.{a_formula, a_scope, a_marked, StandsIn, AllStandIn, places_of_constant}
use Rattle.ab_formulas.specs.Marks.{Sign, Marks, nowhere, in_both, below, marked, marks_of_head, marks_made, marks_of, marks_of_all, Making, by_head, by_scope, by_parts, by_mark, making_of, making_of_constant, unmarked, erased, erased_all}
use Rattle.ab_formulas.specs.Marks as signs
use Rattle.ab_search_trees.proofs.Forms.{Makes, MakesAll, begins_logical, begins_constant, begins_nominal, abstraction}

level_type : (l : Logical) (m : Sign) → making_of_constant l ≡ by_mark m → logical_type l ≡ arrow prop prop
level_type truth m e = absurd (cc)
level_type falsity m e = absurd (cc)
level_type conjunction m e = absurd (cc)
level_type disjunction m e = absurd (cc)
level_type implication m e = absurd (cc)
level_type (equality A) m e = absurd (cc)
level_type (universal A) m e = absurd (cc)
level_type (existential A) m e = absurd (cc)
level_type (nabla A) m e = absurd (cc)
level_type judgement m e = absurd (cc)
level_type focused_judgement m e = absurd (cc)
level_type (star i) m e = refl
level_type (at_sign i) m e = refl
level_type (plus i) m e = refl
level_type (hash i) m e = refl
level_type (spec_universal A) m e = absurd (cc)
level_type spec_implication m e = absurd (cc)
level_type spec_conjunction m e = absurd (cc)

module _ (sg : Signature) where
  -- a head that is a mark takes a formula and makes one
  mark_type : (G : List Ty) (h : Head ℕ) (m : Sign) (A : Ty) → making_of h ≡ by_mark m → head_type sg G h ≡ Some A → A ≡ arrow prop prop
  mark_type G (constant c) m A e t = absurd (cc)
  mark_type G (logical l) m A e t = let same : A ≡ logical_type l = cc in same ∙ level_type l m e
  mark_type G (nominal a) m A e t = absurd (cc)
  mark_type G (variable y) m A e t = absurd (cc)
  mark_type G (index i) m A e t = absurd (cc)

  first_typed : {G : List Ty} {t : Read} {ts : Terms ℕ (List ℕ)} {A : Ty} {k : List ℕ} → A ≡ arrow prop prop → TakeType sg G (term t ts) A (kind k) → HasType sg G t (kind k)
  first_typed {G} {t} {k = k} e (take_term {A = B} d take_none) = let same : B ≡ kind k = cc in subst (λ C. HasType sg G t C) same d
  first_typed e (take_term d (take_term f ds)) = absurd (cc)

  inside : {G : List Ty} {A : Ty} {k : List ℕ} (mk : Making) (h : Head ℕ) (ts us : Terms ℕ (List ℕ)) → head_type sg G h ≡ Some A → ((m : Sign) → mk ≡ by_mark m → A ≡ arrow prop prop)
      → TakeType sg G ts A (kind k) → TakeType sg G us A (kind k) → HasType sg G (unmarked mk h ts us) (kind k)
  inside by_head h ts us e by d f = typed_spine e d
  inside by_scope h ts us e by d f = typed_spine e f
  inside by_parts h ts us e by d f = typed_spine e f
  inside (by_mark m) h no_terms us e by d f = typed_spine e f
  inside (by_mark m) h (term t ts) us e by d f = first_typed (by m refl) d

  mutual
    pub erased_typed : {G : List Ty} {t : Read} {A : Ty} → HasType sg G t A → HasType sg G (erased t) A
    erased_typed (typed_lam d) = typed_lam (erased_typed d)
    erased_typed {G} (typed_spine {A = A} {h = h} {ts = ts} e d) = inside (making_of h) h ts (erased_all ts) e (λ m by. mark_type G h m A by e) d (all_typed d)

    all_typed : {G : List Ty} {ts : Terms ℕ (List ℕ)} {A B : Ty} → TakeType sg G ts A B → TakeType sg G (erased_all ts) A B
    all_typed take_none = take_none
    all_typed (take_term d ds) = take_term (erased_typed d) (all_typed ds)

-- nothing stands in it that didn't before
module _ (P : Head ℕ → Type 0) where
  mutual
    pub erased_has : (t : Read) → Has P t → Has P (erased t)
    erased_has (lam A x t) p = erased_has t p
    erased_has (spine h ts) p = inside_has (making_of h) h ts (erased_all ts) p (erased_all_have ts p.1)

    inside_has : (m : Making) (h : Head ℕ) (ts us : Terms ℕ (List ℕ)) → Has P (spine h ts) → AllHave P us → Has P (unmarked m h ts us)
    inside_has by_head h ts us p q = p
    inside_has by_scope h ts us p q = (p.0, q)
    inside_has by_parts h ts us p q = (p.0, q)
    inside_has (by_mark m) h no_terms us p q = (p.0, q)
    inside_has (by_mark m) h (term t ts) us p q = p.1.0

    erased_all_have : (ts : Terms ℕ (List ℕ)) → AllHave P ts → AllHave P (erased_all ts)
    erased_all_have no_terms p = tt
    erased_all_have (term t ts) p = (erased_has t p.0, erased_all_have ts p.1)

rename_head_variables : (m : Nominal → Nominal) (h : Head ℕ) → variables_of_head (rename_head m h) ≡ variables_of_head h
rename_head_variables m (constant c) = refl
rename_head_variables m (logical l) = refl
rename_head_variables m (nominal a) = refl
rename_head_variables m (variable y) = refl
rename_head_variables m (index i) = refl

mutual
  pub variables_rename : (m : Nominal → Nominal) (t : Read) → variables (rename m t) ≡ variables t
  variables_rename m (lam A x t) = variables_rename m t
  variables_rename m (spine h ts) = ap (λ l. l ++ variables_of_all (rename_all m ts)) (rename_head_variables m h) ∙ ap (λ l. variables_of_head h ++ l) (variables_rename_all m ts)

  variables_rename_all : (m : Nominal → Nominal) (ts : Terms ℕ (List ℕ)) → variables_of_all (rename_all m ts) ≡ variables_of_all ts
  variables_rename_all m no_terms = refl
  variables_rename_all m (term t ts) = ap (λ l. l ++ variables_of_all (rename_all m ts)) (variables_rename m t) ∙ ap (λ l. variables t ++ l) (variables_rename_all m ts)

pub first_made : (f : Put) (t u : Read) (ts us : Terms ℕ (List ℕ)) → MakesAll f (term t ts) (term u us) → Makes f t u
first_made f t u ts us e = cc

pub rest_made : (f : Put) (t u : Read) (ts us : Terms ℕ (List ℕ)) → MakesAll f (term t ts) (term u us) → MakesAll f ts us
rest_made f t u ts us e = cc

-- A GUESS goes through
module _ (f : Put) where
  logical_erased : (l : Logical) (ts us : Terms ℕ (List ℕ)) → AllStandIn (places_of_constant l) ts → MakesAll f ts us → (AllStandIn a_formula ts → MakesAll f (erased_all ts) (erased_all us)) → (AllStandIn a_scope ts → MakesAll f (erased_all ts) (erased_all us)) → Makes f (erased (spine (logical l) ts)) (erased (spine (logical l) us))
  logical_erased conjunction ts us s r both scope = ap (spine (logical conjunction)) (both s)
  logical_erased disjunction ts us s r both scope = ap (spine (logical disjunction)) (both s)
  logical_erased implication ts us s r both scope = ap (spine (logical implication)) (both s)
  logical_erased (universal A) ts us s r both scope = ap (spine (logical (universal A))) (scope s)
  logical_erased (existential A) ts us s r both scope = ap (spine (logical (existential A))) (scope s)
  logical_erased (nabla A) ts us s r both scope = ap (spine (logical (nabla A))) (scope s)
  logical_erased (star i) no_terms no_terms s r both scope = refl
  logical_erased (star i) no_terms (term u us) s r both scope = absurd (cc)
  logical_erased (star i) (term t ts) no_terms s r both scope = absurd (cc)
  logical_erased (star i) (term t ts) (term u us) s r both scope = first_made f t u ts us r
  logical_erased (at_sign i) no_terms no_terms s r both scope = refl
  logical_erased (at_sign i) no_terms (term u us) s r both scope = absurd (cc)
  logical_erased (at_sign i) (term t ts) no_terms s r both scope = absurd (cc)
  logical_erased (at_sign i) (term t ts) (term u us) s r both scope = first_made f t u ts us r
  logical_erased (plus i) no_terms no_terms s r both scope = refl
  logical_erased (plus i) no_terms (term u us) s r both scope = absurd (cc)
  logical_erased (plus i) (term t ts) no_terms s r both scope = absurd (cc)
  logical_erased (plus i) (term t ts) (term u us) s r both scope = first_made f t u ts us r
  logical_erased (hash i) no_terms no_terms s r both scope = refl
  logical_erased (hash i) no_terms (term u us) s r both scope = absurd (cc)
  logical_erased (hash i) (term t ts) no_terms s r both scope = absurd (cc)
  logical_erased (hash i) (term t ts) (term u us) s r both scope = first_made f t u ts us r
  logical_erased l ts us s r both scope = ap (spine (logical l)) r

  mutual
    pub makes_erased : (C H : Read) → StandsIn a_formula C → Makes f C H → Makes f (erased C) (erased H)
    makes_erased (lam A x t) H s e = absurd s
    makes_erased (spine (variable y) ts) H s e = absurd s.0
    makes_erased (spine (index i) ts) H s e = absurd s.0
    makes_erased (spine (constant c) ts) H s e = let b = begins_constant c (image_all_by f (forget_all ts)) H e in subst (λ K. Makes f (spine (constant c) ts) (erased K)) (sym b.1) (ap (spine (constant c)) b.2)
    makes_erased (spine (nominal a) ts) H s e = let b = begins_nominal a (image_all_by f (forget_all ts)) H e in subst (λ K. Makes f (spine (nominal a) ts) (erased K)) (sym b.1) (ap (spine (nominal a)) b.2)
    makes_erased (spine (logical l) ts) H s e = let b = begins_logical l (image_all_by f (forget_all ts)) H e in subst (λ K. Makes f (erased (spine (logical l) ts)) (erased K)) (sym b.1) (logical_erased l ts b.0 s.1 b.2 (λ k. all_erased ts b.0 k b.2) (λ k. scopes_erased ts b.0 k b.2))

    all_erased : (ts us : Terms ℕ (List ℕ)) → AllStandIn a_formula ts → MakesAll f ts us → MakesAll f (erased_all ts) (erased_all us)
    all_erased no_terms no_terms s r = refl
    all_erased no_terms (term u us) s r = absurd (cc)
    all_erased (term t ts) no_terms s r = absurd (cc)
    all_erased (term t ts) (term u us) s r = ap (λ v. term v (image_all_by f (forget_all (erased_all ts)))) (makes_erased t u s.0 (first_made f t u ts us r)) ∙ ap (term (forget (erased u))) (all_erased ts us s.1 (rest_made f t u ts us r))

    scopes_erased : (ts us : Terms ℕ (List ℕ)) → AllStandIn a_scope ts → MakesAll f ts us → MakesAll f (erased_all ts) (erased_all us)
    scopes_erased no_terms no_terms s r = refl
    scopes_erased no_terms (term u us) s r = absurd (cc)
    scopes_erased (term t ts) no_terms s r = absurd (cc)
    scopes_erased (term (spine h vs) ts) (term u us) s r = absurd s.0
    scopes_erased (term (lam A x t) ts) (term u us) s r =
        let b = abstraction u (first_made f (lam A x t) u ts us r) in
        subst (λ k. MakesAll f (erased_all (term (lam A x t) ts)) (erased_all (term k us))) (sym b.2)
        (ap (λ v. term (lam A tt v) (image_all_by f (forget_all (erased_all ts)))) (makes_erased t b.1 s.0 b.3) ∙ ap (term (forget (erased (lam A b.0 b.1)))) (scopes_erased ts us s.1 (rest_made f (lam A x t) u ts us r)))

  -- and leaves the marks
  parts_same : (h : Head ℕ) (ts us : Terms ℕ (List ℕ)) (ms : List Marks) → marks_made by_parts h ts ms ≡ marks_made by_parts h us ms
  parts_same h ts us [] = refl
  parts_same h ts us (m ∷ []) = refl
  parts_same h ts us (m ∷ n ∷ []) = refl
  parts_same h ts us (m ∷ n ∷ k ∷ ms) = refl

  scope_same : (h : Head ℕ) (ts us : Terms ℕ (List ℕ)) (ms : List Marks) → marks_made by_scope h ts ms ≡ marks_made by_scope h us ms
  scope_same h ts us [] = refl
  scope_same h ts us (m ∷ []) = refl
  scope_same h ts us (m ∷ n ∷ ms) = refl

  -- at a mark stands an atom or a judgement
  atom_marks : (m : Sign) (t u : Read) → StandsIn a_marked t → Makes f t u → marked m t ≡ marked m u
  atom_marks m (lam A x t) u s e = absurd s
  atom_marks m (spine (variable y) ts) u s e = absurd s
  atom_marks m (spine (index i) ts) u s e = absurd s
  atom_marks m (spine (constant c) ts) u s e = let b = begins_constant c (image_all_by f (forget_all ts)) u e in ap (marked m) (sym b.1)
  atom_marks m (spine (nominal a) ts) u s e = let b = begins_nominal a (image_all_by f (forget_all ts)) u e in ap (marked m) (sym b.1)
  atom_marks m (spine (logical l) ts) u s e = let b = begins_logical l (image_all_by f (forget_all ts)) u e in ap (marked m) (sym b.1)

  logical_marks : (l : Logical) (ts us : Terms ℕ (List ℕ)) → AllStandIn (places_of_constant l) ts → MakesAll f ts us → (AllStandIn a_formula ts → marks_of_all ts ≡ marks_of_all us) → (AllStandIn a_scope ts → marks_of_all ts ≡ marks_of_all us) → marks_of (spine (logical l) ts) ≡ marks_of (spine (logical l) us)
  logical_marks conjunction ts us s r both scope = ap (marks_made by_parts (logical conjunction) ts) (both s) ∙ parts_same (logical conjunction) ts us (marks_of_all us)
  logical_marks disjunction ts us s r both scope = ap (marks_made by_parts (logical disjunction) ts) (both s) ∙ parts_same (logical disjunction) ts us (marks_of_all us)
  logical_marks implication ts us s r both scope = ap (marks_made by_parts (logical implication) ts) (both s) ∙ parts_same (logical implication) ts us (marks_of_all us)
  logical_marks (universal A) ts us s r both scope = ap (marks_made by_scope (logical (universal A)) ts) (scope s) ∙ scope_same (logical (universal A)) ts us (marks_of_all us)
  logical_marks (existential A) ts us s r both scope = ap (marks_made by_scope (logical (existential A)) ts) (scope s) ∙ scope_same (logical (existential A)) ts us (marks_of_all us)
  logical_marks (nabla A) ts us s r both scope = ap (marks_made by_scope (logical (nabla A)) ts) (scope s) ∙ scope_same (logical (nabla A)) ts us (marks_of_all us)
  logical_marks (star i) no_terms no_terms s r both scope = refl
  logical_marks (star i) no_terms (term u us) s r both scope = absurd (cc)
  logical_marks (star i) (term t ts) no_terms s r both scope = absurd (cc)
  logical_marks (star i) (term t ts) (term u us) s r both scope = atom_marks (signs.star_of i) t u s.0 (first_made f t u ts us r)
  logical_marks (at_sign i) no_terms no_terms s r both scope = refl
  logical_marks (at_sign i) no_terms (term u us) s r both scope = absurd (cc)
  logical_marks (at_sign i) (term t ts) no_terms s r both scope = absurd (cc)
  logical_marks (at_sign i) (term t ts) (term u us) s r both scope = atom_marks (signs.at_of i) t u s.0 (first_made f t u ts us r)
  logical_marks (plus i) no_terms no_terms s r both scope = refl
  logical_marks (plus i) no_terms (term u us) s r both scope = absurd (cc)
  logical_marks (plus i) (term t ts) no_terms s r both scope = absurd (cc)
  logical_marks (plus i) (term t ts) (term u us) s r both scope = atom_marks (signs.plus_of i) t u s.0 (first_made f t u ts us r)
  logical_marks (hash i) no_terms no_terms s r both scope = refl
  logical_marks (hash i) no_terms (term u us) s r both scope = absurd (cc)
  logical_marks (hash i) (term t ts) no_terms s r both scope = absurd (cc)
  logical_marks (hash i) (term t ts) (term u us) s r both scope = atom_marks (signs.hash_of i) t u s.0 (first_made f t u ts us r)
  logical_marks _ ts us s r both scope = refl

  mutual
    pub marks_made_same : (C H : Read) → StandsIn a_formula C → Makes f C H → marks_of C ≡ marks_of H
    marks_made_same (lam A x t) H s e = absurd s
    marks_made_same (spine (variable y) ts) H s e = absurd s.0
    marks_made_same (spine (index i) ts) H s e = absurd s.0
    marks_made_same (spine (constant c) ts) H s e = let b = begins_constant c (image_all_by f (forget_all ts)) H e in ap marks_of (sym b.1)
    marks_made_same (spine (nominal a) ts) H s e = let b = begins_nominal a (image_all_by f (forget_all ts)) H e in ap marks_of (sym b.1)
    marks_made_same (spine (logical l) ts) H s e = let b = begins_logical l (image_all_by f (forget_all ts)) H e in logical_marks l ts b.0 s.1 b.2 (λ k. all_marks ts b.0 k b.2) (λ k. scope_marks ts b.0 k b.2) ∙ ap marks_of (sym b.1)

    all_marks : (ts us : Terms ℕ (List ℕ)) → AllStandIn a_formula ts → MakesAll f ts us → marks_of_all ts ≡ marks_of_all us
    all_marks no_terms no_terms s r = refl
    all_marks no_terms (term u us) s r = absurd (cc)
    all_marks (term t ts) no_terms s r = absurd (cc)
    all_marks (term t ts) (term u us) s r = ap (λ m. m ∷ marks_of_all ts) (marks_made_same t u s.0 (first_made f t u ts us r)) ∙ ap (λ l. marks_of u ∷ l) (all_marks ts us s.1 (rest_made f t u ts us r))

    scope_marks : (ts us : Terms ℕ (List ℕ)) → AllStandIn a_scope ts → MakesAll f ts us → marks_of_all ts ≡ marks_of_all us
    scope_marks no_terms no_terms s r = refl
    scope_marks no_terms (term u us) s r = absurd (cc)
    scope_marks (term t ts) no_terms s r = absurd (cc)
    scope_marks (term (spine h vs) ts) (term u us) s r = absurd s.0
    scope_marks (term (lam A x t) ts) (term u us) s r =
        let b = abstraction u (first_made f (lam A x t) u ts us r) in
        ap (λ m. m ∷ marks_of_all ts) (marks_made_same t b.1 s.0 b.3 ∙ ap marks_of (sym b.2)) ∙ ap (λ l. marks_of u ∷ l) (scope_marks ts us s.1 (rest_made f (lam A x t) u ts us r))
