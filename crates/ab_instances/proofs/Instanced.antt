-- A kept clause with terms for its variables and constants for its names is the clause of case analysis, filled with
-- them.
use Rattle.std.proofs.Common.{◌≡◌, ℕ, zero, suc, List, [], ◌∷◌, ◌++◌, map, length, Bool, true, false, cond, Option, Some, codes, refl, sym, ◌∙◌, ap, subst}
use Rattle.std.specs.Prelude.{◌||◌}
use Rattle.std.proofs.lemmas.Bool.{false≢true}
use Rattle.ab_term.specs.Types.{Ty, arrow, prop}
use Rattle.ab_term.specs.Logical.{truth, falsity, conjunction, disjunction, implication, equality, universal, existential, nabla, judgement, focused_judgement, star, at_sign, plus, hash, spec_universal, spec_implication, spec_conjunction}
use Rattle.ab_term.specs.Terms.{Nominal, Variable, constant, logical, nominal, variable, index, Term, lam, spine, Terms, no_terms, term, Read}
use Rattle.ab_term.specs.Typing.{Signature, HasType, TakeType, typed_spine, take_term}
use Rattle.ab_term.specs.Substitution.{shift, substitute}
use Rattle.ab_term.specs.Variables.{Substitution, variables, value_in, image, image_all, image_by, IsTyped}
use Rattle.ab_term.specs.Sameness.{same_numbered, same_number}
use Rattle.ab_term.proofs.Compositions.{image_typed, image-composition, image-instance}
use Rattle.ab_term.proofs.Expansions.{expansion_typed}
use Rattle.ab_term.proofs.Preservation.{instance_typed}
use Rattle.ab_unifiers.specs.Replacements.{Cell, holds}
use Rattle.ab_unifiers.proofs.Agreeing.{image_agrees}
use Rattle.ab_unifiers.specs.Clauses.{Each, numbered, clause_variables, clause_names, put_together, name_term, filled, IsClause, AreFor}
use Rattle.ab_unifiers.specs.Alternatives.{made_terms}
use Rattle.ab_unifiers.specs.Prefixes.{prefix, IsHead, opened, arguments_of, own_terms}
use Rattle.ab_unifiers.proofs.Core.{variables_found, names_found}
use Rattle.ab_unifiers.proofs.Covered.{names_typed}
use Rattle.ab_unifiers.proofs.Lifting.{made_terms_typed}
use Rattle.ab_unifiers.proofs.Past.{own}
use Rattle.ab_unifiers.proofs.Rows as rows
use Rattle.ab_unifiers.proofs.Rows.{each_any, found_has, nothing_found, together_typed}
use Rattle.ab_unifiers.proofs.Unifier as unifier
use Rattle.ab_unifiers.proofs.Unifier.{append-none, from_cells, filled_typed}
use Rattle.ab_formulas.specs.Clauses.{ClauseVariable, Clause}
use Rattle.ab_formulas.specs.CaseClauses.{in_terms, cell_of, case_of, IsWellKept}
use Rattle.ab_instances.proofs.Dressed.{IsDressed, made_dressed, names_dressed, own_becomes}

-- a head, seen as a prefix and an atom
data View {Hint : Type 0} : Term ℕ Hint → Type 0 where
  an_atom : (c : List ℕ) (ts : Terms ℕ Hint) → View (spine (constant c) ts)
  a_nabla : (A B : Ty) (y : Hint) (t : Term ℕ Hint) → View t → View (spine (logical (nabla A)) (term (lam B y t) no_terms))

module _ {Hint : Type 0} where
  view : (t : Term ℕ Hint) → IsHead t → View t
  view (lam A x t) h = absurd h
  view (spine (constant c) ts) h = an_atom c ts
  view (spine (nominal a) ts) h = absurd h
  view (spine (variable y) ts) h = absurd h
  view (spine (index i) ts) h = absurd h
  view (spine (logical truth) ts) h = absurd h
  view (spine (logical falsity) ts) h = absurd h
  view (spine (logical conjunction) ts) h = absurd h
  view (spine (logical disjunction) ts) h = absurd h
  view (spine (logical implication) ts) h = absurd h
  view (spine (logical (equality A)) ts) h = absurd h
  view (spine (logical (universal A)) ts) h = absurd h
  view (spine (logical (existential A)) ts) h = absurd h
  view (spine (logical judgement) ts) h = absurd h
  view (spine (logical focused_judgement) ts) h = absurd h
  view (spine (logical (star i)) ts) h = absurd h
  view (spine (logical (at_sign i)) ts) h = absurd h
  view (spine (logical (plus i)) ts) h = absurd h
  view (spine (logical (hash i)) ts) h = absurd h
  view (spine (logical (spec_universal A)) ts) h = absurd h
  view (spine (logical spec_implication) ts) h = absurd h
  view (spine (logical spec_conjunction) ts) h = absurd h
  view (spine (logical (nabla A)) no_terms) h = absurd h
  view (spine (logical (nabla A)) (term (spine g us) ts)) h = absurd h
  view (spine (logical (nabla A)) (term (lam B x t) (term u us))) h = absurd h
  view (spine (logical (nabla A)) (term (lam B x t) no_terms)) h = a_nabla A B x t (view t h)

  -- substitution and images leave the prefix
  substituted : (A : Ty) {t : Term ℕ Hint} → View t → (u : Term ℕ Hint) (k : ℕ) → View (substitute A u k t) × (prefix (substitute A u k t) ≡ prefix t)
  substituted A (an_atom c ts) u k = (an_atom c _, refl)
  substituted A (a_nabla B C y t v) u k =
      let r = substituted A v (shift zero u) (suc k) in
      (a_nabla B C y (substitute A (shift zero u) (suc k) t) r.0, ap (λ l. record { hint = y; type = B } ∷ l) r.1)

  imaged : (f : Variable ℕ → Option (Term ℕ Hint)) {t : Term ℕ Hint} → View t → View (image_by f t) × (prefix (image_by f t) ≡ prefix t)
  imaged f (an_atom c ts) = (an_atom c _, refl)
  imaged f (a_nabla B C y t v) =
      let r = imaged f v in
      (a_nabla B C y (image_by f t) r.0, ap (λ l. record { hint = y; type = B } ∷ l) r.1)

module _ (sg : Signature) {Hint : Type 0} where
  nabla_scope : {A B : Ty} {y : Hint} {t : Term ℕ Hint} → HasType sg [] (spine (logical (nabla A)) (term (lam B y t) no_terms)) prop → HasType sg [] (lam B y t) (arrow A prop)
  nabla_scope {A = A} {B = B} {y = y} {t = t} (typed_spine e (take_term {A = D} d ds)) = let same : D ≡ arrow A prop = cc in subst (HasType sg [] (lam B y t)) same d

  abbrev AreOf : List (Cell Hint) → List (Term ℕ Hint) → Type 0
  AreOf = Each (λ z u. HasType sg [] u z.type)

  -- without its prefix a head is an atom
  opened_atom : (zs : List (Cell Hint)) {t : Term ℕ Hint} → View t → prefix t ≡ zs → (us : List (Term ℕ Hint)) → AreOf zs us → (c : List ℕ) × (ts : Terms ℕ Hint) × (opened t us ≡ spine (constant c) ts)
  opened_atom [] (an_atom c ts) e [] d = (c, ts, refl)
  opened_atom [] (an_atom c ts) e (u ∷ us) d = absurd d
  opened_atom (z ∷ zs) (an_atom c ts) e us d = absurd (cc)
  opened_atom [] (a_nabla A B y t v) e us d = absurd (cc)
  opened_atom (z ∷ zs) (a_nabla A B y t v) e [] d = absurd d
  opened_atom (z ∷ zs) (a_nabla A B y t v) e (u ∷ us) d =
      let rest : prefix t ≡ zs = cc in
      let r = substituted B v u zero in
      opened_atom zs r.0 (r.1 ∙ rest) us d.1

  module _ (s : Substitution ℕ Hint) (typed : IsTyped sg s) where
    -- an image goes through what is put for the names of a prefix
    opened_image : (zs : List (Cell Hint)) {t : Term ℕ Hint} → View t → prefix t ≡ zs → HasType sg [] t prop → (us : List (Term ℕ Hint)) → AreOf zs us
        → image same_number s (opened t us) ≡ opened (image same_number s t) (map (image same_number s) us)
    opened_image [] (an_atom c ts) e h [] d = refl
    opened_image [] (an_atom c ts) e h (u ∷ us) d = absurd d
    opened_image (z ∷ zs) (an_atom c ts) e h us d = absurd (cc)
    opened_image [] (a_nabla A B y t v) e h us d = absurd (cc)
    opened_image (z ∷ zs) (a_nabla A B y t v) e h [] d = absurd d
    opened_image (z ∷ zs) (a_nabla A B y t v) e h (u ∷ us) d =
        let one : z.type ≡ A = cc in
        let rest : prefix t ≡ zs = cc in
        let r = substituted B v u zero in
        let of : HasType sg [] u A = subst (HasType sg [] u) one d.0 in
        opened_image zs r.0 (r.1 ∙ rest) (instance_typed sg (nabla_scope h) of) us d.1
        ∙ ap (λ w. opened w (map (image same_number s) us)) (image-instance sg same_number s typed (nabla_scope h) of)

  -- what is put in for variables of the list doesn't depend on more pairs
  value_within : (ys : List (Variable ℕ)) (ts : List (Term ℕ Hint)) (q : Substitution ℕ Hint) (R : Variable ℕ → Term ℕ Hint → Type 0) → Each R ys ts → (y : Variable ℕ) → holds ys y ≡ true
      → value_in same_number (put_together ys ts ++ q) y ≡ value_in same_number (put_together ys ts) y
  value_within [] ts q R e y h = absurd (false≢true h)
  value_within (z ∷ ys) [] q R e y h = absurd e
  value_within (z ∷ ys) (t ∷ ts) q R e y h = go (same_numbered z y) h (value_within ys ts q R e.1 y)
    where
      go : (b : Bool) → (b || holds ys y) ≡ true → (holds ys y ≡ true → value_in same_number (put_together ys ts ++ q) y ≡ value_in same_number (put_together ys ts) y)
          → cond b (Some t) (value_in same_number (put_together ys ts ++ q) y) ≡ cond b (Some t) (value_in same_number (put_together ys ts) y)
      go true h rest = refl
      go false h rest = rest h

abbrev x : List ℕ
x = codes "x"

-- the form of each variable becomes the term that is put in for it
becomes : (s : Substitution ℕ (List ℕ)) (ys : List (Variable ℕ)) (ts : List Read) → Each (λ y t. image same_number s (own x y) ≡ t) ys ts → map (image same_number s) (own_terms x ys) ≡ ts
becomes s [] [] e = refl
becomes s [] (t ∷ ts) e = absurd e
becomes s (y ∷ ys) [] e = absurd e
becomes s (y ∷ ys) (t ∷ ts) e = ap (λ l. l ∷ map (image same_number s) (own_terms x ys)) e.0 ∙ ap (λ l. t ∷ l) (becomes s ys ts e.1)

composed : (s : Substitution ℕ (List ℕ)) (k : ℕ) (vs : List ClauseVariable) (ts : List Read) → Each (λ y t. image same_number s (own x y) ≡ t) (numbered k (map cell_of vs)) ts
    → map (λ p. (p.0, image same_number s p.1)) (put_together (map in_terms vs) (own_terms x (numbered k (map cell_of vs)))) ≡ put_together (map in_terms vs) ts
composed s k [] ts e = refl
composed s k (v ∷ vs) [] e = absurd e
composed s k (v ∷ vs) (t ∷ ts) e =
    ap (λ u. (in_terms v, u) ∷ map (λ p. (p.0, image same_number s p.1)) (put_together (map in_terms vs) (own_terms x (numbered (suc k) (map cell_of vs))))) e.0
    ∙ ap (λ l. (in_terms v, t) ∷ l) (composed s (suc k) vs ts e.1)

rekeyed : (R : Ty → Read → Type 0) (k : ℕ) (vs : List ClauseVariable) (ts : List Read) → Each (λ y t. R y.type t) (numbered k (map cell_of vs)) ts → Each (λ y t. R y.type t) (map in_terms vs) ts
rekeyed R k [] [] e = tt
rekeyed R k [] (t ∷ ts) e = absurd e
rekeyed R k (v ∷ vs) [] e = absurd e
rekeyed R k (v ∷ vs) (t ∷ ts) e = (e.0, rekeyed R (suc k) vs ts e.1)

module _ (sg : Signature) where
  owns_typed : (k : ℕ) (vs : List ClauseVariable) → Each (λ y t. HasType sg [] t y.type) (numbered k (map cell_of vs)) (own_terms x (numbered k (map cell_of vs)))
  owns_typed k [] = tt
  owns_typed k (v ∷ vs) = (expansion_typed sg x v.type [] (variable (record { name = k; type = v.type })) refl, owns_typed (suc k) vs)

  names_own_typed : (k : ℕ) (zs : List (Cell (List ℕ))) → AreOf sg zs (own_terms x (numbered k zs))
  names_own_typed k [] = tt
  names_own_typed k (z ∷ zs) = (expansion_typed sg x z.type [] (variable (record { name = k; type = z.type })) refl, names_own_typed (suc k) zs)

  module _ (c : Clause) (kept : IsWellKept sg c) (well : IsClause sg (case_of c)) (n : ℕ) (unchosen names : List Nominal) (fit : map (λ a. a.type) names ≡ map (λ z. z.type) (case_of c).names) where
    abbrev pub made : List Read
    made = made_terms x n unchosen (case_of c).variables

    abbrev pub put : Substitution ℕ (List ℕ)
    put = filled x (case_of c) made names

    -- the terms, put in for the kept clause's own variables
    abbrev pub direct : Substitution ℕ (List ℕ)
    direct = put_together (map in_terms c.variables) made

    abbrev ys : List (Variable ℕ)
    ys = map in_terms c.variables

    abbrev to_own : Substitution ℕ (List ℕ)
    to_own = put_together ys (own_terms x (numbered 0 (case_of c).variables))

    made_for : AreFor sg (clause_variables (case_of c)) made
    made_for = from_cells sg x 0 (case_of c).variables made (made_terms_typed sg x n unchosen (case_of c).variables)

    names_for : AreFor sg (clause_names (case_of c)) (map (name_term x) names)
    names_for = names_typed sg x (length (case_of c).variables) (case_of c).names names fit

    pub put_typed : IsTyped sg put
    put_typed = filled_typed sg x (case_of c) made names made_for names_for

    pub direct_typed : IsTyped sg direct
    direct_typed = together_typed sg ys made (rekeyed (λ A t. HasType sg [] t A) 0 c.variables made made_for)

    to_own_typed : IsTyped sg to_own
    to_own_typed = together_typed sg ys _ (rekeyed (λ A t. HasType sg [] t A) 0 c.variables _ (owns_typed 0 c.variables))

    all_dressed : (y : Variable ℕ) (t : Read) → value_in same_number put y ≡ Some t → IsDressed x t
    all_dressed = found_has (IsDressed x) (clause_variables (case_of c)) made (put_together (clause_names (case_of c)) (map (name_term x) names)) (made_dressed x 0 n unchosen (case_of c).variables)
        (λ y t e. found_has (IsDressed x) (clause_names (case_of c)) (map (name_term x) names) [] (names_dressed x (λ z u. HasType sg [] u z.type) (clause_names (case_of c)) names names_for) (nothing_found (IsDressed x)) y t
        (ap (λ q. value_in same_number q y) (append-none (put_together (clause_names (case_of c)) (map (name_term x) names))) ∙ e))

    become : (zs : List (Variable ℕ)) (ts : List Read) → Each (λ y t. value_in same_number put y ≡ Some t) zs ts → Each (λ y t. image same_number put (own x y) ≡ t) zs ts
    become = rows.each_weaker (λ y t. value_in same_number put y ≡ Some t) (λ y t. image same_number put (own x y) ≡ t) (own_becomes x sg put put_typed all_dressed)

    variables_become : Each (λ y t. image same_number put (own x y) ≡ t) (clause_variables (case_of c)) made
    variables_become = become (clause_variables (case_of c)) made (variables_found sg x (case_of c) made names
        (each_any (λ y t. HasType sg [] t y.type) (clause_variables (case_of c)) made made_for) (each_any (λ y t. HasType sg [] t y.type) (clause_names (case_of c)) (map (name_term x) names) names_for))

    names_become : Each (λ y t. image same_number put (own x y) ≡ t) (clause_names (case_of c)) (map (name_term x) names)
    names_become = become (clause_names (case_of c)) (map (name_term x) names) (names_found sg x (case_of c) made names
        (each_any (λ y t. HasType sg [] t y.type) (clause_variables (case_of c)) made made_for) (each_any (λ y t. HasType sg [] t y.type) (clause_names (case_of c)) (map (name_term x) names) names_for))

    -- one substitution after the other is the direct one
    both : (t : Read) → HasType sg [] t prop → ((y : Variable ℕ) → holds (variables t) y ≡ true → holds ys y ≡ true) → image same_number put (image same_number to_own t) ≡ image same_number direct t
    both t d within =
        sym (image-composition sg same_number to_own to_own_typed put put_typed d)
        ∙ ap (λ l. image same_number (l ++ put) t) (composed put 0 c.variables made variables_become)
        ∙ image_agrees (value_in same_number (direct ++ put)) (value_in same_number direct) t
        (λ y h. value_within sg ys made put (λ y t. HasType sg [] t y.type) (rekeyed (λ A t. HasType sg [] t A) 0 c.variables made made_for) y (within y h))

    -- THE BODY
    pub body_direct : image same_number direct c.body ≡ image same_number put (case_of c).body
    body_direct = sym (both c.body kept.body kept.body_variables)

    abbrev zs : List (Cell (List ℕ))
    zs = prefix c.head

    abbrev own_names : List Read
    own_names = own_terms x (numbered (length (case_of c).variables) zs)

    abbrev atom : Read
    atom = opened (image same_number to_own c.head) own_names

    seen : View (image same_number to_own c.head) × (prefix (image same_number to_own c.head) ≡ zs)
    seen = imaged (value_in same_number to_own) (view c.head kept.is_head)

    is_atom : (p : List ℕ) × (ts : Terms ℕ (List ℕ)) × (atom ≡ spine (constant p) ts)
    is_atom = opened_atom sg zs seen.0 seen.1 own_names (names_own_typed (length (case_of c).variables) zs)

    imaged_atom : image same_number put atom ≡ opened (image same_number direct c.head) (map (name_term x) names)
    imaged_atom =
        opened_image sg put put_typed zs seen.0 seen.1 (image_typed sg same_number to_own to_own_typed kept.head) own_names (names_own_typed (length (case_of c).variables) zs)
        ∙ ap (λ w. opened w (map (image same_number put) own_names)) (both c.head kept.head kept.head_variables)
        ∙ ap (opened (image same_number direct c.head)) (becomes put (clause_names (case_of c)) (map (name_term x) names) names_become)

    through : (a : Read) (p : List ℕ) (ts : Terms ℕ (List ℕ)) → a ≡ spine (constant p) ts → arguments_of (image same_number put a) ≡ image_all same_number put (arguments_of a)
    through a p ts e = ap (λ w. arguments_of (image same_number put w)) e ∙ ap (λ w. image_all same_number put (arguments_of w)) (sym e)

    -- THE ARGUMENTS of the head
    pub arguments_direct : arguments_of (opened (image same_number direct c.head) (map (name_term x) names)) ≡ image_all same_number put (case_of c).arguments
    arguments_direct = ap arguments_of (sym imaged_atom) ∙ through atom is_atom.0 is_atom.1 is_atom.2

    pub body_typed : HasType sg [] (image same_number put (case_of c).body) prop
    body_typed = image_typed sg same_number put put_typed well.body

    pub arguments_typed : (A : Ty) → sg (case_of c).predicate ≡ Some A → TakeType sg [] (image_all same_number put (case_of c).arguments) A prop
    arguments_typed A e =
        let r = unifier.arguments_of sg x (image_typed sg same_number put put_typed well.head) in
        let one : r.0 ≡ A = cc (sym r.1 ∙ e) in
        subst (λ D. TakeType sg [] (image_all same_number put (case_of c).arguments) D prop) one r.2
