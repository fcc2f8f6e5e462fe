-- NO JUDGEMENT IS MARKED `#`: it stays so where terms are put in, in the parts of a formula, and in marked bodies.
use Rattle.std.proofs.Common.{◌≡◌, ℕ, zero, suc, List, [], ◌∷◌, map, filter, Bool, true, false, if◌then◌else◌, Some, None, refl, sym, ◌∙◌, ap, subst, bytes_eq}
use Rattle.std.specs.Prelude.{Contains}
use Rattle.std.proofs.lemmas.Bool.{false≢true}
use Rattle.std.proofs.lemmas.List.Elements.{All-contains, All-filter}
use Rattle.ab_term.specs.Logical as plain
use Rattle.ab_term.specs.Logical.{Logical}
use Rattle.ab_term.specs.Terms.{Nominal, Head, constant, logical, nominal, variable, index, lam, spine, Terms, no_terms, term, Read}
use Rattle.ab_term.specs.Names.{support_of_all}
use Rattle.ab_term.specs.Substitution.{shift, substitute_by, substitute_all_by, reduce, instance}
use Rattle.ab_term.specs.Variables.{Substitution, image}
use Rattle.ab_term.specs.Sameness.{same_number}
use Rattle.ab_term.proofs.Lists.{Contains-from_map}
use Rattle.ab_unifiers.specs.Choices.{in_order, choices}
use Rattle.ab_unifiers.specs.Clauses.{Clause}
use Rattle.ab_unifiers.specs.Member.{before}
use Rattle.ab_unifiers.proofs.Choosing.{gathered_from}
use Rattle.ab_unifiers.proofs.Following as following
use Rattle.ab_formulas.specs.BodyMarks.{with_mark, is_one_of, marked_in}
use Rattle.ab_formulas.specs.Declarations.{Declarations}
use Rattle.ab_formulas.specs.Formulas.{a_formula, a_scope, a_marked, StandsIn, AllStandIn, places_of_constant}
use Rattle.ab_formulas.specs.Forms as forms
use Rattle.ab_formulas.specs.Forms.{Form, form_of, form_alone, form_with, form_between}
use Rattle.ab_formulas.specs.Marks as signs
use Rattle.ab_formulas.specs.Marks.{Sign, Marks, nowhere, marked, by_scope, by_parts, by_mark, marks_made, marks_of, marks_of_all}
use Rattle.ab_theory.specs.Atoms.{Defined, Choice, defined_atom, choices_of}
use Rattle.ab_theory.specs.Judgements.{Judgement, judgement_as, judgement_in, as_judgement}
use Rattle.ab_theory.specs.Opening.{both}
use Rattle.ab_theory.proofs.Sized.{marked_form}
use Rattle.ab_search_trees.specs.Judgements.{judged, layer_of, opened_once}
use Rattle.ab_search_trees.specs.Ways.{unfolds}
use Rattle.ab_search_trees.proofs.Smaller.{form_block}
use Rattle.ab_search_trees.proofs.Unmarked.{marks_made_same}
use Rattle.ab_search_answers.specs.Unmarked.{HoldNoHash, HasNoHash, HaveNoHash}

-- MARKS of terms that differ in what their atoms are given alone

abbrev first_marks : Sign → Terms ℕ (List ℕ) → Marks
first_marks m no_terms = nowhere
first_marks m (term t ts) = marked m t

mark_first : (m : Sign) (h : Head ℕ) (ts : Terms ℕ (List ℕ)) (ms : List Marks) → marks_made (by_mark m) h ts ms ≡ first_marks m ts
mark_first m h no_terms ms = refl
mark_first m h (term t ts) ms = refl

parts_same : (h : Head ℕ) (ts us : Terms ℕ (List ℕ)) (ms : List Marks) → marks_made by_parts h ts ms ≡ marks_made by_parts h us ms
parts_same h ts us [] = refl
parts_same h ts us (m ∷ []) = refl
parts_same h ts us (m ∷ n ∷ []) = refl
parts_same h ts us (m ∷ n ∷ k ∷ ms) = refl

scope_same : (h : Head ℕ) (ts us : Terms ℕ (List ℕ)) (ms : List Marks) → marks_made by_scope h ts ms ≡ marks_made by_scope h us ms
scope_same h ts us [] = refl
scope_same h ts us (m ∷ []) = refl
scope_same h ts us (m ∷ n ∷ ms) = refl

module _ (ts us : Terms ℕ (List ℕ)) (parts : AllStandIn a_formula ts → marks_of_all us ≡ marks_of_all ts) (scopes : AllStandIn a_scope ts → marks_of_all us ≡ marks_of_all ts) (firsts : AllStandIn a_marked ts → (m : Sign) → first_marks m us ≡ first_marks m ts) where
  by_parts_same : (l : Logical) → AllStandIn a_formula ts → marks_made by_parts (logical l) us (marks_of_all us) ≡ marks_made by_parts (logical l) ts (marks_of_all ts)
  by_parts_same l s = ap (marks_made by_parts (logical l) us) (parts s) ∙ parts_same (logical l) us ts (marks_of_all ts)

  by_scope_same : (l : Logical) → AllStandIn a_scope ts → marks_made by_scope (logical l) us (marks_of_all us) ≡ marks_made by_scope (logical l) ts (marks_of_all ts)
  by_scope_same l s = ap (marks_made by_scope (logical l) us) (scopes s) ∙ scope_same (logical l) us ts (marks_of_all ts)

  by_mark_same : (m : Sign) (l : Logical) → AllStandIn a_marked ts → marks_made (by_mark m) (logical l) us (marks_of_all us) ≡ marks_made (by_mark m) (logical l) ts (marks_of_all ts)
  by_mark_same m l s = mark_first m (logical l) us (marks_of_all us) ∙ firsts s m ∙ sym (mark_first m (logical l) ts (marks_of_all ts))

  logical_marks : (l : Logical) → AllStandIn (places_of_constant l) ts → marks_of (spine (logical l) us) ≡ marks_of (spine (logical l) ts)
  logical_marks plain.conjunction s = by_parts_same plain.conjunction s
  logical_marks plain.disjunction s = by_parts_same plain.disjunction s
  logical_marks plain.implication s = by_parts_same plain.implication s
  logical_marks (plain.universal A) s = by_scope_same (plain.universal A) s
  logical_marks (plain.existential A) s = by_scope_same (plain.existential A) s
  logical_marks (plain.nabla A) s = by_scope_same (plain.nabla A) s
  logical_marks (plain.star i) s = by_mark_same (signs.star_of i) (plain.star i) s
  logical_marks (plain.at_sign i) s = by_mark_same (signs.at_of i) (plain.at_sign i) s
  logical_marks (plain.plus i) s = by_mark_same (signs.plus_of i) (plain.plus i) s
  logical_marks (plain.hash i) s = by_mark_same (signs.hash_of i) (plain.hash i) s
  logical_marks _ s = refl

-- a term is put in for a bound name
module _ (apply : Read → Terms ℕ (List ℕ) → Read) where
  substitute_first : (u : Read) (k : ℕ) (ts : Terms ℕ (List ℕ)) → AllStandIn a_marked ts → (m : Sign) → first_marks m (substitute_all_by apply u k ts) ≡ first_marks m ts
  substitute_first u k no_terms s m = refl
  substitute_first u k (term (lam A x t) ts) s m = refl
  substitute_first u k (term (spine (constant c) vs) ts) s m = refl
  substitute_first u k (term (spine (nominal a) vs) ts) s m = refl
  substitute_first u k (term (spine (logical l) vs) ts) s m = refl
  substitute_first u k (term (spine (variable y) vs) ts) s m = absurd s.0
  substitute_first u k (term (spine (index i) vs) ts) s m = absurd s.0

  mutual
    substitute_marks : (u : Read) (k : ℕ) (t : Read) → StandsIn a_formula t → marks_of (substitute_by apply u k t) ≡ marks_of t
    substitute_marks u k (lam A x t) s = absurd s
    substitute_marks u k (spine (constant c) ts) s = refl
    substitute_marks u k (spine (nominal a) ts) s = refl
    substitute_marks u k (spine (variable y) ts) s = absurd s.0
    substitute_marks u k (spine (index i) ts) s = absurd s.0
    substitute_marks u k (spine (logical l) ts) s = logical_marks ts (substitute_all_by apply u k ts) (substitute_parts u k ts) (substitute_scopes u k ts) (substitute_first u k ts) l s.1

    substitute_parts : (u : Read) (k : ℕ) (ts : Terms ℕ (List ℕ)) → AllStandIn a_formula ts → marks_of_all (substitute_all_by apply u k ts) ≡ marks_of_all ts
    substitute_parts u k no_terms s = refl
    substitute_parts u k (term t ts) s = ap (λ m. m ∷ marks_of_all (substitute_all_by apply u k ts)) (substitute_marks u k t s.0) ∙ ap (λ ms. marks_of t ∷ ms) (substitute_parts u k ts s.1)

    substitute_scopes : (u : Read) (k : ℕ) (ts : Terms ℕ (List ℕ)) → AllStandIn a_scope ts → marks_of_all (substitute_all_by apply u k ts) ≡ marks_of_all ts
    substitute_scopes u k no_terms s = refl
    substitute_scopes u k (term (spine h vs) ts) s = absurd s.0
    substitute_scopes u k (term (lam A x t) ts) s = ap (λ m. m ∷ marks_of_all (substitute_all_by apply u k ts)) (substitute_marks (shift zero u) (suc k) t s.0) ∙ ap (λ ms. marks_of t ∷ ms) (substitute_scopes u k ts s.1)

pub instance_none : (F u : Read) → StandsIn a_scope F → HasNoHash F → HasNoHash (instance F u)
instance_none (lam A x t) u s n = subst HoldNoHash (sym (substitute_marks (reduce A) u zero t s)) n
instance_none (spine h ts) u s n = absurd s

-- terms are put in for variables
pub image_none : (r : Substitution ℕ (List ℕ)) (F : Read) → StandsIn a_formula F → HasNoHash F → HasNoHash (image same_number r F)
image_none r F s n = subst HoldNoHash (marks_made_same (following.plain r) F (image same_number r F) s (sym (following.image_plain r F))) n

-- PARTS
abbrev pub PartsNone : Form → Type 0
PartsNone (forms.both A B) = HasNoHash A × HasNoHash B
PartsNone (forms.either A B) = HasNoHash A × HasNoHash B
PartsNone (forms.implies A B) = HasNoHash A × HasNoHash B
PartsNone (forms.for_all A F) = HasNoHash F
PartsNone (forms.exists A F) = HasNoHash F
PartsNone (forms.nabla A F) = HasNoHash F
PartsNone _ = Unit {0}

alone_none : (l : Logical) → PartsNone (form_alone l)
alone_none plain.truth = tt
alone_none plain.falsity = tt
alone_none _ = tt

with_none : (l : Logical) (t : Read) → HasNoHash (spine (logical l) (term t no_terms)) → PartsNone (form_with l t)
with_none (plain.universal A) t n = n
with_none (plain.existential A) t n = n
with_none (plain.nabla A) t n = n
with_none (plain.star i) t n = tt
with_none (plain.at_sign i) t n = tt
with_none (plain.plus i) t n = tt
with_none (plain.hash i) t n = tt
with_none _ t n = tt

between_none : (l : Logical) (t u : Read) → HasNoHash (spine (logical l) (term t (term u no_terms))) → PartsNone (form_between l t u)
between_none plain.conjunction t u n = n
between_none plain.disjunction t u n = n
between_none plain.implication t u n = n
between_none (plain.equality A) t u n = tt
between_none _ t u n = tt

pub parts_none : (C : Read) → HasNoHash C → PartsNone (form_of C)
parts_none (lam A x t) n = tt
parts_none (spine (constant c) ts) n = tt
parts_none (spine (nominal a) ts) n = tt
parts_none (spine (variable y) ts) n = tt
parts_none (spine (index i) ts) n = tt
parts_none (spine (logical l) no_terms) n = alone_none l
parts_none (spine (logical l) (term t no_terms)) n = with_none l t n
parts_none (spine (logical l) (term t (term u no_terms))) n = between_none l t u n
parts_none (spine (logical l) (term t (term u (term v ts)))) n = tt

-- A LAYER
layer_none : (L G F : Read) → layer_of L G ≡ Some F → HasNoHash F
layer_none L (spine (logical plain.spec_conjunction) (term A (term B no_terms))) F e = let same : both (judged L A) (judged L B) ≡ F = cc in subst HasNoHash same (tt, tt)
layer_none L (spine (logical plain.spec_implication) (term A (term B no_terms))) F e = let same : judged (before A L) B ≡ F = cc in subst HasNoHash same tt
layer_none L (spine (logical (plain.spec_universal A)) (term (lam B x G) no_terms)) F e = let same : spine (logical (plain.nabla A)) (term (lam A x (judged (shift zero L) G)) no_terms) ≡ F = cc in subst HasNoHash same tt
layer_none L _ F e = absurd (cc)

pub opened_none : (C F : Read) → opened_once C ≡ Some F → HasNoHash F
opened_none (spine (logical plain.judgement) (term L (term G no_terms))) F e = layer_none L G F e
opened_none _ F e = absurd (cc)

-- A BODY OF A CLAUSE, marked
module _ (ps : List (List ℕ)) (m : Sign) where
  atom_none : (k : Sign) (c : List ℕ) (ts : Terms ℕ (List ℕ)) → HasNoHash (with_mark k (spine (constant c) ts))
  atom_none signs.plain c ts = tt
  atom_none (signs.star_of i) c ts = tt
  atom_none (signs.at_of i) c ts = tt
  atom_none (signs.plus_of i) c ts = tt
  atom_none (signs.hash_of i) c ts = tt

  if_none : (b : Bool) (c : List ℕ) (ts : Terms ℕ (List ℕ)) → HasNoHash (if b then with_mark m (spine (constant c) ts) else spine (constant c) ts)
  if_none true c ts = atom_none m c ts
  if_none false c ts = tt

  pub marked_none : (C : Read) → StandsIn a_formula C → HasNoHash C → HasNoHash (marked_in ps m C)
  marked_none (lam A x t) s n = absurd s
  marked_none (spine (variable y) ts) s n = absurd s.0
  marked_none (spine (index i) ts) s n = absurd s.0
  marked_none (spine (constant c) ts) s n = if_none (is_one_of ps (constant c)) c ts
  marked_none (spine (nominal a) ts) s n = tt
  marked_none (spine (logical plain.conjunction) (term t (term u no_terms))) s n = (marked_none t s.1.0 n.0, marked_none u s.1.1.0 n.1)
  marked_none (spine (logical plain.disjunction) (term t (term u no_terms))) s n = (marked_none t s.1.0 n.0, marked_none u s.1.1.0 n.1)
  marked_none (spine (logical plain.implication) (term t (term u no_terms))) s n = (marked_none t s.1.0 n.0, marked_none u s.1.1.0 n.1)
  marked_none (spine (logical (plain.universal A)) (term (lam B x t) no_terms)) s n = marked_none t s.1.0 n
  marked_none (spine (logical (plain.existential A)) (term (lam B x t) no_terms)) s n = marked_none t s.1.0 n
  marked_none (spine (logical (plain.nabla A)) (term (lam B x t) no_terms)) s n = marked_none t s.1.0 n
  marked_none (spine (logical (plain.universal A)) (term (spine h vs) no_terms)) s n = absurd s.1.0
  marked_none (spine (logical (plain.existential A)) (term (spine h vs) no_terms)) s n = absurd s.1.0
  marked_none (spine (logical (plain.nabla A)) (term (spine h vs) no_terms)) s n = absurd s.1.0
  marked_none (spine (logical l) ts) s n = n

-- the clause of a choice is one of the definition
pub choice_none : (D : Declarations) → HaveNoHash D → (C : Read) (d : Defined) → defined_atom D C ≡ Some d → (held : List Nominal) (c : Choice) → Contains (choices_of held d) c → HasNoHash c.clause.body
choice_none D none C d e held c m =
    let b = form_block D (form_of C) C d e in
    let P : Clause (List ℕ) → Type 0 = λ k. HasNoHash k.body in
    let found = gathered_from (λ k. map (λ ns. record { clause = k; names = ns }) (choices (map (λ z. z.type) k.names) (in_order (support_of_all d.arguments)) held)) (filter (λ k. bytes_eq k.predicate d.predicate) d.block.clauses) c m in
    let made = Contains-from_map (λ ns. record { clause = found.0; names = ns }) (choices (map (λ z. z.type) (found.0).names) (in_order (support_of_all d.arguments)) held) c found.2 in
    let is : P found.0 = All-contains P (filter (λ k. bytes_eq k.predicate d.predicate) d.block.clauses) found.0 (All-filter (λ k. bytes_eq k.predicate d.predicate) P d.block.clauses (none b.0 d.block b.1)) found.1 in
    subst P (ap (λ k. k.clause) made.2) is

-- SO A JUDGEMENT that may be unfolded is unmarked
sign_plain : (m : Sign) (A : Read) (j : Judgement) → judgement_as m A ≡ Some j → HasNoHash (with_mark m A) → unfolds j.sign ≡ true → j.sign ≡ signs.plain
sign_plain m (spine (logical plain.judgement) (term L (term G no_terms))) j e n u =
    let made : Judgement = record { sign = m; context = L; focus = None; goal = G } in
    let same : made ≡ j = cc in
    sym (ap (λ (k : Judgement). k.sign) same) ∙ go m n (subst (λ (k : Judgement). unfolds k.sign ≡ true) (sym same) u)
  where
    go : (m : Sign) → HasNoHash (with_mark m (spine (logical plain.judgement) (term L (term G no_terms)))) → unfolds m ≡ true → m ≡ signs.plain
    go signs.plain n u = refl
    go (signs.hash_of i) n u = absurd n
    go (signs.star_of i) n u = absurd (false≢true u)
    go (signs.at_of i) n u = absurd (false≢true u)
    go (signs.plus_of i) n u = absurd (false≢true u)
sign_plain m (spine (logical plain.focused_judgement) (term L (term F (term A no_terms)))) j e n u =
    let made : Judgement = record { sign = m; context = L; focus = Some F; goal = A } in
    let same : made ≡ j = cc in
    sym (ap (λ (k : Judgement). k.sign) same) ∙ go m n (subst (λ (k : Judgement). unfolds k.sign ≡ true) (sym same) u)
  where
    go : (m : Sign) → HasNoHash (with_mark m (spine (logical plain.focused_judgement) (term L (term F (term A no_terms))))) → unfolds m ≡ true → m ≡ signs.plain
    go signs.plain n u = refl
    go (signs.hash_of i) n u = absurd n
    go (signs.star_of i) n u = absurd (false≢true u)
    go (signs.at_of i) n u = absurd (false≢true u)
    go (signs.plus_of i) n u = absurd (false≢true u)
sign_plain m _ j e n u = absurd (cc)

pub unmarked_judgement : (C : Read) (j : Judgement) → as_judgement C ≡ Some j → HasNoHash C → unfolds j.sign ≡ true → j.sign ≡ signs.plain
unmarked_judgement C j e n u = go (form_of C) refl e
  where
    go : (f : Form) → form_of C ≡ f → judgement_in f C ≡ Some j → j.sign ≡ signs.plain
    go (forms.marked m A) q k = sign_plain m A j k (subst HasNoHash (marked_form C m A q).0 n) u
    go forms.other q k = sign_plain signs.plain C j k n u
    go _ q k = absurd (cc)
