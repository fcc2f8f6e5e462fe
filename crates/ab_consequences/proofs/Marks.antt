-- A term that is put for a name leaves the marks of a formula; so the marks that serve a formula's pieces serve what a use makes of them.
use Rattle.std.proofs.Common.{◌≡◌, ℕ, zero, suc, List, [], ◌∷◌, ◌++◌, map, Option, Some, None, refl, sym, ◌∙◌, ap, subst}
use Rattle.ab_term.specs.Types.{Ty}
use Rattle.ab_term.specs.Logical as plain
use Rattle.ab_term.specs.Logical.{Logical, universal, nabla, implication}
use Rattle.ab_term.specs.Terms.{Nominal, Head, constant, logical, nominal, variable, index, lam, spine, Terms, no_terms, term, Read}
use Rattle.ab_term.specs.Typing.{Signature}
use Rattle.ab_term.specs.Substitution.{shift, substitute_by, substitute_all_by, reduce, instance}
use Rattle.ab_formulas.specs.Formulas.{a_formula, a_scope, a_marked, StandsIn, AllStandIn, places_of_constant}
use Rattle.ab_formulas.specs.Marks as signs
use Rattle.ab_formulas.specs.Marks.{Sign, Marks, nowhere, marked, Making, by_head, by_scope, by_parts, by_mark, marks_made, marks_of, marks_of_all, MarksServe, MarksServeIn}
use Rattle.ab_formulas.proofs.Scopes.{instance_stands}
use Rattle.ab_theory.specs.Pieces.{Piece, universal_of, nabla_of, antecedent_of, pieces, behind, Part, variable_for, given_term, constant_for, antecedent, Given, given_for, given_otherwise, part_for, parts, AllServe}
use Rattle.ab_theory.specs.Uses.{with_term, left_side, right_side, Use, used, types_chosen}
use Rattle.ab_consequences.specs.UseStages.{HasParts, has_none, has_variable, has_given, has_constant, has_antecedent}
use Rattle.ab_consequences.specs.UsesFollow.{MarksServeEach}
use Rattle.ab_consequences.proofs.UseStages.{front_put}

abbrev first_marks : Sign → Terms ℕ (List ℕ) → Marks
first_marks m no_terms = nowhere
first_marks m (term t ts) = marked m t

mark_first : (m : Sign) (h : Head ℕ) (ts : Terms ℕ (List ℕ)) (ms : List Marks) → marks_made (by_mark m) h ts ms ≡ first_marks m ts
mark_first m h no_terms ms = refl
mark_first m h (term t ts) ms = refl

parts_same : (h : Head ℕ) (ts us : Terms ℕ (List ℕ)) (ms : List Marks) → marks_made by_parts h ts ms ≡ marks_made by_parts h us ms
parts_same h ts us [] = refl
parts_same h ts us (m ∷ []) = refl
parts_same h ts us (m ∷ n ∷ []) = refl
parts_same h ts us (m ∷ n ∷ k ∷ ms) = refl

scope_same : (h : Head ℕ) (ts us : Terms ℕ (List ℕ)) (ms : List Marks) → marks_made by_scope h ts ms ≡ marks_made by_scope h us ms
scope_same h ts us [] = refl
scope_same h ts us (m ∷ []) = refl
scope_same h ts us (m ∷ n ∷ ms) = refl

module _ (ts us : Terms ℕ (List ℕ)) (parts_are : AllStandIn a_formula ts → marks_of_all us ≡ marks_of_all ts) (scopes : AllStandIn a_scope ts → marks_of_all us ≡ marks_of_all ts) (firsts : AllStandIn a_marked ts → (m : Sign) → first_marks m us ≡ first_marks m ts) where
  by_parts_same : (l : Logical) → AllStandIn a_formula ts → marks_made by_parts (logical l) us (marks_of_all us) ≡ marks_made by_parts (logical l) ts (marks_of_all ts)
  by_parts_same l s = ap (marks_made by_parts (logical l) us) (parts_are s) ∙ parts_same (logical l) us ts (marks_of_all ts)

  by_scope_same : (l : Logical) → AllStandIn a_scope ts → marks_made by_scope (logical l) us (marks_of_all us) ≡ marks_made by_scope (logical l) ts (marks_of_all ts)
  by_scope_same l s = ap (marks_made by_scope (logical l) us) (scopes s) ∙ scope_same (logical l) us ts (marks_of_all ts)

  by_mark_same : (m : Sign) (l : Logical) → AllStandIn a_marked ts → marks_made (by_mark m) (logical l) us (marks_of_all us) ≡ marks_made (by_mark m) (logical l) ts (marks_of_all ts)
  by_mark_same m l s = mark_first m (logical l) us (marks_of_all us) ∙ firsts s m ∙ sym (mark_first m (logical l) ts (marks_of_all ts))

  logical_marks : (l : Logical) → AllStandIn (places_of_constant l) ts → marks_of (spine (logical l) us) ≡ marks_of (spine (logical l) ts)
  logical_marks plain.conjunction s = by_parts_same plain.conjunction s
  logical_marks plain.disjunction s = by_parts_same plain.disjunction s
  logical_marks plain.implication s = by_parts_same plain.implication s
  logical_marks (plain.universal A) s = by_scope_same (plain.universal A) s
  logical_marks (plain.existential A) s = by_scope_same (plain.existential A) s
  logical_marks (plain.nabla A) s = by_scope_same (plain.nabla A) s
  logical_marks (plain.star i) s = by_mark_same (signs.star_of i) (plain.star i) s
  logical_marks (plain.at_sign i) s = by_mark_same (signs.at_of i) (plain.at_sign i) s
  logical_marks (plain.plus i) s = by_mark_same (signs.plus_of i) (plain.plus i) s
  logical_marks (plain.hash i) s = by_mark_same (signs.hash_of i) (plain.hash i) s
  logical_marks _ s = refl

-- a term is put in for a bound name
module _ (apply : Read → Terms ℕ (List ℕ) → Read) where
  substitute_first : (u : Read) (k : ℕ) (ts : Terms ℕ (List ℕ)) → AllStandIn a_marked ts → (m : Sign) → first_marks m (substitute_all_by apply u k ts) ≡ first_marks m ts
  substitute_first u k no_terms s m = refl
  substitute_first u k (term (lam A x t) ts) s m = refl
  substitute_first u k (term (spine (constant c) vs) ts) s m = refl
  substitute_first u k (term (spine (nominal a) vs) ts) s m = refl
  substitute_first u k (term (spine (logical l) vs) ts) s m = refl
  substitute_first u k (term (spine (variable y) vs) ts) s m = absurd s.0
  substitute_first u k (term (spine (index i) vs) ts) s m = absurd s.0

  mutual
    pub substitute_marks : (u : Read) (k : ℕ) (t : Read) → StandsIn a_formula t → marks_of (substitute_by apply u k t) ≡ marks_of t
    substitute_marks u k (lam A x t) s = absurd s
    substitute_marks u k (spine (constant c) ts) s = refl
    substitute_marks u k (spine (nominal a) ts) s = refl
    substitute_marks u k (spine (variable y) ts) s = absurd s.0
    substitute_marks u k (spine (index i) ts) s = absurd s.0
    substitute_marks u k (spine (logical l) ts) s = logical_marks ts (substitute_all_by apply u k ts) (substitute_parts u k ts) (substitute_scopes u k ts) (substitute_first u k ts) l s.1

    substitute_parts : (u : Read) (k : ℕ) (ts : Terms ℕ (List ℕ)) → AllStandIn a_formula ts → marks_of_all (substitute_all_by apply u k ts) ≡ marks_of_all ts
    substitute_parts u k no_terms s = refl
    substitute_parts u k (term t ts) s = ap (λ m. m ∷ marks_of_all (substitute_all_by apply u k ts)) (substitute_marks u k t s.0) ∙ ap (λ ms. marks_of t ∷ ms) (substitute_parts u k ts s.1)

    substitute_scopes : (u : Read) (k : ℕ) (ts : Terms ℕ (List ℕ)) → AllStandIn a_scope ts → marks_of_all (substitute_all_by apply u k ts) ≡ marks_of_all ts
    substitute_scopes u k no_terms s = refl
    substitute_scopes u k (term (spine h vs) ts) s = absurd s.0
    substitute_scopes u k (term (lam A x t) ts) s = ap (λ m. m ∷ marks_of_all (substitute_all_by apply u k ts)) (substitute_marks (shift zero u) (suc k) t s.0) ∙ ap (λ ms. marks_of t ∷ ms) (substitute_scopes u k ts s.1)

-- THE MARKS of the antecedents of a formula that has these parts in front, and of what stands behind them all
abbrev pub marks_in_front : List Part → Read → List Marks
marks_in_front [] F = []
marks_in_front (variable_for x A ∷ ps) (spine h (term (lam B y t) no_terms)) = marks_in_front ps t
marks_in_front (given_term u ∷ ps) (spine h (term (lam B y t) no_terms)) = marks_in_front ps t
marks_in_front (constant_for A ∷ ps) (spine h (term (lam B y t) no_terms)) = marks_in_front ps t
marks_in_front (antecedent ∷ ps) (spine h (term A (term B no_terms))) = marks_of A ∷ marks_in_front ps B
marks_in_front ps F = []

abbrev pub marks_behind : List Part → Read → Marks
marks_behind [] F = marks_of F
marks_behind (variable_for x A ∷ ps) (spine h (term (lam B y t) no_terms)) = marks_behind ps t
marks_behind (given_term u ∷ ps) (spine h (term (lam B y t) no_terms)) = marks_behind ps t
marks_behind (constant_for A ∷ ps) (spine h (term (lam B y t) no_terms)) = marks_behind ps t
marks_behind (antecedent ∷ ps) (spine h (term A (term B no_terms))) = marks_behind ps B
marks_behind ps F = nowhere

abbrev Stands : Read → Type 0
Stands = StandsIn a_formula

-- a term that is put in leaves them
front_marks : (sg : Signature) (apply : Read → Terms ℕ (List ℕ) → Read) (u : Read) (k : ℕ) (ps : List Part) {t : Read} → HasParts sg ps t → Stands t
    → (marks_in_front ps (substitute_by apply u k t) ≡ marks_in_front ps t) × (marks_behind ps (substitute_by apply u k t) ≡ marks_behind ps t)
front_marks sg apply u k [] {t} has_none s = (refl, substitute_marks apply u k t s)
front_marks sg apply u k (variable_for x A ∷ ps) (has_variable h) s = front_marks sg apply _ (suc k) ps h s.1.0
front_marks sg apply u k (given_term v ∷ ps) (has_given d h) s = front_marks sg apply _ (suc k) ps h s.1.0
front_marks sg apply u k (constant_for A ∷ ps) (has_constant h) s = front_marks sg apply _ (suc k) ps h s.1.0
front_marks sg apply u k (antecedent ∷ ps) (has_antecedent {A = A} {B = B} h) s =
    let rest = front_marks sg apply u k ps h s.1.1.0 in
    (ap (λ m. m ∷ marks_in_front ps (substitute_by apply u k B)) (substitute_marks apply u k A s.1.0) ∙ ap (λ l. marks_of A ∷ l) rest.0, rest.1)

none_same : {X : Type 0} {x : X} {xs : List X} → [] ≡ x ∷ xs → ⊥
none_same e = cc

rest_same : {X : Type 0} {x y : X} {xs ys : List X} → x ∷ xs ≡ y ∷ ys → xs ≡ ys
rest_same e = cc

abbrev AreUsed : List Part → Read → Use → Type 0
AreUsed ps F u = (map marks_of u.antecedents ≡ marks_in_front ps F) × (marks_of u.result ≡ marks_behind ps F)

-- what a use takes off has them
pub used_marks : (sg : Signature) (held : List Nominal) (n : ℕ) (ps : List Part) (names : List Nominal) {F : Read} → HasParts sg ps F → Stands F → map (λ (a : Nominal). a.type) names ≡ types_chosen ps → AreUsed ps F (used held n ps names F)
used_marks sg held n [] names has_none s types = (refl, refl)
used_marks sg held n (variable_for x A ∷ ps) names (has_variable {y = y} {t = t} h) s types =
    let a = used_marks sg held (suc n) ps names (front_put sg _ _ 0 h) (instance_stands (lam A y t) _ s.1.0) types in
    let b = front_marks sg _ _ 0 ps h s.1.0 in
    (a.0 ∙ b.0, a.1 ∙ b.1)
used_marks sg held n (given_term u ∷ ps) names (has_given {y = y} {A = A} {t = t} d h) s types =
    let a = used_marks sg held n ps names (front_put sg _ u 0 h) (instance_stands (lam A y t) u s.1.0) types in
    let b = front_marks sg _ u 0 ps h s.1.0 in
    (a.0 ∙ b.0, a.1 ∙ b.1)
used_marks sg held n (constant_for A ∷ ps) [] (has_constant h) s types = absurd (none_same types)
used_marks sg held n (constant_for A ∷ ps) (a ∷ names) (has_constant {y = y} {t = t} h) s types =
    let m = used_marks sg held n ps names (front_put sg _ _ 0 h) (instance_stands (lam A y t) _ s.1.0) (rest_same types) in
    let b = front_marks sg _ _ 0 ps h s.1.0 in
    (m.0 ∙ b.0, m.1 ∙ b.1)
used_marks sg held n (antecedent ∷ ps) names (has_antecedent {A = A} {B = B} h) s types =
    let a = used_marks sg held n ps names h s.1.1.0 types in
    (ap (λ l. marks_of A ∷ l) a.0, a.1)

-- marks that serve one by one
abbrev pub ServeMarks : List Marks → List (Option Read) → Type 0
ServeMarks [] hs = Unit {0}
ServeMarks (m ∷ ms) [] = Unit {0}
ServeMarks (m ∷ ms) (None ∷ hs) = ServeMarks ms hs
ServeMarks (m ∷ ms) (Some G ∷ hs) = MarksServe m (marks_of G) × ServeMarks ms hs

pub serve_each : (As : List Read) (hs : List (Option Read)) → ServeMarks (map marks_of As) hs → MarksServeEach hs As
serve_each [] [] s = tt
serve_each [] (o ∷ hs) s = tt
serve_each (A ∷ As) [] s = tt
serve_each (A ∷ As) (None ∷ hs) s = serve_each As hs s
serve_each (A ∷ As) (Some G ∷ hs) s = (s.0, serve_each As hs s.1)

-- the marks in front of a formula are those of its pieces

front_through : (x : List ℕ) (A : Ty) (o : Option Read) (ps : List Part) (h : Head ℕ) (B : Ty) (y : List ℕ) (t : Read) → marks_in_front (part_for x A o ∷ ps) (spine h (term (lam B y t) no_terms)) ≡ marks_in_front ps t
front_through x A None ps h B y t = refl
front_through x A (Some u) ps h B y t = refl

behind_through : (x : List ℕ) (A : Ty) (o : Option Read) (ps : List Part) (h : Head ℕ) (B : Ty) (y : List ℕ) (t : Read) → marks_behind (part_for x A o ∷ ps) (spine h (term (lam B y t) no_terms)) ≡ marks_behind ps t
behind_through x A None ps h B y t = refl
behind_through x A (Some u) ps h B y t = refl

one_more : (A : Read) (ps : List Piece) (ms : List Marks) (hs : List (Option Read)) → ((js : List (Option Read)) → AllServe ps js → ServeMarks ms js) → AllServe (antecedent_of A ∷ ps) hs → ServeMarks (marks_of A ∷ ms) hs
one_more A ps ms [] rest s = tt
one_more A ps ms (None ∷ hs) rest s = rest hs s
one_more A ps ms (Some G ∷ hs) rest s = (s.0, rest hs s.1)

pub serve_in_front : (n : ℕ) (F : Read) (gs : List Given) (hs : List (Option Read)) → AllServe (pieces n F) hs → ServeMarks (marks_in_front (parts gs (pieces n F)) F) hs
serve_in_front n (spine (logical (universal A)) (term (lam B x t) no_terms)) gs hs s =
    subst (λ ms. ServeMarks ms hs) (sym (front_through x A (given_for x gs) (parts (given_otherwise x gs) (pieces n t)) (logical (universal A)) B x t)) (serve_in_front n t (given_otherwise x gs) hs s)
serve_in_front n (spine (logical (nabla A)) (term (lam B x t) no_terms)) gs hs s = serve_in_front n t gs hs s
serve_in_front zero (spine (logical implication) (term A (term B no_terms))) gs hs s = tt
serve_in_front (suc zero) (spine (logical implication) (term A (term B no_terms))) gs hs s = one_more A [] [] hs (λ js k. tt) s
serve_in_front (suc (suc n)) (spine (logical implication) (term A (term B no_terms))) gs hs s =
    one_more A (pieces (suc n) B) (marks_in_front (parts gs (pieces (suc n) B)) B) hs (λ js k. serve_in_front (suc n) B gs js k) s
serve_in_front n _ gs hs s = tt

pub behind_marks : (n : ℕ) (F : Read) (gs : List Given) → marks_behind (parts gs (pieces n F)) F ≡ marks_of (behind n F)
behind_marks n (spine (logical (universal A)) (term (lam B x t) no_terms)) gs =
    behind_through x A (given_for x gs) (parts (given_otherwise x gs) (pieces n t)) (logical (universal A)) B x t ∙ behind_marks n t (given_otherwise x gs)
behind_marks n (spine (logical (nabla A)) (term (lam B x t) no_terms)) gs = behind_marks n t gs
behind_marks zero (spine (logical implication) (term A (term B no_terms))) gs = refl
behind_marks (suc zero) (spine (logical implication) (term A (term B no_terms))) gs = refl
behind_marks (suc (suc n)) (spine (logical implication) (term A (term B no_terms))) gs = behind_marks (suc n) B gs
behind_marks n _ gs = refl
