-- An expression of a proof command has one meaning, or none for one cause.
use Rattle.std.specs.Prelude.{Ok, Err, map}
use Rattle.std.proofs.Common.{◌≡◌, inl, inr, ℕ, List, [], ◌∷◌, ◌++◌, Some, get_or, refl, sym, ◌∙◌, ap, subst, arith}
use Rattle.std.proofs.lemmas.Bool.{cases_lt}
use Rattle.ab_term.specs.Types.{Ty, prop}
use Rattle.ab_term.specs.Terms.{Head, nominal, Read}
use Rattle.ab_term.specs.Beta.{atom, abstraction, application}
use Rattle.ab_grammar.specs.Tree.{Tree}
use Rattle.ab_formulas.specs.Declarations.{Declarations, signature_in}
use Rattle.ab_formulas.specs.Sequents.{Sequent, goal_names}
use Rattle.ab_meaning.specs.ResolvedNames.{Name, Resolved, places_of}
use Rattle.ab_meaning.specs.Scopes.{Scope, resolved, nominal_number}
use Rattle.ab_meaning.specs.Readings.{Raw, Reads, reads_bound, reads_known, reads_free, reads_apply, reads_behind, reads_abs, reads_equal, reads_bind}
use Rattle.ab_meaning.specs.ReadingCounts.{Reading, IsTheReading, IsFirstOpen}
use Rattle.ab_meaning.specs.Normal.{normal_form}
use Rattle.ab_meaning.specs.Refusals.{Refusal, unknown, type_clash, untyped, clash, no_hypothesis, wrong_shape, mark, no_match, not_pattern, unresolved, names_spent}
use Rattle.ab_meaning.specs.Terms.{made, constant_named, kinds_in, entry_of, scope_of, MeansIn, MeansNothingIn, Means, MeansNothing}
use Rattle.ab_infer.proofs.MeaningNames.{FreeAreNominal, free_are_nominal}

abbrev head_given : Head ℕ → Ty
head_given (nominal a) = a.type
head_given _ = prop

-- the type at a name's head or at a binder
abbrev type_given : Raw → Ty
type_given (atom h) = head_given h
type_given (abstraction A x t) = A
type_given (application t u) = prop

abbrev body : Raw → Raw
body (atom h) = atom h
body (abstraction A x t) = t
body (application t u) = u

abbrev function : Raw → Raw
function (atom h) = atom h
function (abstraction A x t) = t
function (application t u) = t

joined_same : (As Bs Cs Ds : List Ty) → As ≡ Cs → Bs ≡ Ds → As ++ Bs ≡ Cs ++ Ds
joined_same As Bs Cs Ds e f = ap (λ l. l ++ Bs) e ∙ ap (λ l. Cs ++ l) f

begun_same : (A C : Ty) (As Cs : List Ty) → A ≡ C → As ≡ Cs → A ∷ As ≡ C ∷ Cs
begun_same A C As Cs e f = ap (λ B. B ∷ As) e ∙ ap (λ l. C ∷ l) f

free_same : (x : Name) (A B : Ty) (n : ℕ) → nominal_number x ≡ Some n → made x A ≡ made x B → A ≡ B
free_same x A B n e same =
    sym (ap (λ k. head_given (constant_named x k A)) e) ∙ ap head_given same ∙ ap (λ k. head_given (constant_named x k B)) e

given_same : {types others : Name → Ty} {G H : List Ty} {e : Resolved} {t u : Raw} {A B : Ty} {As Bs : List Ty}
    → FreeAreNominal e → Reads made types G e t A As → Reads made others H e u B Bs → t ≡ u → As ≡ Bs
given_same n (reads_bound h) (reads_bound k) s = refl
given_same n reads_known reads_known s = refl
given_same {types = types} {others = others} n (reads_free {x = x} f) (reads_free f2) s = ap (λ A. A ∷ []) (free_same x (types x) (others x) n.0 n.1 (ap head_of s))
  where
    head_of : Raw → Head ℕ
    head_of (atom h) = h
    head_of (abstraction A y t) = nominal (record { number = 0; type = A })
    head_of (application t u) = nominal (record { number = 0; type = prop })
given_same n (reads_apply {As = As} {Bs = Bs} d h) (reads_apply {As = Cs} {Bs = Ds} d2 h2) s =
    joined_same As Bs Cs Ds (given_same n.0 d d2 (ap function s)) (given_same n.1 h h2 (ap body s))
given_same n (reads_behind {As = As} {Bs = Bs} d h) (reads_behind {As = Cs} {Bs = Ds} d2 h2) s =
    joined_same As Bs Cs Ds (given_same n.0 d d2 (ap body s)) (given_same n.1 h h2 (ap function s))
given_same n (reads_abs {A = A} {As = As} f d) (reads_abs {A = C} {As = Cs} f2 d2) s = begun_same A C As Cs (ap type_given s) (given_same n d d2 (ap body s))
given_same n (reads_equal {As = As} {Bs = Bs} d h) (reads_equal {As = Cs} {Bs = Ds} d2 h2) s =
    joined_same As Bs Cs Ds (given_same n.0 d d2 (ap (λ r. body (function r)) s)) (given_same n.1 h h2 (ap body s))
given_same n (reads_bind {A = A} {As = As} f k d) (reads_bind {A = C} {As = Cs} f2 k2 d2) s =
    begun_same A C As Cs (ap (λ r. type_given (body r)) s) (given_same n d d2 (ap (λ r. body (body r)) s))

one_not_several : (e : Resolved) → FreeAreNominal e → (A : Ty) (t : Raw) (p : ℕ) → IsTheReading made e A t → IsFirstOpen made e A p → ⊥
one_not_several e n A t p one several =
    let d = several.differ in
    let same = given_same n d.one.reads d.other.reads (one.alone d.one ∙ sym (one.alone d.other)) in
    d.apart (ap (λ l. get_or l several.number prop) same)

one_place : (e : Resolved) (A : Ty) (p q : ℕ) → IsFirstOpen made e A p → IsFirstOpen made e A q → p ≡ q
one_place e A p q a b =
    let same : a.number ≡ b.number =
    elim (cases_lt a.number b.number) [
      | inl l ↦ absurd (b.first a.number l a.differ)
      | inr g ↦ elim (cases_lt b.number a.number) [ inl l ↦ absurd (a.first b.number l b.differ) | inr k ↦ omega arith ]
    ] in
    a.place_is ∙ ap (λ n. get_or (places_of e) n 0) same ∙ sym b.place_is

-- in a scope in which each name that is free is a nominal name
module _ (D : Declarations) (scope : Scope) (e : Tree) (A : Ty) (all_nominal : (r : Resolved) → resolved scope [] e ≡ Ok r → FreeAreNominal r) where
  one_named : (r q : Resolved) → resolved scope [] e ≡ Ok r → resolved scope [] e ≡ Ok q → q ≡ r
  one_named r q x y = let both : Ok q ≡ Ok r = sym y ∙ x in cc

  pub means_or_not_in : (t : Read) (f : Refusal) → MeansIn D scope e A t → MeansNothingIn scope e A f → ⊥
  means_or_not_in t (unknown x) m n = let clashing : Ok m.named ≡ Err x = sym m.names ∙ n in cc
  means_or_not_in t (type_clash p) m n =
      n.0.2 (subst (λ r. Reading made r A) (sym (one_named m.named n.0.0 m.names n.0.1)) m.reading.reading)
  means_or_not_in t (untyped p) m n =
      one_not_several m.named (all_nominal m.named m.names) A m.raw p m.reading (subst (λ r. IsFirstOpen made r A p) (one_named m.named n.0 m.names n.1) n.2)
  means_or_not_in t (clash x) m n = n
  means_or_not_in t (no_hypothesis x) m n = n
  means_or_not_in t wrong_shape m n = n
  means_or_not_in t mark m n = n
  means_or_not_in t no_match m n = n
  means_or_not_in t (not_pattern i) m n = n
  means_or_not_in t (unresolved x) m n = n
  means_or_not_in t names_spent m n = n

  pub one_meaning_in : (t u : Read) → MeansIn D scope e A t → MeansIn D scope e A u → t ≡ u
  one_meaning_in t u m k =
      let reading = subst (λ r. IsTheReading made r A k.raw) (one_named m.named k.named m.names k.names) k.reading in
      let same : k.raw ≡ m.raw = sym reading.is ∙ m.reading.alone reading.reading in
      m.normal ∙ ap (normal_form (signature_in D) []) (sym same) ∙ sym k.normal

  pub one_cause_in : (f g : Refusal) → MeansNothingIn scope e A f → MeansNothingIn scope e A g → f ≡ g
  one_cause_in (unknown x) (unknown y) m n = let both : Err x ≡ Err y = sym m ∙ n in cc
  one_cause_in (unknown x) (type_clash p) m n = let clashing : Err x ≡ Ok n.0.0 = sym m ∙ n.0.1 in cc
  one_cause_in (unknown x) (untyped p) m n = let clashing : Err x ≡ Ok n.0 = sym m ∙ n.1 in cc
  one_cause_in (type_clash p) (unknown y) m n = let clashing : Err y ≡ Ok m.0.0 = sym n ∙ m.0.1 in cc
  one_cause_in (type_clash p) (type_clash q) m n = ap type_clash (m.1 ∙ sym n.1)
  one_cause_in (type_clash p) (untyped q) m n =
      absurd (m.0.2 (subst (λ r. Reading made r A) (one_named m.0.0 n.0 m.0.1 n.1) n.2.differ.one))
  one_cause_in (untyped p) (unknown y) m n = let clashing : Err y ≡ Ok m.0 = sym n ∙ m.1 in cc
  one_cause_in (untyped p) (type_clash q) m n =
      absurd (n.0.2 (subst (λ r. Reading made r A) (one_named n.0.0 m.0 n.0.1 m.1) m.2.differ.one))
  one_cause_in (untyped p) (untyped q) m n =
      ap untyped (one_place m.0 A p q m.2 (subst (λ r. IsFirstOpen made r A q) (one_named m.0 n.0 m.1 n.1) n.2))
  one_cause_in (clash x) g m n = absurd m
  one_cause_in (no_hypothesis x) g m n = absurd m
  one_cause_in wrong_shape g m n = absurd m
  one_cause_in mark g m n = absurd m
  one_cause_in no_match g m n = absurd m
  one_cause_in (not_pattern i) g m n = absurd m
  one_cause_in (unresolved x) g m n = absurd m
  one_cause_in names_spent g m n = absurd m
  one_cause_in f (clash x) m n = absurd n
  one_cause_in f (no_hypothesis x) m n = absurd n
  one_cause_in f wrong_shape m n = absurd n
  one_cause_in f mark m n = absurd n
  one_cause_in f no_match m n = absurd n
  one_cause_in f (not_pattern i) m n = absurd n
  one_cause_in f (unresolved x) m n = absurd n
  one_cause_in f names_spent m n = absurd n

-- in a goal
module _ (D : Declarations) (s : Sequent) (e : Tree) (A : Ty) where
  all_nominal : (r : Resolved) → resolved (scope_of D s) [] e ≡ Ok r → FreeAreNominal r
  all_nominal r x = free_are_nominal (kinds_in D) (signature_in D) (map entry_of s.variables) (goal_names s) e r x

  pub means_or_not : (t : Read) (f : Refusal) → Means D s e A t → MeansNothing D s e A f → ⊥
  means_or_not = means_or_not_in D (scope_of D s) e A all_nominal

  pub one_meaning : (t u : Read) → Means D s e A t → Means D s e A u → t ≡ u
  one_meaning = one_meaning_in D (scope_of D s) e A all_nominal

  pub one_cause : (f g : Refusal) → MeansNothing D s e A f → MeansNothing D s e A g → f ≡ g
  one_cause = one_cause_in D (scope_of D s) e A all_nominal
