-- A clause has one meaning at a type, or none for one cause.
use Rattle.std.specs.Prelude.{None, Ok, Err, All, if◌then◌else◌}
use Rattle.std.proofs.Common.{◌≡◌, inl, inr, ℕ, suc, List, [], ◌∷◌, ◌++◌, Bool, true, false, get_or, refl, sym, ◌∙◌, ap, subst, arith}
use Rattle.std.proofs.lemmas.Bool.{cases_lt}
use Rattle.std.proofs.lemmas.List.Elements.{All-nil, All-cons, All-head, All-tail, All-append, All-push}
use Rattle.ab_term.specs.Types.{Ty, prop}
use Rattle.ab_term.specs.Terms.{Head, variable}
use Rattle.ab_term.specs.Typing.{Signature}
use Rattle.ab_term.specs.Beta.{atom, abstraction, application}
use Rattle.ab_grammar.specs.CommandTrees as written
use Rattle.ab_meaning.specs.ResolvedNames.{Name, Resolved}
use Rattle.ab_meaning.specs.Normal.{normal_form}
use Rattle.ab_meaning.specs.Readings.{Raw, Reads, reads_bound, reads_known, reads_free, reads_apply, reads_behind, reads_abs, reads_equal, reads_bind}
use Rattle.ab_meaning.specs.Types.{is_listed}
use Rattle.ab_inference.specs.declared.fault.InferFault.{InferFault}
use Rattle.ab_inference.specs.declared.fault.InferFault.TheVariants.{Unknown, TypeClash, Untyped, Memory}
use Rattle.ab_infer.specs.Occurrences.{free_names, with_name, with_names}
use Rattle.ab_unifiers.specs.Clauses as cases
use Rattle.ab_formulas.specs.Clauses.{Clause}
use Rattle.ab_formulas.specs.CaseClauses.{case_of}
use Rattle.ab_declare.specs.KeptClauses.{kept_clause}
use Rattle.ab_declare.specs.ClauseReadings.{Parts, places_in, ClauseReading, HasOneReading, IsFirstOpen}
use Rattle.ab_declare.specs.ClauseMeanings.{parts_found, body_type, variable_names, variable_from, variables_from, closes_body, numbered_names, IsKeptAs, ClauseMeans, ClauseMeansNothing}
use Rattle.ab_declare.specs.declared.refusal.Refusal.{Refusal}
use Rattle.ab_declare.specs.declared.refusal.Refusal.TheVariants as refusal
use Rattle.ab_declare.specs.Refusals.{here, RefusedFor}

abbrev head_given : Head ℕ → Ty
head_given (variable y) = y.type
head_given _ = prop

-- the type at a name's head or at a binder
abbrev type_given : Raw → Ty
type_given (atom h) = head_given h
type_given (abstraction A x t) = A
type_given (application t u) = prop

abbrev body : Raw → Raw
body (atom h) = atom h
body (abstraction A x t) = t
body (application t u) = u

abbrev function : Raw → Raw
function (atom h) = atom h
function (abstraction A x t) = t
function (application t u) = t

joined_same : (As Bs Cs Ds : List Ty) → As ≡ Cs → Bs ≡ Ds → As ++ Bs ≡ Cs ++ Ds
joined_same As Bs Cs Ds e f = ap (λ l. l ++ Bs) e ∙ ap (λ l. Cs ++ l) f

begun_same : (A C : Ty) (As Cs : List Ty) → A ≡ C → As ≡ Cs → A ∷ As ≡ C ∷ Cs
begun_same A C As Cs e f = ap (λ B. B ∷ As) e ∙ ap (λ l. C ∷ l) f

-- readings that are one term give the same types to binders and free names
module _ (n : ℕ) (names : List Name) where
  given_same : {types others : Name → Ty} {G H : List Ty} {e : Resolved} {t u : Raw} {A B : Ty} {As Bs : List Ty}
      → Reads (variable_from n names) types G e t A As → Reads (variable_from n names) others H e u B Bs → t ≡ u → As ≡ Bs
  given_same (reads_bound h) (reads_bound k) s = refl
  given_same reads_known reads_known s = refl
  given_same (reads_free f) (reads_free f2) s = ap (λ A. A ∷ []) (ap type_given s)
  given_same (reads_apply {As = As} {Bs = Bs} d h) (reads_apply {As = Cs} {Bs = Ds} d2 h2) s =
      joined_same As Bs Cs Ds (given_same d d2 (ap function s)) (given_same h h2 (ap body s))
  given_same (reads_behind {As = As} {Bs = Bs} d h) (reads_behind {As = Cs} {Bs = Ds} d2 h2) s =
      joined_same As Bs Cs Ds (given_same d d2 (ap body s)) (given_same h h2 (ap function s))
  given_same (reads_abs {A = A} {As = As} f d) (reads_abs {A = C} {As = Cs} f2 d2) s = begun_same A C As Cs (ap type_given s) (given_same d d2 (ap body s))
  given_same (reads_equal {As = As} {Bs = Bs} d h) (reads_equal {As = Cs} {Bs = Ds} d2 h2) s =
      joined_same As Bs Cs Ds (given_same d d2 (ap (λ r. body (function r)) s)) (given_same h h2 (ap body s))
  given_same (reads_bind {A = A} {As = As} f k d) (reads_bind {A = C} {As = Cs} f2 k2 d2) s =
      begun_same A C As Cs (ap (λ r. type_given (body r)) s) (given_same d d2 (ap (λ r. body (body r)) s))

  typed_same : {types others : Name → Ty} {G H : List Ty} {e : Resolved} {t u : Raw} {A B : Ty} {As Bs : List Ty}
      → Reads (variable_from n names) types G e t A As → Reads (variable_from n names) others H e u B Bs → t ≡ u → All (λ x. types x ≡ others x) (free_names e)
  typed_same {types = types} {others = others} (reads_bound h) (reads_bound k) s = All-nil (λ x. types x ≡ others x)
  typed_same {types = types} {others = others} reads_known reads_known s = All-nil (λ x. types x ≡ others x)
  typed_same {types = types} {others = others} (reads_free {x = x} f) (reads_free f2) s = All-cons (λ x. types x ≡ others x) x [] (ap type_given s) (All-nil (λ x. types x ≡ others x))
  typed_same {types = types} {others = others} (reads_apply {e = e} {f = f} d h) (reads_apply d2 h2) s =
      All-append (λ x. types x ≡ others x) (free_names e) (free_names f) (typed_same d d2 (ap function s)) (typed_same h h2 (ap body s))
  typed_same {types = types} {others = others} (reads_behind {e = e} {f = f} d h) (reads_behind d2 h2) s =
      All-append (λ x. types x ≡ others x) (free_names e) (free_names f) (typed_same d d2 (ap body s)) (typed_same h h2 (ap function s))
  typed_same (reads_abs f d) (reads_abs f2 d2) s = typed_same d d2 (ap body s)
  typed_same {types = types} {others = others} (reads_equal {e = e} {f = f} d h) (reads_equal d2 h2) s =
      All-append (λ x. types x ≡ others x) (free_names e) (free_names f) (typed_same d d2 (ap (λ r. body (function r)) s)) (typed_same h h2 (ap body s))
  typed_same (reads_bind f k d) (reads_bind f2 k2 d2) s = typed_same d d2 (ap (λ r. body (body r)) s)

all_with : (P : Name → Type 0) (xs ys : List Name) → All P xs → All P ys → All P (with_names xs ys)
all_with P xs [] a b = a
all_with P xs (y ∷ ys) a b = all_with P (with_name xs y) ys (one (is_listed xs y)) (All-tail P y ys b)
  where
    one : (c : Bool) → All P (if c then xs else (xs ++ y ∷ []))
    one true = a
    one false = All-push P xs y a (All-head P y ys b)

variables_same : (n : ℕ) (types others : Name → Ty) (xs : List Name) → All (λ x. types x ≡ others x) xs → variables_from n types xs ≡ variables_from n others xs
variables_same n types others [] all = refl
variables_same n types others (x ∷ xs) all =
    ap (λ A. record { number = n; type = A; hint = x } ∷ variables_from (suc n) types xs) (All-head (λ y. types y ≡ others y) x xs all)
    ∙ ap (λ vs. record { number = n; type = others x; hint = x } ∷ vs) (variables_same (suc n) types others xs (All-tail (λ y. types y ≡ others y) x xs all))

-- WHAT IS KEPT is one
pub one_kept : (sg : Signature) (n : ℕ) (e : Parts) (A B : Ty) (k l : Clause) → IsKeptAs sg n e A B k → IsKeptAs sg n e A B l → k ≡ l
one_kept sg n e A B k l a b =
    let r = a.one.reading in
    let q = b.one.reading in
    let same = b.one.alone r in
    let names = variable_names e in
    let typed = all_with (λ x. r.types x ≡ q.types x) [] (free_names e.head ++ free_names e.body) (All-nil (λ x. r.types x ≡ q.types x))
    (All-append (λ x. r.types x ≡ q.types x) (free_names e.head) (free_names e.body) (typed_same n names r.reads_head q.reads_head same.0) (typed_same n names r.reads_body q.reads_body same.1)) in
    a.is
    ∙ (ap (λ h. kept_clause (closes_body A (normal_form sg [] h)) (variables_from n r.types names) (normal_form sg [] h) (normal_form sg [] r.body)) same.0
    ∙ (ap (λ t. kept_clause (closes_body A (normal_form sg [] q.head)) (variables_from n r.types names) (normal_form sg [] q.head) (normal_form sg [] t)) same.1
    ∙ (ap (λ vs. kept_clause (closes_body A (normal_form sg [] q.head)) vs (normal_form sg [] q.head) (normal_form sg [] q.body)) (variables_same n r.types q.types names typed) ∙ sym b.is)))

pub one_not_several : (n : ℕ) (names : List Name) (e : Parts) (A B : Ty) (p : ℕ) → HasOneReading (variable_from n names) e A B → IsFirstOpen (variable_from n names) e A B p → ⊥
one_not_several n names e A B p one several =
    let d = several.differ in
    let x = one.alone d.one in
    let y = one.alone d.other in
    let first = given_same n names d.one.reads_head d.other.reads_head (x.0 ∙ sym y.0) in
    let second = given_same n names d.one.reads_body d.other.reads_body (x.1 ∙ sym y.1) in
    d.apart (ap (λ l. get_or l several.number prop) (joined_same d.one.in_head d.one.in_body d.other.in_head d.other.in_body first second))

pub one_place : (n : ℕ) (names : List Name) (e : Parts) (A B : Ty) (p q : ℕ) → IsFirstOpen (variable_from n names) e A B p → IsFirstOpen (variable_from n names) e A B q → p ≡ q
one_place n names e A B p q a b =
    let same : a.number ≡ b.number =
    elim (cases_lt a.number b.number) [
      | inl l ↦ absurd (b.first a.number l a.differ)
      | inr g ↦ elim (cases_lt b.number a.number) [ inl l ↦ absurd (a.first b.number l b.differ) | inr k ↦ omega arith ]
    ] in
    a.place_is ∙ ap (λ m. get_or (places_in e) m 0) same ∙ sym b.place_is

module _ (ks : List Name) (sg : Signature) (c : written.Clause) (A : Ty) where
  abbrev B : Ty
  B = body_type A c.body

  one_named : (e f : Parts) → parts_found ks sg c ≡ Ok e → parts_found ks sg c ≡ Ok f → f ≡ e
  one_named e f x y = let both : Ok f ≡ Ok e = sym y ∙ x in cc

  -- what is kept is one clause, and so is what is meant
  pub one_kept_clause : {k l : cases.Clause (List ℕ)} (a : ClauseMeans ks sg c A k) (b : ClauseMeans ks sg c A l) → a.kept ≡ b.kept
  one_kept_clause a b = one_kept sg 0 a.parts A B a.kept b.kept a.reads (subst (λ z. IsKeptAs sg 0 z A B b.kept) (one_named a.parts b.parts a.names b.names) b.reads)

  pub one_meaning : {k l : cases.Clause (List ℕ)} → ClauseMeans ks sg c A k → ClauseMeans ks sg c A l → k ≡ l
  one_meaning a b = a.is ∙ ap case_of (one_kept_clause a b) ∙ sym b.is

  -- IT MEANS SOMETHING, OR NOTHING, for one cause

  pub means_or_not : {k : cases.Clause (List ℕ)} (f : InferFault) (r : Refusal) → ClauseMeans ks sg c A k → ClauseMeansNothing ks sg c A f → RefusedFor f r → ⊥
  means_or_not (Unknown x) r a m is = let bad : Err x ≡ Ok a.parts = sym m ∙ a.names in cc
  means_or_not (TypeClash p) r a (d, y, (none, at)) is = none (subst (λ z. ClauseReading (numbered_names z) z A B) (one_named d a.parts y a.names) a.reads.one.reading)
  means_or_not (Untyped p) r a (d, y, several) is =
      one_not_several 0 (variable_names d) d A B p (subst (λ z. HasOneReading (numbered_names z) z A B) (one_named d a.parts y a.names) a.reads.one) several
  means_or_not (Memory m) r a u is = is

  pub one_cause : (f g : InferFault) (r q : Refusal) → ClauseMeansNothing ks sg c A f → RefusedFor f r → ClauseMeansNothing ks sg c A g → RefusedFor g q → r ≡ q
  one_cause (Unknown x) (Unknown y) r q m is n too =
      let both : Err x ≡ Err y = sym m ∙ n in
      let one : x ≡ y = cc in
      is ∙ ap (λ z. refusal.Unknown z None) one ∙ sym too
  one_cause (Unknown x) (TypeClash p) r q m is (d, y, (none, at)) too = let bad : Err x ≡ Ok d = sym m ∙ y in absurd (cc)
  one_cause (Unknown x) (Untyped p) r q m is (d, y, several) too = let bad : Err x ≡ Ok d = sym m ∙ y in absurd (cc)
  one_cause (TypeClash p) (Unknown x) r q (d, y, (none, at)) is n too = let bad : Err x ≡ Ok d = sym n ∙ y in absurd (cc)
  one_cause (TypeClash p) (TypeClash p2) r q (d, y, (none, at)) is (e, z, (none2, at2)) too = is ∙ ap (λ n. refusal.TypeClash (here n)) (at ∙ sym at2) ∙ sym too
  one_cause (TypeClash p) (Untyped p2) r q (d, y, (none, at)) is (e, z, several) too = absurd (none (subst (λ w. ClauseReading (numbered_names w) w A B) (one_named d e y z) several.differ.one))
  one_cause (Untyped p) (Unknown x) r q (d, y, several) is n too = let bad : Err x ≡ Ok d = sym n ∙ y in absurd (cc)
  one_cause (Untyped p) (TypeClash p2) r q (d, y, several) is (e, z, (none, at)) too = absurd (none (subst (λ w. ClauseReading (numbered_names w) w A B) (one_named e d z y) several.differ.one))
  one_cause (Untyped p) (Untyped p2) r q (d, y, a) is (e, z, b) too =
      is ∙ ap (λ n. refusal.Untyped (here n)) (one_place 0 (variable_names d) d A B p p2 a (subst (λ w. IsFirstOpen (numbered_names w) w A B p2) (one_named d e y z) b)) ∙ sym too
  one_cause (Memory m) g r q u is n too = absurd is
  one_cause (Unknown x) (Memory n) r q m is u too = absurd too
  one_cause (TypeClash p) (Memory n) r q m is u too = absurd too
  one_cause (Untyped p) (Memory n) r q m is u too = absurd too
