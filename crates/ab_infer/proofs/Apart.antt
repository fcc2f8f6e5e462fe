-- Readings of one expression that are one term give the same types to binders and free names, where free names are nominal
-- constants.
use Rattle.std.proofs.Common.{◌≡◌, ℕ, List, [], ◌∷◌, ◌++◌, get_or, refl, sym, ◌∙◌, ap}
use Rattle.ab_term.specs.Types.{Ty, prop}
use Rattle.ab_term.specs.Terms.{Head, nominal}
use Rattle.ab_term.specs.Beta.{atom, abstraction, application}
use Rattle.ab_meaning.specs.ResolvedNames.{Name, Resolved}
use Rattle.ab_meaning.specs.Readings.{Raw, Reads, reads_bound, reads_known, reads_free, reads_apply, reads_behind, reads_abs, reads_equal, reads_bind}
use Rattle.ab_meaning.specs.ReadingCounts.{IsTheReading, IsFirstOpen}
use Rattle.ab_infer.specs.Outcomes.{nominal_of}

abbrev head_given : Head ℕ → Ty
head_given (nominal a) = a.type
head_given _ = prop

-- the type at a name's head or at a binder
abbrev type_given : Raw → Ty
type_given (atom h) = head_given h
type_given (abstraction A x t) = A
type_given (application t u) = prop

abbrev body : Raw → Raw
body (atom h) = atom h
body (abstraction A x t) = t
body (application t u) = u

abbrev function : Raw → Raw
function (atom h) = atom h
function (abstraction A x t) = t
function (application t u) = t

joined_same : (As Bs Cs Ds : List Ty) → As ≡ Cs → Bs ≡ Ds → As ++ Bs ≡ Cs ++ Ds
joined_same As Bs Cs Ds e f = ap (λ l. l ++ Bs) e ∙ ap (λ l. Cs ++ l) f

begun_same : (A C : Ty) (As Cs : List Ty) → A ≡ C → As ≡ Cs → A ∷ As ≡ C ∷ Cs
begun_same A C As Cs e f = ap (λ B. B ∷ As) e ∙ ap (λ l. C ∷ l) f

given_same : {types others : Name → Ty} {G H : List Ty} {e : Resolved} {t u : Raw} {A B : Ty} {As Bs : List Ty}
    → Reads nominal_of types G e t A As → Reads nominal_of others H e u B Bs → t ≡ u → As ≡ Bs
given_same (reads_bound h) (reads_bound k) s = refl
given_same reads_known reads_known s = refl
given_same (reads_free f) (reads_free f2) s = ap (λ A. A ∷ []) (ap type_given s)
given_same (reads_apply {As = As} {Bs = Bs} d h) (reads_apply {As = Cs} {Bs = Ds} d2 h2) s =
    joined_same As Bs Cs Ds (given_same d d2 (ap function s)) (given_same h h2 (ap body s))
given_same (reads_behind {As = As} {Bs = Bs} d h) (reads_behind {As = Cs} {Bs = Ds} d2 h2) s =
    joined_same As Bs Cs Ds (given_same d d2 (ap body s)) (given_same h h2 (ap function s))
given_same (reads_abs {A = A} {As = As} f d) (reads_abs {A = C} {As = Cs} f2 d2) s = begun_same A C As Cs (ap type_given s) (given_same d d2 (ap body s))
given_same (reads_equal {As = As} {Bs = Bs} d h) (reads_equal {As = Cs} {Bs = Ds} d2 h2) s =
    joined_same As Bs Cs Ds (given_same d d2 (ap (λ r. body (function r)) s)) (given_same h h2 (ap body s))
given_same (reads_bind {A = A} {As = As} f k d) (reads_bind {A = C} {As = Cs} f2 k2 d2) s =
    begun_same A C As Cs (ap (λ r. type_given (body r)) s) (given_same d d2 (ap (λ r. body (body r)) s))

pub one_not_several : (e : Resolved) (A : Ty) (t : Raw) (p : ℕ) → IsTheReading nominal_of e A t → IsFirstOpen nominal_of e A p → ⊥
one_not_several e A t p one several =
    let d = several.differ in
    let same = given_same d.one.reads d.other.reads (one.alone d.one ∙ sym (one.alone d.other)) in
    d.apart (ap (λ l. get_or l several.number prop) same)
