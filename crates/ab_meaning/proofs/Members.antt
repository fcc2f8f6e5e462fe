-- Readings of one expression that give the same types to binders and free names are one term, at one type.
use Rattle.std.proofs.Common.{◌≡◌, List, [], ◌∷◌, ◌++◌, length, Some, refl, sym, ◌∙◌, ap, arith, length-append}
use Rattle.ab_term.specs.Types.{Ty, arrow}
use Rattle.ab_term.specs.Typing.{type_at}
use Rattle.ab_term.specs.Beta.{atom, abstraction, application}
use Rattle.ab_meaning.specs.ResolvedNames.{Name, Resolved, places_of}
use Rattle.ab_meaning.specs.Readings.{Raw, Making, equation, bound_term, Reads, reads_bound, reads_known, reads_free, reads_apply, reads_behind, reads_abs, reads_equal, reads_bind}

pub as_many : {made : Making} {types : Name → Ty} {G : List Ty} {e : Resolved} {t : Raw} {A : Ty} {As : List Ty} → Reads made types G e t A As → length As ≡ length (places_of e)
as_many (reads_bound h) = refl
as_many reads_known = refl
as_many (reads_free f) = refl
as_many (reads_apply {e = e} {f = f} {As = As} {Bs = Bs} d h) = omega (arith, length-append As Bs, length-append (places_of e) (places_of f), as_many d, as_many h)
as_many (reads_behind {e = e} {f = f} {As = As} {Bs = Bs} d h) = omega (arith, length-append As Bs, length-append (places_of e) (places_of f), as_many d, as_many h)
as_many (reads_abs f d) = omega (arith, as_many d)
as_many (reads_equal {e = e} {f = f} {As = As} {Bs = Bs} d h) = omega (arith, length-append As Bs, length-append (places_of e) (places_of f), as_many d, as_many h)
as_many (reads_bind f k d) = omega (arith, as_many d)

pub split_same : {X : Type 0} (xs ys us vs : List X) → length xs ≡ length us → xs ++ ys ≡ us ++ vs → (xs ≡ us) × (ys ≡ vs)
split_same [] ys [] vs l e = (refl, e)
split_same [] ys (u ∷ us) vs l e = absurd (omega arith)
split_same (x ∷ xs) ys [] vs l e = absurd (omega arith)
split_same (x ∷ xs) ys (u ∷ us) vs l e =
    let tails : xs ++ ys ≡ us ++ vs = cc in
    let h = split_same xs ys us vs (omega arith) tails in
    let heads : x ≡ u = cc in
    let heads_tails : x ∷ xs ≡ u ∷ us = let a = h.0 in cc in
    (heads_tails, h.1)

some_same : {A B : Ty} → Some A ≡ Some B → A ≡ B
some_same e = cc

arrow_to : {A B C D : Ty} → arrow A B ≡ arrow C D → B ≡ D
arrow_to e = cc

head_same : {X : Type 0} {x y : X} {xs ys : List X} → x ∷ xs ≡ y ∷ ys → x ≡ y
head_same e = cc

tail_same : {X : Type 0} {x y : X} {xs ys : List X} → x ∷ xs ≡ y ∷ ys → xs ≡ ys
tail_same e = cc

both_same : {X : Type 0} {x y : X} {xs ys : List X} → x ≡ y → xs ≡ ys → x ∷ xs ≡ y ∷ ys
both_same e f = cc

-- in one scope, the types at the names tell readings of one expression apart
pub one_term : {made : Making} {types others : Name → Ty} {G H : List Ty} {e : Resolved} {t u : Raw} {A B : Ty} {As Bs : List Ty}
    → Reads made types G e t A As → Reads made others H e u B Bs → G ≡ H → As ≡ Bs → (t ≡ u) × (A ≡ B)
one_term (reads_bound {i = i} h) (reads_bound k) g s = (refl, some_same (sym h ∙ (ap (λ G. type_at G i) g ∙ k)))
one_term reads_known reads_known g s = (refl, refl)
one_term {made = made} (reads_free {x = x} f) (reads_free f2) g s = let e = head_same s in (ap (λ A. atom (made x A)) e, e)
one_term (reads_apply {t = t} {u = u} {As = As} {Bs = Bs} d h) (reads_apply {t = t2} {u = u2} {As = As2} {Bs = Bs2} d2 h2) g s =
    let p = split_same As Bs As2 Bs2 (as_many d ∙ sym (as_many d2)) s in
    let a = one_term d d2 g p.0 in
    let b = one_term h h2 g p.1 in
    (ap (λ r. application r u) a.0 ∙ ap (λ r. application t2 r) b.0, arrow_to a.1)
one_term (reads_behind {t = t} {u = u} {As = As} {Bs = Bs} d h) (reads_behind {t = t2} {u = u2} {As = As2} {Bs = Bs2} d2 h2) g s =
    let p = split_same As Bs As2 Bs2 (as_many d ∙ sym (as_many d2)) s in
    let a = one_term d d2 g p.0 in
    let b = one_term h h2 g p.1 in
    (ap (λ r. application r u) b.0 ∙ ap (λ r. application t2 r) a.0, arrow_to b.1)
one_term (reads_abs {x = x} {t = t} {A = A} {B = B} f d) (reads_abs {t = t2} {A = A2} {B = B2} f2 d2) g s =
    let e = head_same s in
    let a = one_term d d2 (both_same e g) (tail_same s) in
    (ap (λ C. abstraction C x t) e ∙ ap (λ r. abstraction A2 x r) a.0, ap (λ C. arrow C B) e ∙ ap (λ C. arrow A2 C) a.1)
one_term (reads_equal {t = t} {u = u} {A = A} {As = As} {Bs = Bs} d h) (reads_equal {t = t2} {u = u2} {A = A2} {As = As2} {Bs = Bs2} d2 h2) g s =
    let p = split_same As Bs As2 Bs2 (as_many d ∙ sym (as_many d2)) s in
    let a = one_term d d2 g p.0 in
    let b = one_term h h2 g p.1 in
    (ap (λ C. equation C t u) a.1 ∙ (ap (λ r. equation A2 r u) a.0 ∙ ap (λ r. equation A2 t2 r) b.0), refl)
one_term (reads_bind {q = q} {x = x} {t = t} {A = A} f k d) (reads_bind {t = t2} {A = A2} f2 k2 d2) g s =
    let e = head_same s in
    let a = one_term d d2 (both_same e g) (tail_same s) in
    (ap (λ C. bound_term q x C t) e ∙ ap (λ r. bound_term q x A2 r) a.0, refl)
