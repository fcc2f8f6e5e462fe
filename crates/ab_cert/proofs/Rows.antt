-- Looking up a word in the tables of the grammar.
use Rattle.std.proofs.Common.{◌≡◌, ◌<◌, ◌+◌, ◌^◌, ℕ, zero, suc, Bool, true, false, List, [], ◌∷◌, map, decimal, Some, refl, sym, ap, ◌∙◌, subst, arith}
use Rattle.std.specs.Prelude.{bytes_eq, if◌then◌else◌}
use Rattle.std.proofs.lemmas.Slice.Eq.{bytes_eq-Decides}
use Rattle.ab_cert.specs.declared.part.Part.{Part}
use Rattle.ab_cert.specs.Tables.{Form, a_name, a_label, a_flag, a_place, a_term, some_numbers, some_labels, some_replaces, form_at, Kind, value_at}
use Rattle.ab_cert.specs.Grammar.{part_of, step_rows, detail_parts, sign_rows}
use Rattle.ab_cert.proofs.Heads.{one_number}
use Rattle.ab_cert.proofs.Parts.{are_inside}

-- G holds of each row
abbrev pub EachRow : {A : Type 0} → (List ℕ → A → Type 0) → List (List ℕ × A) → Type 0
EachRow G [] = Unit {0}
EachRow G (r ∷ rs) = G r.0 r.1 × EachRow G rs

pub row_of : {A : Type 0} (G : List ℕ → A → Type 0) (rows : List (List ℕ × A)) (p : List ℕ) (a : A) → EachRow G rows → value_at rows p ≡ Some a → G p a
row_of G [] p a h e = cc
row_of {A = A} G (r ∷ rs) p a h e = by_test (bytes_eq r.0 p) (bytes_eq-Decides r.0 p).0 e (row_of G rs p a h.1)
  where
    by_test : (b : Bool) → (b ≡ true → r.0 ≡ p) → (if b then Some r.1 else value_at rs p) ≡ Some a → (value_at rs p ≡ Some a → G p a) → G p a
    by_test true d f on =
        let same : r.1 ≡ a = cc in
        subst (λ q. G q a) (d refl) (subst (λ b. G r.0 b) same h.0)
    by_test false d f on = on f

unequal : (p q : List ℕ) → (p ≡ q → ⊥) → bytes_eq p q ≡ false
unequal p q n = by_test (bytes_eq p q) (bytes_eq-Decides p q).0
  where
    by_test : (b : Bool) → (b ≡ true → p ≡ q) → b ≡ false
    by_test true d = absurd (n (d refl))
    by_test false d = refl

-- logical constants

pub sign_listed : (rows : List (List ℕ × Kind)) (w : List ℕ) (k : Kind) → value_at rows w ≡ Some k → value_at (sign_rows rows) w ≡ Some (detail_parts k)
sign_listed [] w k e = cc
sign_listed (r ∷ rs) w k e = by_test (bytes_eq r.0 w) e (sign_listed rs w k)
  where
    by_test : (b : Bool) → (if b then Some r.1 else value_at rs w) ≡ Some k → (value_at rs w ≡ Some k → value_at (sign_rows rs) w ≡ Some (detail_parts k)) → (if b then Some (detail_parts r.1) else value_at (sign_rows rs) w) ≡ Some (detail_parts k)
    by_test true f on = let same : r.1 ≡ k = cc in ap (λ x. Some (detail_parts x)) same
    by_test false f on = on f

pub sign_found : (rows : List (List ℕ × Kind)) (w : List ℕ) (cs : List Part) → value_at (sign_rows rows) w ≡ Some cs → (k : Kind) × ((value_at rows w ≡ Some k) × (cs ≡ detail_parts k))
sign_found [] w cs e = cc
sign_found (r ∷ rs) w cs e = by_test (bytes_eq r.0 w) e (sign_found rs w cs)
  where
    by_test : (b : Bool) → (if b then Some (detail_parts r.1) else value_at (sign_rows rs) w) ≡ Some cs
        → (value_at (sign_rows rs) w ≡ Some cs → (k : Kind) × ((value_at rs w ≡ Some k) × (cs ≡ detail_parts k))) → (k : Kind) × (((if b then Some r.1 else value_at rs w) ≡ Some k) × (cs ≡ detail_parts k))
    by_test true f on = let same : detail_parts r.1 ≡ cs = cc in (r.1, (refl, sym same))
    by_test false f on = on f

-- steps

pub step_listed : (n i : ℕ) (rows : List (List Form)) (forms : List Form) → i + n < 10 ^ 64 → form_at rows i ≡ Some forms → value_at (step_rows n rows) (decimal (i + n)) ≡ Some (map part_of forms)
step_listed n i [] forms l e = cc
step_listed n zero (f ∷ rows) forms l e =
    let same : f ≡ forms = cc in
    let none : zero + n ≡ n = omega arith in
    ap (λ k. value_at (step_rows n (f ∷ rows)) (decimal k)) none ∙ (ap (λ b. if b then Some (map part_of f) else value_at (step_rows (suc n) rows) (decimal n)) ((bytes_eq-Decides (decimal n) (decimal n)).1 refl) ∙ ap (λ x. Some (map part_of x)) same)
step_listed n (suc i) (f ∷ rows) forms l e =
    let shift : i + suc n ≡ suc i + n = omega arith in
    let other : bytes_eq (decimal n) (decimal (suc i + n)) ≡ false = unequal (decimal n) (decimal (suc i + n)) (λ q.
    let same : n ≡ suc i + n = one_number n (suc i + n) (omega (arith, l)) l q in
    absurd (omega (arith, same))) in
    let on = step_listed (suc n) i rows forms (omega (arith, l)) e in
    ap (λ b. if b then Some (map part_of f) else value_at (step_rows (suc n) rows) (decimal (suc i + n))) other ∙ (ap (λ k. value_at (step_rows (suc n) rows) (decimal k)) (sym shift) ∙ on)

-- what is found in the table of steps from a number on
pub record StepFound (n : ℕ) (rows : List (List Form)) (p : List ℕ) (cs : List Part) : Type 0 where
  pub at : ℕ
  pub forms : List Form
  pub known : form_at rows at ≡ Some forms
  pub piece : p ≡ decimal (at + n)
  pub kids : cs ≡ map part_of forms

pub step_found : (n : ℕ) (rows : List (List Form)) (p : List ℕ) (cs : List Part) → value_at (step_rows n rows) p ≡ Some cs → StepFound n rows p cs
step_found n [] p cs e = cc
step_found n (f ∷ rows) p cs e = by_test (bytes_eq (decimal n) p) (bytes_eq-Decides (decimal n) p).0 e (step_found (suc n) rows p cs)
  where
    by_test : (b : Bool) → (b ≡ true → decimal n ≡ p) → (if b then Some (map part_of f) else value_at (step_rows (suc n) rows) p) ≡ Some cs → (value_at (step_rows (suc n) rows) p ≡ Some cs → StepFound (suc n) rows p cs) → StepFound n (f ∷ rows) p cs
    by_test true d g on =
        let same : map part_of f ≡ cs = cc in
        let none : n ≡ zero + n = omega arith in
        record { at = zero; forms = f; known = refl; piece = sym (d refl) ∙ ap decimal none; kids = sym same }
    by_test false d g on =
        let r = on g in
        let shift : r.at + suc n ≡ suc r.at + n = omega arith in
        record { at = suc r.at; forms = r.forms; known = r.known; piece = r.piece ∙ ap decimal shift; kids = r.kids }

pub forms_inside : (forms : List Form) → are_inside (map part_of forms) ≡ true
forms_inside [] = refl
forms_inside (a_name ∷ fs) = forms_inside fs
forms_inside (a_label ∷ fs) = forms_inside fs
forms_inside (a_flag ∷ fs) = forms_inside fs
forms_inside (a_place ∷ fs) = forms_inside fs
forms_inside (a_term ∷ fs) = forms_inside fs
forms_inside (some_numbers ∷ fs) = forms_inside fs
forms_inside (some_labels ∷ fs) = forms_inside fs
forms_inside (some_replaces ∷ fs) = forms_inside fs
