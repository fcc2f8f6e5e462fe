-- The bytes at a place of a text, and how a name is scanned.
use Rattle.std.proofs.Common.{◌≡◌, ◌≤◌, ◌<◌, ◌+◌, ◌-◌, ◌⊎◌, ℕ, true, false, List, [], ◌∷◌, ◌++◌, length, take, drop, get_or, Some, refl, sym, ap, ◌∙◌, arith, inl, inr}
use Rattle.std.proofs.lemmas.List.{length-drop, drop_all, drop-drop, take-append-drop, take_more, get_or-drop}
use Rattle.std.proofs.lemmas.Bool.{eqb-true, cases_lt}
use Rattle.ab_cert.specs.declared.shape.Shape.{Shape}
use Rattle.ab_cert.specs.declared.shape.Shape.TheVariants.{Start}
use Rattle.ab_cert.specs.Reading.{is_led}
use Rattle.ab_cert.specs.Shapes.{next_of, run}
use Rattle.ab_cert.proofs.Shapes.{run_more}

-- the byte that stands in front

pub led_there : (s : List ℕ) (c : ℕ) → is_led s c ≡ true → (rest : List ℕ) × (s ≡ c ∷ rest)
led_there [] c e = cc
led_there (b ∷ s) c e = (s, ap (λ x. x ∷ s) (eqb-true b c e))

pub led_within : (bytes : List ℕ) (at c : ℕ) → is_led (drop at bytes) c ≡ true → at < length bytes
led_within bytes at c e =
    elim (cases_lt at (length bytes)) [
      | inl l ↦ l
      | inr l ↦ let f : false ≡ true = sym (ap (λ s. is_led s c) (drop_all at bytes l)) ∙ e in cc
    ]

-- where two texts with a byte each meet
pub meet : (x u : List ℕ) (e b : ℕ) (m n : List ℕ) → x ++ e ∷ m ≡ u ++ b ∷ n → ((x ≡ u) × (e ≡ b)) ⊎ (((y : List ℕ) × (u ≡ x ++ e ∷ y)) ⊎ ((y : List ℕ) × (x ≡ u ++ b ∷ y)))
meet [] [] e b m n f = let g : e ≡ b = cc in inl (refl, g)
meet [] (z ∷ u) e b m n f = let g : z ≡ e = cc in inr (inl (u, ap (λ q. q ∷ u) g))
meet (z ∷ x) [] e b m n f = let g : z ≡ b = cc in inr (inr (x, ap (λ q. q ∷ x) g))
meet (z ∷ x) (w ∷ u) e b m n f =
    let g : z ≡ w = cc in
    let h : x ++ e ∷ m ≡ u ++ b ∷ n = cc in
    elim (meet x u e b m n h) [
      | inl i ↦ inl (ap (λ q. q ∷ x) g ∙ ap (λ q. w ∷ q) i.0, i.1)
      | inr o ↦ elim o [
        | inl i ↦ inr (inl (i.0, ap (λ q. w ∷ q) i.1 ∙ ap (λ q. q ∷ (x ++ e ∷ i.0)) (sym g)))
        | inr i ↦ inr (inr (i.0, ap (λ q. z ∷ q) i.1 ∙ ap (λ q. q ∷ (u ++ b ∷ i.0)) g))
      ]
    ]

-- the bytes between two places
pub between : (bytes : List ℕ) (start to : ℕ) → start ≤ to → drop start bytes ≡ take (to - start) (drop start bytes) ++ drop to bytes
between bytes start to l =
    let n : start + (to - start) ≡ to = omega arith in
    sym (take-append-drop (to - start) (drop start bytes)) ∙ ap (λ q. take (to - start) (drop start bytes) ++ q) (drop-drop (to - start) start bytes ∙ ap (λ k. drop k bytes) n)

-- one byte more of a scan
pub scan_more : (bytes : List ℕ) (start at : ℕ) (s t : Shape) → start ≤ at → at < length bytes → run (Some Start) (take (at - start) (drop start bytes)) ≡ Some s → next_of s (get_or bytes at 0) ≡ Some t → run (Some Start) (take ((at + 1) - start) (drop start bytes)) ≡ Some t
scan_more bytes start at s t l m came next =
    let k : (at + 1) - start ≡ (at - start) + 1 = omega arith in
    let n : start + (at - start) ≡ at = omega arith in
    let inside : at - start < length (drop start bytes) = omega (arith, length-drop {A = ℕ} start bytes) in
    let byte : get_or (drop start bytes) (at - start) 0 ≡ get_or bytes at 0 = get_or-drop start bytes (at - start) 0 ∙ ap (λ j. get_or bytes j 0) n in
    let split : take ((at + 1) - start) (drop start bytes) ≡ take (at - start) (drop start bytes) ++ get_or bytes at 0 ∷ [] =
    ap (λ j. take j (drop start bytes)) k ∙ (take_more (drop start bytes) (at - start) 0 inside ∙ ap (λ b. take (at - start) (drop start bytes) ++ b ∷ []) byte) in
    ap (run (Some Start)) split ∙ (run_more (Some Start) (take (at - start) (drop start bytes)) (get_or bytes at 0 ∷ []) ∙ (ap (λ o. run o (get_or bytes at 0 ∷ [])) came ∙ next))
