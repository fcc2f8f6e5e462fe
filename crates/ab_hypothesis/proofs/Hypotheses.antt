-- Lists of hypotheses: one more behind them, one less, and what is found under a name.
use Rattle.std.specs.Prelude.{bytes_eq, if◌then◌else◌}
use Rattle.std.proofs.Common.{◌≡◌, ◌≢◌, ◌⊎◌, inl, inr, ℕ, List, [], ◌∷◌, ◌++◌, true, false, Some, None, refl, sym, ◌∙◌, ap}
use Rattle.std.proofs.lemmas.Slice.Eq.{bytes_eq-Decides}
use Rattle.ab_term.specs.Terms.{Read}
use Rattle.ab_formulas.specs.Sequents.{Hypothesis, named, others}

abbrev pub entry : List ℕ → Read → Hypothesis
entry x F = record { name = x; formula = F }

-- a test of names, both ways
pub same_or_not : (x y : List ℕ) → ((x ≡ y) × (bytes_eq x y ≡ true)) ⊎ ((x ≢ y) × (bytes_eq x y ≡ false))
same_or_not x y =
    elim (bytes_eq x y) as (λ b. bytes_eq x y ≡ b → ((x ≡ y) × (bytes_eq x y ≡ true)) ⊎ ((x ≢ y) × (bytes_eq x y ≡ false)))
    [ true ↦ λ e. inl ((bytes_eq-Decides x y).0 e, e) | false ↦ λ e. inr (λ s. let yes = (bytes_eq-Decides x y).1 s in cc, e) ]
    refl

own_name : (x : List ℕ) → bytes_eq x x ≡ true
own_name x = (bytes_eq-Decides x x).1 refl

other_name : (x y : List ℕ) → x ≢ y → bytes_eq x y ≡ false
other_name x y apart = elim (same_or_not x y) [ inl s ↦ absurd (apart s.0) | inr d ↦ d.1 ]

pub turned : {x y : List ℕ} → x ≢ y → y ≢ x
turned apart e = apart (sym e)

-- another name is found as before
pub named_besides : (hs : List Hypothesis) (x y : List ℕ) → x ≢ y → named (others hs x) y ≡ named hs y
named_besides [] x y apart = refl
named_besides (h ∷ hs) x y apart =
    elim (same_or_not h.name x) [
      | inl s ↦
          ap (λ b. named (if b then others hs x else (h ∷ others hs x)) y) s.1
          ∙ named_besides hs x y apart
          ∙ sym (ap (λ b. if b then Some h.formula else named hs y) (other_name h.name y (λ e. apart (sym s.0 ∙ e))))
      | inr d ↦
          ap (λ b. named (if b then others hs x else (h ∷ others hs x)) y) d.1
          ∙ ap (λ o. if bytes_eq h.name y then Some h.formula else o) (named_besides hs x y apart)
    ]

-- what was removed isn't found
pub named_gone : (hs : List Hypothesis) (x : List ℕ) → named (others hs x) x ≡ None
named_gone [] x = refl
named_gone (h ∷ hs) x =
    elim (same_or_not h.name x) [
      | inl s ↦ ap (λ b. named (if b then others hs x else (h ∷ others hs x)) x) s.1 ∙ named_gone hs x
      | inr d ↦
          ap (λ b. named (if b then others hs x else (h ∷ others hs x)) x) d.1
          ∙ ap (λ b. if b then Some h.formula else named (others hs x) x) d.1
          ∙ named_gone hs x
    ]

-- what isn't there isn't found in less
pub named_still_none : (hs : List Hypothesis) (x y : List ℕ) → named hs y ≡ None → named (others hs x) y ≡ None
named_still_none hs x y none =
    elim (same_or_not x y) [
      | inl s ↦ ap (λ z. named (others hs z) y) s.0 ∙ named_gone hs y
      | inr d ↦ named_besides hs x y d.0 ∙ none
    ]

-- one more, of another name
pub named_past : (hs : List Hypothesis) (x y : List ℕ) (F : Read) → x ≢ y → named (hs ++ entry x F ∷ []) y ≡ named hs y
named_past [] x y F apart = ap (λ b. if b then Some F else None) (other_name x y apart)
named_past (h ∷ hs) x y F apart = ap (λ o. if bytes_eq h.name y then Some h.formula else o) (named_past hs x y F apart)

step_none : (hs : List Hypothesis) (h : Hypothesis) (x : List ℕ) → named (h ∷ hs) x ≡ None → (bytes_eq h.name x ≡ false) × (named hs x ≡ None)
step_none hs h x none =
    elim (same_or_not h.name x) [
      | inl s ↦ let clash : Some h.formula ≡ None = sym (ap (λ b. if b then Some h.formula else named hs x) s.1) ∙ none in cc
      | inr d ↦ (d.1, sym (ap (λ b. if b then Some h.formula else named hs x) d.1) ∙ none)
    ]

-- one more, of a new name
pub named_last : (hs : List Hypothesis) (x : List ℕ) (F : Read) → named hs x ≡ None → named (hs ++ entry x F ∷ []) x ≡ Some F
named_last [] x F none = ap (λ b. if b then Some F else None) (own_name x)
named_last (h ∷ hs) x F none =
    let two = step_none hs h x none in
    ap (λ b. if b then Some h.formula else named (hs ++ entry x F ∷ []) x) two.0 ∙ named_last hs x F two.1

-- what isn't there isn't removed
pub others_none : (hs : List Hypothesis) (x : List ℕ) → named hs x ≡ None → others hs x ≡ hs
others_none [] x none = refl
others_none (h ∷ hs) x none =
    let two = step_none hs h x none in
    ap (λ b. if b then others hs x else (h ∷ others hs x)) two.0 ∙ ap (λ ks. h ∷ ks) (others_none hs x two.1)

-- the last one is removed
pub others_last : (hs : List Hypothesis) (x : List ℕ) (F : Read) → named hs x ≡ None → others (hs ++ entry x F ∷ []) x ≡ hs
others_last [] x F none = ap (λ b. if b then [] else (entry x F ∷ [])) (own_name x)
others_last (h ∷ hs) x F none =
    let two = step_none hs h x none in
    ap (λ b. if b then others (hs ++ entry x F ∷ []) x else (h ∷ others (hs ++ entry x F ∷ []) x)) two.0
    ∙ ap (λ ks. h ∷ ks) (others_last hs x F two.1)

-- one is removed before the last
pub others_past : (hs : List Hypothesis) (x y : List ℕ) (F : Read) → y ≢ x → others (hs ++ entry y F ∷ []) x ≡ others hs x ++ entry y F ∷ []
others_past [] x y F apart = ap (λ b. if b then [] else (entry y F ∷ [])) (other_name y x apart)
others_past (h ∷ hs) x y F apart =
    elim (same_or_not h.name x) [
      | inl s ↦
          ap (λ b. if b then others (hs ++ entry y F ∷ []) x else (h ∷ others (hs ++ entry y F ∷ []) x)) s.1
          ∙ others_past hs x y F apart
          ∙ sym (ap (λ b. (if b then others hs x else (h ∷ others hs x)) ++ entry y F ∷ []) s.1)
      | inr d ↦
          ap (λ b. if b then others (hs ++ entry y F ∷ []) x else (h ∷ others (hs ++ entry y F ∷ []) x)) d.1
          ∙ ap (λ ks. h ∷ ks) (others_past hs x y F apart)
          ∙ sym (ap (λ b. (if b then others hs x else (h ∷ others hs x)) ++ entry y F ∷ []) d.1)
    ]

-- what is found is found with more behind it
pub named_stays : (hs ks : List Hypothesis) (x : List ℕ) (F : Read) → named hs x ≡ Some F → named (hs ++ ks) x ≡ Some F
named_stays [] ks x F has = let clash : None ≡ Some F = has in cc
named_stays (h ∷ hs) ks x F has =
    elim (same_or_not h.name x) [
      | inl s ↦ ap (λ b. if b then Some h.formula else named (hs ++ ks) x) s.1 ∙ sym (ap (λ b. if b then Some h.formula else named hs x) s.1) ∙ has
      | inr d ↦
          ap (λ b. if b then Some h.formula else named (hs ++ ks) x) d.1
          ∙ named_stays hs ks x F (sym (ap (λ b. if b then Some h.formula else named hs x) d.1) ∙ has)
    ]
