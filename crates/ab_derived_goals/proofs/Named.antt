-- Hypotheses by their names: what is found behind others, and what is left without some.
use Rattle.std.specs.Option.{IsSome}
use Rattle.std.specs.Prelude.{if◌then◌else◌, bytes_eq}
use Rattle.std.proofs.Common.{◌≡◌, ◌≢◌, ℕ, Bool, List, [], ◌∷◌, ◌++◌, true, false, Option, Some, None, refl, sym, ◌∙◌, ap, subst}
use Rattle.std.proofs.lemmas.Slice.Eq.{bytes_eq-Decides}
use Rattle.std.proofs.lemmas.Bool.{false_from_ne_true}
use Rattle.ab_term.specs.Terms.{Read}
use Rattle.ab_formulas.specs.Sequents.{Hypothesis, Sequent, named, others, formula_of, assuming, without}

pub same_name : (x : List ℕ) → bytes_eq x x ≡ true
same_name x = (bytes_eq-Decides x x).1 refl

pub other_name : (x y : List ℕ) → x ≢ y → bytes_eq x y ≡ false
other_name x y apart = false_from_ne_true (bytes_eq x y) (λ t. apart ((bytes_eq-Decides x y).0 t))

pub none_used : (o : Option Read) → ¬ IsSome o → o ≡ None
none_used None n = refl
none_used (Some F) n = absurd (n refl)

pub used_some : {o : Option Read} {F : Read} → o ≡ Some F → IsSome o
used_some e = subst IsSome (sym e) refl

-- a name that isn't used takes nothing away
pub others_none : (hs : List Hypothesis) (x : List ℕ) → named hs x ≡ None → others hs x ≡ hs
others_none [] x none = refl
others_none (h ∷ hs) x none = go (bytes_eq h.name x) refl (others_none hs x)
  where
    go : (b : Bool) → bytes_eq h.name x ≡ b → (named hs x ≡ None → others hs x ≡ hs) → (if b then others hs x else (h ∷ others hs x)) ≡ h ∷ hs
    go true e rest = let clash : Some h.formula ≡ None = sym (ap (λ b. if b then Some h.formula else named hs x) e) ∙ none in cc
    go false e rest = ap (λ l. h ∷ l) (rest (sym (ap (λ b. if b then Some h.formula else named hs x) e) ∙ none))

pub others_append : (hs gs : List Hypothesis) (x : List ℕ) → others (hs ++ gs) x ≡ others hs x ++ others gs x
others_append [] gs x = refl
others_append (h ∷ hs) gs x = go (bytes_eq h.name x) (others_append hs gs x)
  where
    go : (b : Bool) → others (hs ++ gs) x ≡ others hs x ++ others gs x
        → (if b then others (hs ++ gs) x else (h ∷ others (hs ++ gs) x)) ≡ (if b then others hs x else (h ∷ others hs x)) ++ others gs x
    go true rest = rest
    go false rest = ap (λ l. h ∷ l) rest

-- another name is found as before
pub named_others : (hs : List Hypothesis) (x z : List ℕ) → x ≢ z → named (others hs x) z ≡ named hs z
named_others [] x z apart = refl
named_others (h ∷ hs) x z apart = go (bytes_eq h.name x) refl (named_others hs x z apart)
  where
    go : (b : Bool) → bytes_eq h.name x ≡ b → named (others hs x) z ≡ named hs z → named (if b then others hs x else (h ∷ others hs x)) z ≡ named (h ∷ hs) z
    go true e rest =
        let is : h.name ≡ x = (bytes_eq-Decides h.name x).0 e in
        rest ∙ sym (ap (λ b. if b then Some h.formula else named hs z) (other_name h.name z (λ same. apart (sym is ∙ same))))
    go false e rest = ap (λ o. if bytes_eq h.name z then Some h.formula else o) rest

pub named_append : (hs gs : List Hypothesis) (z : List ℕ) → named hs z ≡ None → named (hs ++ gs) z ≡ named gs z
named_append [] gs z none = refl
named_append (h ∷ hs) gs z none = go (bytes_eq h.name z) refl (named_append hs gs z)
  where
    go : (b : Bool) → bytes_eq h.name z ≡ b → (named hs z ≡ None → named (hs ++ gs) z ≡ named gs z) → (if b then Some h.formula else named (hs ++ gs) z) ≡ named gs z
    go true e rest = let clash : Some h.formula ≡ None = sym (ap (λ b. if b then Some h.formula else named hs z) e) ∙ none in cc
    go false e rest = rest (sym (ap (λ b. if b then Some h.formula else named hs z) e) ∙ none)

-- what stands behind the others is taken away, or stays
pub last_gone : (hs : List Hypothesis) (x : List ℕ) (F : Read) → named hs x ≡ None → others (hs ++ record { name = x; formula = F } ∷ []) x ≡ hs
last_gone hs x F none =
    others_append hs (record { name = x; formula = F } ∷ []) x
    ∙ ap (λ l. l ++ others (record { name = x; formula = F } ∷ []) x) (others_none hs x none)
    ∙ ap (λ (b : Bool). hs ++ (if b then [] else (record { name = x; formula = F } ∷ []))) (same_name x)
    ∙ nil hs
  where
    nil : (l : List Hypothesis) → l ++ [] ≡ l
    nil [] = refl
    nil (h ∷ l) = ap (λ k. h ∷ k) (nil l)

pub last_stays : (hs : List Hypothesis) (x z : List ℕ) (F : Read) → z ≢ x → others (hs ++ record { name = z; formula = F } ∷ []) x ≡ others hs x ++ record { name = z; formula = F } ∷ []
last_stays hs x z F apart =
    others_append hs (record { name = z; formula = F } ∷ []) x
    ∙ ap (λ (b : Bool). others hs x ++ (if b then [] else (record { name = z; formula = F } ∷ []))) (other_name z x apart)

-- THE SAME OF SEQUENTS

abbrev with_hypotheses : Sequent → List Hypothesis → Sequent
with_hypotheses s hs = record { variables = s.variables; hypotheses = hs; conclusion = s.conclusion; counter = s.counter }

pub without_none : (s : Sequent) (x : List ℕ) → formula_of s x ≡ None → without x s ≡ s
without_none s x none = ap (with_hypotheses s) (others_none s.hypotheses x none)

pub without_last : (s : Sequent) (x : List ℕ) (F : Read) → formula_of s x ≡ None → without x (assuming x F s) ≡ s
without_last s x F none = ap (with_hypotheses s) (last_gone s.hypotheses x F none)

pub without_other : (s : Sequent) (x z : List ℕ) (F : Read) → z ≢ x → without x (assuming z F s) ≡ assuming z F (without x s)
without_other s x z F apart = ap (with_hypotheses s) (last_stays s.hypotheses x z F apart)
