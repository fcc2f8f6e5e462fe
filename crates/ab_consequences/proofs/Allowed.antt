-- Steps by what stands for a formula are allowed.
use Rattle.std.specs.Option.{IsSome}
use Rattle.std.specs.Prelude.{if◌then◌else◌, bytes_eq}
use Rattle.std.proofs.Common.{◌≡◌, inl, inr, ℕ, Bool, List, [], ◌∷◌, ◌++◌, true, false, Option, Some, None, refl, sym, ◌∙◌, ap, subst}
use Rattle.std.proofs.lemmas.Slice.Eq.{bytes_eq-Decides}
use Rattle.ab_term.specs.Terms.{Read}
use Rattle.ab_term.specs.Names.{EqualUpToNames}
use Rattle.ab_term.proofs.UpToNames.{up_to_names-symmetric}
use Rattle.ab_formulas.specs.Declarations.{Declarations}
use Rattle.ab_formulas.specs.Marks.{Sign, plain, star_of, at_of, plus_of, hash_of, Serves, Marks, nowhere, at_atom, at_judgement, below, in_both, Agree, MarksServe, MarksServeIn, erased, marks_of}
use Rattle.ab_formulas.specs.NewNames.{given}
use Rattle.ab_formulas.specs.Sequents.{Hypothesis, Sequent, named, formula_of, proving, assuming, IsUsed}
use Rattle.ab_theory.specs.Steps.{initial, cut_formula}
use Rattle.ab_consequences.specs.Standing.{StandsFor, IsAllowed}

serves : (m : Sign) → Serves m m
serves plain = tt
serves (star_of i) = refl
serves (at_of i) = refl
serves (plus_of i) = refl
serves (hash_of i) = refl

agrees : (a : Marks) → Agree a a
agrees nowhere = tt
agrees (at_atom m) = refl
agrees (at_judgement m) = refl
agrees (below a) = agrees a
agrees (in_both a b) = (agrees a, agrees b)

-- marks serve themselves
pub marks_serve : (a : Marks) → MarksServe a a
marks_serve nowhere = tt
marks_serve (at_atom m) = serves m
marks_serve (at_judgement m) = serves m
marks_serve (below a) = agrees a
marks_serve (in_both a b) = (agrees a, agrees b)

pub not_used : (s : Sequent) (x : List ℕ) → formula_of s x ≡ None → IsUsed s x → ⊥
not_used s x none used = let clash : false ≡ true = subst (λ (o : Option Read). IsSome o) none used in cc

module _ (D : Declarations) (s : Sequent) where
  -- a hypothesis that serves closes the goal
  pub initial_allowed : (x : List ℕ) (F : Read) → formula_of s x ≡ Some F → EqualUpToNames (erased F) (erased s.conclusion) → MarksServeIn s.conclusion F → IsAllowed D (initial x) s
  initial_allowed x F has same serve cells i (inl f) = let clash : Some F ≡ None = sym has ∙ f.0 in cc
  initial_allowed x F has same serve cells i (inr (G, found, inl f)) =
      let both : Some G ≡ Some F = sym found ∙ has in
      let is : F ≡ G = cc in
      f.0 (subst (λ H. EqualUpToNames (erased H) (erased s.conclusion)) is same)
  initial_allowed x F has same serve cells i (inr (G, found, inr (e, inl f))) =
      let both : Some G ≡ Some F = sym found ∙ has in
      let is : F ≡ G = cc in
      f.0 (subst (MarksServeIn s.conclusion) is serve)
  initial_allowed x F has same serve cells i (inr (G, found, inr (e, inr f))) = f.1

module _ (D : Declarations) (s : Sequent) (F G : Read) (stands : StandsFor D s F G) where
  pub cut_in : (y : List ℕ) → formula_of s y ≡ None → IsAllowed D (cut_formula F (given y)) s
  cut_in y new cells i (inl f) = f.0 (stands.fits, stands.formula)
  cut_in y new cells i (inr (ok, inl f)) = not_used s y new f.0
  cut_in y new cells i (inr (ok, inr f)) = f.3

  pub follows_from : (x : List ℕ) → formula_of s x ≡ Some G → IsAllowed D (initial x) (proving F s)
  follows_from x has =
      initial_allowed D (proving F s) x G has (up_to_names-symmetric (erased F) (erased G) stands.same)
      (subst (MarksServe (marks_of F)) stands.marks (marks_serve (marks_of F)))

-- what is found last, of a new name
pub found_last : (hs : List Hypothesis) (y : List ℕ) (F : Read) → named hs y ≡ None → named (hs ++ record { name = y; formula = F } ∷ []) y ≡ Some F
found_last [] y F none = ap (λ b. if b then Some F else None) ((bytes_eq-Decides y y).1 refl)
found_last (h ∷ hs) y F none = go (found_last hs y F) (bytes_eq h.name y) refl
  where
    go : (named hs y ≡ None → named (hs ++ record { name = y; formula = F } ∷ []) y ≡ Some F)
        → (b : Bool) → bytes_eq h.name y ≡ b → (if b then Some h.formula else named (hs ++ record { name = y; formula = F } ∷ []) y) ≡ Some F
    go rest true e = let clash : Some h.formula ≡ None = sym (ap (λ b. if b then Some h.formula else named hs y) e) ∙ none in cc
    go rest false e = rest (sym (ap (λ b. if b then Some h.formula else named hs y) e) ∙ none)

pub leads_back : (D : Declarations) (s : Sequent) (F : Read) (y : List ℕ) → StandsFor D s F s.conclusion → formula_of s y ≡ None → IsAllowed D (initial y) (assuming y F s)
leads_back D s F y stands new =
    initial_allowed D (assuming y F s) y F (found_last s.hypotheses y F new) stands.same
    (subst (λ m. MarksServe m (marks_of F)) stands.marks (marks_serve (marks_of F)))
