-- The same numbers change nothing.
use Rattle.std.proofs.Common.{◌≡◌, ℕ, List, [], ◌∷◌, map, refl, ◌∙◌, ap}
use Rattle.ab_term.specs.Terms.{Head, constant, logical, nominal, variable, index, lam, spine, Terms, no_terms, term, Read}
use Rattle.ab_term.specs.Translation.{translate_head, translate_all}
use Rattle.ab_formulas.specs.Sequents.{Variable, Hypothesis, Sequent}
use Rattle.ab_effects.proofs.Renumbered.{moved_variable, moved_hypothesis, moved_goal}
use Rattle.ab_search_trees.proofs.MovedForms.{T}
use Rattle.ab_derived_goals.proofs.Moving.{TellsApart}

abbrev pub as_it_is : ℕ → ℕ
as_it_is n = n

pub as_it_is_apart : TellsApart as_it_is
as_it_is_apart i j e = e

head_itself : (h : Head ℕ) → translate_head as_it_is h ≡ h
head_itself (constant c) = refl
head_itself (logical l) = refl
head_itself (nominal a) = refl
head_itself (variable x) = refl
head_itself (index i) = refl

mutual
  pub term_itself : (t : Read) → T as_it_is t ≡ t
  term_itself (lam A x t) = ap (lam A x) (term_itself t)
  term_itself (spine h ts) = ap (λ k. spine k (translate_all as_it_is (λ x. x) ts)) (head_itself h) ∙ ap (spine h) (all_itself ts)

  all_itself : (ts : Terms ℕ (List ℕ)) → translate_all as_it_is (λ x. x) ts ≡ ts
  all_itself no_terms = refl
  all_itself (term t ts) = ap (λ k. term k (translate_all as_it_is (λ x. x) ts)) (term_itself t) ∙ ap (term t) (all_itself ts)

pub terms_themselves : (Fs : List Read) → map (T as_it_is) Fs ≡ Fs
terms_themselves [] = refl
terms_themselves (F ∷ Fs) = ap (λ t. t ∷ map (T as_it_is) Fs) (term_itself F) ∙ ap (λ l. F ∷ l) (terms_themselves Fs)

variables_themselves : (xs : List Variable) → map (moved_variable as_it_is) xs ≡ xs
variables_themselves [] = refl
variables_themselves (x ∷ xs) = ap (λ l. x ∷ l) (variables_themselves xs)

hypotheses_themselves : (hs : List Hypothesis) → map (moved_hypothesis as_it_is) hs ≡ hs
hypotheses_themselves [] = refl
hypotheses_themselves (h ∷ hs) =
    ap (λ F. record { name = h.name; formula = F } ∷ map (moved_hypothesis as_it_is) hs) (term_itself h.formula) ∙ ap (λ l. h ∷ l) (hypotheses_themselves hs)

pub goal_itself : (s : Sequent) → moved_goal as_it_is s ≡ s
goal_itself s =
    let first = variables_themselves s.variables in
    let second = hypotheses_themselves s.hypotheses in
    let third = term_itself s.conclusion in
    λ i. record { variables = first i; hypotheses = second i; conclusion = third i; counter = s.counter }
