-- Goals with other numbers: with names for numbers they are the same.
use Rattle.std.proofs.Common.{◌≡◌, ℕ, List, [], ◌∷◌, map, refl, ◌∙◌, ap}
use Rattle.std.specs.Prelude.{if◌then◌else◌, ◌==◌}
use Rattle.ab_term.specs.Terms.{Head, constant, logical, nominal, variable, index, Term, lam, spine, Terms, no_terms, term, Read}
use Rattle.ab_term.specs.Translation.{translate_head, translate, translate_all}
use Rattle.ab_term.specs.Sameness.{same_number}
use Rattle.ab_formulas.specs.Sequents.{Variable, Hypothesis, Sequent}
use Rattle.ab_formulas.specs.NamedGoals.{name_in, with_names, variable_named, hypothesis_named, named}
use Rattle.ab_formulas.proofs.GoalsAgreeing.{translate_agrees}
use Rattle.ab_unifiers.specs.Renumbering.{renumbered}

module _ {Var New Last : Type 0} (g : New → Last) (f : Var → New) where
  head_twice : (h : Head Var) → translate_head g (translate_head f h) ≡ translate_head (λ v. g (f v)) h
  head_twice (constant c) = refl
  head_twice (logical l) = refl
  head_twice (nominal a) = refl
  head_twice (variable x) = refl
  head_twice (index i) = refl

  module _ {Hint : Type 0} where
    mutual
      pub translate_twice : (t : Term Var Hint) → translate g (λ x. x) (translate f (λ x. x) t) ≡ translate (λ v. g (f v)) (λ x. x) t
      translate_twice (lam A x t) = ap (lam A x) (translate_twice t)
      translate_twice (spine h ts) =
          ap (λ k. spine k (translate_all g (λ x. x) (translate_all f (λ x. x) ts))) (head_twice h)
          ∙ ap (spine (translate_head (λ v. g (f v)) h)) (all_twice ts)

      all_twice : (ts : Terms Var Hint) → translate_all g (λ x. x) (translate_all f (λ x. x) ts) ≡ translate_all (λ v. g (f v)) (λ x. x) ts
      all_twice no_terms = refl
      all_twice (term t ts) =
          ap (λ u. term u (translate_all g (λ x. x) (translate_all f (λ x. x) ts))) (translate_twice t)
          ∙ ap (term (translate (λ v. g (f v)) (λ x. x) t)) (all_twice ts)

module _ (f : ℕ → ℕ) where
  abbrev pub moved_variable : Variable → Variable
  moved_variable x = record { number = f x.number; type = x.type; name = x.name }

  abbrev pub moved_hypothesis : Hypothesis → Hypothesis
  moved_hypothesis h = record { name = h.name; formula = renumbered f h.formula }

  -- the goal with other numbers
  abbrev pub moved_goal : Sequent → Sequent
  moved_goal s = record {
    variables = map moved_variable s.variables;
    hypotheses = map moved_hypothesis s.hypotheses;
    conclusion = renumbered f s.conclusion;
    counter = s.counter;
  }

  pub names_kept : (xs : List Variable) → map variable_named (map moved_variable xs) ≡ map variable_named xs
  names_kept [] = refl
  names_kept (x ∷ xs) = ap (λ l. variable_named x ∷ l) (names_kept xs)

  module _ (agree : (i j : ℕ) → same_number (f i) (f j) ≡ same_number i j) where
    name_in_moved : (xs : List Variable) (n : ℕ) → name_in (map moved_variable xs) (f n) ≡ name_in xs n
    name_in_moved [] n = refl
    name_in_moved (x ∷ xs) n =
        ap (λ b. if b then x.name else name_in (map moved_variable xs) (f n)) (agree x.number n)
        ∙ ap (λ l. if (x.number == n) then x.name else l) (name_in_moved xs n)

    pub with_names_moved : (xs : List Variable) (F : Read) → with_names (map moved_variable xs) (renumbered f F) ≡ with_names xs F
    with_names_moved xs F =
        translate_twice (name_in (map moved_variable xs)) f F
        ∙ translate_agrees (λ n. name_in (map moved_variable xs) (f n)) (name_in xs) (λ x. x) F (λ y c. name_in_moved xs y.name)

    hypotheses_moved : (xs : List Variable) (hs : List Hypothesis) → map (hypothesis_named (map moved_variable xs)) (map moved_hypothesis hs) ≡ map (hypothesis_named xs) hs
    hypotheses_moved xs [] = refl
    hypotheses_moved xs (h ∷ hs) =
        ap (λ F. record { name = h.name; formula = F } ∷ map (hypothesis_named (map moved_variable xs)) (map moved_hypothesis hs)) (with_names_moved xs h.formula)
        ∙ ap (λ l. hypothesis_named xs h ∷ l) (hypotheses_moved xs hs)

    pub named_moved : (s : Sequent) → named (moved_goal s) ≡ named s
    named_moved s =
        let variables = names_kept s.variables in
        let hypotheses = hypotheses_moved s.variables s.hypotheses in
        let conclusion = with_names_moved s.variables s.conclusion in
        λ i. record { variables = variables i; hypotheses = hypotheses i; conclusion = conclusion i; counter = s.counter }
