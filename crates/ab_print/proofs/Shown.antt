-- What is printed of a sequent is what is printed of the goal with names for its numbers.
use Rattle.std.specs.Prelude.{Contains, All}
use Rattle.std.proofs.Common.{◌≡◌, ℕ, List, [], ◌∷◌, ◌++◌, map, codes, decimal, refl, sym, ap, ◌∙◌}
use Rattle.std.proofs.lemmas.List.Elements.{All-head, All-tail, All-contains}
use Rattle.ab_term.specs.Terms.{Read}
use Rattle.ab_print.specs.ShapeText.{bytes}
use Rattle.ab_formulas.specs.Sequents as numbered
use Rattle.ab_term.specs.Variables.{variables}
use Rattle.ab_formulas.specs.Sequents.{Variable, in_terms, Sequent, HoldsOnly, formulas, formulas_of}
use Rattle.ab_print.specs.GoalText as by_number
use Rattle.ab_print.specs.GoalText.{variables_line, rule}
use Rattle.ab_formulas.specs.NamedGoals.{name_in, with_names, variable_named, hypothesis_named, named}
use Rattle.ab_print.specs.NamedGoalText.{shown, conclusion_line, hypothesis_lines, goal_lines, other_goal}
use Rattle.ab_print.proofs.Naming.{printed_told}
use Rattle.ab_formulas.proofs.GoalsAgreeing.{Calls, calls_as_listed, translate_agrees}

module _ (name : ℕ → List ℕ) (xs : List Variable) (calls : Calls name xs) where
  pub shown_so : (t : Read) → HoldsOnly xs t → shown (with_names xs t) ≡ by_number.shown name t
  shown_so t only =
      ap shown (sym (translate_agrees name (λ n. name_in xs n) (λ x. x) t (λ y m. calls_as_listed name xs calls y (All-contains (Contains (map in_terms xs)) (variables t) y only m))))
      ∙ ap bytes (printed_told name t)

  conclusion_so : (t : Read) → HoldsOnly xs t → conclusion_line (with_names xs t) ≡ by_number.conclusion_line name t
  conclusion_so t only = ap (λ q. codes " " ++ (q ++ codes "\n")) (shown_so t only)

  hypotheses_so : (hs : List numbered.Hypothesis) → All (HoldsOnly xs) (formulas hs) → hypothesis_lines (map (hypothesis_named xs) hs) ≡ by_number.hypothesis_lines name hs
  hypotheses_so [] only = refl
  hypotheses_so (h ∷ hs) only =
      let first = shown_so h.formula (All-head (HoldsOnly xs) h.formula (formulas hs) only) in
      let rest = hypotheses_so hs (All-tail (HoldsOnly xs) h.formula (formulas hs) only) in
      ap (λ q. h.name ++ (codes " : " ++ (q ++ (codes "\n" ++ hypothesis_lines (map (hypothesis_named xs) hs))))) first
      ∙ ap (λ q. h.name ++ (codes " : " ++ (by_number.shown name h.formula ++ (codes "\n" ++ q)))) rest

names_kept : (xs : List Variable) → map (λ x. x.name) (map variable_named xs) ≡ map (λ (x : Variable). x.name) xs
names_kept [] = refl
names_kept (x ∷ xs) = ap (λ q. x.name ∷ q) (names_kept xs)

module _ (name : ℕ → List ℕ) (s : Sequent) (calls : Calls name s.variables) (only : All (HoldsOnly s.variables) (formulas_of s)) where
  pub goal_so : goal_lines (named s) ≡ by_number.goal_lines name s
  goal_so =
      let c = conclusion_so name s.variables calls s.conclusion (All-head (HoldsOnly s.variables) s.conclusion (formulas s.hypotheses) only) in
      let h = hypotheses_so name s.variables calls s.hypotheses (All-tail (HoldsOnly s.variables) s.conclusion (formulas s.hypotheses) only) in
      ap (λ q. variables_line q ++ (hypothesis_lines (map (hypothesis_named s.variables) s.hypotheses) ++ (rule ++ conclusion_line (with_names s.variables s.conclusion)))) (names_kept s.variables)
      ∙ (ap (λ q. variables_line (map (λ x. x.name) s.variables) ++ (q ++ (rule ++ conclusion_line (with_names s.variables s.conclusion)))) h
      ∙ ap (λ q. variables_line (map (λ x. x.name) s.variables) ++ (by_number.hypothesis_lines name s.hypotheses ++ (rule ++ q))) c)

  pub other_so : (number : ℕ) → other_goal number (named s) ≡ by_number.other_goal name number s.conclusion
  other_so number =
      ap (λ q. codes "Subgoal " ++ (decimal number ++ (codes " is:\n" ++ q)))
      (conclusion_so name s.variables calls s.conclusion (All-head (HoldsOnly s.variables) s.conclusion (formulas s.hypotheses) only))
