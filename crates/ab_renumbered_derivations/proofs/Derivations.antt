-- DERIVATIONS BY OTHER NUMBERS, step by step.
use Rattle.std.specs.Prelude.{All}
use Rattle.std.proofs.Common.{◌≡◌, ℕ, List, [], ◌∷◌, ◌++◌, map, refl, sym, ◌∙◌, ap, subst}
use Rattle.std.proofs.lemmas.List.{map-append}
use Rattle.std.proofs.lemmas.List.Elements.{All-head, All-tail}
use Rattle.ab_unifiers.proofs.Changes.{agreeing}
use Rattle.ab_formulas.specs.Declarations.{Declarations}
use Rattle.ab_formulas.specs.NamedGoals.{named}
use Rattle.ab_formulas.specs.Sequents.{Sequent, IsSequent}
use Rattle.ab_theory.specs.Derivations.{Derivation, goal, by, Derivations, none, more, root, roots, Valid, AllValid, open_goals, all_open_goals, debts_of, debts, all_debts}
use Rattle.ab_term.specs.Sameness.{same_number}
use Rattle.ab_theory.specs.Row.{Takes}
use Rattle.ab_theory.specs.Rules.{Rule, row, any_name}
use Rattle.ab_theory.specs.Steps.{Step}
use Rattle.ab_search_proofs.proofs.Places.{some_cells}
use Rattle.ab_effects.proofs.Renumbered.{moved_goal, named_moved}
use Rattle.ab_derived_goals.specs.Derived.{AreSound, IsDerived, IsDerivedAlike}
use Rattle.ab_derived_goals.proofs.Trees.{AreDerived, left, no_goals, and_these, stepped, premises}
use Rattle.ab_renumbered_derivations.proofs.Numbering.{f, most, numbering, are_most, goal_is}
use Rattle.ab_renumbered_derivations.proofs.Rows.{moved_step, same_debts, rule_moved}

module _ (D : Declarations) (sound : AreSound D) where
  -- A STEP: the step that is taken, and its premises
  record IsAlso (step : Step) (s : Sequent) (ps : List Sequent) : Type 0 where
    other : Step
    goals : List Sequent
    rule : Rule D other s goals
    same : map named goals ≡ map named ps
    owes : debts_of other ≡ debts_of step

  step_also : (step : Step) (t s : Sequent) (ps : List Sequent) → IsSequent D t → IsSequent D s → named t ≡ named s → Rule D step t ps → IsAlso step s ps
  step_also step t s ps is its same (cells, are, takes) =
      let at = some_cells s its.numbers_differ in
      let g = f D t s is its same cells are at.0 at.1 in
      let r = numbering D t s is its same cells are at.0 at.1 in
      record {
        other = moved_step g step;
        goals = map (moved_goal g) ps;
        rule = (
          most D t s is its same cells are at.0 at.1,
          are_most D t s is its same cells are at.0 at.1,
          subst (λ k. Takes (row D (any_name (most D t s is its same cells are at.0 at.1)) (moved_step g step) k) (map (moved_goal g) ps)) (goal_is D t s is its same cells are at.0 at.1)
              (rule_moved D sound g cells (most D t s is its same cells are at.0 at.1) r t step ps takes),
        );
        same = names_stay g (agreeing g r.different) ps;
        owes = same_debts g step;
      }
    where
      names_stay : (g : ℕ → ℕ) → ((i j : ℕ) → same_number (g i) (g j) ≡ same_number i j) → (qs : List Sequent) → map named (map (moved_goal g) qs) ≡ map named qs
      names_stay g agree [] = refl
      names_stay g agree (q ∷ qs) = ap (λ k. k ∷ map named (map (moved_goal g) qs)) (named_moved g agree q) ∙ ap (λ l. named q ∷ l) (names_stay g agree qs)

  abbrev AllAlike : List Sequent → Derivations → Type 0
  AllAlike ss ds = (qs : List Sequent) × AreDerived D ss qs (all_debts ds) × (map named qs ≡ map named (all_open_goals ds))

  -- one more
  and_also : (d : Derivation) (ds : Derivations) (s : Sequent) (ss : List Sequent) → IsDerivedAlike D s (open_goals d) (debts d) → AllAlike ss ds → AllAlike (s ∷ ss) (more d ds)
  and_also d ds s ss (ps, a, e) (qs, b, h) = (
    ps ++ qs,
    and_these D s ss ps qs (debts d) (all_debts ds) a b,
    map-append named ps qs ∙ ap (λ l. l ++ map named qs) e ∙ ap (λ l. map named (open_goals d) ++ l) h ∙ sym (map-append named (open_goals d) (all_open_goals ds)),
  )

  mutual
    pub also : (d : Derivation) (s : Sequent) → Valid D d → IsSequent D (root d) → IsSequent D s → named (root d) ≡ named s → IsDerivedAlike D s (open_goals d) (debts d)
    also (goal t) s valid is its same = (s ∷ [], left D s, ap (λ g. g ∷ []) (sym same))
    also (by step t ds) s valid is its same =
        let a = step_also step t s (roots ds) is its same valid.0 in
        let w = all_also ds a.goals valid.1 (premises D sound step t (roots ds) is valid.0) (premises D sound a.other s a.goals its a.rule) (sym a.same) in
        (w.0, subst (λ l. IsDerived D s w.0 (l ++ all_debts ds)) a.owes (stepped D a.other s a.goals w.0 (all_debts ds) a.rule w.1), w.2)

    all_also : (ds : Derivations) (ss : List Sequent) → AllValid D ds → All (IsSequent D) (roots ds) → All (IsSequent D) ss → map named (roots ds) ≡ map named ss → AllAlike ss ds
    all_also none [] valid are its same = ([], no_goals D, refl)
    all_also none (s ∷ ss) valid are its same = absurd (cc)
    all_also (more d ds) [] valid are its same = absurd (cc)
    all_also (more d ds) (s ∷ ss) valid are its same =
        let first : named (root d) ≡ named s = cc in
        let rest : map named (roots ds) ≡ map named ss = cc in
        and_also d ds s ss (also d s valid.0 (All-head (IsSequent D) (root d) (roots ds) are) (All-head (IsSequent D) s ss its) first)
        (all_also ds ss valid.1 (All-tail (IsSequent D) (root d) (roots ds) are) (All-tail (IsSequent D) s ss its) rest)
