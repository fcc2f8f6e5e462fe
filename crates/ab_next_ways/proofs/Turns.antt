-- One turn, kind by kind.
use Rattle.std.proofs.Common.{◌≡◌, ℕ, suc, ◌+◌, List, [], ◌++◌, drop, Option, Some, None, refl, sym, ◌∙◌, ap, subst, arith, append-nil}
use Rattle.ab_norm.specs.ab_store.specs.declared.node.TermId.{TermId}
use Rattle.ab_formulas.specs.Declarations.{Declarations}
use Rattle.ab_formulas.specs.Forms.{form_of}
use Rattle.ab_logic.specs.Worlds.{declarations_of}
use Rattle.ab_logic.specs.declared.world.World.{World}
use Rattle.ab_theory.specs.Atoms.{defined_atom}
use Rattle.ab_theory.specs.Judgements.{as_judgement}
use Rattle.ab_search_trees.specs.Goals as tree
use Rattle.ab_search_trees.specs.Goals.{Now}
use Rattle.ab_search_trees.specs.Ways as trees
use Rattle.ab_search_ways.specs.MadeWays.{IsWayAt}
use Rattle.ab_search_ways.specs.declared.way.Way.{Way}
use Rattle.ab_next_ways.specs.Cursors.{by_hypotheses_from, by_forms_from, by_choices_from, IsBehind}
use Rattle.ab_next_ways.specs.Steps.{IsStep, step_of, behind_choice, behind_rule}
use Rattle.ab_next_ways.specs.declared.cursor.Cursor.TheVariants.{Hypothesis, Second, Choice, Rule, End}
use Rattle.ab_next_ways.proofs.Rows.{row_made, row_passed, row_step, none_behind, one_truth, two_forms, ways_are}

one_more : (k : ℕ) → suc k ≡ k + 1
one_more k = omega arith

module _ (v : World) (base : List TermId) (now : Now) (g : tree.Goal) (ws : List trees.Way) (D : Declarations) (same : declarations_of v ≡ D) where
  abbrev E : Declarations
  E = declarations_of v

  abbrev by_definition : Declarations → List trees.Way
  by_definition D = trees.by_definition D now g g.depth (defined_atom D g.conclusion)

  abbrev by_judgement : Declarations → List trees.Way
  by_judgement D = trees.by_judgement D now g g.depth (as_judgement g.conclusion)

  pub start_step : (o : Option Way) → IsWayAt v base (trees.by_truth D now g (form_of g.conclusion)) 0 o → ws ≡ trees.ways D now g → IsStep v base now g ws (Hypothesis 0) (step_of o)
  start_step o at e =
      row_step v base now g ws (trees.by_truth E now g (form_of g.conclusion)) (by_hypotheses_from E now g 0) 0 (subst (λ D. ws ≡ trees.ways D now g) (sym same) e ∙ ways_are E now g) (Hypothesis 0)
      o (subst (λ D. IsWayAt v base (trees.by_truth D now g (form_of g.conclusion)) 0 o) (sym same) at)
      (ap (λ l. l ++ by_hypotheses_from E now g 0) (one_truth E now g (form_of g.conclusion))) (λ none. refl) (λ way t. t)

  pub form_step : (o : Option Way) → IsWayAt v base (trees.by_form D now g (form_of g.conclusion)) 0 o → ws ≡ by_forms_from D now g 0 → IsStep v base now g ws Second (step_of o)
  form_step o at e =
      row_step v base now g ws (trees.by_form E now g (form_of g.conclusion)) (by_choices_from E now g 0) 0 (subst (λ D. ws ≡ by_forms_from D now g 0) (sym same) e) Second
      o (subst (λ D. IsWayAt v base (trees.by_form D now g (form_of g.conclusion)) 0 o) (sym same) at)
      refl (λ none. sym (ap (λ l. l ++ by_choices_from E now g 0) (none_behind (trees.by_form E now g (form_of g.conclusion)) 0 none))) (λ way t. t)

  pub second_step : (o : Option Way) → IsWayAt v base (trees.by_form D now g (form_of g.conclusion)) 1 o → ws ≡ by_forms_from D now g 1 → IsStep v base now g ws (Choice 0) (step_of o)
  second_step o at e =
      row_step v base now g ws (trees.by_form E now g (form_of g.conclusion)) (by_choices_from E now g 0) 1 (subst (λ D. ws ≡ by_forms_from D now g 1) (sym same) e) (Choice 0)
      o (subst (λ D. IsWayAt v base (trees.by_form D now g (form_of g.conclusion)) 1 o) (sym same) at)
      (ap (λ l. l ++ by_choices_from E now g 0) (two_forms E now g (form_of g.conclusion))) (λ none. refl) (λ way t. t)

  pub choice_step : (k : ℕ) (o : Option Way) → IsWayAt v base (by_definition D) k o → ws ≡ by_choices_from D now g k → IsStep v base now g ws (behind_choice o k) (step_of o)
  choice_step k (Some made) at e =
      row_made v base now g ws (by_definition E) (by_judgement E) k (subst (λ D. ws ≡ by_choices_from D now g k) (sym same) e) (Choice (k + 1))
      made (subst (λ D. IsWayAt v base (by_definition D) k (Some made)) (sym same) at) refl (λ way t. subst (λ n. IsBehind E now g (Choice n) way) (one_more k) t)
  choice_step k None at e =
      row_passed v base now g ws (by_definition E) (by_judgement E) k (subst (λ D. ws ≡ by_choices_from D now g k) (sym same) e) (Rule 0)
      (subst (λ D. IsWayAt v base (by_definition D) k None) (sym same) at) refl

  pub rule_step : (k : ℕ) (o : Option Way) → IsWayAt v base (by_judgement D) k o → ws ≡ drop k (by_judgement D) → IsStep v base now g ws (behind_rule o k) (step_of o)
  rule_step k (Some made) at e =
      row_made v base now g ws (by_judgement E) [] k (subst (λ D. ws ≡ drop k (by_judgement D)) (sym same) e ∙ sym (append-nil (drop k (by_judgement E)))) (Rule (k + 1))
      made (subst (λ D. IsWayAt v base (by_judgement D) k (Some made)) (sym same) at) (append-nil (drop (k + 1) (by_judgement E)))
      (λ way t. subst (λ n. IsBehind E now g (Rule n) way) (one_more k) t)
  rule_step k None at e =
      row_passed v base now g ws (by_judgement E) [] k (subst (λ D. ws ≡ drop k (by_judgement D)) (sym same) e ∙ sym (append-nil (drop k (by_judgement E)))) End
      (subst (λ D. IsWayAt v base (by_judgement D) k None) (sym same) at) refl
