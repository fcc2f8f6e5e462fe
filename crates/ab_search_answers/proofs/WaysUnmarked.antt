-- THE WAYS OF A GOAL without coinductive judgements leave goals without them.
use Rattle.std.proofs.Common.{◌≡◌, inl, inr, ℕ, zero, suc, List, [], ◌∷◌, ◌++◌, map, length, codes, Bool, true, false, cond, Option, Some, None, refl, sym, subst}
use Rattle.std.specs.Prelude.{Contains}
use Rattle.std.proofs.lemmas.List.Elements.{Contains-append_cases}
use Rattle.ab_term.specs.Terms.{Read}
use Rattle.ab_term.specs.Names.{support, permute}
use Rattle.ab_term.specs.Substitution.{instance}
use Rattle.ab_term.specs.Variables.{value_in}
use Rattle.ab_term.specs.Sameness.{same_number}
use Rattle.ab_term.proofs.Lists.{Contains-none, Contains-cases, Contains-from_map}
use Rattle.ab_unifiers.specs.Alternatives.{on_right, alternative}
use Rattle.ab_unifiers.specs.Choices.{in_order, new_constant, for_each}
use Rattle.ab_unifiers.specs.Clauses.{name_term}
use Rattle.ab_unifiers.proofs.Choosing.{gathered_from}
use Rattle.ab_formulas.specs.BodyMarks.{mark_above}
use Rattle.ab_formulas.specs.Declarations.{Declarations, HaveDefinitions}
use Rattle.ab_formulas.specs.Formulas.{a_formula, StandsIn}
use Rattle.ab_formulas.specs.Forms.{Form, truth, falsity, both, either, implies, equal, for_all, exists, nabla, marked, other, form_of}
use Rattle.ab_formulas.specs.Marks.{erased}
use Rattle.ab_formulas.proofs.Images.{image_stands}
use Rattle.ab_theory.specs.Atoms.{Defined, Choice, defined_atom, choices_of}
use Rattle.ab_theory.specs.Judgements.{Judgement, as_judgement}
use Rattle.ab_search_trees.specs.Goals.{Goal, Now, asking, assuming}
use Rattle.ab_search_trees.specs.Judgements.{opened_once, is_blind, search_rules}
use Rattle.ab_search_trees.specs.Maps.{maps}
use Rattle.ab_search_trees.specs.Ways.{Way, in_turn, unfolds, equating, new_cell, new_term, by_truth, by_hypothesis, by_layer, by_form, by_choice, by_definition, by_rule, by_judgement, ways}
use Rattle.ab_search_trees.proofs.Smaller.{choice_defining}
use Rattle.ab_search_trees.proofs.Weights.{weight, Parts, parts_of}
use Rattle.ab_search_answers.specs.Unmarked.{HasNoHash, HaveNoHash}
use Rattle.ab_search_answers.proofs.Signs.{instance_none, image_none, PartsNone, parts_none, opened_none, marked_none, choice_none}
use Rattle.ab_search_answers.proofs.UnmarkedDemands.{above_none, demand_none}

-- each of the ways leaves such goals alone
abbrev Leave : List Way → Type 0
Leave ws = (w : Way) → Contains ws w → (h : Goal) → Contains w.goals h → HasNoHash h.conclusion

leave_none : Leave []
leave_none w m = absurd (Contains-none w m)

leave_one : (w : Way) → ((h : Goal) → Contains w.goals h → HasNoHash h.conclusion) → Leave (w ∷ [])
leave_one w f v m h k = elim (Contains-cases w [] v m) [ inl e ↦ f h (subst (λ (u : Way). Contains u.goals h) (sym e) k) | inr n ↦ absurd (Contains-none v n) ]

leave_both : (ws vs : List Way) → Leave ws → Leave vs → Leave (ws ++ vs)
leave_both ws vs a b w m = elim (Contains-append_cases ws vs w m) [ inl k ↦ a w k | inr k ↦ b w k ]

leave_map : {X : Type 0} (f : X → Way) (xs : List X) → ((x : X) → Contains xs x → (h : Goal) → Contains (f x).goals h → HasNoHash h.conclusion) → Leave (map f xs)
leave_map f xs k w m = let from = Contains-from_map f xs w m in subst (λ (v : Way). (h : Goal) → Contains v.goals h → HasNoHash h.conclusion) from.2 (k from.0 from.1)

-- one goal, or two
of_goal : (g : Goal) → HasNoHash g.conclusion → (h : Goal) → Contains (g ∷ []) h → HasNoHash h.conclusion
of_goal g n h m = elim (Contains-cases g [] h m) [ inl e ↦ subst (λ (k : Goal). HasNoHash k.conclusion) e n | inr i ↦ absurd (Contains-none h i) ]

of_goals : (g k : Goal) → HasNoHash g.conclusion → HasNoHash k.conclusion → (h : Goal) → Contains (g ∷ k ∷ []) h → HasNoHash h.conclusion
of_goals g k n o h m = elim (Contains-cases g (k ∷ []) h m) [ inl e ↦ subst (λ (k : Goal). HasNoHash k.conclusion) e n | inr i ↦ of_goal k o h i ]

module _ (D : Declarations) (defs : HaveDefinitions D) (none : HaveNoHash D) (now : Now) (g : Goal) (stands : StandsIn a_formula g.conclusion) (unmarked : HasNoHash g.conclusion) where
  truths : (X : Form) → Leave (by_truth D now g X)
  truths truth = leave_one _ (λ h m. absurd (Contains-none h m))
  truths _ = leave_none

  hypotheses : Leave (for_each (by_hypothesis D now g) g.hypotheses)
  hypotheses w m =
      let one = gathered_from (by_hypothesis D now g) g.hypotheses w m in
      leave_map (λ ps. equating D now g (permute ps (erased one.0)) (erased g.conclusion) ((g.conclusion, one.0) ∷ [])) (maps (in_order (support one.0)) g.constants) (λ ps i h k. absurd (Contains-none h k)) w one.2

  in_some_turn : (b : Bool) (l r : Goal) → HasNoHash l.conclusion → HasNoHash r.conclusion → (h : Goal) → Contains (in_turn b l r) h → HasNoHash h.conclusion
  in_some_turn true l r n o = of_goals r l o n
  in_some_turn false l r n o = of_goals l r n o

  layers : (n : ℕ) (o : Option Read) → opened_once g.conclusion ≡ o → Leave (by_layer D now g n o)
  layers zero None e = leave_none
  layers zero (Some F) e = leave_none
  layers (suc n) None e = leave_none
  layers (suc n) (Some F) e = leave_one _ (of_goal (record (asking F g) { layers = n }) (opened_none g.conclusion F e))

  forms : (X : Form) → Parts (weight g.conclusion) X → PartsNone X → Leave (by_form D now g X)
  forms (equal A t u) s p = leave_one _ (λ h m. absurd (Contains-none h m))
  forms (both A B) s p = leave_one _ (in_some_turn g.member_first (asking A g) (asking B g) p.0 p.1)
  forms (either A B) s p = leave_both (_ ∷ []) (_ ∷ []) (leave_one _ (of_goal (asking A g) p.0)) (leave_one _ (of_goal (asking B g) p.1))
  forms (implies A B) s p = leave_one _ (of_goal (asking B (assuming A g)) p.1)
  forms (nabla A F) s p = leave_one _ (of_goal _ (instance_none F (name_term (codes "x") (new_constant g.constants A)) s.0 p))
  forms (exists A F) s p = leave_one _ (of_goal _ (instance_none F (new_term D now g A g.constants) s.0 p))
  forms (for_all A F) s p = go g.untouched
    where
      w : Way
      w = record {
        cells = now.cells ++ new_cell D now g F A (in_order (support g.conclusion)) ∷ [];
        flexible = now.flexible;
        equations = [];
        serving = [];
        taken = [];
        goals = asking (instance F (new_term D now g A (in_order (support g.conclusion)))) g ∷ [];
      }

      go : (b : Bool) → Leave (cond b (w ∷ []) [])
      go true = leave_one w (of_goal (asking (instance F (new_term D now g A (in_order (support g.conclusion)))) g) (instance_none F (new_term D now g A (in_order (support g.conclusion))) s.0 p))
      go false = leave_none
  forms other s p = layers g.layers (opened_once g.conclusion) refl
  forms truth s p = leave_none
  forms falsity s p = leave_none
  forms (marked m A) s p = leave_none

  definitions : (n : ℕ) (o : Option Defined) → defined_atom D g.conclusion ≡ o → Leave (by_definition D now g n o)
  definitions zero None e = leave_none
  definitions zero (Some d) e = leave_none
  definitions (suc n) None e = leave_none
  definitions (suc n) (Some d) e = go (unfolds d.sign)
    where
      one : (c : Choice) → Contains (choices_of g.constants d) c → (h : Goal) → Contains (by_choice D now g n d c).goals h → HasNoHash h.conclusion
      one c m =
          let body = (choice_defining D defs g.conclusion d e g.constants c m).body.stands in
          let made = alternative (codes "x") (record { cells = now.cells; variables = []; constants = g.constants }) d.arguments c.clause c.names on_right in
          of_goal _ (marked_none d.block.predicates (mark_above d.sign) made.body (image_stands (value_in same_number _) a_formula c.clause.body body) (image_none _ c.clause.body body (choice_none D none g.conclusion d e g.constants c m)))

      go : (b : Bool) → Leave (cond b (map (by_choice D now g n d) (choices_of g.constants d)) [])
      go true = leave_map (by_choice D now g n d) (choices_of g.constants d) one
      go false = leave_none

  judgements : (n : ℕ) (o : Option Judgement) → as_judgement g.conclusion ≡ o → Leave (by_judgement D now g n o)
  judgements zero None e = leave_none
  judgements zero (Some j) e = leave_none
  judgements (suc n) None e = leave_none
  judgements (suc n) (Some j) e = go (unfolds j.sign)
    where
      go : (b : Bool) → Leave (cond b (map (by_rule D now g n j) (search_rules D j)) [])
      go true = leave_map (by_rule D now g n j) (search_rules D j) (λ r m. of_goal _ (demand_none (mark_above j.sign) (above_none j.sign) (length now.cells) j r))
      go false = leave_none

  pub ways_unmarked : Leave (ways D now g)
  ways_unmarked =
      let front = by_truth D now g (form_of g.conclusion) in
      let given = for_each (by_hypothesis D now g) g.hypotheses in
      leave_both (front ++ given) (cond (is_blind now.flexible g.conclusion) [] ((by_form D now g (form_of g.conclusion) ++ by_definition D now g g.depth (defined_atom D g.conclusion)) ++ by_judgement D now g g.depth (as_judgement g.conclusion)))
      (leave_both front given (truths (form_of g.conclusion)) hypotheses) (seen (is_blind now.flexible g.conclusion))
    where
      seen : (b : Bool) → Leave (cond b [] ((by_form D now g (form_of g.conclusion) ++ by_definition D now g g.depth (defined_atom D g.conclusion)) ++ by_judgement D now g g.depth (as_judgement g.conclusion)))
      seen true = leave_none
      seen false =
          let a = by_form D now g (form_of g.conclusion) in
          let b = by_definition D now g g.depth (defined_atom D g.conclusion) in
          let c = by_judgement D now g g.depth (as_judgement g.conclusion) in
          leave_both (a ++ b) c (leave_both a b (forms (form_of g.conclusion) (parts_of g.conclusion stands) (parts_none g.conclusion unmarked)) (definitions g.depth (defined_atom D g.conclusion) refl)) (judgements g.depth (as_judgement g.conclusion) refl)
