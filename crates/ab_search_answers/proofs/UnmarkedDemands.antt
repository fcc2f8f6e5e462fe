-- WHAT A RULE LEAVES OF A JUDGEMENT, with a mark that isn't `#`, has no judgement that is marked so.
use Rattle.std.proofs.Common.{ℕ, ◌+◌, List, [], ◌∷◌, map, length, filter, not, codes}
use Rattle.ab_term.specs.Logical as plain
use Rattle.ab_term.specs.Terms.{Nominal, logical, lam, spine, no_terms, term, Read}
use Rattle.ab_term.specs.Substitution.{shift}
use Rattle.ab_term.specs.Variables.{image}
use Rattle.ab_term.specs.Sameness.{same_number}
use Rattle.ab_unifiers.specs.Clauses.{clause_variables, head_of, put_together}
use Rattle.ab_unifiers.specs.Prefixes.{own_terms}
use Rattle.ab_unifiers.specs.Alternatives.{made_terms}
use Rattle.ab_unifiers.specs.Member.{before}
use Rattle.ab_formulas.specs.BodyMarks.{mark_below, mark_above}
use Rattle.ab_formulas.specs.Marks as signs
use Rattle.ab_formulas.specs.Marks.{Sign}
use Rattle.ab_formulas.specs.Programs.{goals_in}
use Rattle.ab_formulas.specs.Sequents.{Variable, in_terms}
use Rattle.ab_theory.specs.Equations.{variables_from}
use Rattle.ab_theory.specs.Judgements.{Judgement, marked_judgement, marked_focus, constants_of}
use Rattle.ab_theory.specs.Opening.{both, open_goal, conjunction_from, conjunction_of}
use Rattle.ab_theory.specs.Parts.{put_under}
use Rattle.ab_theory.specs.Splits.{cell_for}
use Rattle.ab_theory.specs.SpecRules.{SpecRule, by_clause, by_list, by_opening, by_part, stands_in_goals_alone, demand_of}
use Rattle.ab_theory.specs.Unfolding.{exists_all}
use Rattle.ab_theory.proofs.Demands.{exists_all_stands, conjunction_stands}
use Rattle.ab_search_answers.specs.Unmarked.{HasNoHash}
use Rattle.ab_search_answers.proofs.OtherNames.{IsNoHash, exists_all_none}
use Rattle.ab_search_answers.proofs.Signs.{image_none}

-- the marks of a body are none

pub below_none : (m : Sign) → IsNoHash (mark_below m)
below_none signs.plain = tt
below_none (signs.star_of i) = tt
below_none (signs.at_of i) = tt
below_none (signs.plus_of i) = tt
below_none (signs.hash_of i) = tt

pub above_none : (m : Sign) → IsNoHash (mark_above m)
above_none signs.plain = tt
above_none (signs.star_of i) = tt
above_none (signs.at_of i) = tt
above_none (signs.plus_of i) = tt
above_none (signs.hash_of i) = tt

module _ (m : Sign) (is : IsNoHash m) where
  judged_none : (L G : Read) → HasNoHash (marked_judgement m L G)
  judged_none L G = go m is
    where
      go : (m : Sign) → IsNoHash m → HasNoHash (marked_judgement m L G)
      go signs.plain i = tt
      go (signs.star_of n) i = tt
      go (signs.at_of n) i = tt
      go (signs.plus_of n) i = tt
      go (signs.hash_of n) i = absurd i

  focused_none : (L F A : Read) → HasNoHash (marked_focus m L F A)
  focused_none L F A = go m is
    where
      go : (m : Sign) → IsNoHash m → HasNoHash (marked_focus m L F A)
      go signs.plain i = tt
      go (signs.star_of n) i = tt
      go (signs.at_of n) i = tt
      go (signs.plus_of n) i = tt
      go (signs.hash_of n) i = absurd i

  opened_none : (L G : Read) → HasNoHash (open_goal m L G)
  opened_none L (spine (logical (plain.spec_universal A)) (term (lam B x G) no_terms)) = opened_none (shift 0 L) G
  opened_none L (spine (logical plain.spec_implication) (term F (term G no_terms))) = opened_none (before F L) G
  opened_none L (spine (logical plain.spec_conjunction) (term F (term G no_terms))) = (opened_none L F, opened_none L G)
  opened_none L G = judged_none L G

  conjoined_none : (L F : Read) (Gs : List Read) → HasNoHash F → HasNoHash (conjunction_from F (map (open_goal m L) Gs))
  conjoined_none L F [] n = n
  conjoined_none L F (G ∷ Gs) n = conjoined_none L (both F (open_goal m L G)) Gs (n, opened_none L G)

  conjunction_none : (L : Read) (Gs : List Read) → HasNoHash (conjunction_of (map (open_goal m L) Gs))
  conjunction_none L [] = tt
  conjunction_none L (G ∷ Gs) = conjoined_none L (open_goal m L G) Gs (opened_none L G)

  left_none : (S : List Nominal) (n : ℕ) (L A : Read) (ys : List Variable) (Gs : List Read) → let own = filter (λ y. not (stands_in_goals_alone A Gs y)) ys in
      HasNoHash (image same_number (put_together (map in_terms own) (made_terms (codes "x") n S (map cell_for own))) (exists_all (filter (stands_in_goals_alone A Gs) ys) (conjunction_of (map (open_goal m L) Gs))))
  left_none S n L A ys Gs =
      let own = filter (λ y. not (stands_in_goals_alone A Gs y)) ys in
      let closed = filter (stands_in_goals_alone A Gs) ys in
      let F = conjunction_of (map (open_goal m L) Gs) in
      image_none (put_together (map in_terms own) (made_terms (codes "x") n S (map cell_for own))) (exists_all closed F) (exists_all_stands closed F (conjunction_stands m L Gs)) (exists_all_none closed F (conjunction_none L Gs))

  pub demand_none : (n : ℕ) (j : Judgement) (r : SpecRule) → HasNoHash (demand_of n m j r).body
  demand_none n j (by_clause c) =
      let ys = variables_from n c.variables in
      let named = put_together (clause_variables c) (own_terms (codes "x") (map in_terms ys)) in
      left_none (constants_of j) n j.context (image same_number named (head_of c)) ys (map (image same_number named) (goals_in c.body))
  demand_none n j by_list = (focused_none _ _ _, tt)
  demand_none n j by_opening = opened_none j.context j.goal
  demand_none n j (by_part p) =
      let ys = variables_from n p.names in
      let us = own_terms (codes "x") (map in_terms ys) in
      left_none (constants_of j) (n + length p.names) j.context (put_under p.names us p.atom) ys (map (put_under p.names us) p.goals)
