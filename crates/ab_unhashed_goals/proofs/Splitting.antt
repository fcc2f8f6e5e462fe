-- A GOAL IS SPLIT by a defined atom or a judgement, or an equation of it is solved; and a conclusion is unfolded.
use Rattle.std.proofs.Common.{◌≡◌, inl, inr, ℕ, List, [], ◌∷◌, length, codes, Some, refl, sym, subst}
use Rattle.std.specs.Prelude.{All, Contains}
use Rattle.std.proofs.lemmas.List.Elements.{All-nil, All-cons, All-head, All-tail, All-pop, Contains-append_right}
use Rattle.ab_term.specs.Terms.{Nominal, Terms, Read}
use Rattle.ab_term.specs.Variables.{image}
use Rattle.ab_term.specs.Sameness.{same_number}
use Rattle.ab_term.proofs.Lists.{Contains-here, Contains-there, Contains-from_map}
use Rattle.ab_unifiers.specs.Clauses.{Clause}
use Rattle.ab_unifiers.specs.Choices.{outside}
use Rattle.ab_unifiers.specs.Alternatives.{Scope, on_left, alternative, analysed, atom_constants}
use Rattle.ab_unifiers.specs.Replacements.{Cell}
use Rattle.ab_formulas.specs.BodyMarks.{mark_below, mark_above, marked_in}
use Rattle.ab_formulas.specs.Declarations.{Declarations, HaveDefinitions}
use Rattle.ab_formulas.specs.Marks.{Sign}
use Rattle.ab_formulas.specs.NewNames.{Label}
use Rattle.ab_formulas.specs.Sequents.{Variable, Hypothesis, Sequent, goal_names, assuming}
use Rattle.ab_theory.specs.Analysis.{case_of, raised_variables, raised_goal, scope_of}
use Rattle.ab_theory.specs.Atoms.{Defined, Choice, defined_atom, choices_of}
use Rattle.ab_theory.specs.Equations.{Naming, made, renaming}
use Rattle.ab_theory.specs.JudgementCases.{judgement_case}
use Rattle.ab_theory.specs.Judgements.{Judgement}
use Rattle.ab_theory.specs.SpecRules.{SpecRule, demand_of}
use Rattle.ab_theory.specs.Splits.{Case, CaseOver, Arises, Split}
use Rattle.ab_theory.specs.Subjects.{Subject, an_atom, a_judgement, cases_by, Way, way_by_choice, way_by_rule, ways_of, conclusion_then}
use Rattle.ab_theory.specs.Unfolding.{nabla_all, closed_over}
use Rattle.ab_theory.proofs.Demands.{demand_stands}
use Rattle.ab_theory.proofs.SubjectParts.{IsSubject}
use Rattle.ab_search_trees.proofs.Smaller.{choice_defining}
use Rattle.ab_search_trees.proofs.Weights.{body_stands}
use Rattle.ab_effects.specs.CaseAnalysis.{AllOpened}
use Rattle.ab_effects.specs.Solutions.{IsSolved}
use Rattle.ab_effects.specs.Unfoldings.{IsUnfolded}
use Rattle.ab_search_answers.specs.Unmarked.{HasNoHash, HaveNoHash}
use Rattle.ab_search_answers.proofs.Signs.{marked_none, choice_none}
use Rattle.ab_search_answers.proofs.OtherNames.{IsNoHash, exists_all_none, nabla_all_none}
use Rattle.ab_search_answers.proofs.UnmarkedDemands.{below_none, above_none, demand_none}
use Rattle.ab_unhashed_goals.specs.Unhashed.{NoJudgementIsHashed}
use Rattle.ab_unhashed_goals.proofs.Formulas.{IsFine, image_fine}
use Rattle.ab_unhashed_goals.proofs.Goals.{IsFineGoal, and_hypothesis, changed_fine, none_hashed}
use Rattle.ab_unhashed_goals.proofs.Opening.{opened_goal}

abbrev Cells : Type 0
Cells = List (Cell (List ℕ))

-- A GOAL UNDER AN ANSWER

pub arises_fine : {IsName : Naming} {c : Case} {after : Cells} {g : Sequent} → Arises IsName c after g → IsFineGoal c.goal → IsFineGoal g
arises_fine {c = c} a is =
    subst IsFineGoal (sym a.goal)
    (changed_fine (λ F. image same_number (renaming (made c.before a.more a.answer) a.new) (image same_number a.answer F))
    (λ F k. image_fine (renaming (made c.before a.more a.answer) a.new) (image same_number a.answer F) (image_fine a.answer F k)) _ c.goal is)

pub solved_fine : (D : Declarations) (s : Sequent) (t u : Read) (gs : List Sequent) → IsSolved D s t u gs → IsFineGoal s → All IsFineGoal gs
solved_fine D s t u gs (cells, are, inr (apart, e)) is = subst (All IsFineGoal) (sym e) (All-nil IsFineGoal)
solved_fine D s t u gs (cells, are, inl (g, (more, answer, solves, (ys, named, under)), e)) is =
    subst (All IsFineGoal) (sym e)
    (All-cons IsFineGoal g []
    (subst IsFineGoal (sym under)
    (changed_fine (λ F. image same_number (renaming (made cells more answer) ys) (image same_number answer F))
    (λ F k. image_fine (renaming (made cells more answer) ys) (image same_number answer F) (image_fine answer F k)) _ s is))
    (All-nil IsFineGoal))

-- THE CASES

abbrev AreFineCases : List CaseOver → Type 0
AreFineCases cs = (c : CaseOver) → Contains cs c → (cells : Cells) → IsFineGoal (c cells).goal

split_fine : {IsName : Naming} {cells : Cells} {cs : List CaseOver} {gs : List Sequent} → Split IsName cells cs gs → AreFineCases cs → All IsFineGoal gs
split_fine Split.done are = All-nil IsFineGoal
split_fine (Split.never {c = c} {cs = cs} n s) are = split_fine s (λ d m. are d (Contains-there c cs d m))
split_fine (Split.arises {cells = cells} {c = c} {cs = cs} {g = g} {gs = gs} a s) are =
    All-cons IsFineGoal g gs (arises_fine a (are c (Contains-here c cs) cells)) (split_fine s (λ d m. are d (Contains-there c cs d m)))

-- the body of a clause, with whatever is put in
body_fine : (x : List ℕ) (sequent : Scope (List ℕ)) (ts : Terms ℕ (List ℕ)) (c : Clause (List ℕ)) (ns new : List Nominal) → IsFine c.body → IsFine (analysed x sequent ts c ns new).body
body_fine x sequent ts c ns [] is = image_fine _ c.body is
body_fine x sequent ts c ns (a ∷ new) is = image_fine _ c.body is

marked_fine : (ps : List (List ℕ)) (m : Sign) (F : Read) → IsFine F → IsFine (marked_in ps m F)
marked_fine ps m F is = record { stands = body_stands ps m F is.stands; none = marked_none ps m F is.stands is.none }

-- what a rule leaves
demand_fine : (m : Sign) → IsNoHash m → (n : ℕ) (j : Judgement) (r : SpecRule) → IsFine (demand_of n m j r).body
demand_fine m is n j r = record { stands = demand_stands n m j r; none = demand_none m is n j r }

module _ (D : Declarations) (definitions : HaveDefinitions D) (none : HaveNoHash D) where
  clause_fine : (F : Read) (d : Defined) → defined_atom D F ≡ Some d → (held : List Nominal) (c : Choice) → Contains (choices_of held d) c → IsFine c.clause.body
  clause_fine F d is held c m = record { stands = (choice_defining D definitions F d is held c m).body.stands; none = choice_none D none F d is held c m }

  case_fine : (goal rest : Sequent) (name : List ℕ) (F : Read) (d : Defined) → defined_atom D F ≡ Some d → IsFineGoal rest → (c : Choice) → Contains (choices_of (goal_names goal) d) c
      → (cells : Cells) → IsFineGoal (case_of goal rest name d c cells).goal
  case_fine goal rest name F d is fine c m cells =
      let alt = alternative (codes "x") (scope_of cells goal) d.arguments c.clause c.names on_left in
      let new = outside c.names (atom_constants (codes "x") (scope_of cells goal) d.arguments c.clause c.names) in
      let body = body_fine (codes "x") (scope_of cells goal) d.arguments c.clause c.names new (clause_fine F d is (goal_names goal) c m) in
      let raised = changed_fine (image same_number alt.raised) (image_fine alt.raised) (raised_variables rest.variables alt.flexible) rest fine in
      record { conclusion = raised.conclusion; hypotheses = and_hypothesis IsFine name (marked_in d.block.predicates (mark_below d.sign) alt.body) (raised_goal alt rest) raised.hypotheses (marked_fine d.block.predicates (mark_below d.sign) alt.body body) }

  cases_fine : (goal rest : Sequent) (name : List ℕ) (F : Read) (x : Subject) → IsSubject D F x → IsFineGoal rest → AreFineCases (cases_by goal rest name x)
  cases_fine goal rest name F (an_atom d) is fine c m cells =
      let from = Contains-from_map (case_of goal rest name d) (choices_of (goal_names goal) d) c m in
      subst (λ (k : CaseOver). IsFineGoal (k cells).goal) from.2 (case_fine goal rest name F d is fine from.0 from.1 cells)
  cases_fine goal rest name F (a_judgement j rs) is fine c m cells =
      let from = Contains-from_map (judgement_case goal rest name j) rs c m in
      subst (λ (k : CaseOver). IsFineGoal (k cells).goal) from.2
      (record { conclusion = fine.conclusion; hypotheses = and_hypothesis IsFine name _ rest fine.hypotheses (demand_fine (mark_below j.sign) (below_none j.sign) (length cells) j from.0) })

  pub parted_fine : {IsName : Naming} (goal rest : Sequent) (name : List ℕ) (F : Read) (x : Subject) (cells : Cells) (gs : List Sequent) → IsSubject D F x → IsFineGoal rest → Split IsName cells (cases_by goal rest name x) gs → All IsFineGoal gs
  parted_fine goal rest name F x cells gs is fine s = split_fine s (cases_fine goal rest name F x is fine)

  -- THE CONCLUSION IS UNFOLDED

  by_choice_none : (s : Sequent) (F : Read) (d : Defined) → defined_atom D F ≡ Some d → (c : Choice) → Contains (choices_of (goal_names s) d) c → (cells more : Cells) (answer : _)
      → let w = way_by_choice s d c in HasNoHash (conclusion_then (w.case cells) w.closed more answer)
  by_choice_none s F d is c m cells more answer =
      let w = way_by_choice s d c in
      let body = image_fine answer _ (marked_fine d.block.predicates (mark_above d.sign) _ (image_fine _ c.clause.body (clause_fine F d is (goal_names s) c m))) in
      closed_none (made (w.case cells).before more answer) (image same_number answer (w.case cells).goal.conclusion) body.none
    where
      closed_none : (ys : List Variable) (B : Read) → HasNoHash B → HasNoHash (closed_over ys c B)
      closed_none [] B n = n
      closed_none (y ∷ ys) B n = exists_all_none (y ∷ ys) (nabla_all c.clause.names c.names B) (nabla_all_none c.clause.names c.names B n)

  by_rule_none : (s : Sequent) (j : Judgement) (r : SpecRule) (cells more : Cells) (answer : _) → let w = way_by_rule s j r in HasNoHash (conclusion_then (w.case cells) w.closed more answer)
  by_rule_none s j r cells more answer =
      let w = way_by_rule s j r in
      exists_all_none (made (w.case cells).before more answer) (image same_number answer (w.case cells).goal.conclusion) (image_fine answer _ (demand_fine (mark_above j.sign) (above_none j.sign) (length cells) j r)).none

  way_none : (s : Sequent) (F : Read) (x : Subject) → IsSubject D F x → (w : Way) → Contains (ways_of s x) w → (cells more : Cells) (answer : _) → HasNoHash (conclusion_then (w.case cells) w.closed more answer)
  way_none s F (an_atom d) is w m cells more answer =
      let from = Contains-from_map (way_by_choice s d) (choices_of (goal_names s) d) w m in
      subst (λ (v : Way). HasNoHash (conclusion_then (v.case cells) v.closed more answer)) from.2 (by_choice_none s F d is from.0 from.1 cells more answer)
  way_none s F (a_judgement j rs) is w m cells more answer =
      let from = Contains-from_map (way_by_rule s j) rs w m in
      subst (λ (v : Way). HasNoHash (conclusion_then (v.case cells) v.closed more answer)) from.2 (by_rule_none s j from.0 cells more answer)

  pub unfolded_none : (s : Sequent) (F : Read) (x : Subject) (t : Sequent) → IsSubject D F x → IsFineGoal s → IsUnfolded s x t → NoJudgementIsHashed t
  unfolded_none s F x t is fine u =
      let (before, after, e, never) = u.first in
      let there : Contains (ways_of s x) u.way = subst (λ ws. Contains ws u.way) (sym e) (Contains-append_right before (u.way ∷ after) u.way (Contains-here u.way after)) in
      subst NoJudgementIsHashed (sym u.goal) (record { conclusion = way_none s F x is u.way there u.cells u.more u.answer; hypotheses = (none_hashed s fine).hypotheses })

-- THE LAST HYPOTHESIS OF EACH GOAL IS OPENED
pub all_opened_fine : {D : Declarations} {l : Label} {gs us : List Sequent} → AllOpened D l gs us → All IsFineGoal gs → All IsFineGoal us
all_opened_fine AllOpened.none all = All-nil IsFineGoal
all_opened_fine (AllOpened.one name {F = F} {s = s} {u = u} {gs = gs} {us = us} o rest) all =
    let here = All-head IsFineGoal (assuming name F s) gs all in
    let parts = All-pop (λ (h : Hypothesis). IsFine h.formula) (assuming name F s).hypotheses s.hypotheses (Some (record { name = name; formula = F })) refl here.hypotheses in
    All-cons IsFineGoal u us (opened_goal o parts.1 (record { conclusion = here.conclusion; hypotheses = parts.0 })) (all_opened_fine rest (All-tail IsFineGoal (assuming name F s) gs all))
