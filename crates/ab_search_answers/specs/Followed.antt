-- A WAY OF THE SEARCH TREE TO AN ANSWER, as a list of steps: of each the goal's conclusion, and how the search went on from it, with all that is put in
-- from there down to the answer.
use Rattle.std.specs.Prelude.{◌≡◌, ℕ, ◌+◌, List, [], ◌∷◌, ◌++◌, map, length, codes, Bool, false, Some, slice_get, Contains}
use Rattle.ab_term.specs.Types.{Ty}
use Rattle.ab_term.specs.Terms.{Read}
use Rattle.ab_term.specs.Names.{support, support_of_all}
use Rattle.ab_term.specs.Variables.{Substitution, image, composition}
use Rattle.ab_term.specs.Sameness.{same_number}
use Rattle.ab_unifiers.specs.Alternatives.{made_terms}
use Rattle.ab_unifiers.specs.Choices.{in_order, outside, new_constant}
use Rattle.ab_unifiers.specs.Clauses.{Clause}
use Rattle.ab_unifiers.specs.Replacements.{Cell}
use Rattle.ab_unifiers.specs.Unification.{unified, Solves}
use Rattle.ab_formulas.specs.Declarations.{Declarations}
use Rattle.ab_formulas.specs.Forms.{equal, both, either, implies, for_all, exists, nabla, other, form_of}
use Rattle.ab_theory.specs.Atoms.{Defined, Choice, defined_atom, choices_of}
use Rattle.ab_theory.specs.Judgements.{Judgement, as_judgement, constants_of}
use Rattle.ab_theory.specs.SpecRules.{SpecRule, by_clause, by_part, by_list, by_opening}
use Rattle.ab_coverage.proofs.Demands.{clause_index, part_clause}
use Rattle.ab_coverage.proofs.IndexedSpecClauses.{closed_in, left_open}
use Rattle.ab_search_trees.specs.Goals.{Goal, Now, goal_under}
use Rattle.ab_search_trees.specs.Judgements.{search_rules}
use Rattle.ab_search_trees.specs.Outcomes.{filling}
use Rattle.ab_search_trees.specs.Tree.{Serve, problem_of, now_after}
use Rattle.ab_search_trees.specs.Ways.{Way, new_term, by_truth, by_hypothesis, by_form, by_definition, by_judgement, ways}
use Rattle.ab_search_layers.specs.Taken as way
use Rattle.ab_search_layers.specs.Taken.{Taking}

-- what is unified, and then the fillings of the answer
abbrev pub and_filled : Now → Substitution ℕ (List ℕ) → Substitution ℕ (List ℕ)
and_filled last n = composition same_number n (filling last.held last.flexible)

-- an answer of equations, and then this
abbrev pub in_the_end : Now → Substitution ℕ (List ℕ) → Substitution ℕ (List ℕ) → Substitution ℕ (List ℕ)
in_the_end last q n = composition same_number q (and_filled last n)

-- where n variables were ever made, what stands for a clause's variables: new ones over the atom's constants that weren't chosen
abbrev pub clause_terms : ℕ → Defined → Choice → List Read
clause_terms n d c = made_terms (codes "x") n (outside (in_order (support_of_all d.arguments)) c.names) c.clause.variables

-- the names of a clause of the program that aren't closed by an `exists`: those that stand in its head, or nowhere
abbrev pub names_open : Clause (List ℕ) → List (Cell (List ℕ))
names_open c = left_open (closed_in (clause_index c)) c.variables

-- what stands for a rule's names that aren't closed: new variables over the judgement's constants
abbrev pub rule_terms : ℕ → Judgement → SpecRule → List Read
rule_terms n j (by_clause c) = made_terms (codes "x") n (constants_of j) (names_open c)
rule_terms n j (by_part p) = made_terms (codes "x") (n + length p.names) (constants_of j) (left_open (closed_in (part_clause p)) p.names)
rule_terms n j by_list = []
rule_terms n j by_opening = []

-- of each name of a part of the formula in focus whether it is closed, since it stands in the part's goals and not in its atom; of another rule those that
-- are closed aren't told
abbrev pub closed_names : SpecRule → List Bool
closed_names (by_clause c) = map (λ z. false) (names_open c)
closed_names (by_part p) = closed_in (part_clause p)
closed_names by_list = []
closed_names by_opening = []

module _ (D : Declarations) (now : Now) (g : Goal) where
  -- the first and the second way by the form of the conclusion
  abbrev pub IsFirst : Way → Type 0
  IsFirst w = slice_get (by_form D now g (form_of g.conclusion)) 0 ≡ Some w

  abbrev pub IsSecond : Way → Type 0
  IsSecond w = slice_get (by_form D now g (form_of g.conclusion)) 1 ≡ Some w

  -- HOW THE WAY GOES ON from the goal, where r is put in at last
  pub data GoesOn (r : Substitution ℕ (List ℕ)) (w : Way) : Taking → Type 0 where
    as_truth : Contains (by_truth D now g (form_of g.conclusion)) w → GoesOn r w way.truth
    as_hypothesis : (i : ℕ) (B : Read) → slice_get g.hypotheses i ≡ Some B → Contains (by_hypothesis D now g B) w → GoesOn r w (way.hypothesis i)
    as_equality : {A : Ty} {t u : Read} → form_of g.conclusion ≡ equal A t u → IsFirst w → GoesOn r w way.equality
    as_both : {A B : Read} → form_of g.conclusion ≡ both A B → IsFirst w → GoesOn r w (way.both g.member_first)
    as_left : {A B : Read} → form_of g.conclusion ≡ either A B → IsFirst w → GoesOn r w way.left
    as_right : {A B : Read} → form_of g.conclusion ≡ either A B → IsSecond w → GoesOn r w way.right
    as_assuming : {A B : Read} → form_of g.conclusion ≡ implies A B → IsFirst w → GoesOn r w way.assuming
    -- the least constant that the branch doesn't hold
    as_constant : {A : Ty} {F : Read} → form_of g.conclusion ≡ nabla A F → IsFirst w → GoesOn r w (way.constant (new_constant g.constants A))
    -- what becomes of the variable that the way brings
    as_term : {A : Ty} {F : Read} → form_of g.conclusion ≡ exists A F → IsFirst w → GoesOn r w (way.term (image same_number r (new_term D now g A g.constants)))
    as_variable : {A : Ty} {F : Read} → form_of g.conclusion ≡ for_all A F → IsFirst w → GoesOn r w (way.variable (length now.cells) (in_order (support g.conclusion)))
    as_layer : form_of g.conclusion ≡ other → IsFirst w → GoesOn r w way.layer
    -- the choice of this number, and what becomes of the variables that it brings
    as_clause : (d : Defined) (c : Choice) (i : ℕ) → defined_atom D g.conclusion ≡ Some d → slice_get (choices_of g.constants d) i ≡ Some c → slice_get (by_definition D now g g.depth (defined_atom D g.conclusion)) i ≡ Some w
        → GoesOn r w (way.clause c.clause c.names (map (image same_number r) (clause_terms (length now.cells) d c)))
    as_rule : (j : Judgement) (s : SpecRule) (i : ℕ) → as_judgement g.conclusion ≡ Some j → slice_get (search_rules D j) i ≡ Some s → slice_get (by_judgement D now g g.depth (as_judgement g.conclusion)) i ≡ Some w
        → GoesOn r w (way.rule i (map (image same_number r) (rule_terms (length now.cells) j s)) (closed_names s))

-- FROM THE PLACE, where these goals are left, ways lead to the answer; on them this is put in, and these are the steps
pub data Follows (D : Declarations) (last : Now) : Now → List Goal → Substitution ℕ (List ℕ) → List (Read × Taking) → Type 0 where
  at_answer : Follows D last last [] [] []
  by_way : {now : Now} {g : Goal} {gs : List Goal} {n : Substitution ℕ (List ℕ)} {es : List (Read × Taking)} {k : Taking} (w : Way) (more : List (Cell (List ℕ))) (q : Substitution ℕ (List ℕ))
      → Contains (ways D now g) w → Solves (codes "x") (problem_of w) (unified more q) → Serve w → GoesOn D now g (in_the_end last q n) w k
      → Follows D last (now_after now w more q) (map (goal_under q) (w.goals ++ gs)) n es
      → Follows D last now (g ∷ gs) (composition same_number q n) ((image same_number (in_the_end last q n) g.conclusion, k) ∷ es)
