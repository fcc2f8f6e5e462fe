-- WHAT A SEARCH COMES TO, by the leaves of its tree.
use Rattle.std.specs.Prelude.{◌≡◌, ℕ, List, [], ◌∷◌, codes, zero, suc, Contains}
use Rattle.ab_term.specs.Types.{Ty}
use Rattle.ab_term.specs.Logical.{existential}
use Rattle.ab_term.specs.Terms.{Nominal, Variable, logical, spine, no_terms, term, Read}
use Rattle.ab_term.specs.Substitution.{instance}
use Rattle.ab_term.specs.Variables.{Substitution, composition}
use Rattle.ab_term.specs.Sameness.{same_number}
use Rattle.ab_unifiers.specs.Replacements.{Cell}
use Rattle.ab_unifiers.specs.Clauses.{name_term}
use Rattle.ab_unifiers.specs.Choices.{new_constant}
use Rattle.ab_formulas.specs.Declarations.{Declarations}
use Rattle.ab_formulas.specs.Sequents.{Sequent}
use Rattle.ab_theory.specs.Equations.{AreCells}
use Rattle.ab_search_trees.specs.Goals.{Now, beginning, first_goal}
use Rattle.ab_search_trees.specs.Guesses.{a_variable}
use Rattle.ab_search_trees.specs.Tree.{Leaf, found, stuck_at, blind, Leaves}

-- the goal is closed; or no way closes it, and of the equations that are outside the patterns the first has this number;
-- or no way closes it, and there is no such equation
pub data Outcome : Type 0 where
  closed : Outcome
  not_pattern : ℕ → Outcome
  not_found : Outcome

-- a leaf, and then the others
abbrev pub outcome_behind : Leaf → Outcome → Outcome
outcome_behind (found now) o = closed
outcome_behind (stuck_at i) closed = closed
outcome_behind (stuck_at i) (not_pattern j) = not_pattern i
outcome_behind (stuck_at i) not_found = not_pattern i
outcome_behind blind o = o

-- THE OUTCOME: closed where there is an answer; else the first equation outside the patterns, if there is one
abbrev pub outcome_of : List Leaf → Outcome
outcome_of [] = not_found
outcome_of (l ∷ ls) = outcome_behind l (outcome_of ls)

-- THE SEARCH OF A SEQUENT to a depth has the leaves, over all variables that were ever made
abbrev pub Searched : Declarations → List (Cell (List ℕ)) → ℕ → Sequent → List Leaf → Type 0
Searched D cells depth s ls = Leaves D (beginning cells s) (first_goal depth s ∷ []) ls

-- it comes to this
abbrev pub ComesTo : Declarations → ℕ → Sequent → Outcome → Type 0
ComesTo D depth s o = (cells : List (Cell (List ℕ))) × AreCells cells s × (ls : List Leaf) × Searched D cells depth s ls × (outcome_of ls ≡ o)

-- the answers, in order, as far as no equation outside the patterns comes before them: the first so many, or the number of
-- the equation
pub data Answers : Type 0 where
  these : List Now → Answers
  but_for : ℕ → Answers

abbrev pub answer_and : Now → Answers → Answers
answer_and now (these ns) = these (now ∷ ns)
answer_and now (but_for i) = but_for i

-- THE FIRST ANSWERS, so many: where a stuck leaf comes before the last of them, they aren't told
abbrev pub first_answers : ℕ → List Leaf → Answers
first_answers zero ls = these []
first_answers (suc n) [] = these []
first_answers (suc n) (found now ∷ ls) = answer_and now (first_answers n ls)
first_answers (suc n) (stuck_at i ∷ ls) = but_for i
first_answers (suc n) (blind ∷ ls) = first_answers (suc n) ls

-- WHAT AN ANSWER LEAVES OPEN is filled, in order of age, with constants of the least numbers that no goal on the way holds
abbrev pub filling : List Nominal → List (Variable ℕ) → Substitution ℕ (List ℕ)
filling held [] = []
filling held (z ∷ zs) =
    let a = new_constant held z.type in
    (z, name_term (codes "x") a) ∷ filling (a ∷ held) zs

-- what the answer puts in for each variable then
abbrev pub whole_answer : Now → Substitution ℕ (List ℕ)
whole_answer now = composition same_number now.answer (filling now.held now.flexible)

-- THE ANSWERS among the leaves, in order
abbrev pub answers_in : List Leaf → List Now
answers_in [] = []
answers_in (found now ∷ ls) = now ∷ answers_in ls
answers_in (stuck_at i ∷ ls) = answers_in ls
answers_in (blind ∷ ls) = answers_in ls

-- none of the leaves is an equation outside the patterns
abbrev pub NoneStuck : List Leaf → Type 0
NoneStuck ls = (i : ℕ) → ¬ Contains ls (stuck_at i)

-- THE FORMULA OF A QUERY, the quantifiers in front opened by variables, numbered from there on, in order: as many of them as
-- one likes
pub data Asks : ℕ → Read → Read → Type 0 where
  asks_all : {n : ℕ} {C : Read} → Asks n C C
  asks_for : {n : ℕ} {A : Ty} {F E : Read} → Asks (suc n) (instance F (a_variable n [] A)) E → Asks n (spine (logical (existential A)) (term F no_terms)) E
