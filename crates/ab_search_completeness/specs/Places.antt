-- PLACES OF THE SEARCH TREE, and that the formulas in focus which the search takes apart there are firm.
use Rattle.std.specs.Prelude.{◌≡◌, ◌≢◌, ℕ, zero, List, [], ◌∷◌, ◌++◌, map, codes, true, false, Some, Contains}
use Rattle.ab_term.specs.Types.{Ty}
use Rattle.ab_term.specs.Terms.{Read}
use Rattle.ab_term.specs.Variables.{Substitution}
use Rattle.ab_unifiers.specs.Replacements.{Cell}
use Rattle.ab_unifiers.specs.Unification.{unified, Solves}
use Rattle.ab_formulas.specs.Declarations.{Declarations}
use Rattle.ab_formulas.specs.Forms.{exists, form_of}
use Rattle.ab_formulas.specs.Marks.{erased}
use Rattle.ab_formulas.specs.Sequents.{Sequent}
use Rattle.ab_theory.specs.Equations.{AreCells}
use Rattle.ab_theory.specs.Judgements.{Judgement, as_judgement}
use Rattle.ab_search_trees.specs.Goals.{Goal, Now, goal_under, beginning, first_goal}
use Rattle.ab_search_trees.specs.Judgements.{is_blind}
use Rattle.ab_search_trees.specs.Ways.{Way, unfolds, ways}
use Rattle.ab_search_trees.specs.Tree.{Leaf, blind, problem_of, Serve, now_after}
use Rattle.ab_search_trees.specs.Outcomes.{Searched}
use Rattle.ab_search_completeness.specs.Firm.{IsFirm, KeepsNames}

-- FROM ONE PLACE OF THE TREE TO ANOTHER below it: by a way of the first goal whose sides are made equal and whose marks serve, and on
pub data LeadsTo (D : Declarations) : Now → List Goal → Now → List Goal → Type 0 where
  it_is : {now : Now} {gs : List Goal} → LeadsTo D now gs now gs
  by_way : {now last : Now} {g : Goal} {gs hs : List Goal} (w : Way) (more : List (Cell (List ℕ))) (q : Substitution ℕ (List ℕ))
      → Contains (ways D now g) w → Solves (codes "x") (problem_of w) (unified more q) → Serve w
      → LeadsTo D (now_after now w more q) (map (goal_under q) (w.goals ++ gs)) last hs → LeadsTo D now (g ∷ gs) last hs

-- a hypothesis begins with `exists`, whatever its marks
abbrev pub HasExistential : List Read → Type 0
HasExistential Hs = (H : Read) × (A : Ty) × (E : Read) × Contains Hs H × (form_of (erased H) ≡ exists A E)

-- where the goal is a judgement that may be unfolded, and the search isn't blind for it, its formula in focus is firm; and it keeps its
-- names, where a hypothesis begins with `exists`
abbrev pub FocusIsFirm : Now → Goal → Type 0
FocusIsFirm now g = (j : Judgement) (F : Read) → is_blind now.flexible g.conclusion ≡ false → g.depth ≢ zero
    → as_judgement g.conclusion ≡ Some j → unfolds j.sign ≡ true → j.focus ≡ Some F → IsFirm now.flexible F × (HasExistential g.hypotheses → KeepsNames now.flexible F)

-- that is so at each place below
abbrev pub FocusesAreFirm : Declarations → Now → List Goal → Type 0
FocusesAreFirm D now gs = (last : Now) (g : Goal) (hs : List Goal) → LeadsTo D now gs last (g ∷ hs) → FocusIsFirm last g

-- THE SEARCH OF THE SEQUENT SEES ALL, whatever variables were ever made: it is nowhere blind, and each formula in focus that it takes
-- apart is firm
abbrev pub SeesAll : Declarations → ℕ → Sequent → Type 0
SeesAll D depth s = (cells : List (Cell (List ℕ))) → AreCells cells s
    → ((ls : List Leaf) → Searched D cells depth s ls → ¬ Contains ls blind) × FocusesAreFirm D (beginning cells s) (first_goal depth s ∷ [])
