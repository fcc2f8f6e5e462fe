-- THE SEARCH TREE, by its leaves: what becomes of a list of goals, the first one first.
use Rattle.std.specs.Prelude.{ℕ, List, [], ◌∷◌, ◌++◌, map, codes, cond}
use Rattle.std.specs.List.{All}
use Rattle.ab_term.specs.Variables.{Substitution, composition}
use Rattle.ab_term.specs.Sameness.{same_number}
use Rattle.ab_term.specs.Terms.{Read}
use Rattle.ab_unifiers.specs.Replacements.{Cell}
use Rattle.ab_unifiers.specs.Unification.{State, unified, apart, stuck, Solves}
use Rattle.ab_unifiers.specs.Unifiers.{given}
use Rattle.ab_formulas.specs.Declarations.{Declarations}
use Rattle.ab_formulas.specs.Marks.{MarksServeIn}
use Rattle.ab_search_trees.specs.Goals.{Goal, Now, goal_under}
use Rattle.ab_search_trees.specs.Lifting.{left_of}
use Rattle.ab_search_trees.specs.Ways.{Way, with_constants, ways}
use Rattle.ab_search_trees.specs.Judgements.{is_blind}

-- A LEAF. Where a way ends because its sides are apart, because its marks don't serve, or because there is none, the tree
-- has a dead end, and no leaf is listed.
pub data Leaf : Type 0 where
  -- no goal is left
  found : Now → Leaf
  -- the equation of this number, from 0, is outside the patterns
  stuck_at : ℕ → Leaf
  -- the search can't look into a judgement
  blind : Leaf

-- the sides of a way are made equal
abbrev pub problem_of : Way → State (List ℕ)
problem_of w = given w.equations w.cells w.flexible

-- its marks serve
abbrev pub Serve : Way → Type 0
Serve w = All (λ (p : Read × Read). MarksServeIn p.0 p.1) w.serving

-- the variables, once they are
abbrev pub now_after : Now → Way → List (Cell (List ℕ)) → Substitution ℕ (List ℕ) → Now
now_after now w more q = record {
  cells = more;
  flexible = left_of w.cells w.flexible more q;
  answer = composition same_number now.answer q;
  held = with_constants w.taken now.held;
}

-- a leaf stands where the search is blind, in the place of the ways that aren't looked for
abbrev pub unseen : Now → Goal → List Leaf
unseen now g = cond (is_blind now.flexible g.conclusion) (blind ∷ []) []

mutual
  -- THE LEAVES of the tree for these goals, in order
  pub data Leaves (D : Declarations) : Now → List Goal → List Leaf → Type 0 where
    -- every goal was closed
    no_goal : {now : Now} → Leaves D now [] (found now ∷ [])
    -- each way is gone from the first goal, one after another
    a_goal : {now : Now} {g : Goal} {gs : List Goal} {ls : List Leaf} → LeavesBy D now (ways D now g) gs ls → Leaves D now (g ∷ gs) (ls ++ unseen now g)

  -- those by these ways, with these goals behind
  pub data LeavesBy (D : Declarations) : Now → List Way → List Goal → List Leaf → Type 0 where
    no_way : {now : Now} {gs : List Goal} → LeavesBy D now [] gs []
    a_way : {now : Now} {w : Way} {ws : List Way} {gs : List Goal} {ls ms : List Leaf}
        → LeavesOn D now w gs ls → LeavesBy D now ws gs ms → LeavesBy D now (w ∷ ws) gs (ls ++ ms)

  -- those by one way
  pub data LeavesOn (D : Declarations) : Now → Way → List Goal → List Leaf → Type 0 where
    are_apart : {now : Now} {w : Way} {gs : List Goal} → Solves (codes "x") (problem_of w) apart → LeavesOn D now w gs []
    are_stuck : {now : Now} {w : Way} {gs : List Goal} {i : ℕ} → Solves (codes "x") (problem_of w) (stuck i) → LeavesOn D now w gs (stuck_at i ∷ [])
    dont_serve : {now : Now} {w : Way} {gs : List Goal} (more : List (Cell (List ℕ))) (q : Substitution ℕ (List ℕ))
        → Solves (codes "x") (problem_of w) (unified more q) → ¬ Serve w → LeavesOn D now w gs []
    -- what is put in goes to all goals that are left
    go_on : {now : Now} {w : Way} {gs : List Goal} {ls : List Leaf} (more : List (Cell (List ℕ))) (q : Substitution ℕ (List ℕ))
        → Solves (codes "x") (problem_of w) (unified more q) → Serve w
        → Leaves D (now_after now w more q) (map (goal_under q) (w.goals ++ gs)) ls → LeavesOn D now w gs ls
