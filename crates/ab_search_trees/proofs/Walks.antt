-- HOW MANY TURNS a walk of the search tree takes: at each place one for each way and those of what it leads to, at most so many that
-- go no way, and one to leave.
use Rattle.std.proofs.Common.{ℕ, suc, ◌+◌, ◌*◌, List, [], ◌∷◌, ◌++◌, map, length, codes}
use Rattle.ab_term.specs.Variables.{Substitution}
use Rattle.ab_unifiers.specs.Replacements.{Cell}
use Rattle.ab_unifiers.specs.Unification.{unified, apart, stuck, Solves}
use Rattle.ab_formulas.specs.Declarations.{Declarations}
use Rattle.ab_search_trees.specs.Goals.{Goal, Now, goal_under}
use Rattle.ab_search_trees.specs.Ways.{Way, ways}
use Rattle.ab_search_trees.specs.Tree as tree
use Rattle.ab_search_trees.specs.Tree.{Leaf, found, stuck_at, problem_of, Serve, now_after, unseen, Leaves, LeavesBy, LeavesOn}

-- so many turns at a goal go no way at most: two at each hypothesis, and seven
abbrev pub idle_turns : Goal → ℕ
idle_turns g = 2 * length g.hypotheses + 7

mutual
  -- the tree for these goals has these leaves, and is walked in so many turns
  pub data Walked (D : Declarations) : Now → List Goal → List Leaf → ℕ → Type 0 where
    no_goal : {now : Now} → Walked D now [] (found now ∷ []) 1
    a_goal : {now : Now} {g : Goal} {gs : List Goal} {ls : List Leaf} {n : ℕ} → WalkedBy D now (ways D now g) gs ls n → Walked D now (g ∷ gs) (ls ++ unseen now g) (suc (idle_turns g + n))

  pub data WalkedBy (D : Declarations) : Now → List Way → List Goal → List Leaf → ℕ → Type 0 where
    no_way : {now : Now} {gs : List Goal} → WalkedBy D now [] gs [] 0
    a_way : {now : Now} {w : Way} {ws : List Way} {gs : List Goal} {ls ms : List Leaf} {m n : ℕ}
        → WalkedOn D now w gs ls m → WalkedBy D now ws gs ms n → WalkedBy D now (w ∷ ws) gs (ls ++ ms) (suc (m + n))

  pub data WalkedOn (D : Declarations) : Now → Way → List Goal → List Leaf → ℕ → Type 0 where
    are_apart : {now : Now} {w : Way} {gs : List Goal} → Solves (codes "x") (problem_of w) apart → WalkedOn D now w gs [] 0
    are_stuck : {now : Now} {w : Way} {gs : List Goal} {i : ℕ} → Solves (codes "x") (problem_of w) (stuck i) → WalkedOn D now w gs (stuck_at i ∷ []) 0
    dont_serve : {now : Now} {w : Way} {gs : List Goal} (more : List (Cell (List ℕ))) (q : Substitution ℕ (List ℕ))
        → Solves (codes "x") (problem_of w) (unified more q) → ¬ Serve w → WalkedOn D now w gs [] 0
    go_on : {now : Now} {w : Way} {gs : List Goal} {ls : List Leaf} {n : ℕ} (more : List (Cell (List ℕ))) (q : Substitution ℕ (List ℕ))
        → Solves (codes "x") (problem_of w) (unified more q) → Serve w
        → Walked D (now_after now w more q) (map (goal_under q) (w.goals ++ gs)) ls n → WalkedOn D now w gs ls n

module _ (D : Declarations) where
  mutual
    pub leaves_walked : {now : Now} {gs : List Goal} {ls : List Leaf} {n : ℕ} → Walked D now gs ls n → Leaves D now gs ls
    leaves_walked no_goal = tree.no_goal
    leaves_walked (a_goal p) = tree.a_goal (leaves_walked_by p)

    leaves_walked_by : {now : Now} {ws : List Way} {gs : List Goal} {ls : List Leaf} {n : ℕ} → WalkedBy D now ws gs ls n → LeavesBy D now ws gs ls
    leaves_walked_by no_way = tree.no_way
    leaves_walked_by (a_way p r) = tree.a_way (leaves_walked_on p) (leaves_walked_by r)

    leaves_walked_on : {now : Now} {w : Way} {gs : List Goal} {ls : List Leaf} {n : ℕ} → WalkedOn D now w gs ls n → LeavesOn D now w gs ls
    leaves_walked_on (are_apart p) = tree.are_apart p
    leaves_walked_on (are_stuck p) = tree.are_stuck p
    leaves_walked_on (dont_serve more q p n) = tree.dont_serve more q p n
    leaves_walked_on (go_on more q p v l) = tree.go_on more q p v (leaves_walked l)
