-- A list of goals has one list of leaves.
use Rattle.std.proofs.Common.{◌≡◌, ℕ, List, [], ◌∷◌, ◌++◌, map, codes, refl, sym, ◌∙◌, ap, subst}
use Rattle.ab_unifiers.specs.Unification.{Answer, unified, apart, stuck, Solves}
use Rattle.ab_unifiers.proofs.Unique.{unique}
use Rattle.ab_formulas.specs.Declarations.{Declarations}
use Rattle.ab_search_trees.specs.Goals.{Goal, Now, goal_under}
use Rattle.ab_search_trees.specs.Ways.{Way}
use Rattle.ab_search_trees.specs.Tree.{Leaf, stuck_at, problem_of, now_after, unseen, Leaves, LeavesBy, LeavesOn, no_goal, a_goal, no_way, a_way, are_apart, are_stuck, dont_serve, go_on}

one_answer : (w : Way) (a b : Answer (List ℕ)) → Solves (codes "x") (problem_of w) a → Solves (codes "x") (problem_of w) b → a ≡ b
one_answer w a b p q = unique (codes "x") p q

module _ (D : Declarations) where
  mutual
    pub one_list : {now : Now} {gs : List Goal} {ls ms : List Leaf} → Leaves D now gs ls → Leaves D now gs ms → ls ≡ ms
    one_list no_goal no_goal = refl
    one_list (a_goal {now = now} {g = g} p) (a_goal q) = ap (λ l. l ++ unseen now g) (one_by p q)

    one_by : {now : Now} {ws : List Way} {gs : List Goal} {ls ms : List Leaf} → LeavesBy D now ws gs ls → LeavesBy D now ws gs ms → ls ≡ ms
    one_by no_way no_way = refl
    one_by (a_way {ls = a} {ms = b} p r) (a_way {ls = c} {ms = d} q s) = ap (λ l. l ++ b) (one_on p q) ∙ ap (λ l. c ++ l) (one_by r s)

    one_on : {now : Now} {w : Way} {gs : List Goal} {ls ms : List Leaf} → LeavesOn D now w gs ls → LeavesOn D now w gs ms → ls ≡ ms
    one_on (are_apart p) (are_apart q) = refl
    one_on (are_apart {w = w} p) (are_stuck {i = i} q) = absurd (let bad : apart ≡ stuck i = one_answer w apart (stuck i) p q in cc)
    one_on (are_apart {w = w} p) (dont_serve more r q n) = refl
    one_on (are_apart {w = w} p) (go_on more r q v l) = absurd (let bad : apart ≡ unified more r = one_answer w apart (unified more r) p q in cc)
    one_on (are_stuck {w = w} {i = i} p) (are_apart q) = absurd (let bad : stuck i ≡ apart = one_answer w (stuck i) apart p q in cc)
    one_on (are_stuck {w = w} {i = i} p) (are_stuck {i = j} q) = let same : stuck i ≡ stuck j = one_answer w (stuck i) (stuck j) p q in let number : i ≡ j = cc in ap (λ k. stuck_at k ∷ []) number
    one_on (are_stuck {w = w} {i = i} p) (dont_serve more r q n) = absurd (let bad : stuck i ≡ unified more r = one_answer w (stuck i) (unified more r) p q in cc)
    one_on (are_stuck {w = w} {i = i} p) (go_on more r q v l) = absurd (let bad : stuck i ≡ unified more r = one_answer w (stuck i) (unified more r) p q in cc)
    one_on (dont_serve more r p n) (are_apart q) = refl
    one_on (dont_serve {w = w} more r p n) (are_stuck {i = i} q) = absurd (let bad : unified more r ≡ stuck i = one_answer w (unified more r) (stuck i) p q in cc)
    one_on (dont_serve more r p n) (dont_serve most s q m) = refl
    one_on (dont_serve more r p n) (go_on most s q v l) = absurd (n v)
    one_on (go_on {w = w} more r p v l) (are_apart q) = absurd (let bad : unified more r ≡ apart = one_answer w (unified more r) apart p q in cc)
    one_on (go_on {w = w} more r p v l) (are_stuck {i = i} q) = absurd (let bad : unified more r ≡ stuck i = one_answer w (unified more r) (stuck i) p q in cc)
    one_on (go_on more r p v l) (dont_serve most s q n) = absurd (n v)
    one_on (go_on {now = now} {w = w} {gs = gs} more r p v l) (go_on {ls = ms} most s q u m) =
        let same : unified more r ≡ unified most s = one_answer w (unified more r) (unified most s) p q in
        let cells : more ≡ most = cc in
        let pairs : r ≡ s = cc in
        one_list l (subst (λ c. Leaves D (now_after now w c r) (map (goal_under r) (w.goals ++ gs)) ms) (sym cells) (subst (λ t. Leaves D (now_after now w most t) (map (goal_under t) (w.goals ++ gs)) ms) (sym pairs) m))
