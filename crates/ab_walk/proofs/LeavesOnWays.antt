-- The leaves on a way, and the turns, by what comes of it.
use Rattle.std.proofs.Common.{◌≡◌, ℕ, suc, ◌+◌, ◌≤◌, List, [], ◌∷◌, ◌++◌, map, codes, refl, sym, ap, subst, arith}
use Rattle.std.specs.Prelude.{Contains}
use Rattle.ab_term.specs.Variables.{Substitution}
use Rattle.ab_term.proofs.Lists.{Contains-here, Contains-there}
use Rattle.ab_unifiers.specs.Replacements.{Cell}
use Rattle.ab_unifiers.specs.Unification.{Answer, unified, apart, stuck, Solves}
use Rattle.ab_unifiers.proofs.Unique.{unique}
use Rattle.ab_unify.specs.UnifyAnswers.{HasSolution}
use Rattle.ab_formulas.specs.Declarations.{Declarations}
use Rattle.ab_search_trees.specs.Goals.{Goal, Now, goal_under}
use Rattle.ab_search_trees.specs.Ways.{Way}
use Rattle.ab_search_trees.specs.Tree.{Leaf, stuck_at, problem_of, Serve, now_after}
use Rattle.ab_search_trees.proofs.Walks.{Walked, WalkedBy, WalkedOn, a_way, no_way, are_apart, are_stuck, dont_serve, go_on}

one_answer : (w : Way) (a b : Answer (List ℕ)) → Solves (codes "x") (problem_of w) a → Solves (codes "x") (problem_of w) b → a ≡ b
one_answer w a b p q = unique (codes "x") p q

module _ {D : Declarations} where
  pub on_apart : {now : Now} {w : Way} {gs : List Goal} {ls : List Leaf} {n : ℕ} → WalkedOn D now w gs ls n → Solves (codes "x") (problem_of w) apart → ls ≡ []
  on_apart (are_apart p) s = refl
  on_apart (are_stuck {w = w} {i = i} p) s = absurd (let bad : stuck i ≡ apart = one_answer w (stuck i) apart p s in cc)
  on_apart (dont_serve more q p n) s = refl
  on_apart (go_on {w = w} more q p v l) s = absurd (let bad : unified more q ≡ apart = one_answer w (unified more q) apart p s in cc)

  pub on_stuck : {now : Now} {w : Way} {gs : List Goal} {ls : List Leaf} {n : ℕ} (i : ℕ) → WalkedOn D now w gs ls n → Solves (codes "x") (problem_of w) (stuck i) → ls ≡ stuck_at i ∷ []
  on_stuck i (are_apart {w = w} p) s = absurd (let bad : apart ≡ stuck i = one_answer w apart (stuck i) p s in cc)
  on_stuck i (are_stuck {w = w} {i = j} p) s = let same : stuck j ≡ stuck i = one_answer w (stuck j) (stuck i) p s in let number : j ≡ i = cc in ap (λ k. stuck_at k ∷ []) number
  on_stuck i (dont_serve {w = w} more q p n) s = absurd (let bad : unified more q ≡ stuck i = one_answer w (unified more q) (stuck i) p s in cc)
  on_stuck i (go_on {w = w} more q p v l) s = absurd (let bad : unified more q ≡ stuck i = one_answer w (unified more q) (stuck i) p s in cc)

  pub on_refused : {now : Now} {w : Way} {gs : List Goal} {ls : List Leaf} {n : ℕ} → WalkedOn D now w gs ls n → HasSolution (problem_of w) → ¬ Serve w → ls ≡ []
  on_refused (are_apart p) s n = refl
  on_refused (are_stuck {w = w} {i = i} p) s n = absurd (let bad : stuck i ≡ unified s.0 s.1 = one_answer w (stuck i) (unified s.0 s.1) p s.2 in cc)
  on_refused (dont_serve more q p k) s n = refl
  on_refused (go_on more q p v l) s n = absurd (n v)

  pub on_ahead : {now : Now} {w : Way} {gs : List Goal} {ls : List Leaf} {n : ℕ} (more : List (Cell (List ℕ))) (q : Substitution ℕ (List ℕ)) → WalkedOn D now w gs ls n
      → Solves (codes "x") (problem_of w) (unified more q) → Serve w → Walked D (now_after now w more q) (map (goal_under q) (w.goals ++ gs)) ls n
  on_ahead more q (are_apart {w = w} p) s v = absurd (let bad : apart ≡ unified more q = one_answer w apart (unified more q) p s in cc)
  on_ahead more q (are_stuck {w = w} {i = i} p) s v = absurd (let bad : stuck i ≡ unified more q = one_answer w (stuck i) (unified more q) p s in cc)
  on_ahead more q (dont_serve most r p n) s v = absurd (n v)
  on_ahead more q (go_on {now = now} {w = w} {gs = gs} {ls = ls} {n = n} most r p u l) s v =
      let same : unified most r ≡ unified more q = one_answer w (unified most r) (unified more q) p s in
      let cells : most ≡ more = cc in
      let pairs : r ≡ q = cc in
      subst (λ c. Walked D (now_after now w c q) (map (goal_under q) (w.goals ++ gs)) ls n) cells (subst (λ t. Walked D (now_after now w most t) (map (goal_under t) (w.goals ++ gs)) ls n) pairs l)

  -- the ways behind those that are apart have all the leaves, and no more turns
  pub behind_apart : {now : Now} {gs : List Goal} (passed rest : List Way) (ls : List Leaf) (n : ℕ) → ((w : Way) → Contains passed w → Solves (codes "x") (problem_of w) apart)
      → WalkedBy D now (passed ++ rest) gs ls n → (m : ℕ) × (m ≤ n) × WalkedBy D now rest gs ls m
  behind_apart [] rest ls n apart_all d = (n, omega arith, d)
  behind_apart {now = now} {gs = gs} (w ∷ passed) rest ls n apart_all (a_way {ls = front} {ms = back} {m = i} {n = j} p r) =
      let behind = behind_apart passed rest back j (λ v m. apart_all v (Contains-there w passed v m)) r in (
        behind.0,
        let less = behind.1 in omega (arith, less),
        subst (λ l. WalkedBy D now rest gs (l ++ back) behind.0) (sym (on_apart p (apart_all w (Contains-here w passed)))) behind.2,
      )

  -- the leaves on the first way, and those by the others
  pub split_first : {now : Now} {gs : List Goal} (w : Way) (ws : List Way) (ls : List Leaf) (n : ℕ) → WalkedBy D now (w ∷ ws) gs ls n
      → (front : List Leaf) × (back : List Leaf) × (ls ≡ front ++ back) × (i : ℕ) × (j : ℕ) × (n ≡ suc (i + j)) × WalkedOn D now w gs front i × WalkedBy D now ws gs back j
  split_first w ws ls n (a_way {ls = front} {ms = back} {m = i} {n = j} p r) = (front, back, refl, i, j, refl, p, r)

  pub none_left : {now : Now} {gs : List Goal} (ls : List Leaf) (n : ℕ) → WalkedBy D now [] gs ls n → ls ≡ []
  none_left ls n no_way = refl
