-- The leaves of a tree, with other numbers for variables: the same, with these numbers.
use Rattle.std.specs.List.{All}
use Rattle.std.proofs.Common.{◌≡◌, ℕ, List, [], ◌∷◌, ◌++◌, map, filter, length, drop, codes, Bool, true, false, cond, not, refl, sym, ◌∙◌, ap, subst, append_assoc}
use Rattle.std.proofs.lemmas.List.Elements.{All-nil, All-cons, All-head, All-tail}
use Rattle.std.proofs.Math.Seq.{drop-append_seam}
use Rattle.ab_term.specs.Terms.{Read}
use Rattle.ab_term.specs.Variables.{Substitution, image}
use Rattle.ab_term.specs.Sameness.{same_number}
use Rattle.ab_term.proofs.Translations.{map-append}
use Rattle.ab_unifiers.specs.Replacements.{Cell, holds}
use Rattle.ab_unifiers.specs.Unification.{Answer, unified, apart, stuck, Solves}
use Rattle.ab_unifiers.specs.Unifiers.{keys}
use Rattle.ab_unifiers.specs.Clauses.{Each, numbered}
use Rattle.ab_unifiers.specs.Renumbering.{renumbered_pairs, renumbered_state, renumbered_answer, IsRenumbering}
use Rattle.ab_unifiers.proofs.Changes.{agreeing, extended, image_moved, composition_moved}
use Rattle.ab_unifiers.proofs.Runs.{renumbered_solves, cells_kept}
use Rattle.ab_unifiers.proofs.Tests.{holds_moved}
use Rattle.ab_formulas.specs.Declarations.{Declarations, HaveDefinitions}
use Rattle.ab_formulas.specs.Programs.{HavePrograms}
use Rattle.ab_formulas.specs.Marks.{MarksServeIn, MarksServe, marks_of}
use Rattle.ab_search_trees.specs.Goals.{Goal, Now, goal_under}
use Rattle.ab_search_trees.specs.Lifting.{left_of}
use Rattle.ab_search_trees.specs.Judgements.{is_blind}
use Rattle.ab_search_trees.specs.Ways.{Way, with_constants, ways}
use Rattle.ab_search_trees.specs.Tree.{Leaf, found, stuck_at, blind, problem_of, Serve, now_after, unseen, Leaves, LeavesBy, LeavesOn, no_goal, a_goal, no_way, a_way, are_apart, are_stuck, dont_serve, go_on}
use Rattle.ab_search_trees.specs.Outcomes.{Outcome, outcome_of, outcome_behind}
use Rattle.ab_search_trees.specs.Numberings.{renumbered_now, renumbered_leaf}
use Rattle.ab_search_trees.proofs.MovedForms.{T, marks_same, blind_same}
use Rattle.ab_search_trees.proofs.MovedWays.{V, goal_renumbered, now_renumbered, numbered_on, MovesWay, ways_move}

-- THE LEAVES, where the search began over these cells

module _ (f : ℕ → ℕ) (first second : List (Cell (List ℕ))) where
  abbrev pub L : Leaf → Leaf
  L = renumbered_leaf f first second

  behind_same : (l : Leaf) (o : Outcome) → outcome_behind (L l) o ≡ outcome_behind l o
  behind_same (found now) o = refl
  behind_same (stuck_at i) o = refl
  behind_same blind o = refl

  -- they tell one outcome
  pub outcome_moved : (ls : List Leaf) → outcome_of (map L ls) ≡ outcome_of ls
  outcome_moved [] = refl
  outcome_moved (l ∷ ls) = behind_same l (outcome_of (map L ls)) ∙ ap (outcome_behind l) (outcome_moved ls)

  unseen_moved : (b : Bool) → map L (cond b (blind ∷ []) []) ≡ cond b (blind ∷ []) []
  unseen_moved true = refl
  unseen_moved false = refl

  -- behind those of the beginning stand the same ones
  abbrev pub GrewAlike : List (Cell (List ℕ)) → List (Cell (List ℕ)) → Type 0
  GrewAlike cells others = (new : List (Cell (List ℕ))) × (cells ≡ first ++ new) × (others ≡ second ++ new)

  grew_more : (cells others new : List (Cell (List ℕ))) → GrewAlike cells others → GrewAlike (cells ++ new) (others ++ new)
  grew_more cells others new w = (w.0 ++ new, ap (λ l. l ++ new) w.1 ∙ append_assoc first w.0 new, ap (λ l. l ++ new) w.2 ∙ append_assoc second w.0 new)

  now_told : (now : Now) (others : List (Cell (List ℕ))) → GrewAlike now.cells others → renumbered_now f first second now ≡ now_renumbered f others now
  now_told now others w =
      let behind : drop (length first) now.cells ≡ w.0 = ap (drop (length first)) w.1 ∙ drop-append_seam first w.0 in
      let there : second ++ drop (length first) now.cells ≡ others = ap (λ l. second ++ l) behind ∙ sym w.2 in
      λ i. record { cells = there i; flexible = map (V f) now.flexible; answer = renumbered_pairs f now.answer; held = now.held }

filter_on : {X Y : Type 0} (h : X → Y) (p : X → Bool) (q : Y → Bool) → ((x : X) → q (h x) ≡ p x) → (xs : List X) → filter q (map h xs) ≡ map h (filter p xs)
filter_on h p q same [] = refl
filter_on h p q same (x ∷ xs) =
    ap (λ b. cond b (h x ∷ filter q (map h xs)) (filter q (map h xs))) (same x)
    ∙ ap (λ l. cond (p x) (h x ∷ l) l) (filter_on h p q same xs)
    ∙ go (p x)
  where
    go : (b : Bool) → cond b (h x ∷ map h (filter p xs)) (map h (filter p xs)) ≡ map h (cond b (x ∷ filter p xs) (filter p xs))
    go true = refl
    go false = refl

keys_on : (f : ℕ → ℕ) (q : Substitution ℕ (List ℕ)) → keys (renumbered_pairs f q) ≡ map (V f) (keys q)
keys_on f [] = refl
keys_on f (p ∷ q) = ap (λ l. V f p.0 ∷ l) (keys_on f q)

-- marks are the same

serve_there : (f : ℕ → ℕ) (ps : List (Read × Read)) → All (λ (p : Read × Read). MarksServeIn p.0 p.1) ps → All (λ (p : Read × Read). MarksServeIn p.0 p.1) (map (λ (p : Read × Read). (T f p.0, T f p.1)) ps)
serve_there f [] s = All-nil (λ (p : Read × Read). MarksServeIn p.0 p.1)
serve_there f (p ∷ ps) s =
    let P = λ (p : Read × Read). MarksServeIn p.0 p.1 in
    let one : MarksServeIn p.0 p.1 = All-head P p ps s in
    All-cons P (T f p.0, T f p.1) (map (λ (p : Read × Read). (T f p.0, T f p.1)) ps)
    (subst (λ m. MarksServe m (marks_of (T f p.1))) (sym (marks_same f p.0)) (subst (MarksServe (marks_of p.0)) (sym (marks_same f p.1)) one))
    (serve_there f ps (All-tail P p ps s))

serve_back : (f : ℕ → ℕ) (ps : List (Read × Read)) → All (λ (p : Read × Read). MarksServeIn p.0 p.1) (map (λ (p : Read × Read). (T f p.0, T f p.1)) ps) → All (λ (p : Read × Read). MarksServeIn p.0 p.1) ps
serve_back f [] s = All-nil (λ (p : Read × Read). MarksServeIn p.0 p.1)
serve_back f (p ∷ ps) s =
    let P = λ (p : Read × Read). MarksServeIn p.0 p.1 in
    let rest = map (λ (p : Read × Read). (T f p.0, T f p.1)) ps in
    let one : MarksServe (marks_of (T f p.0)) (marks_of (T f p.1)) = All-head P (T f p.0, T f p.1) rest s in
    All-cons P p ps
    (subst (λ m. MarksServe m (marks_of p.1)) (marks_same f p.0) (subst (MarksServe (marks_of (T f p.0))) (marks_same f p.1) one))
    (serve_back f ps (All-tail P (T f p.0, T f p.1) rest s))

-- WHAT SOLVING ONE WAY LEAVES

module _ (f : ℕ → ℕ) (now : Now) (others : List (Cell (List ℕ))) (r : IsRenumbering f now.cells others) (w v : Way) (m : MovesWay f now.cells others w v) where
  abbrev pub E : Answer (List ℕ) → Answer (List ℕ)
  E = renumbered_answer f w.cells v.cells

  amid : IsRenumbering f w.cells v.cells
  amid = subst (λ l. IsRenumbering f l v.cells) (sym m.cells_first) (subst (IsRenumbering f (now.cells ++ m.new)) (sym m.cells_second) (extended f now.cells others m.new r))

  problem_same : renumbered_state f v.cells (problem_of w) ≡ problem_of v
  problem_same = λ i. record { equations = m.equations i; cells = v.cells; flexible = m.flexible i; pairs = [] }

  pub way_solved : (a : Answer (List ℕ)) → Solves (codes "x") (problem_of w) a → Solves (codes "x") (problem_of v) (E a)
  way_solved a s = subst (λ p. Solves (codes "x") p (E a)) problem_same (renumbered_solves f (codes "x") (problem_of w) v.cells a amid s)

  pub way_serves : Serve w → Serve v
  way_serves s = subst (All (λ (p : Read × Read). MarksServeIn p.0 p.1)) m.serving (serve_there f w.serving s)

  pub way_served : Serve v → Serve w
  way_served s = serve_back f w.serving (subst (All (λ (p : Read × Read). MarksServeIn p.0 p.1)) (sym m.serving) s)

  module _ (more : List (Cell (List ℕ))) (q : Substitution ℕ (List ℕ)) (s : Solves (codes "x") (problem_of w) (unified more q)) where
    abbrev pub Most : List (Cell (List ℕ))
    Most = v.cells ++ drop (length w.cells) more

    abbrev pub Q : Substitution ℕ (List ℕ)
    Q = renumbered_pairs f q

    tail : (new : List (Cell (List ℕ))) × (more ≡ w.cells ++ new)
    tail = cells_kept (codes "x") (problem_of w) more q s

    tail_is : drop (length w.cells) more ≡ tail.0
    tail_is = ap (drop (length w.cells)) tail.1 ∙ drop-append_seam w.cells tail.0

    pub then : IsRenumbering f more Most
    then = subst (λ l. IsRenumbering f l Most) (sym tail.1) (subst (λ l. IsRenumbering f (w.cells ++ tail.0) (v.cells ++ l)) (sym tail_is) (extended f w.cells v.cells tail.0 amid))

    pub grown_then : (first second : List (Cell (List ℕ))) → GrewAlike f first second now.cells others → GrewAlike f first second more Most
    grown_then first second grew =
        let way = grew_more f first second now.cells others m.new grew in
        let cells = ap (λ l. l ++ tail.0) m.cells_first in
        let also = ap (λ l. l ++ tail.0) m.cells_second in
        let all = grew_more f first second (now.cells ++ m.new) (others ++ m.new) tail.0 way in
        (all.0, tail.1 ∙ cells ∙ all.1, ap (λ l. v.cells ++ l) tail_is ∙ also ∙ all.2)

    left_moved : map (V f) (left_of w.cells w.flexible more q) ≡ left_of v.cells v.flexible Most Q
    left_moved =
        sym (filter_on (V f) (λ y. not (holds (keys q) y)) (λ y. not (holds (map (V f) (keys q)) y)) (λ y. ap not (holds_moved f (agreeing f r.different) (keys q) y)) (w.flexible ++ numbered (length w.cells) (drop (length w.cells) more)))
        ∙ ap (λ ks. filter (λ y. not (holds ks y)) (map (V f) (w.flexible ++ numbered (length w.cells) (drop (length w.cells) more)))) (sym (keys_on f q))
        ∙ ap (filter (λ y. not (holds (keys Q) y)))
        (map-append (V f) w.flexible (numbered (length w.cells) (drop (length w.cells) more))
        ∙ ap (λ l. l ++ map (V f) (numbered (length w.cells) (drop (length w.cells) more))) m.flexible
        ∙ ap (λ l. v.flexible ++ l) (numbered_on f (length w.cells) (length v.cells) (drop (length w.cells) more) amid.behind)
        ∙ ap (λ l. v.flexible ++ numbered (length v.cells) l) (sym (drop-append_seam v.cells (drop (length w.cells) more))))

    pub after_moved : now_renumbered f Most (now_after now w more q) ≡ now_after (now_renumbered f others now) v Most Q
    after_moved =
        let answer = composition_moved f (codes "x") now.cells others r now.answer q in
        λ i. record { cells = Most; flexible = left_moved i; answer = answer i; held = with_constants (m.taken i) now.held }

    image_on : (t : Read) → T f (image same_number q t) ≡ image same_number Q (T f t)
    image_on t = image_moved f (codes "x") now.cells others r q t

    images_on : (ts : List Read) → map (T f) (map (image same_number q) ts) ≡ map (image same_number Q) (map (T f) ts)
    images_on [] = refl
    images_on (t ∷ ts) = ap (λ u. u ∷ map (T f) (map (image same_number q) ts)) (image_on t) ∙ ap (λ l. image same_number Q (T f t) ∷ l) (images_on ts)

    goal_on : (g : Goal) → goal_renumbered f (goal_under q g) ≡ goal_under Q (goal_renumbered f g)
    goal_on g =
        let hypotheses = images_on g.hypotheses in
        let conclusion = image_on g.conclusion in
        λ i. record g { hypotheses = hypotheses i; conclusion = conclusion i }

    goals_on : (gs : List Goal) → map (goal_renumbered f) (map (goal_under q) gs) ≡ map (goal_under Q) (map (goal_renumbered f) gs)
    goals_on [] = refl
    goals_on (g ∷ gs) = ap (λ h. h ∷ map (goal_renumbered f) (map (goal_under q) gs)) (goal_on g) ∙ ap (λ l. goal_under Q (goal_renumbered f g) ∷ l) (goals_on gs)

    pub goals_moved : (gs : List Goal) → map (goal_renumbered f) (map (goal_under q) (w.goals ++ gs)) ≡ map (goal_under Q) (v.goals ++ map (goal_renumbered f) gs)
    goals_moved gs =
        goals_on (w.goals ++ gs)
        ∙ ap (map (goal_under Q)) (map-append (goal_renumbered f) w.goals gs ∙ ap (λ l. l ++ map (goal_renumbered f) gs) m.goals)

-- THE LEAVES ARE THE SAME, by these numbers

module _ (f : ℕ → ℕ) (D : Declarations) (defs : HaveDefinitions D) (program : HavePrograms D) (first second : List (Cell (List ℕ))) where
  abbrev Ls : List Leaf → List Leaf
  Ls = map (L f first second)

  mutual
    pub leaves_move : (now : Now) (others : List (Cell (List ℕ))) → IsRenumbering f now.cells others → GrewAlike f first second now.cells others → {gs : List Goal} {ls : List Leaf} → Leaves D now gs ls
        → Leaves D (now_renumbered f others now) (map (goal_renumbered f) gs) (Ls ls)
    leaves_move now others r grew no_goal = subst (λ n. Leaves D (now_renumbered f others now) [] (found n ∷ [])) (sym (now_told f first second now others grew)) no_goal
    leaves_move now others r grew (a_goal {g = g} {gs = gs} {ls = ls} p) =
        let by = leaves_move_by now others r grew (ways D now g) (ways D (now_renumbered f others now) (goal_renumbered f g)) (ways_move f D defs program now others r g) p in
        let unseen_same : unseen (now_renumbered f others now) (goal_renumbered f g) ≡ Ls (unseen now g) =
        ap (λ b. cond b (blind ∷ []) []) (blind_same f (agreeing f r.different) now.flexible g.conclusion) ∙ sym (unseen_moved f first second (is_blind now.flexible g.conclusion)) in
        subst (Leaves D (now_renumbered f others now) (map (goal_renumbered f) (g ∷ gs))) (ap (λ l. Ls ls ++ l) unseen_same ∙ sym (map-append (L f first second) ls (unseen now g))) (a_goal by)

    leaves_move_by : (now : Now) (others : List (Cell (List ℕ))) → IsRenumbering f now.cells others → GrewAlike f first second now.cells others → (ws vs : List Way) → Each (MovesWay f now.cells others) ws vs → {gs : List Goal} {ls : List Leaf} → LeavesBy D now ws gs ls
        → LeavesBy D (now_renumbered f others now) vs (map (goal_renumbered f) gs) (Ls ls)
    leaves_move_by now others r grew [] [] e no_way = no_way
    leaves_move_by now others r grew [] (v ∷ vs) e p = absurd e
    leaves_move_by now others r grew (w ∷ ws) [] e p = absurd e
    leaves_move_by now others r grew (w ∷ ws) (v ∷ vs) e (a_way {gs = gs} {ls = ls} {ms = ms} p q) =
        subst (LeavesBy D (now_renumbered f others now) (v ∷ vs) (map (goal_renumbered f) gs)) (sym (map-append (L f first second) ls ms))
        (a_way (leaves_move_on now others r grew w v e.0 p) (leaves_move_by now others r grew ws vs e.1 q))

    leaves_move_on : (now : Now) (others : List (Cell (List ℕ))) → IsRenumbering f now.cells others → GrewAlike f first second now.cells others → (w v : Way) → MovesWay f now.cells others w v → {gs : List Goal} {ls : List Leaf} → LeavesOn D now w gs ls
        → LeavesOn D (now_renumbered f others now) v (map (goal_renumbered f) gs) (Ls ls)
    leaves_move_on now others r grew w v m (are_apart p) = are_apart (way_solved f now others r w v m apart p)
    leaves_move_on now others r grew w v m (are_stuck {i = i} p) = are_stuck (way_solved f now others r w v m (stuck i) p)
    leaves_move_on now others r grew w v m (dont_serve more q p n) =
        dont_serve (Most f now others r w v m more q p) (Q f now others r w v m more q p) (way_solved f now others r w v m (unified more q) p) (λ s. n (way_served f now others r w v m s))
    leaves_move_on now others r grew w v m (go_on {gs = gs} {ls = ls} more q p s l) =
        let most = Most f now others r w v m more q p in
        let rest = leaves_move (now_after now w more q) most (then f now others r w v m more q p) (grown_then f now others r w v m more q p first second grew) l in
        go_on most (renumbered_pairs f q) (way_solved f now others r w v m (unified more q) p) (way_serves f now others r w v m s)
        (subst (λ n. Leaves D n (map (goal_under (renumbered_pairs f q)) (v.goals ++ map (goal_renumbered f) gs)) (Ls ls)) (after_moved f now others r w v m more q p)
        (subst (λ hs. Leaves D (now_renumbered f most (now_after now w more q)) hs (Ls ls)) (goals_moved f now others r w v m more q p gs) rest))
