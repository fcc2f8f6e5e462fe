-- ONE TURN at a place: what it does with the leaves that are still to come.
use Rattle.std.specs.List.{All}
use Rattle.std.specs.Prelude.{Contains}
use Rattle.std.proofs.Common.{◌≡◌, ℕ, suc, ◌+◌, ◌<◌, ◌≤◌, List, [], ◌∷◌, ◌++◌, map, length, codes, Bool, None, refl, sym, ◌∙◌, ap, subst, append_assoc, append-nil, arith}
use Rattle.std.proofs.lemmas.List.Elements.{All-head, All-tail, Contains-append_right}
use Rattle.ab_term.proofs.Lists.{Contains-here}
use Rattle.ab_norm.specs.ab_store.specs.declared.node.TermId.{TermId}
use Rattle.ab_term.specs.Variables.{Substitution}
use Rattle.ab_unifiers.specs.Replacements.{Cell}
use Rattle.ab_unifiers.specs.Unification.{unified, apart, stuck, Solves}
use Rattle.ab_unify.specs.Problem.{variables_read}
use Rattle.ab_unify.specs.UnifyAnswers.{HasSolution}
use Rattle.ab_formulas.specs.Declarations.{Declarations, signature_in}
use Rattle.ab_logic.specs.Worlds.{IsWorld, read, declarations_of}
use Rattle.ab_logic.specs.declared.world.World.{World}
use Rattle.ab_logic.proofs.BuiltIn.{has_member}
use Rattle.ab_logic.proofs.Programs.{have_programs}
use Rattle.ab_search_trees.specs.Goals.{Goal, Now, goal_under}
use Rattle.ab_search_trees.specs.Ways.{Way, ways}
use Rattle.ab_search_trees.specs.Tree.{Leaf, stuck_at, unseen, problem_of, Serve, now_after}
use Rattle.ab_search_trees.proofs.Walks.{Walked, WalkedBy, WalkedOn, no_goal, a_goal}
use Rattle.ab_search_trees.specs.Judgements.{is_blind}
use Rattle.ab_search_trees.proofs.Facts.{AllTasks, all_tasks_both}
use Rattle.ab_search_trees.proofs.Against.{amid}
use Rattle.ab_search_trees.proofs.Carried.{AreFlexible, after_flexible, tasks_under}
use Rattle.ab_search_trees.proofs.Growing.{tasks_grown}
use Rattle.ab_search_trees.proofs.Shows.{IsFine, EachFine}
use Rattle.ab_search_trees.proofs.ShowsRest.{ways_fine}
use Rattle.ab_next_ways.specs.ab_search_ways.specs.Answers.{IsAnswerFor, IsAnswered}
use Rattle.ab_next_ways.specs.ab_search_ways.specs.GoalReadings.{goal_read, HoldsGoal, IsTypedGoal, StandsFor}
use Rattle.ab_next_ways.specs.ab_search_ways.specs.MadeWays.{IsMade, HoldsWay, IsTypedWay, IsTried}
use Rattle.ab_next_ways.specs.ab_search_ways.specs.declared.goal.Goal.{Goal as Kept}
use Rattle.ab_next_ways.specs.ab_search_ways.specs.declared.way.Way.{Way as AWay}
use Rattle.ab_next_ways.specs.ab_search_ways.specs.declared.way.Place.{Place}
use Rattle.ab_next_ways.specs.ab_search_ways.specs.declared.way.Tried.{Tried}
use Rattle.ab_next_ways.specs.ab_search_ways.specs.declared.way.Tried.TheVariants as tries
use Rattle.ab_next_ways.specs.ab_search_ways.specs.declared.way.Tried.TheVariants.{Apart, Refused, Ahead}
use Rattle.ab_next_ways.specs.ab_search_ways.proofs.LaterWorlds.{goal_same, later_variables}
use Rattle.ab_next_ways.specs.Cursors.{AreLeft, IsBehind, HoldsCursor}
use Rattle.ab_next_ways.specs.Stages.{stage, LedOnward}
use Rattle.ab_next_ways.specs.Steps.{IsPassed, IsNextWay, IsStep}
use Rattle.ab_next_ways.specs.declared.next_ways.Step.{Step}
use Rattle.ab_next_ways.specs.declared.next_ways.Step.TheVariants.{Made, Passed, Ended}
use Rattle.ab_next_ways.specs.declared.cursor.Cursor.{Cursor}
use Rattle.ab_next_ways.specs.declared.cursor.Cursor.TheVariants.{Start}
use Rattle.ab_walk.specs.Paths.{HasValuesFor}
use Rattle.ab_walk.specs.Places.{goals_read, IsSearched, HasLeaves}
use Rattle.ab_walk.specs.Standing.{AreLeaves, LeftAt, IsOpen, IsLater, IsOpenAgain, IsLedAgain, blind_if}
use Rattle.ab_walk.proofs.LaterPlaces.{leaves_for, taken_for, cursor_carried, left_carried, goals_same, goals_held, tasks_later, searched_later}
use Rattle.ab_walk.proofs.LeavesOnWays.{behind_apart, split_first, none_left, on_apart, on_stuck, on_refused, on_ahead}
use Rattle.ab_walk.proofs.TypedWays.{goals_typed, typed_way}
use Rattle.ab_walk.proofs.WorldsAgain.{later_on, cells_again}

fine_behind : (D : Declarations) (now : Now) (g : Goal) (vs ws : List Way) → EachFine D now g (vs ++ ws) → EachFine D now g ws
fine_behind D now g [] ws f = f
fine_behind D now g (v ∷ vs) ws f = fine_behind D now g vs ws f.1

-- a search of a place begins
module _ (w : World) (is : IsWorld w) (base : List TermId) where
  start : (now : Now) → AreFlexible now → (ks : List Kept) → AllTasks (signature_in (declarations_of w)) now (goals_read w base ks) → (ls : List Leaf) (n : ℕ) → Walked (declarations_of w) now (goals_read w base ks) ls n → LeftAt w base now ks Start ls n
  start now f [] t ls n no_goal = refl
  start now f (k ∷ ks) t ls n (a_goal {ls = front} {n = turns} d) = (
    tt,
    record {
      passed = [];
      ways = ways (declarations_of w) now (goal_read w base k);
      among = refl;
      front = front;
      left = refl;
      fine = ways_fine (declarations_of w) is.definitions (have_programs w is) now f (goal_read w base k) t.0 (has_member w is);
      turns = turns;
      by = d;
      all = refl;
      many = refl;
    },
  )

  pub starts : (p : Place) (ls : List Leaf) (n : ℕ) (h : HasLeaves w base p ls n) → IsOpen w base h.0 p Start ls n
  starts p ls n h = let s = h.1 in (s, start h.0 s.flexible p.goals s.tasks ls n h.2)

-- A PLACE with a first goal, these behind it
module _ (old : World) (is : IsWorld old) (base : List TermId) (p : Place) (k : Kept) (ks : List Kept) (goals : p.goals ≡ k ∷ ks) where
  abbrev pub g : Goal
  g = goal_read old base k

  abbrev pub gs : List Goal
  gs = goals_read old base ks

  -- these leaves are still to come
  abbrev pub AreOpen : Now → Cursor → List Leaf → ℕ → Type 0
  AreOpen now c ls n = IsSearched old base p now × HoldsCursor old base k c × AreLeaves (declarations_of old) now old.types g gs c ls n

  pub opened : (now : Now) (c : Cursor) (ls : List Leaf) (n : ℕ) → IsOpen old base now p c ls n → AreOpen now c ls n
  opened now c ls n o = let l = subst (λ l. LeftAt old base now l c ls n) goals o.1 in (o.0, l.0, l.1)

  -- where the goal's search stands, of those of its hypotheses
  abbrev pub at_stage : Cursor → ℕ
  at_stage c = stage (length g.hypotheses) c

  module _ (now : Now) (s : IsSearched old base p now) where
    pub all_held : All (HoldsGoal old) (k ∷ ks)
    all_held = subst (All (HoldsGoal old)) goals s.place.held

    pub held : HoldsGoal old k
    held = All-head (HoldsGoal old) k ks all_held

    pub rest_held : All (HoldsGoal old) ks
    rest_held = All-tail (HoldsGoal old) k ks all_held

    tasks : AllTasks (signature_in (declarations_of old)) now (g ∷ gs)
    tasks = subst (λ l. AllTasks (signature_in (declarations_of old)) now (goals_read old base l)) goals s.tasks

    pub typed : IsTypedGoal old.types old.store k
    typed = All-head (IsTypedGoal old.types old.store) k ks (goals_typed old is base now (k ∷ ks) tasks all_held)

    -- wherever the first world is again, with the types of a later one
    pub again : (new : World) → IsLater old new → (c : Cursor) (ls : List Leaf) (n : ℕ) → HoldsCursor new base k c → AreLeaves (declarations_of old) now new.types g gs c ls n → IsOpenAgain old new base now p c ls n
    again new later c ls n h a x same types =
        let at = searched_later old x same.later (cells_again old x is same) base p now s in
        let there = goal_same old x same.later.grows p.flexible.items base s.place.aside k held in
        let before = goal_same old new later.grows p.flexible.items base s.place.aside k held in
        let rest = goals_same old x same.later p.flexible.items base s.place.aside ks rest_held in
        let left : LeftAt x base now (k ∷ ks) c ls n = (
          cursor_carried new x ([], types ∙ sym (append-nil new.types)) base k (there ∙ sym before) c h,
          leaves_for now x.types (declarations_of x) (declarations_of old) same.later.declared (goal_read x base k) g there (goals_read x base ks) gs rest c ls n
              (subst (λ t. AreLeaves (declarations_of old) now t g gs c ls n) (sym types) a),
        ) in
        (at, subst (λ l. LeftAt x base now l c ls n) (sym goals) left)

    -- IN A LATER WORLD
    module _ (new : World) (is_new : IsWorld new) (later : IsLater old new) where
      same_goal : goal_read new base k ≡ g
      same_goal = goal_same old new later.grows p.flexible.items base s.place.aside k held

      pub same_rest : goals_read new base ks ≡ gs
      same_rest = goals_same old new later p.flexible.items base s.place.aside ks rest_held

      pub still_held : All (HoldsGoal new) ks
      still_held = goals_held old new later ks rest_held

      pub still_typed : All (IsTypedGoal new.types new.store) ks
      still_typed = goals_typed new is_new base now ks (tasks_later old new later now gs (goals_read new base ks) same_rest tasks.1) still_held

      -- some ways are passed
      pub passed : (c d : Cursor) (ls : List Leaf) (n : ℕ) (a : AreLeaves (declarations_of old) now old.types g gs c ls n) → HoldsCursor new base k d → at_stage d < at_stage c
          → IsPassed new base now g a.ways d (declarations_of new) new.types → (m : ℕ) × (m < n) × IsOpenAgain old new base now p d ls m
      passed c d ls n a h onward t =
          let behind = behind_apart t.0 t.1 a.front a.turns t.3 (subst (λ ws. WalkedBy (declarations_of old) now ws gs a.front a.turns) t.2 a.by) in (
            suc (at_stage d + behind.0),
            (let less : behind.0 ≤ a.turns = behind.1 in let many : n ≡ suc (at_stage c + a.turns) = a.many in omega (arith, less, many, onward)),
            again new later d ls (suc (at_stage d + behind.0)) h (record {
              passed = a.passed ++ t.0;
              ways = t.1;
              among = a.among ∙ ap (λ l. a.passed ++ l) t.2 ∙ sym (append_assoc a.passed t.0 t.1);
              front = a.front;
              left = subst (λ D. AreLeft D now g new.types d t.1) later.declared t.4;
              fine = fine_behind (declarations_of old) now g t.0 t.1 (subst (EachFine (declarations_of old) now g) t.2 a.fine);
              turns = behind.0;
              by = behind.2;
              all = a.all;
              many = refl;
            }),
          )

      -- no way is left
      pub over : (c : Cursor) (ls : List Leaf) (n : ℕ) (a : AreLeaves (declarations_of old) now old.types g gs c ls n) → a.ways ≡ [] → (ls ≡ unseen now g) × (0 < n)
      over c ls n a e = (
        a.all ∙ ap (λ l. l ++ unseen now g) (none_left a.front a.turns (subst (λ ws. WalkedBy (declarations_of old) now ws gs a.front a.turns) e a.by)),
        (let many : n ≡ suc (at_stage c + a.turns) = a.many in omega (arith, many)),
      )

      -- THE NEXT WAY IS MADE
      module _ (c d : Cursor) (ls : List Leaf) (n : ℕ) (a : AreLeaves (declarations_of old) now old.types g gs c ls n) (h : HoldsCursor new base k d) (onward : at_stage d ≤ at_stage c) (made : AWay) (t : IsNextWay new base now g a.ways d (declarations_of new) made) where
        abbrev D : Declarations
        D = declarations_of old

        abbrev pub way : Way
        way = t.0

        all_fine : EachFine D now g (way ∷ t.1)
        all_fine = subst (EachFine D now g) t.2 a.fine

        pub way_typed : IsTypedWay new made
        way_typed = typed_way new is_new now g way (subst (λ E. IsFine E now g way) (sym later.declared) all_fine.0) base made t.3

        split : (front : List Leaf) × (back : List Leaf) × (a.front ≡ front ++ back) × (i : ℕ) × (j : ℕ) × (a.turns ≡ suc (i + j)) × WalkedOn D now way gs front i × WalkedBy D now t.1 gs back j
        split = split_first way t.1 a.front a.turns (subst (λ ws. WalkedBy D now ws gs a.front a.turns) t.2 a.by)

        abbrev on_it : List Leaf
        on_it = split.0

        abbrev behind : List Leaf
        behind = split.1 ++ unseen now g

        -- so many turns are to come behind it
        abbrev turns_behind : ℕ
        turns_behind = suc (at_stage d + split.4)

        fewer : split.3 + suc (at_stage d + split.4) < n
        fewer =
            let many : n ≡ suc (at_stage c + a.turns) = a.many in
            let parts : a.turns ≡ suc (split.3 + split.4) = split.5 in
            omega (arith, many, parts, onward)

        fewer_behind : suc (at_stage d + split.4) < n
        fewer_behind = omega (arith, fewer)

        whole : ls ≡ on_it ++ behind
        whole = a.all ∙ ap (λ l. l ++ unseen now g) split.2 ∙ append_assoc on_it split.1 (unseen now g)

        -- AND IT IS TRIED
        module _ (last : World) (is_last : IsWorld last) (tried_later : IsLater new last) where
          from_old : IsLater old last
          from_old = later_on old new last later tried_later

          open_behind : IsOpenAgain old last base now p d behind turns_behind
          open_behind =
              let there : goal_read last base k ≡ goal_read new base k = goal_same old last from_old.grows p.flexible.items base s.place.aside k held ∙ sym same_goal in
              again last from_old d behind turns_behind (cursor_carried new last tried_later.grows.types base k there d h)
              (record {
                passed = a.passed ++ way ∷ [];
                ways = t.1;
                among = a.among ∙ ap (λ l. a.passed ++ l) t.2 ∙ sym (append_assoc a.passed (way ∷ []) t.1);
                front = split.1;
                left = left_carried new last tried_later.grows.types base k there D now g t.1 d h (subst (λ E. AreLeft E now g new.types d t.1) later.declared t.4);
                fine = all_fine.1;
                turns = split.4;
                by = split.7;
                all = refl;
                many = refl;
              })

          abbrev Sooner : List Leaf → Type 0
          Sooner l = (m : ℕ) × (m < n) × IsOpenAgain old last base now p d l m

          none_on : on_it ≡ [] → Sooner ls
          none_on e = (turns_behind, fewer_behind, subst (λ l. IsOpenAgain old last base now p d l turns_behind) (sym (whole ∙ ap (λ l. l ++ behind) e)) open_behind)

          pub were_apart : Solves (codes "x") (problem_of way) apart → Sooner ls
          were_apart p = none_on (on_apart split.6 p)

          pub was_refused : HasSolution (problem_of way) × (¬ Serve way) → Sooner ls
          was_refused r = none_on (on_refused split.6 r.0 r.1)

          pub was_stuck : (i : ℕ) → Solves (codes "x") (problem_of way) (stuck i) → (rest : List Leaf) × (ls ≡ stuck_at i ∷ rest) × (m : ℕ) × (m < n) × IsOpenAgain old last base now p d rest m
          was_stuck i p = (behind, whole ∙ ap (λ l. l ++ behind) (on_stuck i split.6 p), turns_behind, fewer_behind, open_behind)

          -- how it came there, wherever the first world is again
          led_again : (more : List (Cell (List ℕ))) (answer : Substitution ℕ (List ℕ)) → Solves (codes "x") (problem_of way) (unified more answer) → Serve way → (q : Place)
              → goals_read last base q.goals ≡ map (goal_under answer) (way.goals ++ gs) → HasValuesFor last way q → IsLedAgain old last base now p d way more answer q
          led_again more answer solved serves q reads values x same types =
              let before = goal_same old x same.later.grows p.flexible.items base s.place.aside k held in
              let rest : goals_read x base ks ≡ gs = goals_same old x same.later p.flexible.items base s.place.aside ks rest_held in
              let row : ways D now g ≡ a.passed ++ way ∷ t.1 = a.among ∙ ap (λ l. a.passed ++ l) t.2 in
              record {
                first = k;
                behind = ks;
                goals = goals;
                taken = taken_for now (declarations_of x) D same.later.declared (goal_read x base k) g before d way more answer
                    (record {
                      among = subst (λ l. Contains l way) (sym row) (Contains-append_right a.passed (way ∷ t.1) way (Contains-here way t.1));
                      behind = subst (λ E. IsBehind E now g d way) later.declared t.5;
                      solved = solved;
                      serves = serves;
                    });
                left = reads ∙ ap (λ l. map (goal_under answer) (way.goals ++ l)) (sym rest);
                values = values;
              }

          -- THE PLACE AHEAD
          pub went_ahead : (q : Place) → IsAnswerFor last.types last.store made.flexible.items q.answer.items → IsTried last base now way (goals_read new base ks) (Ahead q)
              → (front : List Leaf) × (rest : List Leaf) × (ls ≡ front ++ rest) × (i : ℕ) × (m : ℕ) × (i + m < n) × (next : Way) × (more : List (Cell (List ℕ))) × (answer : Substitution ℕ (List ℕ))
              × IsOpen last base (now_after now next more answer) q Start front i × IsOpenAgain old last base now p d rest m × IsLedAgain old last base now p d next more answer q
          went_ahead q answered r =
              let sg = signature_in D in
              let mid = amid D now way in
              let f = all_fine.0 in
              let more = r.1 in
              let answer = r.2 in
              let after = now_after now way more answer in
              let mids : AllTasks sg mid (way.goals ++ gs) = all_tasks_both sg mid way.goals gs f.tasks (tasks_grown sg now mid (λ y. None) (λ y. None) f.grown gs tasks.1) in
              let led : map (goal_under answer) (way.goals ++ goals_read new base ks) ≡ map (goal_under answer) (way.goals ++ gs) = ap (λ l. map (goal_under answer) (way.goals ++ l)) same_rest in
              let reads : goals_read last base q.goals ≡ map (goal_under answer) (way.goals ++ gs) = r.4.reads ∙ led in
              let under = tasks_under sg mid f.flexible way.equations f.typed f.over more answer r.3 after.answer after.held (way.goals ++ gs) mids in
              let leaves = on_ahead more answer split.6 r.3 r.0 in
              let searched : IsSearched last base q after = record {
                place = record { variables = r.4.variables; aside = r.4.aside; reads = refl; held = r.4.held };
                flexible = after_flexible sg mid f.flexible way.equations f.typed f.over more answer r.3 after.answer after.held;
                tasks = tasks_later old last from_old after (map (goal_under answer) (way.goals ++ gs)) (goals_read last base q.goals) reads under;
                answer = answered.held;
              } in
              let there : Walked (declarations_of last) after (goals_read last base q.goals) on_it split.3 =
              subst (λ E. Walked E after (goals_read last base q.goals) on_it split.3) (sym from_old.declared) (subst (λ l. Walked D after l on_it split.3) (sym reads) leaves) in
              let values : HasValuesFor last way q =
              ap (variables_read last.types last.store) answered.each ∙ later_variables new last tried_later.grows made.flexible.items (t.3).held.free ∙ (t.3).replaced in
              (on_it, behind, whole, split.3, turns_behind, fewer, way, more, answer, starts last is_last base q on_it split.3 (after, searched, there), open_behind, led_again more answer r.3 r.0 q reads values)

-- THE ROW OF WAYS TOOK A STEP from the first goal of a place, the others behind it
pub record Stepped (old : World) (base : List TermId) (p : Place) (c : Cursor) (k : Kept) (ks : List Kept) (v : World) (d : Cursor) (step : Step) : Type 0 where
  pub world : IsWorld old
  pub goals : p.goals ≡ k ∷ ks
  pub later : IsLater old v
  pub cursor : HoldsCursor v base k d
  pub told : (now : Now) (ws : List Way) → StandsFor old p.flexible.items now → AreLeft (declarations_of old) now (goal_read old base k) old.types c ws → IsStep v base now (goal_read old base k) ws d step
  pub onward : LedOnward (length (goal_read old base k).hypotheses) c d step

module _ (old : World) (base : List TermId) (p : Place) (c : Cursor) (k : Kept) (ks : List Kept) (v : World) (d : Cursor) (step : Step) (t : Stepped old base p c k ks v d step) where
  pub rest_there : (now : Now) (ls : List Leaf) (n : ℕ) → IsOpen old base now p c ls n → All (HoldsGoal v) ks × All (IsTypedGoal v.types v.store) ks
  rest_there now ls n o = (
    still_held old t.world base p k ks t.goals now o.0 v t.later.grows.world t.later,
    still_typed old t.world base p k ks t.goals now o.0 v t.later.grows.world t.later,
  )

  module _ (now : Now) (ls : List Leaf) (n : ℕ) (o : IsOpen old base now p c ls n) where
    here : AreOpen old t.world base p k ks t.goals now c ls n
    here = opened old t.world base p k ks t.goals now c ls n o

    searched : IsSearched old base p now
    searched = here.0

    leaves : AreLeaves (declarations_of old) now old.types (goal_read old base k) (goals_read old base ks) c ls n
    leaves = here.2

    stepped : IsStep v base now (goal_read old base k) leaves.ways d step
    stepped = t.told now leaves.ways searched.place.variables leaves.left

    pub turn_passed : step ≡ Passed → (m : ℕ) × (m < n) × IsOpenAgain old v base now p d ls m
    turn_passed e = passed old t.world base p k ks t.goals now searched v t.later.grows.world t.later c d ls n leaves t.cursor (subst (LedOnward (length (goal_read old base k).hypotheses) c d) e t.onward) (subst (IsStep v base now (goal_read old base k) leaves.ways d) e stepped)

    pub turn_over : step ≡ Ended → (b : Bool) → b ≡ is_blind (variables_read v.types v.store p.flexible.items) (read v k.conclusion) → (ls ≡ blind_if b) × (0 < n)
    turn_over e b blind =
        let stands = searched.place.variables in
        let flexible = later_variables old v t.later.grows p.flexible.items stands.free ∙ stands.replaced in
        let formula = t.later.grows.readings k.conclusion (held old t.world base p k ks t.goals now searched).conclusion in
        let none = over old t.world base p k ks t.goals now searched v t.later.grows.world t.later c ls n leaves (subst (IsStep v base now (goal_read old base k) leaves.ways d) e stepped) in
        (none.0 ∙ ap blind_if (sym (blind ∙ ap (λ ys. is_blind ys (read v k.conclusion)) flexible ∙ ap (is_blind now.flexible) formula)), none.1)

    module _ (made : AWay) (e : step ≡ Made made) where
      next : IsNextWay v base now (goal_read old base k) leaves.ways d (declarations_of v) made
      next = subst (IsStep v base now (goal_read old base k) leaves.ways d) e stepped

      led : stage (length (goal_read old base k).hypotheses) d ≤ stage (length (goal_read old base k).hypotheses) c
      led = subst (LedOnward (length (goal_read old base k).hypotheses) c d) e t.onward

      pub made_held : HoldsWay v made
      made_held = (next.3).held

      pub made_typed : IsTypedWay v made
      made_typed = way_typed old t.world base p k ks t.goals now searched v t.later.grows.world t.later c d ls n leaves t.cursor led made next

      -- AND THE WAY WAS TRIED
      module _ (last : World) (later : IsLater v last) (tried : Tried) (told : (base : List TermId) (now : Now) (w : Way) → IsMade v base w made → IsTried last base now w (map (goal_read v base) ks) tried) where
        as_told : IsTried last base now next.0 (goals_read v base ks) tried
        as_told = told base now next.0 next.3

        abbrev at : Tried → Type 0
        at r = IsTried last base now next.0 (goals_read v base ks) r

        pub turn_apart : tried ≡ Apart → (m : ℕ) × (m < n) × IsOpenAgain old last base now p d ls m
        turn_apart e = were_apart old t.world base p k ks t.goals now searched v t.later.grows.world t.later c d ls n leaves t.cursor led made next last later.grows.world later (subst at e as_told)

        pub turn_refused : tried ≡ Refused → (m : ℕ) × (m < n) × IsOpenAgain old last base now p d ls m
        turn_refused e = was_refused old t.world base p k ks t.goals now searched v t.later.grows.world t.later c d ls n leaves t.cursor led made next last later.grows.world later (subst at e as_told)

        pub turn_stuck : (i : ℕ) → tried ≡ tries.Stuck i → (rest : List Leaf) × (ls ≡ stuck_at i ∷ rest) × (m : ℕ) × (m < n) × IsOpenAgain old last base now p d rest m
        turn_stuck i e = was_stuck old t.world base p k ks t.goals now searched v t.later.grows.world t.later c d ls n leaves t.cursor led made next last later.grows.world later i (subst at e as_told)

        pub turn_ahead : (answered : IsAnswered last.types last.store made.flexible.items tried) (q : Place) → tried ≡ Ahead q
            → (front : List Leaf) × (rest : List Leaf) × (ls ≡ front ++ rest) × (i : ℕ) × (m : ℕ) × (i + m < n) × (way : Way) × (more : List (Cell (List ℕ))) × (answer : Substitution ℕ (List ℕ))
            × IsOpen last base (now_after now way more answer) q Start front i × IsOpenAgain old last base now p d rest m × IsLedAgain old last base now p d way more answer q
        turn_ahead answered q e = went_ahead old t.world base p k ks t.goals now searched v t.later.grows.world t.later c d ls n leaves t.cursor led made next last later.grows.world later q (subst (IsAnswered last.types last.store made.flexible.items) e answered) (subst at e as_told)
