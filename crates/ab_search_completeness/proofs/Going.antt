-- A PLACE OF THE TREE AGAINST GUESSES, where formulas in focus are firm at all places below: the way that a guess goes has a leaf.
use Rattle.std.proofs.Common.{◌≡◌, ◌≢◌, inl, inr, ℕ, ◌<◌, List, [], ◌∷◌, ◌++◌, map, length, codes, Bool, true, false, cond, refl, sym, ◌∙◌, ap, subst}
use Rattle.std.specs.Prelude.{Contains}
use Rattle.ab_term.specs.Terms.{Nominal, Variable, Read}
use Rattle.ab_term.specs.Typing.{Signature}
use Rattle.ab_term.specs.Variables.{Substitution, image}
use Rattle.ab_term.specs.Sameness.{same_number}
use Rattle.ab_term.proofs.Lists.{Contains-none, Contains-cases}
use Rattle.ab_unifiers.specs.Replacements.{Cell}
use Rattle.ab_unifiers.specs.Unification.{Equation, unified, apart, Solves}
use Rattle.ab_unifiers.specs.Unifiers.{given, AreTyped, AreKnown, AllHoldCells}
use Rattle.ab_unifiers.specs.Member.{HasMember}
use Rattle.ab_unifiers.proofs.Following.{Put, Fits}
use Rattle.ab_unifiers.proofs.General.{AllAlike}
use Rattle.ab_formulas.specs.Declarations.{Declarations, signature_in, HaveDefinitions}
use Rattle.ab_formulas.specs.Programs.{HavePrograms}
use Rattle.ab_search_trees.specs.Goals.{Goal, Now, goal_under}
use Rattle.ab_search_trees.specs.Lifting.{left_of}
use Rattle.ab_search_trees.specs.Judgements.{is_blind}
use Rattle.ab_search_trees.specs.Ways.{Way, ways}
use Rattle.ab_search_trees.specs.Tree.{Leaf, blind, Serve, now_after, unseen, Leaves, LeavesOn, no_goal, a_goal, are_apart, are_stuck, dont_serve, go_on}
use Rattle.ab_search_trees.proofs.Guessed.{lifts}
use Rattle.ab_search_trees.proofs.Lifts.{known_cell, cells_all_over, left_cells, rest, rest_fits, lifted}
use Rattle.ab_search_trees.proofs.Forms.{Makes}
use Rattle.ab_search_trees.proofs.Facts.{IsPart, AllParts, IsTask, AllTasks, all_tasks_both}
use Rattle.ab_search_trees.proofs.Against.{IsState, MakesEach, AllGuess, all_guess_both, some_front, some_behind, amid, among_ways}
use Rattle.ab_search_trees.proofs.Growing.{IsGrown, tasks_grown, guesses_grown}
use Rattle.ab_search_trees.proofs.Carried.{tasks_under}
use Rattle.ab_search_trees.proofs.Shows.{IsFine, EachFine}
use Rattle.ab_search_trees.proofs.ShowsRest.{ways_fine}
use Rattle.ab_search_completeness.specs.Places.{FocusesAreFirm, by_way}

-- one of the ways is fine where each is
fine_one : (D : Declarations) (now : Now) (g : Goal) (ws : List Way) → EachFine D now g ws → (w : Way) → Contains ws w → IsFine D now g w
fine_one D now g [] e w m = absurd (Contains-none w m)
fine_one D now g (v ∷ ws) e w m = elim (Contains-cases v ws w m) [ inl p ↦ subst (IsFine D now g) p e.0 | inr n ↦ fine_one D now g ws e.1 w n ]

-- GUESSES UNDER AN ANSWER
module _ (sg : Signature) (mid : Now) (f : Put) (state : IsState sg mid f) (es : List (Equation (List ℕ))) (typed : AreTyped sg es) (over : AllHoldCells mid.cells es) (alike : AllAlike f es)
    (more : List (Cell (List ℕ))) (q : Substitution ℕ (List ℕ)) (solves : Solves (codes "x") (given es mid.cells mid.flexible) (unified more q)) (answer : Substitution ℕ (List ℕ)) (held : List Nominal) where
  known : AreKnown mid.cells mid.flexible
  known y h = known_cell mid.cells y.name y.type (state.cells y h)

  abbrev after : Now
  after = record { cells = more; flexible = left_of mid.cells mid.flexible more q; answer = answer; held = held }

  abbrev then_rest : Put
  then_rest = rest sg (codes "x") es mid.cells mid.flexible typed known state.cells over more q solves f state.fits alike

  after_state : IsState sg after then_rest
  after_state = record {
    cells = left_cells sg (codes "x") es mid.cells mid.flexible typed known state.cells over more q solves;
    fits = rest_fits sg (codes "x") es mid.cells mid.flexible typed known state.cells over more q solves f state.fits alike;
  }

  makes_under : (branch : List Nominal) (u : Bool) (F H : Read) → IsPart sg mid branch u F → Makes f F H → Makes then_rest (image same_number q F) H
  makes_under branch u F H p m = lifted sg (codes "x") es mid.cells mid.flexible typed known state.cells over more q solves f state.fits alike F p.formula.typed p.facts.over ∙ m

  each_under : (branch : List Nominal) (u : Bool) (Fs Hs : List Read) → AllParts sg mid branch u Fs → MakesEach f Fs Hs → MakesEach then_rest (map (image same_number q) Fs) Hs
  each_under branch u [] [] p m = tt
  each_under branch u [] (H ∷ Hs) p m = absurd m
  each_under branch u (F ∷ Fs) [] p m = absurd m
  each_under branch u (F ∷ Fs) (H ∷ Hs) p m = (makes_under branch u F H p.0 m.0, each_under branch u Fs Hs p.1 m.1)

  guesses_under : (gs hs : List Goal) → AllTasks sg mid gs → AllGuess f gs hs → AllGuess then_rest (map (goal_under q) gs) hs
  guesses_under [] [] t a = tt
  guesses_under [] (h ∷ hs) t a = absurd a
  guesses_under (g ∷ gs) [] t a = absurd a
  guesses_under (g ∷ gs) (h ∷ hs) t a = (
    record {
      conclusion = makes_under g.constants g.untouched g.conclusion h.conclusion (t.0).conclusion (a.0).conclusion;
      hypotheses = each_under g.constants g.untouched g.hypotheses h.hypotheses (t.0).hypotheses (a.0).hypotheses;
      depth = (a.0).depth;
      constants = (a.0).constants;
      untouched = (a.0).untouched;
      layers = (a.0).layers;
    },
    guesses_under gs hs t.1 a.1,
  )

module _ (D : Declarations) where
  -- THE WAY THAT A GUESS GOES from a goal: it is one of the goal's, unless the search is blind; a guess for its variables is the guess that was, on
  -- those that were there, makes its sides the same, and makes these of its goals
  pub record Goes (now : Now) (f : Put) (g : Goal) (ks : List Goal) : Type 0 where
    pub way : Way
    pub there : is_blind now.flexible g.conclusion ≡ false → Contains (ways D now g) way
    pub put : Put
    pub fits : Fits (signature_in D) [] way.flexible put
    pub same : (y : Variable ℕ) → y.name < length now.cells → put y ≡ f y
    pub alike : AllAlike put way.equations
    pub serve : Serve way
    pub goals : AllGuess put way.goals ks

  -- goals that become these by a guess have a leaf, where formulas in focus are firm
  abbrev pub Finds : List Goal → Type 0
  Finds hs = (now : Now) (f : Put) (gs : List Goal) → IsState (signature_in D) now f → AllTasks (signature_in D) now gs → AllGuess f gs hs → FocusesAreFirm D now gs → (ls : List Leaf) → Leaves D now gs ls → ls ≢ []

  pub none_finds : Finds []
  none_finds now f [] s t a firm ls no_goal e = absurd (cc)
  none_finds now f (g ∷ gs) s t a firm ls l e = absurd a

  -- ON ONE WAY
  on_way : (now : Now) (g : Goal) (w : Way) (gs hs : List Goal) (f : Put) → Contains (ways D now g) w → IsState (signature_in D) (amid D now w) f → AreTyped (signature_in D) w.equations → AllHoldCells w.cells w.equations → AllAlike f w.equations → Serve w
      → AllTasks (signature_in D) (amid D now w) (w.goals ++ gs) → AllGuess f (w.goals ++ gs) hs → FocusesAreFirm D now (g ∷ gs) → Finds hs → (ls : List Leaf) → LeavesOn D now w gs ls → ls ≢ []
  on_way now g w gs hs f m s d o a v t k firm finds ls (are_apart p) e = lifts (signature_in D) (codes "x") w.equations w.cells w.flexible d (λ y h. known_cell w.cells y.name y.type (s.cells y h)) (cells_all_over w.cells w.equations o) f s.fits a apart p
  on_way now g w gs hs f m s d o a v t k firm finds ls (are_stuck p) e = absurd (cc)
  on_way now g w gs hs f m s d o a v t k firm finds ls (dont_serve more q p n) e = n v
  on_way now g w gs hs f m s d o a v t k firm finds ls (go_on more q p u l) e =
      let now2 = now_after now w more q in
      finds now2
      (then_rest (signature_in D) (amid D now w) f s w.equations d o a more q p now2.answer now2.held)
      (map (goal_under q) (w.goals ++ gs))
      (after_state (signature_in D) (amid D now w) f s w.equations d o a more q p now2.answer now2.held)
      (tasks_under (signature_in D) (amid D now w) s.cells w.equations d o more q p now2.answer now2.held (w.goals ++ gs) t)
      (guesses_under (signature_in D) (amid D now w) f s w.equations d o a more q p now2.answer now2.held (w.goals ++ gs) hs t k)
      (λ last g2 rest leads. firm last g2 rest (by_way w more q m p u leads))
      ls l e

  module _ (defs : HaveDefinitions D) (programs : HavePrograms D) (has : HasMember (signature_in D)) where
    -- each way of a goal is fine
    pub way_fine : (now : Now) (f : Put) → IsState (signature_in D) now f → (g : Goal) → IsTask (signature_in D) now g → (w : Way) → Contains (ways D now g) w → IsFine D now g w
    way_fine now f s g t w m = fine_one D now g (ways D now g) (ways_fine D defs programs now s.cells g t has) w m

    -- THE WAY HAS A LEAF, where its goals and those behind have
    pub going : (now : Now) (f : Put) (g : Goal) (gs hs : List Goal) → IsState (signature_in D) now f → AllTasks (signature_in D) now (g ∷ gs) → AllGuess f gs hs → FocusesAreFirm D now (g ∷ gs)
        → (is_blind now.flexible g.conclusion ≡ false → (ks : List Goal) × Goes now f g ks × Finds (ks ++ hs)) → (ls : List Leaf) → Leaves D now (g ∷ gs) ls → ls ≢ []
    going now f g gs hs s t a firm seen ls (a_goal {ls = ms} p) = by_sight (is_blind now.flexible g.conclusion) refl
      where
        by_sight : (b : Bool) → is_blind now.flexible g.conclusion ≡ b → ms ++ unseen now g ≢ []
        by_sight true e = some_behind ms (λ q. absurd (let same : unseen now g ≡ blind ∷ [] = ap (λ b. cond b (blind ∷ []) []) e in let bad : blind ∷ [] ≡ [] = sym same ∙ q in cc))
        by_sight false e =
            let ks = (seen e).0 in
            let goes = (seen e).1 in
            let w = goes.way in
            let m = goes.there e in
            let fine = way_fine now f s g t.0 w m in
            let grown : IsGrown now (amid D now w) f goes.put = record { cells = fine.grown.cells; fixed = fine.grown.fixed; same = goes.same } in
            let state : IsState (signature_in D) (amid D now w) goes.put = record { cells = fine.flexible; fits = goes.fits } in
            some_front (unseen now g) (among_ways D now (ways D now g) gs w m
            (on_way now g w gs (ks ++ hs) goes.put m state fine.typed fine.over goes.alike goes.serve
            (all_tasks_both (signature_in D) (amid D now w) w.goals gs fine.tasks (tasks_grown (signature_in D) now (amid D now w) f goes.put grown gs t.1))
            (all_guess_both goes.put w.goals gs ks hs goes.goals (guesses_grown (signature_in D) now (amid D now w) f goes.put grown gs hs t.1 a)) firm (seen e).2) ms p)
