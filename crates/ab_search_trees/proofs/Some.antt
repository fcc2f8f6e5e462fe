-- A list of goals whose conclusions are formulas has a list of leaves, and is walked in so many turns. The number is told of every
-- goal; where the definitions aren't what they are to be, it says nothing.
use Rattle.std.proofs.Common.{◌≡◌, ◌⊎◌, inl, inr, ℕ, zero, suc, ◌<◌, ◌≤◌, ◌+◌, List, [], ◌∷◌, ◌++◌, map, codes, refl, ◌∙◌, arith}
use Rattle.ab_term.specs.Variables.{Substitution, value_in}
use Rattle.ab_term.specs.Sameness.{same_number}
use Rattle.std.proofs.lemmas.List.Elements.{All-head}
use Rattle.ab_unifiers.specs.Replacements.{Cell}
use Rattle.ab_unifiers.specs.Unification.{Answer, unified, apart, stuck, Solves}
use Rattle.ab_unifiers.proofs.Ending.{answered}
use Rattle.ab_formulas.specs.Formulas.{a_formula, StandsIn, IsFormula}
use Rattle.ab_formulas.specs.Sequents.{Sequent, IsSequent, formulas}
use Rattle.ab_formulas.specs.Declarations.{Declarations, signature_in, HaveDefinitions}
use Rattle.ab_formulas.proofs.Images.{image_stands}
use Rattle.ab_search_trees.specs.Goals.{Goal, Now, goal_under, beginning, first_goal}
use Rattle.ab_search_trees.specs.Ways.{Way, ways}
use Rattle.ab_search_trees.specs.Tree.{Leaf, found, stuck_at, problem_of, Serve, now_after, unseen, Leaves}
use Rattle.ab_search_trees.specs.Outcomes.{Searched}
use Rattle.ab_search_trees.proofs.Weights.{weight, image_weighs}
use Rattle.ab_search_trees.proofs.Deciding.{Decided, all_serve_or}
use Rattle.ab_search_trees.proofs.Smaller.{Less, in_depth, in_layers, in_weight, AllSmaller, EachWay, ways_smaller}
use Rattle.ab_search_trees.proofs.SmallerOr.{stands_or, each_way_or}
use Rattle.ab_search_trees.proofs.Walks.{idle_turns, Walked, WalkedBy, WalkedOn, no_goal, a_goal, no_way, a_way, are_apart, are_stuck, dont_serve, go_on, leaves_walked}

-- of the same measure
record Like (g h : Goal) : Type 0 where
  pub depth : h.depth ≡ g.depth
  pub layers : h.layers ≡ g.layers
  pub weight : weight h.conclusion ≡ weight g.conclusion
  pub stands : StandsIn a_formula h.conclusion

abbrev AllLike : List Goal → List Goal → Type 0
AllLike [] [] = Unit {0}
AllLike [] (h ∷ hs) = ⊥
AllLike (g ∷ gs) [] = ⊥
AllLike (g ∷ gs) (h ∷ hs) = Like g h × AllLike gs hs

abbrev AllStand : List Goal → Type 0
AllStand [] = Unit {0}
AllStand (g ∷ gs) = StandsIn a_formula g.conclusion × AllStand gs

like_under : (q : Substitution ℕ (List ℕ)) (g : Goal) → StandsIn a_formula g.conclusion → Like g (goal_under q g)
like_under q g s = record { depth = refl; layers = refl; weight = image_weighs (value_in same_number q) g.conclusion s; stands = image_stands (value_in same_number q) a_formula g.conclusion s }

all_like_under : (q : Substitution ℕ (List ℕ)) (gs : List Goal) → AllStand gs → AllLike gs (map (goal_under q) gs)
all_like_under q [] s = tt
all_like_under q (g ∷ gs) s = (like_under q g s.0, all_like_under q gs s.1)

like_stand : (gs hs : List Goal) → AllLike gs hs → AllStand hs
like_stand [] [] l = tt
like_stand [] (h ∷ hs) l = absurd l
like_stand (g ∷ gs) [] l = absurd l
like_stand (g ∷ gs) (h ∷ hs) l = ((l.0).stands, like_stand gs hs l.1)

like_then : (gs hs ks : List Goal) → AllLike gs hs → AllLike hs ks → AllLike gs ks
like_then [] [] ks l m = m
like_then [] (h ∷ hs) ks l m = absurd l
like_then (g ∷ gs) [] ks l m = absurd l
like_then (g ∷ gs) (h ∷ hs) [] l m = absurd m
like_then (g ∷ gs) (h ∷ hs) (k ∷ ks) l m = (record { depth = (m.0).depth ∙ (l.0).depth; layers = (m.0).layers ∙ (l.0).layers; weight = (m.0).weight ∙ (l.0).weight; stands = (m.0).stands }, like_then gs hs ks l.1 m.1)

smaller_stand : (g : Goal) (hs gs : List Goal) → AllSmaller g hs → AllStand gs → AllStand (hs ++ gs)
smaller_stand g [] gs a s = s
smaller_stand g (h ∷ hs) gs a s = ((a.0).stands, smaller_stand g hs gs a.1 s)

module _ (D : Declarations) where
  -- unless a definition isn't one
  abbrev Unless : Type 0 → Type 0
  Unless P = P ⊎ ¬ HaveDefinitions D

  abbrev pub IsWalked : Now → List Goal → Type 0
  IsWalked now gs = (ls : List Leaf) × (n : ℕ) × Walked D now gs ls n

  -- whatever is put in, these goals have leaves
  abbrev Ready : List Goal → Type 0
  Ready gs = (now : Now) (hs : List Goal) → AllLike gs hs → Unless (IsWalked now hs)

  ready_like : (gs hs : List Goal) → AllLike gs hs → Ready gs → Ready hs
  ready_like gs hs l r now ks m = r now ks (like_then gs hs ks l m)

  -- the goal has them, whatever stands behind it
  abbrev Has : Goal → Type 0
  Has g = (gs : List Goal) → AllStand gs → Ready gs → (now : Now) → Unless (IsWalked now (g ∷ gs))

  -- so does each smaller one
  abbrev Below : Goal → Type 0
  Below g = (h : Goal) → StandsIn a_formula h.conclusion → Less g h → Has h

  less_like : (g h k : Goal) → Less g h → Like h k → Less g k
  less_like g h k (in_depth l) m = in_depth (let e = m.depth in omega (arith, l, e))
  less_like g h k (in_layers d l) m = in_layers (m.depth ∙ d) (let e = m.layers in omega (arith, l, e))
  less_like g h k (in_weight d l w) m = in_weight (m.depth ∙ d) (m.layers ∙ l) (let e = m.weight in omega (arith, w, e))

  module _ (g : Goal) (below : Below g) (gs : List Goal) (stand : AllStand gs) (ready : Ready gs) where
    ready_both : (hs : List Goal) → AllSmaller g hs → Ready (hs ++ gs)
    ready_both [] a now ks l = ready now ks l
    ready_both (h ∷ hs) a now [] l = absurd l
    ready_both (h ∷ hs) a now (k ∷ ks) l =
        below k (l.0).stands (less_like g h k (a.0).less l.0) ks (like_stand (hs ++ gs) ks l.1) (ready_like (hs ++ gs) ks l.1 (ready_both hs a.1)) now

    abbrev OnIt : Now → Way → Type 0
    OnIt now w = (ls : List Leaf) × (n : ℕ) × WalkedOn D now w gs ls n

    abbrev ByThem : Now → List Way → Type 0
    ByThem now ws = (ls : List Leaf) × (n : ℕ) × WalkedBy D now ws gs ls n

    on_answer : (now : Now) (w : Way) → AllSmaller g w.goals → (a : Answer (List ℕ)) → Solves (codes "x") (problem_of w) a → Unless (OnIt now w)
    on_answer now w s apart p = inl ([], 0, are_apart p)
    on_answer now w s (stuck i) p = inl (stuck_at i ∷ [], 0, are_stuck p)
    on_answer now w s (unified more q) p = go (all_serve_or w.serving)
      where
        go : Decided (Serve w) → Unless (OnIt now w)
        go (inr n) = inl ([], 0, dont_serve more q p n)
        go (inl v) = elim (ready_both w.goals s (now_after now w more q) (map (goal_under q) (w.goals ++ gs)) (all_like_under q (w.goals ++ gs) (smaller_stand g w.goals gs s stand))) [
          | inl r ↦ inl (r.0, r.1, go_on more q p v r.2)
          | inr n ↦ inr n
        ]

    both_ways : (now : Now) (w : Way) (ws : List Way) → Unless (OnIt now w) → Unless (ByThem now ws) → Unless (ByThem now (w ∷ ws))
    both_ways now w ws (inl one) (inl rest) = inl (one.0 ++ rest.0, suc (one.1 + rest.1), a_way one.2 rest.2)
    both_ways now w ws (inr n) rest = inr n
    both_ways now w ws (inl one) (inr n) = inr n

    by_ways : (now : Now) (ws : List Way) → EachWay g ws → Unless (ByThem now ws)
    by_ways now [] s = inl ([], 0, no_way)
    by_ways now (w ∷ ws) s =
        let a = answered (codes "x") (problem_of w) in
        both_ways now w ws (on_answer now w s.0 a.0 a.1) (by_ways now ws s.1)

  one_goal : (g : Goal) → StandsIn a_formula g.conclusion → Below g → Has g
  one_goal g s below gs stand ready now = go (each_way_or g (ways D now g))
    where
      go : Decided (EachWay g (ways D now g)) → Unless (IsWalked now (g ∷ gs))
      go (inr n) = inr (λ defs. n (ways_smaller D now g s defs))
      go (inl smaller) = elim (by_ways g below gs stand ready now (ways D now g) smaller) [
        | inl r ↦ inl (r.0 ++ unseen now g, suc (idle_turns g + r.1), a_goal r.2)
        | inr n ↦ inr n
      ]

  -- by the depth, then the layers, then the weight

  smaller : (d l : ℕ) → ((h : Goal) → StandsIn a_formula h.conclusion → h.depth < d → Has h) → ((h : Goal) → StandsIn a_formula h.conclusion → h.depth ≡ d → h.layers < l → Has h)
      → (g : Goal) → g.depth ≡ d → g.layers ≡ l → ((h : Goal) → StandsIn a_formula h.conclusion → h.depth ≡ d → h.layers ≡ l → weight h.conclusion < weight g.conclusion → Has h) → Below g
  smaller d l deep wide g e f lighter h t (in_depth less) = deep h t (omega (arith, less, e))
  smaller d l deep wide g e f lighter h t (in_layers same less) = wide h t (same ∙ e) (omega (arith, less, f))
  smaller d l deep wide g e f lighter h t (in_weight same alike less) = lighter h t (same ∙ e) (alike ∙ f) less

  by_weight : (d l : ℕ) → ((h : Goal) → StandsIn a_formula h.conclusion → h.depth < d → Has h) → ((h : Goal) → StandsIn a_formula h.conclusion → h.depth ≡ d → h.layers < l → Has h)
      → (k : ℕ) (g : Goal) → StandsIn a_formula g.conclusion → g.depth ≡ d → g.layers ≡ l → weight g.conclusion ≤ k → Has g
  by_weight d l deep wide zero g s e f w = one_goal g s (smaller d l deep wide g e f (λ h t same alike less. absurd (omega (arith, less, w))))
  by_weight d l deep wide (suc k) g s e f w = one_goal g s (smaller d l deep wide g e f (λ h t same alike less. by_weight d l deep wide k h t same alike (omega (arith, less, w))))

  by_layers : (d : ℕ) → ((h : Goal) → StandsIn a_formula h.conclusion → h.depth < d → Has h) → (l : ℕ) (g : Goal) → StandsIn a_formula g.conclusion → g.depth ≡ d → g.layers < l → Has g
  by_layers d deep zero g s e f = absurd (omega (arith, f))
  by_layers d deep (suc l) g s e f = by_weight d g.layers deep (λ h t same less. by_layers d deep l h t same (omega (arith, less, f))) (weight g.conclusion) g s e refl (omega arith)

  by_depth : (d : ℕ) (g : Goal) → StandsIn a_formula g.conclusion → g.depth < d → Has g
  by_depth zero g s e = absurd (omega (arith, e))
  by_depth (suc d) g s e = by_layers g.depth (λ h t less. by_depth d h t (omega (arith, less, e))) (suc g.layers) g s refl (omega arith)

  none_ready : Ready []
  none_ready now [] l = inl (found now ∷ [], 1, no_goal)
  none_ready now (h ∷ hs) l = absurd l

  -- what is known of a goal, whatever it is
  abbrev Known : Now → Goal → Type 0
  Known now g = IsWalked now (g ∷ []) ⊎ ¬ (HaveDefinitions D × StandsIn a_formula g.conclusion)

  known : (now : Now) (g : Goal) → Known now g
  known now g = go (stands_or a_formula g.conclusion)
    where
      go : Decided (StandsIn a_formula g.conclusion) → Known now g
      go (inr n) = inr (λ p. n p.1)
      go (inl s) = elim (by_depth (suc g.depth) g s (omega arith) [] tt none_ready now) [ inl r ↦ inl r | inr n ↦ inr (λ p. n p.0) ]

  abbrev number_in : (now : Now) (g : Goal) → Known now g → ℕ
  number_in now g (inl r) = r.1
  number_in now g (inr n) = 0

  -- SO MANY TURNS does a walk from the goal take
  pub turns_from : Now → Goal → ℕ
  turns_from now g = number_in now g (known now g)

  -- THERE ARE LEAVES, and it is walked in these turns
  pub some_walk : HaveDefinitions D → (now : Now) (g : Goal) → StandsIn a_formula g.conclusion → (ls : List Leaf) × Walked D now (g ∷ []) ls (turns_from now g)
  unfolding turns_from
  some_walk defs now g s = go (known now g)
    where
      go : (o : Known now g) → (ls : List Leaf) × Walked D now (g ∷ []) ls (number_in now g o)
      go (inl r) = (r.0, r.2)
      go (inr n) = absurd (n (defs, s))

  some_list : HaveDefinitions D → (now : Now) (g : Goal) → StandsIn a_formula g.conclusion → (ls : List Leaf) × Leaves D now (g ∷ []) ls
  some_list defs now g s = let r = some_walk defs now g s in (r.0, leaves_walked D r.1)

-- A SEARCH has a list of leaves
pub searched : (D : Declarations) → HaveDefinitions D → (cells : List (Cell (List ℕ))) (depth : ℕ) (s : Sequent) → IsSequent D s → (ls : List Leaf) × Searched D cells depth s ls
searched D defs cells depth s is = some_list D defs (beginning cells s) (first_goal depth s) (All-head (IsFormula (signature_in D)) s.conclusion (formulas s.hypotheses) is.formulas).stands
