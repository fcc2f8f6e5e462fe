-- What a search tells of the first goal, and how the proof stands once that goal is closed.
use Rattle.std.specs.Option.{SomeIff}
use Rattle.std.proofs.Common.{◌≡◌, ◌≢◌, ℕ, List, [], ◌∷◌, Option, Some, Bool, refl, sym, ap, subst}
use Rattle.ab_formulas.specs.Sequents.{Sequent, IsSequent}
use Rattle.ab_unify.specs.Problem.{cells_read}
use Rattle.ab_logic.specs.WorldGrowth.{Grows}
use Rattle.ab_logic.specs.Worlds.{IsWorld, declarations_of}
use Rattle.ab_logic.specs.SequentReadings.{HoldsSequent, sequent_of}
use Rattle.ab_logic.specs.declared.world.World.{World}
use Rattle.ab_logic.proofs.Programs.{have_programs}
use Rattle.ab_logic.proofs.BuiltIn.{has_member}
use Rattle.ab_logic.specs.declared.sequent.Sequent.{Sequent as Kept}
use Rattle.ab_theory.specs.Derivations.{History, open_goals}
use Rattle.ab_search_trees.specs.Tree.{Leaf}
use Rattle.ab_search_trees.specs.Outcomes.{Outcome, closed, not_found, outcome_of, Searched, ComesTo}
use Rattle.ab_search_completeness.proofs.Complete.{none_guessed}
use Rattle.ab_steps.specs.ab_kernel.specs.Layout.{Held, history_of, IsProof, goals_of}
use Rattle.ab_steps.specs.ab_kernel.proofs.Later.{same_history, still_proof}
use Rattle.ab_steps.specs.ab_kernel.proofs.NewNumbers.{over_cells}
use Rattle.ab_steps.specs.Progress.{Follows}
use Rattle.ab_steps.proofs.Following.{follows_on, follows_same}
use Rattle.ab_steps.specs.ab_kernel.proofs.GoalSequents.{first_is_sequent}
use Rattle.ab_search_paths.specs.ab_walk.specs.Told.{Tells, outcome_without}
use Rattle.ab_search_paths.specs.ab_walk.specs.declared.walk.Told.{Told}
use Rattle.ab_search_paths.specs.ab_walk.specs.declared.walk.Told.TheVariants.{Found, Not}
use Rattle.ab_search.specs.GoalCounts.{FirstGaveWay}
use Rattle.ab_search.specs.Searched.{FirstComesTo, IsClosed, MissesNone}
use Rattle.ab_search.proofs.Counting.{first_on, first_still, closed_first}

-- the first goal of the proof, as it is kept
abbrev pub IsFirst : World → Held → Kept → Type 0
IsFirst w p k = (s : Sequent) (rest : List Sequent) → goals_of w p ≡ s ∷ rest → sequent_of w k ≡ s

-- the search of the sequent tells this
abbrev pub IsToldOf : World → ℕ → Sequent → Told → Type 0
IsToldOf w depth s told = (ls : List Leaf) × Searched (declarations_of w) (cells_read w.types w.store) depth s ls × Tells ls told

module _ (w : World) (p : Held) (k : Kept) (first : IsFirst w p k) where
  -- it is a sequent
  pub first_sequent : IsWorld w → IsProof w p → goals_of w p ≢ [] → IsSequent (declarations_of w) (sequent_of w k)
  first_sequent world proof some = by (goals_of w p) refl
    where
      by : (gs : List Sequent) → goals_of w p ≡ gs → IsSequent (declarations_of w) (sequent_of w k)
      by [] e = absurd (some e)
      by (s ∷ rest) e = subst (IsSequent (declarations_of w)) (sym (first s rest e)) (first_is_sequent w p world proof s rest e)

  -- its search comes to what the leaves come to
  pub comes_to : HoldsSequent w k → (depth : ℕ) (o : Outcome) (ls : List Leaf) → Searched (declarations_of w) (cells_read w.types w.store) depth (sequent_of w k) ls → outcome_of ls ≡ o
      → FirstComesTo w p depth o
  comes_to held depth o ls searched e s rest goals =
      subst (λ t. ComesTo (declarations_of w) depth t o) (first s rest goals) (cells_read w.types w.store, over_cells w k held, ls, searched, e)

  -- and so it is told
  pub told_not : HoldsSequent w k → (depth : ℕ) (told : Told) (stuck : Option ℕ) (unseen : Bool) → IsToldOf w depth (sequent_of w k) told → told ≡ Not stuck unseen
      → FirstComesTo w p depth (outcome_without stuck)
  told_not held depth told stuck unseen x e = comes_to held depth (outcome_without stuck) x.0 x.1 (subst (Tells x.0) e x.2).0

  pub told_found : HoldsSequent w k → (depth : ℕ) (told : Told) → IsToldOf w depth (sequent_of w k) told → told ≡ Found → FirstComesTo w p depth closed
  told_found held depth told x e = comes_to held depth closed x.0 x.1 (subst (Tells x.0) e x.2)

-- where nothing is found no derivation is missed
pub misses_none : (w : World) (p : Held) → IsWorld w → IsProof w p → (depth : ℕ) → FirstComesTo w p depth not_found → MissesNone w p depth
misses_none w p world proof depth comes s rest goals sees d =
    none_guessed (declarations_of w) world.definitions (have_programs w world) (has_member w world) depth s (first_is_sequent w p world proof s rest goals) (comes s rest goals) sees d

-- the proof stands as it stood, in a world that grew
module _ (w v : World) (p : Held) (grows : Grows w v) (declared : declarations_of v ≡ declarations_of w) (proof : IsProof w p) where
  pub proof_later : IsProof v p
  proof_later = still_proof w v grows declared p proof

  pub goals_later : goals_of v p ≡ goals_of w p
  goals_later = ap (λ (h : History). open_goals h.tree) (same_history w v grows p proof)

  pub history_later : history_of v p ≡ history_of w p
  history_later = same_history w v grows p proof

  pub follows_later : Follows w p v p
  follows_later = follows_same w v p p grows declared proof proof_later refl

  -- and steps follow
  pub follows_behind : (u : World) (q : Held) → Follows v p u q → Follows w p u q
  follows_behind u q f = follows_on w v u p p q follows_later f

  pub gave_behind : (u : World) (q : Held) (n m : ℕ) → FirstGaveWay v p u q n m → FirstGaveWay w p u q n m
  gave_behind u q n m gave = first_on w v u p p q n n m (first_still w v p p n goals_later) gave

  pub closed_behind : (u : World) (q : Held) (depth : ℕ) → FirstComesTo w p depth closed → FirstGaveWay v p u q 1 0 → IsClosed w p depth u q
  closed_behind u q depth comes gave s rest goals = (comes s rest goals, closed_first w u p q (gave_behind u q 1 0 gave) s rest goals)

-- what a sum that fits is
pub some_value : (P : Type 0) (r : Option ℕ) (n v : ℕ) → r ≡ Some n → SomeIff r P v → n ≡ v
some_value P r n v e h = (subst (λ (o : Option ℕ). SomeIff o P v) e h).1
