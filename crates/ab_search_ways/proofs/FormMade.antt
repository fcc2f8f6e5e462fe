-- Ways that make nothing equal.
use Rattle.std.specs.List.{All}
use Rattle.std.specs.Prelude.{AllPairs}
use Rattle.std.specs.Prelude.{Result, Ok, Err, IfOk}
use Rattle.std.proofs.Common.{◌≡◌, ◌≢◌, ℕ, List, [], ◌∷◌, ◌++◌, map, true, sym, ◌∙◌, ap, subst}
use Rattle.std.proofs.lemmas.List.Elements.{All-nil, All-cons, All-push}
use Rattle.ab_term.specs.Terms.{Nominal, Variable, Read}
use Rattle.ab_norm.specs.ab_store.specs.declared.node.TermId.{TermId}
use Rattle.ab_norm.specs.ab_store.specs.declared.node.Equation.{Equation}
use Rattle.ab_norm.specs.Nominals.{HoldsNominal}
use Rattle.ab_unifiers.specs.Replacements.{Cell}
use Rattle.ab_unify.specs.Problem.{cells_read, variables_read, equations_read}
use Rattle.ab_unify.specs.StoreChanges.{IsFree}
use Rattle.ab_instances.specs.ListReadings.{names_read}
use Rattle.ab_formulas.specs.Marks.{MarksServeIn}
use Rattle.ab_logic.specs.Worlds.{Holds}
use Rattle.ab_logic.specs.declared.world.World.{World}
use Rattle.ab_search_trees.specs.Goals as tree
use Rattle.ab_search_ways.specs.GoalReadings.{goal_read, HoldsGoal, IsAside}
use Rattle.ab_search_ways.specs.MadeWays.{IsMade}
use Rattle.ab_search_ways.specs.declared.goal.Goal.{Goal}
use Rattle.ab_search_ways.specs.declared.way.Way.{Way}

pub leads : (v : World) (base : List TermId) (cells : List (Cell (List ℕ))) (fl : List (Variable ℕ)) (taken : List Nominal) (gs : List tree.Goal) (made : Way)
    → made.equations.items ≡ [] → made.serves ≡ true → All (IsFree v.store) made.flexible.items → All (IsAside v made.flexible.items) base
    → cells_read v.types v.store ≡ cells → variables_read v.types v.store made.flexible.items ≡ fl → All (HoldsGoal v) made.goals.items → map (goal_read v base) made.goals.items ≡ gs
    → IsMade v base (record { cells = cells; flexible = fl; equations = []; serving = []; taken = taken; goals = gs }) made
leads v base cells fl taken gs made e s free aside c f h g = record {
  held = record { free = free; sides = rw e (All-nil (λ (e : Equation). Holds v e.left × Holds v e.right)); goals = h };
  aside = aside;
  cells = c;
  replaced = f;
  equations = ap (equations_read v.types v.store) e;
  serves = (λ yes. All-nil (λ (p : Read × Read). MarksServeIn p.0 p.1), λ all. s);
  goals = g;
}

-- one goal
pub one_held : (v : World) (k : Goal) (gs : List Goal) → gs ≡ k ∷ [] → HoldsGoal v k → All (HoldsGoal v) gs
one_held v k gs e h = subst (All (HoldsGoal v)) (sym e) (All-cons (HoldsGoal v) k [] h (All-nil (HoldsGoal v)))

pub one_read : (v : World) (base : List TermId) (k : Goal) (gs : List Goal) (g : tree.Goal) → gs ≡ k ∷ [] → goal_read v base k ≡ g → map (goal_read v base) gs ≡ g ∷ []
one_read v base k gs g e r = ap (map (goal_read v base)) e ∙ ap (λ x. x ∷ []) r

-- the goal with another conclusion, and maybe a hypothesis more
pub asking_held : (v : World) (k h : Goal) → k.added.items ≡ h.added.items → k.constants.items ≡ h.constants.items → Holds v k.conclusion → HoldsGoal v h → HoldsGoal v k
asking_held v k h a n there held = record {
  added = subst (All (Holds v)) (sym a) held.added;
  conclusion = there;
  constants = subst (All (HoldsNominal v.types)) (sym n) held.constants;
  once = subst (λ ns. AllPairs (λ a b. a ≢ b) (names_read v.types ns)) (sym n) held.once;
}

pub assuming_held : (v : World) (k h : Goal) (F : TermId) → k.added.items ≡ h.added.items ++ F ∷ [] → k.constants.items ≡ h.constants.items → k.conclusion ≡ h.conclusion → Holds v F → HoldsGoal v h → HoldsGoal v k
assuming_held v k h F a n c there held = record {
  added = subst (All (Holds v)) (sym a) (All-push (Holds v) h.added.items F held.added there);
  conclusion = subst (Holds v) (sym c) held.conclusion;
  constants = subst (All (HoldsNominal v.types)) (sym n) held.constants;
  once = subst (λ ns. AllPairs (λ a b. a ≢ b) (names_read v.types ns)) (sym n) held.once;
}

module _ {T E : Type 0} {P Q R S Z : T → Type 0} where
  pub if_four : (r : Result T E) → ((v : T) → P v → Q v → R v → S v → Z v) → IfOk r P → IfOk r Q → IfOk r R → IfOk r S → IfOk r Z
  if_four (Ok v) f p q s t = f v p q s t
  if_four (Err e) f p q s t = p
