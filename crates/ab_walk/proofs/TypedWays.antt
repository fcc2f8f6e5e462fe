-- The sides of a way that is made are terms, and its goals say formulas: the tree's ways are so.
use Rattle.std.specs.List.{All}
use Rattle.std.proofs.Common.{ℕ, ◌+◌, List, [], ◌∷◌, ◌++◌, map, Bool, sym, subst}
use Rattle.std.proofs.lemmas.List.Elements.{All-nil, All-cons, All-head, All-tail}
use Rattle.ab_term.specs.Types.{Ty, prop}
use Rattle.ab_term.specs.Terms.{Nominal, Read}
use Rattle.ab_term.specs.Typing.{Signature, HasType}
use Rattle.ab_norm.specs.ab_store.specs.declared.node.TermId.{TermId}
use Rattle.ab_norm.specs.ab_store.specs.declared.node.Equation.{Equation}
use Rattle.ab_norm.specs.ab_store.specs.Naming.{IsTerm}
use Rattle.ab_unifiers.specs.Unifiers.{AreTyped}
use Rattle.ab_unify.specs.Problem.{equations_from}
use Rattle.ab_unify.specs.UnifyAnswers.{IsTypedPair}
use Rattle.ab_formulas.specs.Declarations.{signature_in}
use Rattle.ab_logic.specs.Worlds.{IsWorld, Holds, read, declarations_of}
use Rattle.ab_logic.specs.declared.world.World.{World}
use Rattle.ab_logic.proofs.Growing.{same_constants}
use Rattle.ab_search_trees.specs.Goals as tree
use Rattle.ab_search_trees.specs.Goals.{Now}
use Rattle.ab_search_trees.specs.Ways as trees
use Rattle.ab_search_trees.proofs.Facts.{AllParts, AllTasks}
use Rattle.ab_search_trees.proofs.Shows.{IsFine}
use Rattle.ab_next_ways.specs.ab_search_ways.specs.GoalReadings.{goal_read, HoldsGoal, IsTypedGoal}
use Rattle.ab_next_ways.specs.ab_search_ways.specs.MadeWays.{IsMade, IsTypedWay}
use Rattle.ab_next_ways.specs.ab_search_ways.specs.declared.goal.Goal.{Goal}
use Rattle.ab_next_ways.specs.ab_search_ways.specs.declared.way.Way.{Way}
use Rattle.ab_next_ways.specs.ab_search_ways.proofs.LaterWorlds.{unbound_reads}

-- what is known of goals behind others
parts_behind : (sg : Signature) (now : Now) (branch : List Nominal) (u : Bool) (ts us : List Read) → AllParts sg now branch u (ts ++ us) → AllParts sg now branch u us
parts_behind sg now branch u [] us p = p
parts_behind sg now branch u (t ∷ ts) us p = parts_behind sg now branch u ts us p.1

module _ (v : World) (is : IsWorld v) where
  abbrev sg : Signature
  sg = signature_in (declarations_of v)

  term_of : (G : List Ty) (t : TermId) (A : Ty) → Holds v t → HasType sg G (read v t) A → IsTerm v.types v.store G t A
  term_of G t A h d = (h, subst (λ s. HasType s G (read v t) A) (sym (same_constants v is)) d)

  sides_typed : (k : ℕ) (es : List Equation) → AreTyped sg (equations_from v.types v.store k es) → All (λ (e : Equation). Holds v e.left × Holds v e.right) es → All (IsTypedPair v.types v.store) es
  sides_typed k [] t h = All-nil (IsTypedPair v.types v.store)
  sides_typed k (e ∷ es) t h =
      let there = All-head (λ (e : Equation). Holds v e.left × Holds v e.right) e es h in
      let one = t.0 in
      All-cons (IsTypedPair v.types v.store) e es
      (one.0, one.1, term_of one.0 e.left one.1 there.0 (subst (λ r. HasType sg one.0 r one.1) (unbound_reads v is e.left) one.2), term_of one.0 e.right one.1 there.1 (subst (λ r. HasType sg one.0 r one.1) (unbound_reads v is e.right) one.3))
      (sides_typed (k + 1) es t.1 (All-tail (λ (e : Equation). Holds v e.left × Holds v e.right) e es h))

  formulas_typed : (now : Now) (branch : List Nominal) (u : Bool) (ts : List TermId) → AllParts sg now branch u (map (read v) ts) → All (Holds v) ts → All (λ t. IsTerm v.types v.store [] t prop) ts
  formulas_typed now branch u [] p h = All-nil (λ t. IsTerm v.types v.store [] t prop)
  formulas_typed now branch u (t ∷ ts) p h =
      All-cons (λ t. IsTerm v.types v.store [] t prop) t ts (term_of [] t prop (All-head (Holds v) t ts h) (p.0).formula.typed) (formulas_typed now branch u ts p.1 (All-tail (Holds v) t ts h))

  pub goals_typed : (base : List TermId) (now : Now) (gs : List Goal) → AllTasks sg now (map (goal_read v base) gs) → All (HoldsGoal v) gs → All (IsTypedGoal v.types v.store) gs
  goals_typed base now [] t h = All-nil (IsTypedGoal v.types v.store)
  goals_typed base now (k ∷ gs) t h =
      let there = All-head (HoldsGoal v) k gs h in
      let task = t.0 in
      All-cons (IsTypedGoal v.types v.store) k gs
      (record {
        added = formulas_typed now (goal_read v base k).constants k.untouched k.added.items (parts_behind sg now (goal_read v base k).constants k.untouched (map (read v) base) (map (read v) k.added.items) task.hypotheses) there.added;
        conclusion = term_of [] k.conclusion prop there.conclusion task.conclusion.formula.typed;
      })
      (goals_typed base now gs t.1 (All-tail (HoldsGoal v) k gs h))

  pub typed_way : (now : Now) (g : tree.Goal) (way : trees.Way) → IsFine (declarations_of v) now g way → (base : List TermId) (made : Way) → IsMade v base way made → IsTypedWay v made
  typed_way now g way fine base made m = record {
    sides = sides_typed 0 made.equations.items (subst (AreTyped sg) (sym m.equations) fine.typed) m.held.sides;
    goals = goals_typed base _ made.goals.items (subst (AllTasks sg _) (sym m.goals) fine.tasks) m.held.goals;
  }
