-- What is told of a solved unfolding: which of its variables are left open.
use Rattle.std.proofs.Common.{◌≡◌, ℕ, ◌-◌, List, ◌++◌, map, length, codes, sym, ◌∙◌, ap}
use Rattle.ab_term.specs.Variables.{Substitution}
use Rattle.ab_norm.specs.ab_types.specs.Entries.{Table}
use Rattle.ab_norm.specs.ab_store.specs.declared.node.CellId.{CellId}
use Rattle.ab_norm.specs.ab_store.specs.Trees.{Contents}
use Rattle.ab_unifiers.specs.Replacements.{Cell}
use Rattle.ab_unifiers.specs.Unification.{State, unified, Solves}
use Rattle.ab_unify.specs.Problem.{cells_read}
use Rattle.ab_unify.specs.StoreChanges.{Grows}
use Rattle.ab_unify.specs.UnifyAnswers.{AreNewCells, AreInAge, AreLeft}
use Rattle.ab_equations.specs.Meanwhile.{AreFrom, unbound_of}
use Rattle.ab_logic.specs.Worlds.{variable_at}
use Rattle.ab_alternatives.specs.ChoiceMatches.{IsMatch, TellsOpen, cells_before}
use Rattle.ab_alternatives.specs.declared.choice_matches.Match.{Match}
use Rattle.ab_alternatives.specs.declared.choice_matches.Match.TheVariants.{Closed, Open, Apart, Stuck}
use Rattle.ab_alternatives.proofs.LeftOpen.{left_open}

module _ (T U : Table) (S V : Contents) (g : Grows T S U V) (own : List CellId) (p : State (List ℕ)) (more : List (Cell (List ℕ))) (answer : Substitution ℕ (List ℕ)) (solves : Solves (codes "x") p (unified more answer))
    (cells : cells_read U V ≡ more) (left : AreLeft S own U V answer) (from : AreFrom S (length S.cells - length own) own) where
  pub told : (cs : List CellId) → AreNewCells S V cs → AreInAge cs → (m : Match) → TellsOpen V (unbound_of V (own ++ cs)) m → IsMatch p (cells_before T S own) m
  told cs new in_age Closed e =
      (more, answer, solves, ap (map (variable_at U V)) (sym e) ∙ left_open T U S V g more answer cells (length S.cells - length own) own from left cs new in_age)
  told cs new in_age (Open name) e = (
    variable_at U V e.0,
    map (variable_at U V) e.1,
    (more, answer, solves, ap (map (variable_at U V)) (sym e.2) ∙ left_open T U S V g more answer cells (length S.cells - length own) own from left cs new in_age),
    e.3,
  )
  told cs new in_age Apart e = absurd e
  told cs new in_age (Stuck i) e = absurd e
