-- The way by a rule is made.
use Rattle.std.specs.List.{All}
use Rattle.std.proofs.Common.{◌≡◌, ℕ, ◌+◌, ◌-◌, List, [], ◌∷◌, ◌++◌, length, Bool, true, false, sym, ◌∙◌, ap, subst, arith, length-append}
use Rattle.std.proofs.lemmas.List.Elements.{All-nil, All-weaker}
use Rattle.ab_term.specs.Terms.{Read}
use Rattle.ab_norm.specs.ab_store.specs.declared.node.CellId.{CellId}
use Rattle.ab_norm.specs.ab_store.specs.declared.node.TermId.{TermId}
use Rattle.ab_norm.specs.ab_store.specs.declared.node.Equation.{Equation}
use Rattle.ab_unifiers.specs.Clauses.{numbered}
use Rattle.ab_unifiers.proofs.Falling.{map_length}
use Rattle.ab_unify.specs.Problem.{cell_read, cells_read, variables_read, equations_read}
use Rattle.ab_unify.specs.UnifyAnswers.{IsTypedPair}
use Rattle.ab_formulas.specs.BodyMarks.{mark_above}
use Rattle.ab_formulas.specs.Declarations.{Declarations}
use Rattle.ab_formulas.specs.Marks.{MarksServeIn}
use Rattle.ab_logic.specs.WorldGrowth as world
use Rattle.ab_logic.specs.Worlds.{IsWorld, Holds, read}
use Rattle.ab_logic.specs.declared.world.World.{World}
use Rattle.ab_theory.specs.Judgements.{Judgement}
use Rattle.ab_theory.specs.SpecRules.{SpecRule, Demand, demand_of}
use Rattle.ab_judgements.specs.ab_alternatives.proofs.UnfoldingCase.{unbound_equations}
use Rattle.ab_judgements.specs.DemandReadings.{IsDemanded}
use Rattle.ab_judgements.specs.declared.demands.DemandTerm.{DemandTerm}
use Rattle.ab_search_trees.specs.Goals as tree
use Rattle.ab_search_trees.specs.Goals.{Now}
use Rattle.ab_search_trees.specs.Ways as trees
use Rattle.ab_search_ways.specs.GoalReadings.{goal_read, HoldsGoal, StandsFor, IsAside}
use Rattle.ab_search_ways.specs.MadeWays.{IsMade, MakesWay}
use Rattle.ab_search_ways.specs.declared.goal.Goal.{Goal}
use Rattle.ab_search_ways.specs.declared.way.Way.{Way}
use Rattle.ab_search_ways.proofs.FormMade.{one_held, one_read, asking_held}
use Rattle.ab_search_ways.proofs.LaterWorlds.{goal_same, later_goal, all_aside, all_free, later_variables}
use Rattle.ab_next_ways.proofs.Brought.{brought_free, brought_aside, brought_variables}

module _ (w v : World) (is : IsWorld w) (g : world.Grows w v) (D : Declarations) (goal : Goal) (there : HoldsGoal w goal) (flexible : List CellId)
    (j : Judgement) (r : SpecRule) (m : DemandTerm) (demanded : IsDemanded w (demand_of (length w.store.cells) (mark_above j.sign) j r) v m)
    (k : Goal) (added : k.added.items ≡ goal.added.items) (constants : k.constants.items ≡ goal.constants.items) (conclusion : k.conclusion ≡ m.body)
    (base : List TermId) (now : Now) (aside : All (IsAside w flexible) base) (stands : StandsFor w flexible now)
    (b : Bool) (by_list : b ≡ trees.is_by_list r) (asks : goal_read v base k ≡ record (tree.asking (read v m.body) (goal_read v base goal)) { depth = goal.depth - 1; untouched = false; member_first = b })
    (made : Way) (cells : made.flexible.items ≡ flexible ++ m.own.items) (equations : made.equations.items ≡ m.equations.items) (serves : made.serves ≡ true) (goals : made.goals.items ≡ k ∷ []) where
  abbrev before : tree.Goal
  before = goal_read w base goal

  abbrev d : Demand
  d = demand_of (length w.store.cells) (mark_above j.sign) j r

  abbrev asked_by : Bool → Read → tree.Goal → tree.Goal
  asked_by i F q = record (tree.asking F q) { depth = goal.depth - 1; untouched = false; member_first = i }

  abbrev asked : Read → tree.Goal → tree.Goal
  asked = asked_by (trees.is_by_list r)

  -- the way by what is demanded
  abbrev by_demand : Demand → trees.Way
  by_demand e = record {
    cells = (now.cells ++ e.passing) ++ e.own;
    flexible = now.flexible ++ numbered (length (now.cells ++ e.passing)) e.own;
    equations = e.equations;
    serving = [];
    taken = [];
    goals = asked e.body before ∷ [];
  }

  size : length w.store.cells ≡ length now.cells
  size = sym (map_length (cell_read w.types) w.store.cells) ∙ ap length stands.cells

  -- so many cells are before its own
  abbrev n : ℕ
  n = length w.store.cells + length d.passing

  passed : n ≡ length (now.cells ++ d.passing)
  passed = ap (λ l. l + length d.passing) size ∙ sym (length-append now.cells d.passing)

  all_cells : cells_read v.types v.store ≡ (now.cells ++ d.passing) ++ d.own
  all_cells = demanded.cells ∙ ap (λ l. (l ++ d.passing) ++ d.own) stands.cells

  count : length v.store.cells ≡ n + length d.own
  count = sym (map_length (cell_read v.types) v.store.cells) ∙ ap length all_cells ∙ length-append (now.cells ++ d.passing) d.own ∙ ap (λ i. i + length d.own) (sym passed)

  k_reads : goal_read v base k ≡ asked d.body before
  k_reads = asks ∙ ap (λ i. asked_by i (read v m.body) (goal_read v base goal)) by_list ∙ ap (asked (read v m.body)) (goal_same w v g flexible base aside goal there) ∙ ap (λ F. asked F before) demanded.body

  by_demand_made : IsMade v base (by_demand d) made
  by_demand_made = record {
    held = record {
      free = rw cells (brought_free w v is g flexible m.own.items n d.own (omega arith) demanded.own count stands.free);
      sides = rw equations (All-weaker (IsTypedPair v.types v.store) (λ (e : Equation). Holds v e.left × Holds v e.right) (λ e p. (p.2.0, p.3.0)) m.equations.items demanded.typed);
      goals = one_held v k made.goals.items goals (asking_held v k goal added constants (subst (Holds v) (sym conclusion) demanded.held) (later_goal w v g goal there));
    };
    aside = rw cells (brought_aside w v is g flexible m.own.items n d.own (omega arith) demanded.own count base aside);
    cells = all_cells;
    replaced =
        ap (variables_read v.types v.store) cells
        ∙ brought_variables w v is g flexible m.own.items n d.own (omega arith) demanded.own count stands.free
        ∙ ap (λ l. l ++ numbered n d.own) stands.replaced
        ∙ ap (λ i. now.flexible ++ numbered i d.own) passed;
    equations = ap (equations_read v.types v.store) equations ∙ unbound_equations v.types v.store g.world.unbound 0 m.equations.items ∙ demanded.equations;
    serves = (λ yes. All-nil (λ (p : Read × Read). MarksServeIn p.0 p.1), λ all. serves);
    goals = one_read v base k made.goals.items (asked d.body before) goals k_reads;
  }

  pub rule_made : IsMade v base (trees.by_rule D now before (goal.depth - 1) j r) made
  rule_made = subst (λ y. IsMade v base y made) (ap (λ i. by_demand (demand_of i (mark_above j.sign) j r)) size) by_demand_made

-- a way that is made from a later world of the same cells
module _ (w u : World) (g : world.Grows w u) (same : cells_read u.types u.store ≡ cells_read w.types w.store) (goal : Goal) (there : HoldsGoal w goal) (flexible : List CellId) where
  pub stands_later : (now : Now) → StandsFor w flexible now → StandsFor u flexible now
  stands_later now s = record { cells = same ∙ s.cells; replaced = later_variables w u g flexible s.free ∙ s.replaced; free = all_free w u g flexible s.free }

  pub made_later : (way : Now → tree.Goal → trees.Way) (v : World) (made : Way) → MakesWay u flexible goal way v made → MakesWay w flexible goal way v made
  made_later way v made makes = λ base now aside stands.
      subst (λ q. IsMade v base (way now q) made) (goal_same w u g flexible base aside goal there) (makes base now (all_aside w u g flexible base aside) (stands_later now stands))
