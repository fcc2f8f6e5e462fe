-- THE ALTERNATIVES of a defined atom or a judgement in a goal: each says what must be equal for it to hold by one of its clauses or
-- rules, and what holds then. No mark is in them: a body gets its marks where it is used.
use Rattle.std.specs.Prelude.{ℕ, List, [], ◌∷◌, ◌++◌, map, length, take, drop, Bool, true, false, codes}
use Rattle.ab_term.specs.Terms.{Nominal, Variable, Read}
use Rattle.ab_term.specs.Variables.{Substitution}
use Rattle.ab_unifiers.specs.Replacements.{Cell}
use Rattle.ab_unifiers.specs.Unification.{Equation}
use Rattle.ab_unifiers.specs.Clauses.{numbered}
use Rattle.ab_unifiers.specs.Alternatives.{Scope, Side, on_left, on_right, alternative}
use Rattle.ab_formulas.specs.Marks.{plain}
use Rattle.ab_formulas.specs.Sequents.{Sequent, goal_names}
use Rattle.ab_theory.specs.Atoms.{Defined, Choice, choices_of}
use Rattle.ab_theory.specs.Analysis.{scope_of, count_before}
use Rattle.ab_theory.specs.Judgements.{Judgement}
use Rattle.ab_theory.specs.SpecRules.{SpecRule, demand_of}
use Rattle.ab_theory.specs.Subjects.{Subject, an_atom, a_judgement}

pub record Alternative : Type 0 where
  -- the constants that were chosen and are new, and what the goal's variables become for their sake
  pub fresh : List Nominal
  pub raised : Substitution ℕ (List ℕ)
  -- the variables that there are before its own, each known by its place, those that the goal's become among them; and behind them
  -- its own
  pub before : List (Cell (List ℕ))
  pub own : List (Cell (List ℕ))
  -- what must be equal, and what holds then
  pub equations : List (Equation (List ℕ))
  pub body : Read

-- its own variables
abbrev pub variables_of : Alternative → List (Variable ℕ)
variables_of a = numbered (length a.before) a.own

-- all variables, once it is made
abbrev pub all_with : Alternative → List (Cell (List ℕ))
all_with a = a.before ++ a.own

-- an alternative is made over all variables that there are by then
abbrev pub AlternativeOver : Type 0
AlternativeOver = List (Cell (List ℕ)) → Alternative

-- by a choice of an atom's: its clause with new variables for its own, and the chosen constants for its names
abbrev pub alternative_in : Scope (List ℕ) → Side → Defined → Choice → Alternative
alternative_in scope side d c =
    let alt = alternative (codes "x") scope d.arguments c.clause c.names side in
    record {
      fresh = alt.fresh;
      raised = alt.raised;
      before = take (count_before alt c) alt.cells;
      own = drop (count_before alt c) alt.cells;
      equations = alt.equations;
      body = alt.body;
    }

abbrev pub by_choice : Side → Sequent → Defined → Choice → AlternativeOver
by_choice side s d c cells = alternative_in (scope_of cells s) side d c

-- by a rule of a judgement's: what the rule demands
abbrev pub by_rule : Judgement → SpecRule → AlternativeOver
by_rule j r cells =
    let d = demand_of (length cells) plain j r in
    record { fresh = []; raised = []; before = cells ++ d.passing; own = d.own; equations = d.equations; body = d.body }

-- THE ALTERNATIVES, in order
abbrev pub alternatives_of : Side → Sequent → Subject → List AlternativeOver
alternatives_of side s (an_atom d) = map (by_choice side s d) (choices_of (goal_names s) d)
alternatives_of side s (a_judgement j rs) = map (by_rule j) rs

-- THEY ARE MADE ONE AFTER ANOTHER, each over the variables that there are once those before it are made
abbrev pub made_in_turn : List AlternativeOver → List (Cell (List ℕ)) → List Alternative
made_in_turn [] cells = []
made_in_turn (make ∷ makes) cells = make cells ∷ made_in_turn makes (all_with (make cells))

-- all variables, once all are made
abbrev pub all_made : List AlternativeOver → List (Cell (List ℕ)) → List (Cell (List ℕ))
all_made [] cells = cells
all_made (make ∷ makes) cells = all_made makes (all_with (make cells))

-- a hypothesis is analysed on the left, a conclusion is unfolded on the right
abbrev pub side_of : Bool → Side
side_of true = on_left
side_of false = on_right
