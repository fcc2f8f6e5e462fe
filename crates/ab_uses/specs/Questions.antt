-- A question that may be asked of a world. Public contracts don't speak of this.
use Rattle.std.specs.Prelude.{◌≡◌, ◌≤◌, ◌++◌, length, All, Contains, is_some, true}
use Rattle.ab_term.specs.Terms.{Nominal}
use Rattle.ab_norm.specs.ab_types.specs.Entries.{signature}
use Rattle.ab_norm.specs.ab_store.specs.Trees.{tree_of}
use Rattle.ab_norm.specs.Nominals.{HoldsNominal}
use Rattle.ab_unifiers.specs.Choices.{in_order}
use Rattle.ab_alternatives.specs.ab_instances.specs.ListReadings.{names_read}
use Rattle.ab_formulas.specs.Sequents.{Sequent, goal_names}
use Rattle.ab_logic.specs.Worlds.{IsWorld}
use Rattle.ab_logic.specs.declared.world.World.{World}
use Rattle.ab_theory.specs.Uses.{given_constants}
use Rattle.ab_theory.specs.UseAnswers.{Using}
use Rattle.ab_consequences.specs.UsesFollow.{antecedents_among, AreNone}
use Rattle.ab_uses.specs.UseCells.{HoldsPart, parts_read, HasParts}
use Rattle.ab_uses.specs.UseSolutions.{IsFormulaTerm, IsFormulaTermIfAny, aim_in}
use Rattle.ab_uses.specs.declared.aim.Aim.{Aim}
use Rattle.ab_uses.specs.declared.question.Question.{Question}

module _ (w : World) (s : Sequent) (q : Question) (aim : Aim) where
  -- what the question stands for
  abbrev pub using_at : Using
  using_at = record { goal = s; parts = parts_read w.types w.store q.parts.items; aim = aim_in w.types w.store aim; formula = tree_of w.types w.store q.formula }

  -- THE QUESTION MAY BE ASKED in a goal
  pub record IsPosed : Type 0 where
    pub world : IsWorld w
    pub held : All (HoldsNominal w.types) q.held.items
    pub names : names_read w.types q.held.items ≡ in_order (goal_names s)
    pub known : All (HoldsNominal w.types) q.known.items
    pub all_known : (a : Nominal) → Contains (names_read w.types q.held.items ++ given_constants (parts_read w.types w.store q.parts.items)) a → Contains (names_read w.types q.known.items) a
    pub parts : All (HoldsPart w.types w.store) q.parts.items
    pub formula : IsFormulaTerm w.types w.store q.formula
    pub front : HasParts (signature w.types) (parts_read w.types w.store q.parts.items) (tree_of w.types w.store q.formula)
    pub hypotheses : All (IsFormulaTermIfAny w.types w.store) aim.hypotheses.items
    pub conclusion : IsFormulaTermIfAny w.types w.store aim.conclusion
    pub enough : length aim.hypotheses.items ≤ antecedents_among (parts_read w.types w.store q.parts.items)
    pub alone : is_some aim.conclusion ≡ true → AreNone (aim_in w.types w.store aim).hypotheses
