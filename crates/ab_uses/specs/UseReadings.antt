-- What the program holds of a use: what it stands for, and what it may be asked for.
use Rattle.std.specs.Prelude.{◌≡◌, ◌≤◌, ℕ, List, map, length, All, Option, None, Some, is_some, true}
use Rattle.std.specs.Option.{option_map}
use Rattle.ab_term.specs.Terms.{Nominal, Read}
use Rattle.ab_norm.specs.ab_store.specs.declared.node.TermId.{TermId}
use Rattle.ab_norm.specs.Nominals.{HoldsNominal}
use Rattle.ab_formulas.specs.Declarations.{Declarations, signature_in}
use Rattle.ab_formulas.specs.Formulas.{IsFormula}
use Rattle.ab_formulas.specs.Sequents.{Sequent, HoldsOnly, Fits}
use Rattle.ab_logic.specs.SequentReadings.{sequent_of}
use Rattle.ab_logic.specs.Worlds.{Holds, read, declarations_of}
use Rattle.ab_logic.specs.declared.world.World.{World}
use Rattle.ab_logic.specs.declared.sequent.Sequent.{Sequent as Kept}
use Rattle.ab_theory.specs.Pieces.{Given, pieces, parts, type_named}
use Rattle.ab_theory.specs.Uses.{Aim}
use Rattle.ab_theory.specs.UseAnswers.{Using, IsUsedFor, NothingMatches, IsOutsideAt, IsLeftOpen, awaited, result_in}
use Rattle.ab_consequences.specs.Leading as leading
use Rattle.ab_consequences.specs.UsesFollow.{antecedents_among, AreNone, MayUse, StagesLead}
use Rattle.ab_uses.specs.GivenReadings.{given_of}
use Rattle.ab_uses.specs.declared.given_terms.GivenTerm.{GivenTerm}
use Rattle.ab_uses.specs.declared.aim.Aim.{Aim as KeptAim}
use Rattle.ab_uses.specs.declared.stage.Stage.{Stage}
use Rattle.ab_uses.specs.StageReadings.{stage_by}
use Rattle.ab_uses.specs.declared.stage.Stage.TheVariants.{Instance, Chosen, Antecedent}
use Rattle.ab_uses.specs.declared.use_answers.Found.{Found}
use Rattle.ab_uses.specs.declared.use_answers.Found.TheVariants.{Used, NoMatch, NotPattern, Unresolved}

module _ (w : World) where
  abbrev pub aim_of : KeptAim → Aim
  aim_of a = record { hypotheses = map (option_map (read w)) a.hypotheses.items; conclusion = option_map (read w) a.conclusion }

  -- the formula is used so, up to the antecedent of this number
  abbrev pub using_of : Kept → TermId → ℕ → List GivenTerm → KeptAim → Using
  using_of goal F n gs a = record {
    goal = sequent_of w goal;
    parts = parts (map (given_of w) gs) (pieces n (read w F));
    aim = aim_of a;
    formula = read w F;
  }

-- a formula over the goal's variables
pub record IsOfGoal (D : Declarations) (s : Sequent) (F : Read) : Type 0 where
  pub formula : IsFormula (signature_in D) F
  pub over : HoldsOnly s.variables F

abbrev pub IsOfGoalIfAny : Declarations → Sequent → Option Read → Type 0
IsOfGoalIfAny D s None = Unit {0}
IsOfGoalIfAny D s (Some F) = IsOfGoal D s F

-- THE FORMULA MAY BE USED SO: all are formulas of the goal, and each term that is given fits it at the type of its name; there are
-- antecedents for all that is given, and nothing is given for one where the result is to be a formula
pub record MayBeUsed (D : Declarations) (s : Sequent) (F : Read) (n : ℕ) (gs : List Given) (aim : Aim) : Type 0 where
  pub formula : IsOfGoal D s F
  pub given : All (λ (g : Given). Fits D s g.value g.type) gs
  pub names : All (λ (g : Given). type_named g.name (pieces n F) ≡ Some g.type) gs
  pub hypotheses : All (IsOfGoalIfAny D s) aim.hypotheses
  pub conclusion : IsOfGoalIfAny D s aim.conclusion
  pub enough : length aim.hypotheses ≤ antecedents_among (parts gs (pieces n F))
  pub alone : is_some aim.conclusion ≡ true → AreNone aim.hypotheses

abbrev pub HoldsStage : World → Stage → Type 0
HoldsStage w (Instance t) = Holds w t
HoldsStage w (Chosen a F) = HoldsNominal w.types a × Holds w F
HoldsStage w Antecedent = Unit {0}

-- what the stages stand for
abbrev pub stages_in : World → List Stage → List leading.Stage
stages_in w = map (stage_by w.types (read w))

-- WHAT IS FOUND of a use: where the formula may be used, the stages lead from it to what the use is for
abbrev pub Finds : Using → World → Found → Type 0
Finds u w (Used found) =
    All (HoldsStage w) found.stages.items × All (Holds w) found.awaited.items × Holds w found.result
    × ((K : Read) × IsUsedFor u K × (map (read w) found.awaited.items ≡ awaited u.aim.hypotheses K) × (read w found.result ≡ result_in u.aim.hypotheses K)
    × (MayUse (declarations_of w) u → (names : List Nominal) × StagesLead (declarations_of w) u K names (stages_in w found.stages.items)))
Finds u w NoMatch = NothingMatches u
Finds u w (NotPattern i) = IsOutsideAt u i
Finds u w (Unresolved x) = IsLeftOpen u x
