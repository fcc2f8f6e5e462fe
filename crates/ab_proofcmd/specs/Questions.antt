-- What was asked of a command that uses a formula, before its steps are taken. Public contracts don't speak of this.
use Rattle.std.specs.Prelude.{◌≡◌, ℕ, List, [], map, length, All, Option, Some, None, nat_lt, Bool, false}
use Rattle.ab_norm.specs.ab_types.specs.Ids.{HoldsType}
use Rattle.ab_term.specs.Terms.{Read}
use Rattle.ab_grammar.specs.CommandTrees.{Instance, Argument}
use Rattle.ab_formulas.specs.Declarations.{Declarations}
use Rattle.ab_formulas.specs.Marks.{MarksServeIn}
use Rattle.ab_formulas.specs.NewNames.{Label}
use Rattle.ab_formulas.specs.Sequents.{Sequent}
use Rattle.ab_logic.specs.Worlds.{Holds, read}
use Rattle.ab_logic.specs.declared.world.World.{World}
use Rattle.ab_theory.specs.Pieces.{Given, pieces, behind, antecedent_count, AllServe}
use Rattle.ab_theory.specs.UseAnswers.{IsUsedFor, awaited, result_in}
use Rattle.ab_uses.specs.UseReadings.{HoldsStage}
use Rattle.ab_uses.specs.GivenReadings.{given_of}
use Rattle.ab_uses.specs.declared.given_terms.GivenTerm.{GivenTerm}
use Rattle.ab_uses.specs.declared.use_answers.Use.{Use}
use Rattle.ab_effects.specs.ProofCommands.{clashing, missing, repeated}
use Rattle.ab_effects.specs.FormulaUses.{formula_named, names_in, formulas_in, using}
use Rattle.ab_proofcmd.specs.GivenTerms.{AreGiven}
use Rattle.ab_proofcmd.specs.declared.questions.Asked.{Asked}

-- the label is free, the formula stands under its name, and the hypotheses that are named are there
pub record IsLookedUp (D : Declarations) (l : Label) (H : List ℕ) (vs : List Argument) (s : Sequent) (F : Read) : Type 0 where
  pub free : clashing l s ≡ None
  pub named : formula_named D s H ≡ Some F
  pub there : missing (names_in vs) s ≡ None

-- NOTHING REFUSES `apply` before what is left is opened: the formula is used, and this is left of it
pub record MayApply (D : Declarations) (l : Label) (H : List ℕ) (vs : List Argument) (is : List Instance) (s : Sequent) (F : Read) (gs : List Given) (K : Read) : Type 0 where
  pub looked_up : IsLookedUp D l H vs s F
  pub given : AreGiven D s (pieces (length vs) F) is (nat_lt (antecedent_count F) (length vs)) gs
  pub serve : AllServe (pieces (length vs) F) (formulas_in s vs)
  pub used : IsUsedFor (using s gs (pieces (length vs) F) (record { hypotheses = formulas_in s vs; conclusion = None }) F) K

-- NOTHING REFUSES `backchain`
pub record MayBackchain (D : Declarations) (H : List ℕ) (is : List Instance) (s : Sequent) (F : Read) (gs : List Given) (K : Read) : Type 0 where
  pub named : formula_named D s H ≡ Some F
  pub given : AreGiven D s (pieces (antecedent_count F) F) is false gs
  pub serve : MarksServeIn s.conclusion (behind (antecedent_count F) F)
  pub used : IsUsedFor (using s gs (pieces (antecedent_count F) F) (record { hypotheses = repeated (antecedent_count F); conclusion = Some s.conclusion }) F) K

-- what was found of a use is there
pub record HoldsUse (w : World) (found : Use) : Type 0 where
  pub stages : All (HoldsStage w) found.stages.items
  pub awaited : All (Holds w) found.awaited.items
  pub result : Holds w found.result

-- what was asked is there
pub record HoldsAsked (w : World) (a : Asked) : Type 0 where
  pub formula : Holds w a.formula
  pub given : All (λ (g : GivenTerm). Holds w g.value × HoldsType w.types g.ty) a.given.items
  pub found : HoldsUse w a.found

-- what was found reads as what is left
pub record Reads (w : World) (hs : List (Option Read)) (found : Use) (K : Read) : Type 0 where
  pub awaited : map (read w) found.awaited.items ≡ awaited hs K
  pub result : read w found.result ≡ result_in hs K

abbrev pub AsksApply : Declarations → Label → List ℕ → List Argument → List Instance → Sequent → World → Asked → Type 0
AsksApply D l H vs is s w a =
    HoldsAsked w a × ((K : Read) × MayApply D l H vs is s (read w a.formula) (map (given_of w) a.given.items) K × Reads w (formulas_in s vs) a.found K)

abbrev pub AsksBackchain : Declarations → List ℕ → List Instance → Sequent → World → Asked → Type 0
AsksBackchain D H is s w a =
    HoldsAsked w a × ((K : Read) × MayBackchain D H is s (read w a.formula) (map (given_of w) a.given.items) K × Reads w (repeated (antecedent_count (read w a.formula))) a.found K)
