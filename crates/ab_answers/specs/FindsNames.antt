-- WHERE THE NEW VARIABLES OF A PROOF COMMAND ARE SURE TO FIND NAMES: where fewer than 2 ^ 99 names are taken, those among them that
-- the command comes to make.
use Rattle.std.specs.Prelude.{◌≡◌, ◌+◌, ◌≤◌, ◌^◌, List, [], length, Some, None, Contains, ℕ, if◌then◌else◌}
use Rattle.ab_term.specs.Terms.{Read}
use Rattle.ab_grammar.specs.CommandTrees as command
use Rattle.ab_grammar.specs.CommandTrees.{ProofCommand}
use Rattle.ab_formulas.specs.Declarations.{Declarations}
use Rattle.ab_formulas.specs.Forms.{Form, truth, falsity, both, either, implies, equal, for_all, exists, nabla, marked, other, form_of}
use Rattle.ab_formulas.specs.Marks.{Sign}
use Rattle.ab_formulas.specs.Sequents.{Sequent, formula_of, assuming, without}
use Rattle.ab_theory.specs.Subjects.{Subject, subject_of}
use Rattle.ab_theory.specs.Conjuncts.{conjuncts}
use Rattle.ab_theory.specs.Induction.{inductive_signs, coinductive_signs}
use Rattle.ab_theory.specs.Pieces.{Given, pieces}
use Rattle.ab_theory.specs.UseAnswers.{IsUsedFor, result_in}
use Rattle.ab_effects.specs.CaseAnalysis.{IsParted}
use Rattle.ab_effects.specs.FormulaUses.{formula_named, formulas_in, using}
use Rattle.ab_existence.specs.FewNames.{HasRoom, HasRoomToSolve, HasRoomInCases}
use Rattle.ab_answers.specs.Skeletons.{skeleton}

-- as many as opening the formula may make
abbrev pub HasRoomToOpen : Declarations → Read → Sequent → Type 0
HasRoomToOpen D F s = HasRoom D s (skeleton F)

-- as many as splitting the goal by the subject makes, and then opening what is assumed in each case
pub record HasRoomToSplit (D : Declarations) (goal rest : Sequent) (x : Subject) : Type 0 where
  pub cases : HasRoomInCases D goal rest [] x
  pub bodies : (gs : List Sequent) (name : List ℕ) (F : Read) (t : Sequent) → IsParted D goal rest x gs → Contains gs (assuming name F t) → HasRoomToOpen D F t

-- as many as case analysis of a formula of that form makes in the goal, of which the last is what stays
abbrev pub HasRoomForCases : Declarations → Form → Read → Sequent → Sequent → Type 0
HasRoomForCases D truth F goal rest = HasRoomToOpen D F rest
HasRoomForCases D (both A B) F goal rest = HasRoomToOpen D F rest
HasRoomForCases D (exists A t) F goal rest = HasRoomToOpen D F rest
HasRoomForCases D (nabla A t) F goal rest = HasRoomToOpen D F rest
HasRoomForCases D (either A B) F goal rest = HasRoomToOpen D A rest × HasRoomToOpen D B rest
HasRoomForCases D (equal A t u) F goal rest = HasRoomToSolve D rest t u
HasRoomForCases D (marked m t) F goal rest = (x : Subject) → subject_of D F ≡ Some x → HasRoomToSplit D goal rest x
HasRoomForCases D other F goal rest = (x : Subject) → subject_of D F ≡ Some x → HasRoomToSplit D goal rest x
HasRoomForCases D falsity F goal rest = Unit {0}
HasRoomForCases D (implies A B) F goal rest = Unit {0}
HasRoomForCases D (for_all A t) F goal rest = Unit {0}

-- THE COMMAND FINDS NAMES for all that it makes in the goal
abbrev pub FindsNames : Declarations → ProofCommand → Sequent → Type 0
FindsNames D (command.intros xs) s = HasRoomToOpen D s.conclusion s
FindsNames D (command.case H keep) s = (F : Read) → formula_of s H ≡ Some F → HasRoomForCases D (form_of F) F s (if keep then s else without H s)
FindsNames D (command.induction ns) s = (ms : List Sign) → inductive_signs D ns (conjuncts s.conclusion) ≡ Some ms → length s.hypotheses + length ms ≤ 2 ^ 99
FindsNames D command.coinduction s = (ms : List Sign) → coinductive_signs D (conjuncts s.conclusion) ≡ Some ms → length s.hypotheses + length ms ≤ 2 ^ 99
FindsNames D (command.apply H vs is) s =
    (F : Read) (gs : List Given) (K : Read) → formula_named D s H ≡ Some F
    → IsUsedFor (using s gs (pieces (length vs) F) (record { hypotheses = formulas_in s vs; conclusion = None }) F) K → HasRoomToOpen D (result_in (formulas_in s vs) K) s
FindsNames D _ s = Unit {0}
