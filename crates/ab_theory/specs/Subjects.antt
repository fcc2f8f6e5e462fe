-- WHAT MAY BE ANALYSED AND UNFOLDED: atoms whose predicates are defined, and judgements whose rules are known.
use Rattle.std.specs.Prelude.{ℕ, List, map, Option, Some, None}
use Rattle.std.specs.Option.{option_map}
use Rattle.ab_term.specs.Variables.{Substitution, image}
use Rattle.ab_term.specs.Sameness.{same_number}
use Rattle.ab_term.specs.Terms.{Read}
use Rattle.ab_unifiers.specs.Replacements.{Cell}
use Rattle.ab_formulas.specs.Declarations.{Declarations}
use Rattle.ab_formulas.specs.Marks.{Sign}
use Rattle.ab_formulas.specs.Sequents.{Variable, Sequent, goal_names}
use Rattle.ab_theory.specs.Equations.{made}
use Rattle.ab_theory.specs.Splits.{Case, CaseOver}
use Rattle.ab_theory.specs.Atoms.{Defined, Choice, defined_atom, choices_of}
use Rattle.ab_theory.specs.Analysis.{cases_of}
use Rattle.ab_theory.specs.Unfolding.{unfolding_case, exists_all, closed_over}
use Rattle.ab_theory.specs.Judgements.{Judgement, as_judgement}
use Rattle.ab_formulas.specs.Programs.{program_in}
use Rattle.ab_theory.specs.SpecRules.{SpecRule, rules_of}
use Rattle.ab_theory.specs.JudgementCases.{judgement_case, judgement_unfolding}

pub data Subject : Type 0 where
  an_atom : Defined → Subject
  a_judgement : Judgement → List SpecRule → Subject

abbrev pub with_rules : Declarations → Option Judgement → Option Subject
with_rules D None = None
with_rules D (Some j) = option_map (a_judgement j) (rules_of (program_in D) j)

abbrev pub atom_or : Option Defined → Option Subject → Option Subject
atom_or None rest = rest
atom_or (Some d) rest = Some (an_atom d)

-- THE SUBJECT that the formula is, if it is one
abbrev pub subject_of : Declarations → Read → Option Subject
subject_of D F = atom_or (defined_atom D F) (with_rules D (as_judgement F))

abbrev pub sign_of : Subject → Sign
sign_of (an_atom d) = d.sign
sign_of (a_judgement j rs) = j.sign

-- THE CASES into which it splits a goal, in order
abbrev pub cases_by : Sequent → Sequent → List ℕ → Subject → List CaseOver
cases_by goal rest name (an_atom d) = cases_of goal rest name d
cases_by goal rest name (a_judgement j rs) = map (judgement_case goal rest name j) rs

-- A WAY TO UNFOLD a conclusion: what is to be solved, over all variables that were ever made, and how the result is closed over
-- variables that are left open
pub record Way : Type 0 where
  pub case : List (Cell (List ℕ)) → Case
  pub closed : List Variable → Read → Read

-- by a choice of the atom
abbrev pub way_by_choice : Sequent → Defined → Choice → Way
way_by_choice s d c = record { case = λ cells. unfolding_case cells s d c; closed = λ ys F. closed_over ys c F }

-- by a rule of the judgement
abbrev pub way_by_rule : Sequent → Judgement → SpecRule → Way
way_by_rule s j r = record { case = judgement_unfolding s j r; closed = exists_all }

-- THE WAYS, in order
abbrev pub ways_of : Sequent → Subject → List Way
ways_of s (an_atom d) = map (way_by_choice s d) (choices_of (goal_names s) d)
ways_of s (a_judgement j rs) = map (way_by_rule s j) rs

-- THE CONCLUSION THEN, under the answer
abbrev pub conclusion_then : Case → (List Variable → Read → Read) → List (Cell (List ℕ)) → Substitution ℕ (List ℕ) → Read
conclusion_then u closed more answer = closed (made u.before more answer) (image same_number answer u.goal.conclusion)
