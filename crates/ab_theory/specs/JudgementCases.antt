-- A JUDGEMENT OF A HYPOTHESIS IS ANALYSED: the goal is split into cases, one for each rule. And one of the conclusion is
-- unfolded by a rule: its body takes the conclusion's place.
use Rattle.std.specs.Prelude.{ℕ, List, ◌++◌, map, length}
use Rattle.ab_unifiers.specs.Replacements.{Cell}
use Rattle.ab_unifiers.specs.Clauses.{numbered}
use Rattle.ab_formulas.specs.Sequents.{Sequent, in_terms, assuming, proving}
use Rattle.ab_formulas.specs.BodyMarks.{mark_below, mark_above}
use Rattle.ab_theory.specs.Splits.{Case, CaseOver}
use Rattle.ab_theory.specs.Judgements.{Judgement}
use Rattle.ab_theory.specs.SpecRules.{SpecRule, demand_of}

-- THE CASE of a rule, over the variables that were ever made: its body is assumed under the name, with the marks that come of
-- the judgement's; all variables may be replaced
abbrev pub judgement_case : Sequent → Sequent → List ℕ → Judgement → SpecRule → CaseOver
judgement_case goal rest name j r cells =
    let d = demand_of (length cells) (mark_below j.sign) j r in
    record {
      before = cells ++ d.passing;
      own = d.own;
      equations = d.equations;
      flexible = map in_terms goal.variables ++ numbered (length (cells ++ d.passing)) d.own;
      goal = assuming name d.body rest;
    }

-- THE CASE of a rule by which the conclusion is unfolded: its goal has the body for its conclusion, and the goal's variables
-- may not be replaced
abbrev pub judgement_unfolding : Sequent → Judgement → SpecRule → List (Cell (List ℕ)) → Case
judgement_unfolding s j r cells =
    let d = demand_of (length cells) (mark_above j.sign) j r in
    record {
      before = cells ++ d.passing;
      own = d.own;
      equations = d.equations;
      flexible = numbered (length (cells ++ d.passing)) d.own;
      goal = proving d.body s;
    }
