-- The cases of a subject, and the ways of unfolding it, are by its alternatives.
use Rattle.std.proofs.Common.{◌≡◌, ℕ, suc, List, [], ◌∷◌, map, length, refl, sym, ◌∙◌, ap}
use Rattle.std.proofs.lemmas.List.{length-map}
use Rattle.std.proofs.Math.Seq.{drop-append_seam}
use Rattle.ab_unifiers.specs.Replacements.{Cell}
use Rattle.ab_unifiers.specs.Clauses.{Each}
use Rattle.ab_unifiers.specs.Alternatives.{on_left, on_right}
use Rattle.ab_formulas.specs.Sequents.{Sequent, goal_names}
use Rattle.ab_theory.specs.Analysis.{scope_of, case_of}
use Rattle.ab_theory.specs.Atoms.{Defined, Choice, choices_of}
use Rattle.ab_theory.specs.JudgementCases.{judgement_case, judgement_unfolding}
use Rattle.ab_theory.specs.Judgements.{Judgement}
use Rattle.ab_theory.specs.SpecRules.{SpecRule, by_clause, by_list, by_opening, by_part}
use Rattle.ab_theory.specs.Subjects.{Subject, Way, an_atom, a_judgement, cases_by, ways_of, way_by_choice, way_by_rule}
use Rattle.ab_theory.specs.Unfolding.{unfolding_case}
use Rattle.ab_analyses.specs.Alternatives.{Alternative, AlternativeOver, by_choice, by_rule, alternatives_of, all_with, made_in_turn}
use Rattle.ab_analyses.specs.CaseAlternatives.{IsAlwaysBy}
use Rattle.ab_analyses.proofs.AlternativeParts.{own, right_behind}

each_mapped : {X Y Z : Type 0} (R : Y → Z → Type 0) (f : X → Y) (g : X → Z) → ((x : X) → R (f x) (g x)) → (xs : List X) → Each R (map f xs) (map g xs)
each_mapped R f g r [] = tt
each_mapped R f g r (x ∷ xs) = (r x, each_mapped R f g r xs)

-- by a rule
rule_case : (s rest : Sequent) (name : List ℕ) (j : Judgement) (r : SpecRule) → IsAlwaysBy (judgement_case s rest name j r) (by_rule j r)
rule_case s rest name j (by_clause c) cells = record { before = refl; own = refl; equations = refl }
rule_case s rest name j by_list cells = record { before = refl; own = refl; equations = refl }
rule_case s rest name j by_opening cells = record { before = refl; own = refl; equations = refl }
rule_case s rest name j (by_part p) cells = record { before = refl; own = refl; equations = refl }

rule_way : (s : Sequent) (j : Judgement) (r : SpecRule) → IsAlwaysBy (judgement_unfolding s j r) (by_rule j r)
rule_way s j (by_clause c) cells = record { before = refl; own = refl; equations = refl }
rule_way s j by_list cells = record { before = refl; own = refl; equations = refl }
rule_way s j by_opening cells = record { before = refl; own = refl; equations = refl }
rule_way s j (by_part p) cells = record { before = refl; own = refl; equations = refl }

-- by a choice
choice_way : (s : Sequent) (d : Defined) (c : Choice) → IsAlwaysBy (λ cells. unfolding_case cells s d c) (by_choice on_right s d c)
choice_way s d c cells =
    let e = right_behind d c (scope_of cells s) in
    record {
      before = sym (ap (λ (a : Alternative). a.before) e);
      own = drop-append_seam cells (own d c) ∙ sym (ap (λ (a : Alternative). a.own) e);
      equations = refl;
    }

pub cases_by_each : (s rest : Sequent) (name : List ℕ) (x : Subject) → Each IsAlwaysBy (cases_by s rest name x) (alternatives_of on_left s x)
cases_by_each s rest name (an_atom d) = each_mapped IsAlwaysBy (case_of s rest name d) (by_choice on_left s d) (λ c cells. record { before = refl; own = refl; equations = refl }) (choices_of (goal_names s) d)
cases_by_each s rest name (a_judgement j rs) = each_mapped IsAlwaysBy (judgement_case s rest name j) (by_rule j) (rule_case s rest name j) rs

pub ways_by_each : (s : Sequent) (x : Subject) → Each (λ (y : Way) (a : AlternativeOver). IsAlwaysBy y.case a) (ways_of s x) (alternatives_of on_right s x)
ways_by_each s (an_atom d) = each_mapped (λ (y : Way) (a : AlternativeOver). IsAlwaysBy y.case a) (way_by_choice s d) (by_choice on_right s d) (choice_way s d) (choices_of (goal_names s) d)
ways_by_each s (a_judgement j rs) = each_mapped (λ (y : Way) (a : AlternativeOver). IsAlwaysBy y.case a) (way_by_rule s j) (by_rule j) (rule_way s j) rs

-- as many as there are
in_turn_many : (makes : List AlternativeOver) (cells : List (Cell (List ℕ))) → length (made_in_turn makes cells) ≡ length makes
in_turn_many [] cells = refl
in_turn_many (m ∷ ms) cells = ap suc (in_turn_many ms (all_with (m cells)))

pub mapped_many : {X : Type 0} (f : X → AlternativeOver) (xs : List X) (cells : List (Cell (List ℕ))) → length (made_in_turn (map f xs) cells) ≡ length xs
mapped_many f xs cells = in_turn_many (map f xs) cells ∙ length-map xs f
