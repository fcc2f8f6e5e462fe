-- A step that solves no equation is never outside the patterns.
use Rattle.std.proofs.Common.{ℕ, List, [], ◌∷◌}
use Rattle.ab_term.specs.Terms.{Read}
use Rattle.ab_unifiers.specs.Replacements.{Cell}
use Rattle.ab_formulas.specs.Declarations.{Declarations}
use Rattle.ab_formulas.specs.Marks.{star_of, at_of, plus_of, hash_of}
use Rattle.ab_formulas.specs.NewNames.{Label}
use Rattle.ab_formulas.specs.Sequents.{Sequent, assuming, proving}
use Rattle.ab_theory.specs.Conjuncts.{conjuncts, with_parts}
use Rattle.ab_theory.specs.Induction.{marked_antecedents, marked_consequents}
use Rattle.ab_theory.specs.Levels.{next_level, inductive_level, coinductive_level}
use Rattle.ab_theory.specs.Row.{leads, labelled_each, Sticks}
use Rattle.ab_theory.specs.Steps.{Step, initial, true_right, false_left, and_right, and_left, or_right, or_left, arrow_right, arrow_left, for_all_right, for_all_left, exists_right, exists_left, nabla_right, nabla_left, equal_right, equal_left, definition_right, definition_left, induction, coinduction, cut_formula, use_theorem, weaken, spec_cut, spec_instance, spec_monotone, skip}
use Rattle.ab_theory.specs.Rules.{Stuck}
use Rattle.ab_steps.specs.Progress.{SolvesNothing}

-- hypotheses that get their names lead on, and nothing is solved
each_leads : (ls : List Label) (Fs : List Read) (s : Sequent) (i : ℕ) (k : Sequent → List Sequent) → Sticks (labelled_each 3 ls Fs s (λ t. leads (k t))) i → ⊥
each_leads [] [] s i k f = f
each_leads (l ∷ ls) (F ∷ Fs) s i k f = each_leads ls Fs (assuming f.0 F f.1) i k f.3
each_leads [] (F ∷ Fs) s i k f = f.0
each_leads (l ∷ ls) [] s i k f = f.0

pub never_stuck : (D : Declarations) (cells : List (Cell (List ℕ))) (step : Step) (s : Sequent) (i : ℕ) → SolvesNothing step → Stuck D cells step s i → ⊥
never_stuck D cells (initial H) s i plain f = f.2.1.1
never_stuck D cells true_right s i plain f = f.2
never_stuck D cells (false_left H) s i plain f = f.2.2
never_stuck D cells and_right s i plain f = f.2
never_stuck D cells (and_left H l m) s i plain f = f.2.2.3.3
never_stuck D cells (or_right b) s i plain f = f.2
never_stuck D cells (or_left H l) s i plain f = f.2.2.3
never_stuck D cells (arrow_right l) s i plain f = f.2.3
never_stuck D cells (arrow_left H l) s i plain f = f.2.2.3
never_stuck D cells for_all_right s i plain f = f.2
never_stuck D cells (for_all_left H t l) s i plain f = f.2.2.1.3
never_stuck D cells (exists_right t) s i plain f = f.2.1
never_stuck D cells (exists_left H l) s i plain f = f.2.2.3
never_stuck D cells nabla_right s i plain f = f.2
never_stuck D cells (nabla_left H l) s i plain f = f.2.2.3
never_stuck D cells equal_right s i plain f = f.2.1
never_stuck D cells (equal_left H) s i plain f = plain
never_stuck D cells (definition_right k) s i plain f = plain
never_stuck D cells (definition_left H l) s i plain f = plain
never_stuck D cells (induction ns ls) s i plain f =
    let k = next_level inductive_level s in
    let Fs = conjuncts s.conclusion in
    each_leads ls (marked_antecedents ns (star_of k) Fs) s i (λ t. proving (with_parts (marked_antecedents ns (at_of k) Fs) s.conclusion) t ∷ []) f.2.1
never_stuck D cells (coinduction ls) s i plain f =
    let k = next_level coinductive_level s in
    let Fs = conjuncts s.conclusion in
    each_leads ls (marked_consequents (plus_of k) Fs) s i (λ t. proving (with_parts (marked_consequents (hash_of k) Fs) s.conclusion) t ∷ []) f.2.1
never_stuck D cells (cut_formula F l) s i plain f = f.1.3
never_stuck D cells (use_theorem k l) s i plain f = f.2.3
never_stuck D cells (weaken H) s i plain f = f.2
never_stuck D cells (spec_cut H K l) s i plain f = f.2.2.2.2.2.3
never_stuck D cells (spec_instance H rs l) s i plain f = f.2.2.1.1.3
never_stuck D cells (spec_monotone H K l) s i plain f = f.2.2.1.3
never_stuck D cells skip s i plain f = f
