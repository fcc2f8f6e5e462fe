-- INDUCTION AND COINDUCTION as one step, by its kind: which marks it puts, and how its hypotheses come.
use Rattle.std.specs.Prelude.{◌≡◌, ◌⊎◌, ℕ, List, [], ◌∷◌}
use Rattle.ab_term.specs.Terms.{Read}
use Rattle.ab_formulas.specs.Marks.{Sign, star_of, at_of, plus_of, hash_of}
use Rattle.ab_formulas.specs.NewNames.{Label, Names, NoName}
use Rattle.ab_formulas.specs.Sequents.{Sequent, assuming}
use Rattle.ab_theory.specs.Steps.{Step, induction, coinduction}
use Rattle.ab_sequents.specs.declared.levels.Kind.{Kind}
use Rattle.ab_sequents.specs.declared.levels.Kind.TheVariants.{Induction, Coinduction}

-- the step, where coinduction has no places
abbrev pub step_by : Kind → List ℕ → List Label → Step
step_by Induction ns ls = induction ns ls
step_by Coinduction ns ls = coinduction ls

-- the mark of what is smaller, and that of what has the size

abbrev pub smaller_by : Kind → ℕ → Sign
smaller_by Induction i = star_of i
smaller_by Coinduction i = plus_of i

abbrev pub same_by : Kind → ℕ → Sign
same_by Induction i = at_of i
same_by Coinduction i = hash_of i

-- THE GOAL GETS A HYPOTHESIS for each of the formulas, named by the labels in order, and is the second one then
abbrev pub Assumes : List Label → List Read → Sequent → Sequent → Type 0
Assumes [] [] s t = t ≡ s
Assumes (l ∷ ls) (F ∷ Fs) s t = (name : List ℕ) × (u : Sequent) × Names l s name u × Assumes ls Fs (assuming name F u) t
Assumes _ _ s t = ⊥

-- it doesn't, since one of them gets no name or there are more labels or fewer
abbrev pub AssumesNot : List Label → List Read → Sequent → Type 0
AssumesNot [] [] s = ⊥
AssumesNot (l ∷ ls) (F ∷ Fs) s = NoName l s ⊎ ((name : List ℕ) × (u : Sequent) × Names l s name u × AssumesNot ls Fs (assuming name F u))
AssumesNot _ _ s = Unit {0}
