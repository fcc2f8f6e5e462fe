-- What induction and coinduction give sizes to, by their kind: which levels count for a new mark, which marks the parts of a
-- conclusion have already, and the parts with a mark.
use Rattle.std.specs.Prelude.{ℕ, List, [], ◌∷◌, Bool, true, false, ◌&&◌, Option}
use Rattle.ab_term.specs.Terms.{Read}
use Rattle.ab_formulas.specs.Declarations.{Declarations}
use Rattle.ab_formulas.specs.Marks.{Sign, plain}
use Rattle.ab_theory.specs.Induction.{inductive_signs, coinductive_signs, marked_antecedents, marked_consequents}
use Rattle.ab_theory.specs.Levels.{inductive_level, coinductive_level}
use Rattle.ab_sequents.specs.declared.levels.Kind.{Kind}
use Rattle.ab_sequents.specs.declared.levels.Kind.TheVariants.{Induction, Coinduction}

abbrev pub level_by : Kind → Sign → ℕ
level_by Induction = inductive_level
level_by Coinduction = coinductive_level

-- the marks, where the numbers are the places of antecedents, which coinduction doesn't look at
abbrev pub signs_by : Kind → Declarations → List ℕ → List Read → Option (List Sign)
signs_by Induction D ns Fs = inductive_signs D ns Fs
signs_by Coinduction D ns Fs = coinductive_signs D Fs

-- the parts, each with the mark
abbrev pub marked_by : Kind → List ℕ → Sign → List Read → List Read
marked_by Induction ns m Fs = marked_antecedents ns m Fs
marked_by Coinduction ns m Fs = marked_consequents m Fs

abbrev pub is_plain : Sign → Bool
is_plain plain = true
is_plain _ = false

-- none of them is a mark
abbrev pub are_plain : List Sign → Bool
are_plain [] = true
are_plain (m ∷ ms) = is_plain m && are_plain ms
