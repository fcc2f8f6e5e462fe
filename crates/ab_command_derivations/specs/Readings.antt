-- WHAT IS ASKED OF READINGS: that what an expression means fits the goal, and that a nominal constant has one name.
use Rattle.std.specs.Prelude.{◌≡◌, ℕ, List, Some}
use Rattle.ab_term.specs.Types.{Ty}
use Rattle.ab_term.specs.Terms.{Read}
use Rattle.ab_term.specs.Names.{HasOneTypeEach}
use Rattle.ab_grammar.specs.Tree.{Tree}
use Rattle.ab_formulas.specs.Declarations.{Declarations}
use Rattle.ab_formulas.specs.Sequents.{Sequent, Fits, goal_names}
use Rattle.ab_meaning.specs.Scopes.{nominal_number}
use Rattle.ab_meaning.specs.Terms.{Means}

-- what an expression means in a goal is a term that fits it, where no nominal number of the goal stands at two types
abbrev pub ReadingsFit : Declarations → Type 0
ReadingsFit D = (s : Sequent) (e : Tree) (A : Ty) (t : Read) → HasOneTypeEach (goal_names s) → Means D s e A t → Fits D s t A

-- two nominal names of one number are one
abbrev pub NumbersHaveNames : Type 0
NumbersHaveNames = (x y : List ℕ) (n : ℕ) → nominal_number x ≡ Some n → nominal_number y ≡ Some n → x ≡ y
