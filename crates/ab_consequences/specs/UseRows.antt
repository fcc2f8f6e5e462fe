-- What is asked of terms that are given for names of a formula that is used.
use Rattle.std.specs.Prelude.{◌≡◌, List, [], ◌∷◌, ◌++◌, All, Some}
use Rattle.ab_term.specs.Terms.{Nominal}
use Rattle.ab_term.specs.Names.{support, HasOneTypeEach}
use Rattle.ab_formulas.specs.Declarations.{Declarations}
use Rattle.ab_formulas.specs.Sequents.{Sequent, Fits, goal_names}
use Rattle.ab_theory.specs.Pieces.{Piece, Given, type_named}

-- the nominal constants of the terms
abbrev pub constants_given : List Given → List Nominal
constants_given [] = []
constants_given (g ∷ gs) = support g.value ++ constants_given gs

-- THE TERMS FIT: each is of the type of its name and fits the goal, and no nominal number stands at two types in all of them
pub record AreFitting (D : Declarations) (s : Sequent) (ps : List Piece) (gs : List Given) : Type 0 where
  pub fits : All (λ (g : Given). Fits D s g.value g.type) gs
  pub named : All (λ (g : Given). type_named g.name ps ≡ Some g.type) gs
  pub one_type : HasOneTypeEach (goal_names s ++ constants_given gs)
