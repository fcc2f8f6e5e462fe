-- Terms that are given for the names of `forall`: when all that is asked of them is there, in the order in which it is asked.
use Rattle.std.specs.Prelude.{◌≡◌, List, [], ◌∷◌, ◌++◌, map, Bool, false, ◌||◌, Some, None}
use Rattle.ab_norm.specs.ab_types.specs.Ids.{HoldsType}
use Rattle.ab_term.specs.Types.{Ty}
use Rattle.ab_term.specs.Terms.{Nominal, Read}
use Rattle.ab_term.specs.Names.{support}
use Rattle.ab_grammar.specs.CommandTrees.{Instance}
use Rattle.ab_formulas.specs.Declarations.{Declarations}
use Rattle.ab_formulas.specs.Sequents.{Sequent, Fits, names_of, assuming}
use Rattle.ab_logic.specs.Worlds.{Holds}
use Rattle.ab_logic.specs.declared.world.World.{World}
use Rattle.ab_theory.specs.Pieces.{Piece, Given, type_named}
use Rattle.ab_uses.specs.GivenReadings.{given_of}
use Rattle.ab_uses.specs.declared.given_terms.GivenTerm.{GivenTerm}
use Rattle.ab_effects.specs.ProofCommands.{giving}
use Rattle.ab_effects.specs.Row.{leads}
use Rattle.ab_meaning.specs.Terms.{MeansIn}
use Rattle.ab_effects.specs.FormulaUses.{strange, given_twice, scope_with}
use Rattle.ab_hypothesis.specs.ab_steps.specs.ProofEffects.{RefusedBy}
use Rattle.ab_hypothesis.specs.ab_steps.specs.declared.fault.ProofCommandFault.{ProofCommandFault}

-- a term that is given, and its type, are the world's
abbrev pub HoldsGiven : World → GivenTerm → Type 0
HoldsGiven w g = Holds w g.value × HoldsType w.types g.ty

-- the terms that are given
abbrev pub values_of : List Given → List Read
values_of [] = []
values_of (g ∷ gs) = g.value ∷ values_of gs

abbrev pub values_in : World → List GivenTerm → List Read
values_in w gs = values_of (map (given_of w) gs)

-- the goal, where these terms stand too: their constants are the goal's
abbrev pub beside : Sequent → List Read → Sequent
beside s [] = s
beside s (t ∷ ts) = beside (assuming [] t s) ts

-- the term that is given by an instance, where these terms were given before
pub record IsNext (D : Declarations) (s : Sequent) (ts : List Read) (ps : List Piece) (i : Instance) (g : Given) : Type 0 where
  pub name : g.name ≡ i.name
  pub type : type_named i.name ps ≡ Some g.type
  pub means : MeansIn D (scope_with D s (names_of ts)) i.term g.type g.value
  pub fits : Fits D (beside s ts) g.value g.type

-- the terms are read in order, each at the type of its name's `forall`, where the constants of those before it are known
abbrev pub AreRead : Declarations → Sequent → List Nominal → List Piece → List Instance → List Given → Type 0
AreRead D s names ps [] gs = gs ≡ []
AreRead D s names ps (i ∷ is) gs =
    (A : Ty) × (type_named i.name ps ≡ Some A) × ((t : Read) × MeansIn D (scope_with D s names) i.term A t
    × ((hs : List Given) × AreRead D s (names ++ support t) ps is hs × (gs ≡ record { name = i.name; type = A; value = t } ∷ hs)))

-- THE TERMS THAT ARE GIVEN: all that `giving` asks is there
pub record AreGiven (D : Declarations) (s : Sequent) (ps : List Piece) (is : List Instance) (too_many : Bool) (gs : List Given) : Type 0 where
  pub named : strange ps is ≡ None
  pub read : AreRead D s [] ps is gs
  pub shaped : (given_twice is || too_many) ≡ false

-- NONE ARE, for this cause
abbrev pub AreNotGiven : Declarations → Sequent → List Piece → List Instance → Bool → ProofCommandFault → Type 0
AreNotGiven D s ps is too_many fault = RefusedBy (giving D s ps is too_many (λ gs. leads [])) fault
