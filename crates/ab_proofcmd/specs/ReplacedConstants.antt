-- Terms that are given for the nominal constants of a judgement: when all that is asked of them is there, in the order in which
-- it is asked. Public contracts don't speak of this.
use Rattle.std.specs.Prelude.{◌≡◌, ℕ, List, [], ◌∷◌, ◌++◌, map, false, Some, None, unwrap_or}
use Rattle.ab_term.specs.Terms.{Nominal, Read}
use Rattle.ab_term.specs.Names.{support}
use Rattle.ab_grammar.specs.CommandTrees.{Instance}
use Rattle.ab_formulas.specs.Declarations.{Declarations}
use Rattle.ab_formulas.specs.Marks.{plain}
use Rattle.ab_formulas.specs.Sequents.{Sequent, Fits, formula_of, names_of}
use Rattle.ab_theory.specs.Contexts.{AllFit}
use Rattle.ab_theory.specs.Judgements.{as_unfocused, marked_judgement}
use Rattle.ab_theory.specs.Pieces.{Given}
use Rattle.ab_meaning.specs.Scopes.{nominal_number}
use Rattle.ab_meaning.specs.Terms.{MeansIn}
use Rattle.ab_effects.specs.FormulaUses.{given_twice, scope_with}
use Rattle.ab_effects.specs.ProofCommands.{constant_in, no_constant}
use Rattle.ab_proofcmd.specs.GivenTerms.{beside}

-- the constant of the name, and the term that is put for it
abbrev pub replace_of : Given → Nominal × Read
replace_of g = (record { number = unwrap_or (nominal_number g.name) 0; type = g.type }, g.value)

-- the term that is given by an instance for the constant of its name, where these terms were given before
pub record IsNextFor (D : Declarations) (s : Sequent) (ts : List Read) (names : List Nominal) (i : Instance) (g : Given) : Type 0 where
  pub name : g.name ≡ i.name
  pub constant : Nominal
  pub is : constant_in names i.name ≡ Some constant
  pub type : g.type ≡ constant.type
  pub means : MeansIn D (scope_with D s (names_of ts)) i.term g.type g.value
  pub fits : Fits D (beside s ts) g.value g.type

-- the terms are read in order, each at the type of the constant that has its name, where the constants of those before it are
-- known too
abbrev pub AreReadFor : Declarations → Sequent → List Nominal → List Nominal → List Instance → List Given → Type 0
AreReadFor D s known names [] gs = gs ≡ []
AreReadFor D s known names (i ∷ is) gs =
    (a : Nominal) × (constant_in names i.name ≡ Some a) × ((t : Read) × MeansIn D (scope_with D s known) i.term a.type t
    × ((hs : List Given) × AreReadFor D s (known ++ support t) names is hs × (gs ≡ record { name = i.name; type = a.type; value = t } ∷ hs)))

-- the hypothesis is a judgement with nothing in focus, no term is given twice, and each name is that of one of its constants: these
-- are found as they are
pub record KnowsConstants (D : Declarations) (H : List ℕ) (is : List Instance) (s : Sequent) (names : List Nominal) : Type 0 where
  pub formula : Read
  pub named : formula_of s H ≡ Some formula
  pub parts : Read × Read
  pub unfocused : as_unfocused formula ≡ Some parts
  pub once : given_twice is ≡ false
  pub known : no_constant names is ≡ None
  pub found : (x : List ℕ) → constant_in names x ≡ constant_in (support (marked_judgement plain parts.0 parts.1)) x

-- NOTHING REFUSES `inst` before the new hypothesis is named: these terms are put for these constants
pub record MayReplace (D : Declarations) (H : List ℕ) (is : List Instance) (s : Sequent) (rs : List (Nominal × Read)) : Type 0 where
  pub names : List Nominal
  pub knows : KnowsConstants D H is s names
  pub given : List Given
  pub read_in : AreReadFor D s [] names is given
  pub are : rs ≡ map replace_of given
  pub fit : AllFit D s [] rs
