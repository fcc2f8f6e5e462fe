-- How the alternatives of an atom are made, one by one. Public contracts don't speak of this.
use Rattle.std.specs.Prelude.{◌≡◌, ◌≢◌, List, [], ◌∷◌, Bool, true, false, Some, All, AllPairs}
use Rattle.ab_term.specs.Types.{Ty, prop}
use Rattle.ab_norm.specs.ab_types.specs.Entries.{signature}
use Rattle.ab_norm.specs.ab_store.specs.declared.node.CellId.{CellId}
use Rattle.ab_norm.specs.ab_store.specs.declared.node.TermId.{TermId}
use Rattle.ab_norm.specs.Nominals.{HoldsNominal}
use Rattle.ab_norm.specs.TypedArguments.{AreTaken}
use Rattle.ab_norm.specs.declared.nominal.Nominal.{Nominal}
use Rattle.ab_formulas.specs.Marks.{plain}
use Rattle.ab_typing.specs.DefinitionReadings.{name_of}
use Rattle.ab_logic.specs.Forms.{sign_of}
use Rattle.ab_logic.specs.SequentReadings.{HoldsSequent}
use Rattle.ab_logic.specs.Worlds.{IsWorld}
use Rattle.ab_logic.specs.declared.world.World.{World}
use Rattle.ab_logic.specs.declared.sequent.Sequent.{Sequent}
use Rattle.ab_alternatives.specs.ab_instances.specs.ListReadings.{names_read, given_at}
use Rattle.ab_alternatives.specs.AtomReadings.{HoldsDefined}
use Rattle.ab_alternatives.specs.LeftAlternatives.{constants_in}
use Rattle.ab_alternatives.specs.declared.atoms.DefinedAtom.{DefinedAtom}
use Rattle.ab_analyses.specs.declared.answers.Raise.{Raise}

-- a cell with a term, one by one
abbrev pub raises_of : List CellId → List TermId → List Raise
raises_of [] ts = []
raises_of (c ∷ cs) [] = []
raises_of (c ∷ cs) (t ∷ ts) = record { cell = c; to = t } ∷ raises_of cs ts

-- the variables that are raised: those of the goal on the left, none on the right
abbrev pub raised_cells_of : Bool → List CellId → List CellId
raised_cells_of true cs = cs
raised_cells_of false cs = []

-- all that is asked of a world, a goal, an atom without a mark, and its constants, for an alternative to be made
pub record IsAtomReady (w : World) (s : Sequent) (a : DefinedAtom) (ns : List Nominal) : Type 0 where
  pub world : IsWorld w
  pub goal : HoldsSequent w s
  pub different : AllPairs (λ c d. c ≢ d) s.variables
  pub atom : HoldsDefined w a
  pub unmarked : sign_of a.sign ≡ plain
  pub taken : (A : Ty) × (signature w.types (name_of w.types a.predicate) ≡ Some A) × AreTaken w.types w.store [] a.arguments.items A prop
  pub constants : names_read w.types ns ≡ constants_in (given_at w.types w.store a.arguments.items)
  pub constants_held : All (HoldsNominal w.types) ns
