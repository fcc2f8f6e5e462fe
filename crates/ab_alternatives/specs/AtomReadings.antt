-- What the program's defined atoms and choices stand for.
use Rattle.std.specs.Prelude.{List, map, All}
use Rattle.ab_term.specs.Terms.{terms_of}
use Rattle.ab_norm.specs.ab_types.specs.Ids.{HoldsConstant}
use Rattle.ab_norm.specs.ab_store.specs.Trees.{tree_of}
use Rattle.ab_norm.specs.Nominals.{nominal_of}
use Rattle.ab_norm.specs.declared.nominal.Nominal.{Nominal}
use Rattle.ab_formulas.specs.CaseClauses.{case_of}
use Rattle.ab_typing.specs.DefinitionReadings.{name_of, clause_of}
use Rattle.ab_typing.specs.declared.definitions.ClauseTerm.{ClauseTerm}
use Rattle.ab_logic.specs.Forms.{sign_of}
use Rattle.ab_logic.specs.Worlds.{Holds, definition_of, IsKeptBlock}
use Rattle.ab_logic.specs.declared.world.World.{World}
use Rattle.ab_theory.specs.Atoms.{Defined, Choice}
use Rattle.ab_alternatives.specs.declared.atoms.DefinedAtom.{DefinedAtom}

-- THE READING of a defined atom
abbrev pub defined_read : World → DefinedAtom → Defined
defined_read w a = record {
  sign = sign_of a.sign;
  predicate = name_of w.types a.predicate;
  arguments = terms_of (map (tree_of w.types w.store) a.arguments.items);
  block = definition_of w a.block;
}

-- what it names is there
pub record HoldsDefined (w : World) (a : DefinedAtom) : Type 0 where
  pub predicate : HoldsConstant w.types a.predicate
  pub arguments : All (Holds w) a.arguments.items
  pub block : IsKeptBlock w.types w.store a.block

-- a clause that is kept, with constants for its names
abbrev pub choice_read : World → ClauseTerm → List Nominal → Choice
choice_read w c ns = record { clause = case_of (clause_of w.types w.store c); names = map (nominal_of w.types) ns }
