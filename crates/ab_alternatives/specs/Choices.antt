-- What a choice of the program's stands for.
use Rattle.std.specs.Prelude.{◌≡◌, map, All, Contains}
use Rattle.ab_norm.specs.Nominals.{HoldsNominal}
use Rattle.ab_logic.specs.Worlds.{IsKeptClause}
use Rattle.ab_logic.specs.declared.world.World.{World}
use Rattle.ab_theory.specs.Atoms as plain
use Rattle.ab_alternatives.specs.AtomReadings.{defined_read, choice_read}
use Rattle.ab_alternatives.specs.declared.atoms.DefinedAtom.{DefinedAtom}
use Rattle.ab_alternatives.specs.declared.choice_counts.Choice.{Choice}

-- THE READING of a choice
abbrev pub read_choice : World → Choice → plain.Choice
read_choice w c = choice_read w c.clause.now c.names.items

-- Its clause is one of the atom's definition and is kept well, of the atom's predicate; its constants are there, of the
-- types of the clause's names.
pub record IsHeldFor (w : World) (a : DefinedAtom) (c : Choice) : Type 0 where
  pub clause : Contains a.block.clauses c.clause.now
  pub kept : IsKeptClause w.types w.store c.clause.now
  pub predicate : (read_choice w c).clause.predicate ≡ (defined_read w a).predicate
  pub names : All (HoldsNominal w.types) c.names.items
  pub fit : map (λ n. n.type) (read_choice w c).names ≡ map (λ z. z.type) (read_choice w c).clause.names
