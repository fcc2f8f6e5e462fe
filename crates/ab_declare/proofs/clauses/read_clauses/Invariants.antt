use Rattle.std.proofs.Common.{◌≡◌, ◌≤◌, map, take}
use Rattle.ab_term.specs.Types.{prop}
use Rattle.ab_norm.specs.ab_types.specs.Entries.{kinds, constants, IsExtendedBy}
use Rattle.ab_norm.specs.ab_types.specs.Ids.{HoldsType, type_of}
use Rattle.ab_norm.specs.ab_types.specs.Sound.{IsTable}
use Rattle.ab_syntax.specs.Commands.{clause_of}
use Rattle.ab_declare.specs.CellGrowth.{AddsVariables}
use Rattle.ab_declare.specs.Halts.{AreReadAs}
use Rattle.ab_declare.proofs.clauses.read_clauses.Given as goal

abbrev pub invariant-loop-clause : goal.invariant-loop-clause
invariant-loop-clause g l = record {
  read : AreReadAs l.types l.store (map clause_of (take l.clause-index l.clauses)) l.terms.items;
  kinds : kinds l.types ≡ kinds l.fn.types;
  constants : constants l.types ≡ constants l.fn.types;
  kept : IsExtendedBy l.fn.types l.types;
  table : IsTable l.types;
  adds : AddsVariables l.types l.fn.store l.store;
  formula_held : HoldsType l.types l.formula;
  formula_is : type_of l.types l.formula ≡ prop;
  steps : l.fn.steps ≤ l.steps;
}
