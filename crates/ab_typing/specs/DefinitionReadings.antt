-- What the program's clauses stand for, over a table and a store.
use Rattle.std.specs.Prelude.{ℕ, List, map, All}
use Rattle.ab_store.specs.ab_types.specs.Entries.{Table}
use Rattle.ab_store.specs.ab_types.specs.Ids.{type_of, constant_of, HoldsConstant}
use Rattle.ab_store.specs.ab_types.specs.declared.ids.ConstId.{ConstId}
use Rattle.ab_store.specs.Trees.{Contents, Holds, HoldsCell, cell_of, tree_of}
use Rattle.ab_store.specs.declared.node.CellId.{CellId}
use Rattle.ab_formulas.specs.Clauses.{ClauseVariable, Clause, Block}
use Rattle.ab_formulas.specs.Faults.{Fault, bad_head, not_stratified}
use Rattle.ab_typing.specs.declared.definitions.ClauseTerm.{ClauseTerm}
use Rattle.ab_typing.specs.declared.definitions.Block.{Block as KeptBlock}
use Rattle.ab_typing.specs.declared.faults.ClauseFault.{ClauseFault}
use Rattle.ab_typing.specs.declared.faults.ClauseFault.TheVariants.{BadHead, NotStratified}

module _ (types : Table) where
  abbrev pub name_of : ConstId → List ℕ
  name_of c = (constant_of types c).name

  abbrev pub fault_of : ClauseFault → Fault
  fault_of (BadHead number) = bad_head number
  fault_of (NotStratified p) = not_stratified (name_of p)

  -- the predicate that it names is the table's
  abbrev pub HoldsFault : ClauseFault → Type 0
  HoldsFault (BadHead number) = Unit {0}
  HoldsFault (NotStratified p) = HoldsConstant types p

  module _ (store : Contents) where
    abbrev pub variable_of : CellId → ClauseVariable
    variable_of c = record { number = c.0; type = type_of types (cell_of store c).ty; hint = (cell_of store c).hint }

    -- THE READING of a clause
    abbrev pub clause_of : ClauseTerm → Clause
    clause_of c = record { variables = map variable_of c.variables; head = tree_of types store c.head; body = tree_of types store c.body }

    -- and of a block
    abbrev pub block_of : KeptBlock → Block
    block_of b = record { inductive = b.inductive; predicates = map name_of b.predicates; clauses = map clause_of b.clauses }

    -- what they name is there

    pub record HoldsClause (c : ClauseTerm) : Type 0 where
      pub variables : All (HoldsCell store) c.variables
      pub head : Holds store c.head
      pub body : Holds store c.body

    pub record HoldsBlock (b : KeptBlock) : Type 0 where
      pub predicates : All (HoldsConstant types) b.predicates
      pub clauses : All HoldsClause b.clauses
