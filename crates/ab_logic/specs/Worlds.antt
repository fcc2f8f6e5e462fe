-- What a world stands for: what its ids read as, and the declarations in it.
use Rattle.std.specs.Prelude.{◌≡◌, ℕ, suc, ◌-◌, ◌≤◌, List, [], ◌∷◌, ◌++◌, map, length, take, drop, codes, true, All, Option, Some, None}
use Rattle.ab_store.specs.ab_types.specs.Ids.{type_of, HoldsConstant}
use Rattle.ab_store.specs.ab_types.specs.declared.ids.ConstId.{ConstId}
use Rattle.ab_store.specs.ab_types.specs.Entries as table
use Rattle.ab_store.specs.ab_types.specs.Entries.{Table, signature, first_entries}
use Rattle.ab_store.specs.declared.node.TermId.{TermId}
use Rattle.ab_store.specs.declared.node.CellId.{CellId}
use Rattle.ab_store.specs.Trees as store
use Rattle.ab_term.specs.Terms.{constant, spine, Read}
use Rattle.ab_store.specs.Trees.{Contents, tree_of}
use Rattle.ab_store.specs.Naming.{IsTypedBy}
use Rattle.ab_unifiers.specs.Member.{member_clauses}
use Rattle.ab_unifiers.specs.Clauses as cases
use Rattle.ab_formulas.specs.Clauses as kept
use Rattle.ab_formulas.specs.CaseClauses.{case_of, IsWellKept}
use Rattle.ab_typing.specs.DefinitionReadings.{name_of, clause_of, block_of, HoldsClause}
use Rattle.ab_typing.specs.declared.definitions.Block.{Block as KeptBlock}
use Rattle.ab_typing.specs.declared.definitions.ClauseTerm.{ClauseTerm}
use Rattle.ab_formulas.specs.Formulas.{IsFormula}
use Rattle.ab_formulas.specs.Declarations.{Declaration, Declarations, Block, a_kind, a_constant, a_block, a_program_clause, a_theorem, HaveSentences, HaveDefinitions}
use Rattle.ab_formulas.specs.Programs.{IsProgramKept}
use Rattle.ab_formulas.specs.Sequents.{Variable}
use Rattle.ab_logic.specs.declared.world.World.{World}
use Rattle.ab_logic.specs.declared.additions.Added.{Added}
use Rattle.ab_logic.specs.declared.additions.Addition.{Addition}
use Rattle.ab_logic.specs.declared.additions.Addition.TheVariants.{Theorem, Definition, Clause}

-- THE READING of an id. Cells are bound only while a command runs, so between two commands an id reads as its tree.
abbrev pub read : World → TermId → Read
read w t = tree_of w.types w.store t

abbrev pub Holds : World → TermId → Type 0
Holds w t = store.Holds w.store t

abbrev pub variable_at : Table → Contents → CellId → Variable
variable_at types contents c = record { number = c.0; type = type_of types (store.cell_of contents c).ty; name = (store.cell_of contents c).hint }

abbrev pub variable_of : World → CellId → Variable
variable_of w = variable_at w.types w.store

abbrev pub HoldsCell : World → CellId → Type 0
HoldsCell w c = store.HoldsCell w.store c

-- the kinds and the constants of some entries of a table
abbrev pub declared : Table → Declarations
declared [] = []
declared (table.a_kind k ∷ es) = a_kind k ∷ declared es
declared (table.a_type A ∷ es) = declared es
declared (table.a_constant c ∷ es) = a_constant c.name c.type ∷ declared es

-- a definition, its clauses as case analysis has them
abbrev pub defined : kept.Block → Block
defined b = record { inductive = b.inductive; predicates = b.predicates; clauses = map case_of b.clauses }

-- THE READING of a definition
abbrev pub definition_of : World → KeptBlock → Block
definition_of w b = defined (block_of w.types w.store b)

-- the constant at the term's head, if one is there
abbrev pub head_constant : Read → Option (List ℕ)
head_constant (spine (constant p) ts) = Some p
head_constant _ = None

-- a clause of the program, as it is kept by its terms
abbrev pub clause_read : World → ClauseTerm → cases.Clause (List ℕ)
clause_read w c = case_of (clause_of w.types w.store c)

-- what is added, as it is declared
abbrev pub declaration_of : World → Addition → Declaration
declaration_of w (Theorem e) = a_theorem e.name (read w e.formula) e.assumed
declaration_of w (Definition b) = a_block (definition_of w b)
declaration_of w (Clause c h) = a_program_clause (clause_read w c)

-- what was declared behind the first `done` kinds and constants: each addition stands behind those that were declared when
-- it was made
abbrev pub declared_from : World → ℕ → List Added → Declarations
declared_from w done [] = drop done (declared w.types)
declared_from w done (a ∷ xs) = take (a.before - done) (drop done (declared w.types)) ++ declaration_of w a.what ∷ declared_from w a.before xs

-- THE DECLARATIONS of a world, in order
abbrev pub declarations_of : World → Declarations
declarations_of w = declared_from w 0 w.additions

-- how many definitions, clauses of the program and theorems are declared
abbrev pub count_added : Declarations → ℕ
count_added [] = 0
count_added (a_kind k ∷ ds) = count_added ds
count_added (a_constant c A ∷ ds) = count_added ds
count_added (a_block b ∷ ds) = suc (count_added ds)
count_added (a_program_clause c ∷ ds) = suc (count_added ds)
count_added (a_theorem n F js ∷ ds) = suc (count_added ds)

-- what a new world declares: its table's entries, and `member`
abbrev pub member_block : Block
member_block = record { inductive = true; predicates = codes "member" ∷ []; clauses = member_clauses }

abbrev pub first_declarations : Declarations
first_declarations = declared first_entries ++ a_block member_block ∷ []

-- additions were made one after another, while kinds and constants were declared
abbrev pub CameInOrder : Table → ℕ → List Added → Type 0
CameInOrder types done [] = done ≤ length (declared types)
CameInOrder types done (a ∷ xs) = (done ≤ a.before) × CameInOrder types a.before xs

module _ (types : Table) (terms : Contents) where
  -- a clause of a definition: what it names is there, it is well kept, and its body is a formula
  pub record IsKeptClause (c : ClauseTerm) : Type 0 where
    pub held : HoldsClause types terms c
    pub well : IsWellKept (signature types) (clause_of types terms c)
    pub body : IsFormula (signature types) (tree_of types terms c.body)

  -- a clause of the program: what it names is there, and it is well kept
  pub record IsKeptProgramClause (c : ClauseTerm) : Type 0 where
    pub held : HoldsClause types terms c
    pub well : IsProgramKept (signature types) (clause_of types terms c)

  pub record IsKeptBlock (b : KeptBlock) : Type 0 where
    pub predicates : All (HoldsConstant types) b.predicates
    pub clauses : All IsKeptClause b.clauses

  -- the constant is there, and stands at the clause's head
  pub record IsHeadOf (c : ClauseTerm) (h : ConstId) : Type 0 where
    pub held : HoldsConstant types h
    pub is : head_constant (tree_of types terms c.head) ≡ Some (name_of types h)

  -- what is added is there
  abbrev pub IsKept : Addition → Type 0
  IsKept (Theorem e) = store.Holds terms e.formula
  IsKept (Definition b) = IsKeptBlock b
  IsKept (Clause c h) = IsKeptProgramClause c × IsHeadOf c h

-- WHAT IS TRUE OF EVERY WORLD: its table begins with what is built in, its store is of its table, no cell is bound, each
-- theorem is a formula that speaks of no goal, and each definition is by clauses that define
pub record IsWorld (w : World) : Type 0 where
  pub begins : table.IsExtendedBy first_entries w.types
  pub typed : IsTypedBy w.types w.store
  pub unbound : w.store.bindings ≡ []
  pub additions : All (λ (a : Added). IsKept w.types w.store a.what) w.additions
  pub order : CameInOrder w.types 0 w.additions
  pub sentences : HaveSentences (declarations_of w)
  pub definitions : HaveDefinitions (declarations_of w)
