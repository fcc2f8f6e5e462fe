-- What a call that declares something, or reads a statement, leaves of a world: exactly one of these holds.
use Rattle.std.specs.Prelude.{◌≡◌, ℕ, List, ◌++◌, Option, Some, None}
use Rattle.ab_grammar.specs.Tree.{Tree}
use Rattle.ab_grammar.specs.CommandTrees.{Command, theorem}
use Rattle.ab_norm.specs.ab_types.specs.Entries as table
use Rattle.ab_norm.specs.ab_types.specs.Entries.{Table}
use Rattle.ab_meaning.specs.Terms.{kinds_in}
use Rattle.ab_formulas.specs.Declarations.{Declarations, constant_names, signature_in, theorem_in}
use Rattle.ab_formulas.specs.Formulas.{IsSentence}
use Rattle.ab_logic.specs.WorldGrowth.{Grows}
use Rattle.ab_logic.specs.Worlds.{read, Holds, declared, declarations_of}
use Rattle.ab_logic.specs.declared.world.World.{World}
use Rattle.ab_norm.specs.ab_store.specs.declared.node.TermId.{TermId}
use Rattle.ab_declare.specs.declared.refusal.Refusal.{Refusal}
use Rattle.ab_declare.specs.declared.stated_formulas.Statement.{Statement}
use Rattle.ab_declare.specs.declared.stated_formulas.Statement.TheVariants.{Formula, Refused}
use Rattle.ab_declare.specs.DeclarationCommands.{States, Declares, Declines}
use Rattle.ab_declare.specs.Moments.{IsRestored}

-- the table knows what these declarations do
pub record Knows (types : Table) (D : Declarations) : Type 0 where
  pub kinds : kinds_in D ≡ table.kinds types
  pub constants : constant_names D ≡ table.names (table.constants types)

-- what the table got is what the command declares, or the command is refused
abbrev pub TableDeclared : Table → Table → Command → Option Refusal → Type 0
TableDeclared old new c None = (more : Table) × (new ≡ old ++ more) × ((D : Declarations) → Knows old D → Declares D c (declared more))
TableDeclared old new c (Some r) = (D : Declarations) → Knows old D → Declines D c r

-- the declarations of the command stand behind those that there were
pub record IsDeclared (old new : World) (c : Command) : Type 0 where
  pub more : Declarations
  pub declares : Declares (declarations_of old) c more
  pub declared : declarations_of new ≡ declarations_of old ++ more
  pub grows : Grows old new

-- it is refused, and nothing is left of it
pub record IsDeclined (old new : World) (c : Command) (r : Refusal) : Type 0 where
  pub declines : Declines (declarations_of old) c r
  pub restored : IsRestored old new

abbrev pub Declared : World → World → Command → Option Refusal → Type 0
Declared old new c None = IsDeclared old new c
Declared old new c (Some r) = IsDeclined old new c r

-- THE EXPRESSION STATES THE FORMULA, of a theorem whose name is new; nothing is declared yet
pub record IsStated (old new : World) (x : List ℕ) (e : Tree) (t : TermId) : Type 0 where
  pub new_name : theorem_in (declarations_of old) x ≡ None
  pub states : States (declarations_of old) e (read new t)
  pub held : Holds new t
  pub sentence : IsSentence (signature_in (declarations_of old)) (read new t)
  pub declared : declarations_of new ≡ declarations_of old
  pub grows : Grows old new

abbrev pub Stated : World → World → List ℕ → Tree → Statement → Type 0
Stated old new x e (Formula t) = IsStated old new x e t
Stated old new x e (Refused r) = IsDeclined old new (theorem x e) r
