-- What the calls for a clause, an item, a file and files leave of a world. No public contract speaks of this.
use Rattle.std.specs.Prelude.{◌≡◌, ◌↔◌, ℕ, List, ◌++◌, Option, Some, None}
use Rattle.ab_term.specs.Types.{o}
use Rattle.ab_term.specs.Typing.{Signature}
use Rattle.ab_grammar.specs.CommandTrees as written
use Rattle.ab_grammar.specs.FileTrees.{Item}
use Rattle.ab_formulas.specs.Clauses.{Clause}
use Rattle.ab_formulas.specs.CaseClauses.{case_of}
use Rattle.ab_formulas.specs.Declarations.{Declarations}
use Rattle.ab_formulas.specs.Programs.{IsProgramHead, IsProgramProposed}
use Rattle.ab_logic.specs.Worlds.{declarations_of}
use Rattle.ab_logic.specs.declared.world.World.{World}
use Rattle.ab_declare.specs.ClauseMeanings.{ClauseMeans}
use Rattle.ab_declare.specs.declared.refusal.Refusal.{Refusal}
use Rattle.ab_specification.specs.ItemDeclarations.{ItemDeclares, ItemDeclines}
use Rattle.ab_specification.specs.FileDeclarations.{PlacedItem, AllDeclare, FirstDeclines}

-- the written clause is read as this one, whatever numbers its variables have; it may be proposed
pub record ReadsAs (kinds : List (List ℕ)) (sg : Signature) (c : written.Clause) (k : Clause) : Type 0 where
  pub proposed : IsProgramProposed sg k
  pub means : ClauseMeans kinds sg c o (case_of k)
  pub same_head : IsProgramHead means.kept.head ↔ IsProgramHead k.head

-- the world declares these more, of which the fact holds
pub record DeclaresMore (P : Declarations → Declarations → Type 0) (old new : World) : Type 0 where
  pub more : Declarations
  pub fact : P (declarations_of old) more
  pub declared : declarations_of new ≡ declarations_of old ++ more

-- an item was declared, or is refused
abbrev pub ItemAnswer : World → World → ℕ → Item → Option Refusal → Type 0
ItemAnswer old new n i None = DeclaresMore (λ D. ItemDeclares D i) old new
ItemAnswer old new n i (Some r) = ItemDeclines (declarations_of old) n i r

-- items were, or one of them is refused
abbrev pub ItemsAnswer : World → World → List PlacedItem → Option Refusal → Type 0
ItemsAnswer old new is None = DeclaresMore (λ D. AllDeclare D is) old new
ItemsAnswer old new is (Some r) = FirstDeclines (declarations_of old) is r
