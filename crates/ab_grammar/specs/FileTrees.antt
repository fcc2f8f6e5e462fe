-- The items of specification files, as a reader of the language draws them. Names are lists of bytes.
use Rattle.std.specs.Prelude.{ℕ, List}
use Rattle.ab_grammar.specs.Tree.{Ty}
use Rattle.ab_grammar.specs.CommandTrees.{Clause}

pub data Item : Type 0 where
  kinds : List (List ℕ) → Item
  constants : List (List ℕ) → Ty → Item
  clause : Clause → Item
  -- other files, by their names
  accumulation : List (List ℕ) → Item
