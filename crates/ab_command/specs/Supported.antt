-- The commands that are built, of all that the grammar has.
use Rattle.ab_grammar.specs.CommandTrees.{Command, query}

-- THE COMMAND IS BUILT: `Query` alone is not
abbrev pub IsBuilt : Command → Type 0
IsBuilt (query e n m) = ⊥
IsBuilt _ = Unit {0}
