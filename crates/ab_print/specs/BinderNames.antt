-- The names of the binders around a term, as the program keeps them: the innermost last; and what the heads in a binder
-- are called outside it.
use Rattle.std.specs.Prelude.{ℕ, List, length, map, reverse, Option, None, Some, Bool, false, bytes_eq}
use Rattle.std.specs.declared.alloc.Global.{Global}
use Rattle.std.specs.declared.vec.Vec.{Vec}
use Rattle.ab_term.specs.Terms.{Head}
use Rattle.ab_store.specs.ab_types.specs.Entries.{Table}
use Rattle.ab_store.specs.Trees.{Contents}
use Rattle.ab_print.specs.PrintedNames.{name_of}
use Rattle.ab_print.specs.declared.drawings.Seen.{Seen}
use Rattle.ab_print.specs.Drawings.{from}
use Rattle.ab_print.specs.GoalText.{cell_name}

-- the innermost first
abbrev pub names_in : List (Vec ℕ Global) → List (List ℕ)
names_in vs = reverse (map (λ v. v.items) vs)

-- the printed name of a head, where there is one
abbrev pub name_of_some : (ℕ → List ℕ) → List (List ℕ) → Option (Head ℕ) → Option (List ℕ)
name_of_some name names None = None
name_of_some name names (Some h) = name_of name names h

-- the printed name of a head that was seen, under binders of these names, where it stands outside further ones
abbrev pub name_from : Table → Contents → List (List ℕ) → Seen → Option (List ℕ)
name_from types store names s = name_of_some (cell_name store) names (from types store (length names) s)

-- whether this is the name, where there is one
abbrev pub is_this : List ℕ → Option (List ℕ) → Bool
is_this x None = false
is_this x (Some y) = bytes_eq x y
