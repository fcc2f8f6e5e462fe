-- A list by its first item. Public contracts don't speak of it.
use Rattle.std.specs.Prelude.{Option, Some, None, if◌then◌else◌, bytes_eq, codes}
use Rattle.ab_term.specs.Terms.{constant, spine, no_terms, term, Read}

-- the first item and the list behind it, if an item stands before a list by `::`
abbrev pub first_item : Read → Option (Read × Read)
first_item (spine (constant c) (term F (term L no_terms))) = if bytes_eq c (codes "::") then Some (F, L) else None
first_item _ = None
