-- How a formula in focus is taken apart, as the program has it. Public contracts don't speak of it.
use Rattle.std.specs.Prelude.{◌≡◌, ℕ, ◌<◌, List, [], ◌∷◌, ◌++◌, map, Option, Some, None}
use Rattle.ab_term.specs.Logical.{hash}
use Rattle.ab_term.specs.Terms.{logical, spine, no_terms, term, Read}
use Rattle.ab_norm.specs.ab_types.specs.Entries.{Table}
use Rattle.ab_norm.specs.ab_store.specs.Trees.{Contents, tree_of}
use Rattle.ab_theory.specs.Parts.{Part, parts_of}
use Rattle.ab_search_ways.specs.declared.blindness.Seen.{Seen}
use Rattle.ab_search_ways.specs.declared.blindness.Seen.TheVariants.{Atom, Under, Both}

-- the atoms of its parts
abbrev pub atoms_of : Read → List Read
atoms_of F = map (λ (p : Part). p.atom) (parts_of F)

-- so the atoms of the formula's parts are those of what it is made of
abbrev pub IsSeen : Table → Contents → Read → Seen → Type 0
IsSeen types store F Atom = atoms_of F ≡ F ∷ []
IsSeen types store F (Under b) = atoms_of F ≡ atoms_of (tree_of types store b)
IsSeen types store F (Both a b) = (atoms_of F ≡ atoms_of (tree_of types store a) ++ atoms_of (tree_of types store b))

-- what is seen is earlier than this number
abbrev pub IsBelow : ℕ → Seen → Type 0
IsBelow n Atom = Unit {0}
IsBelow n (Under b) = b.0 < n
IsBelow n (Both a b) = (a.0 < n) × (b.0 < n)

-- what is marked `#`, where the formula is that
abbrev pub hashed : Read → Option Read
hashed (spine (logical (hash i)) (term F no_terms)) = Some F
hashed _ = None
