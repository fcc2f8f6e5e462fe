-- MAPS OF NOMINAL CONSTANTS, one to one and type-keeping, into those of a branch: by which a hypothesis may serve.
use Rattle.std.specs.Prelude.{List, [], ◌∷◌, map, filter, Bool, true, false, ◌&&◌, not}
use Rattle.ab_term.specs.Terms.{Nominal}
use Rattle.ab_term.specs.Names.{same_nominal}
use Rattle.ab_unifiers.specs.Choices.{others, of_type, for_each}

-- different constants of the types of these, of those that are free: for each in turn the free ones in order. So the lists
-- stand in lexicographic order
abbrev pub images_in : List Nominal → List Nominal → List (List Nominal)
images_in [] free = [] ∷ []
images_in (b ∷ bs) free = for_each (λ a. map (λ ns. a ∷ ns) (images_in bs (others a free))) (of_type b.type free)

abbrev pub same_constants : List Nominal → List Nominal → Bool
same_constants [] [] = true
same_constants [] (b ∷ bs) = false
same_constants (a ∷ ns) [] = false
same_constants (a ∷ ns) (b ∷ bs) = same_nominal a b && same_constants ns bs

-- one against one
abbrev pub mapping : List Nominal → List Nominal → List (Nominal × Nominal)
mapping [] ns = []
mapping (b ∷ bs) [] = []
mapping (b ∷ bs) (a ∷ ns) = (b, a) ∷ mapping bs ns

-- what these constants are mapped to, in turn: they stay, and then the others
abbrev pub targets : List Nominal → List Nominal → List (List Nominal)
targets bs free = bs ∷ filter (λ ns. not (same_constants bs ns)) (images_in bs free)

-- THE MAPS of these constants into those of a branch: first each stays, then the others in lexicographic order
abbrev pub maps : List Nominal → List Nominal → List (List (Nominal × Nominal))
maps bs free = map (mapping bs) (targets bs free)
