-- The free names of an expression, in the order in which they first stand in it.
use Rattle.std.specs.Prelude.{List, [], ◌∷◌, ◌++◌, if◌then◌else◌}
use Rattle.ab_meaning.specs.Types.{is_listed}
use Rattle.ab_meaning.specs.ResolvedNames.{Name, Resolved, bound, known, free, apply, behind, abs, equal, bind}

-- the free names, each as often as it stands
abbrev pub free_names : Resolved → List Name
free_names (bound i) = []
free_names (known h A) = []
free_names (free x p) = x ∷ []
free_names (apply e f) = free_names e ++ free_names f
free_names (behind e f) = free_names e ++ free_names f
free_names (abs x p e) = free_names e
free_names (equal e f) = free_names e ++ free_names f
free_names (bind q x p w e) = free_names e

-- a name behind others, where it isn't one of them
abbrev pub with_name : List Name → Name → List Name
with_name xs x = if is_listed xs x then xs else xs ++ x ∷ []

-- several, one after another
abbrev pub with_names : List Name → List Name → List Name
with_names xs [] = xs
with_names xs (y ∷ ys) = with_names (with_name xs y) ys
