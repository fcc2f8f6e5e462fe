-- Lists whose items come one after another; and how the maps of constants do.
use Rattle.std.specs.Prelude.{◌≡◌, ◌≢◌, ℕ, suc, List, [], ◌∷◌, map, cond, slice_get, Option, Some, None, Vec}
use Rattle.std.specs.Global.{Global}
use Rattle.ab_term.specs.Terms.{Nominal}
use Rattle.ab_term.specs.Names.{same_nominal}
use Rattle.ab_norm.specs.ab_types.specs.Entries.{Table}
use Rattle.ab_norm.specs.declared.nominal.Nominal.{Nominal as Kept}
use Rattle.ab_unifiers.specs.Choices.{others, of_type, for_each}
use Rattle.ab_instances.specs.ListReadings.{names_read}
use Rattle.ab_search_trees.specs.Maps.{images_in}

-- WHAT STANDS BEHIND an item in the list: the next item, or none where it is the last
abbrev pub IsNextOf : {X : Type 0} → List X → X → Option X → Type 0
IsNextOf xs x o = (i : ℕ) → slice_get xs i ≡ Some x → slice_get xs (suc i) ≡ o

-- the constants that a list stands for, where there is one
abbrev pub names_of : Table → Option (Vec Kept Global) → Option (List Nominal)
names_of types None = None
names_of types (Some list) = Some (names_read types list.items)

-- those behind the constant, where it stands first
abbrev pub behind : Nominal → List Nominal → List Nominal
behind a [] = []
behind a (b ∷ bs) = cond (same_nominal b a) bs (behind a bs)

-- the lists of images for these constants that begin with one of the candidates, in order
abbrev pub images_beginning : Nominal → List Nominal → List Nominal → List Nominal → List (List Nominal)
images_beginning b bs free candidates = for_each (λ a. map (λ ns. a ∷ ns) (images_in bs (others a free))) (of_type b.type candidates)

-- what is looked at among the images behind a map: the first of them behind the constants themselves, or else the next
pub record IsLookedAt (bs free now : List Nominal) (o : Option (List Nominal)) : Type 0 where
  pub first : now ≡ bs → o ≡ slice_get (images_in bs free) 0
  pub next : now ≢ bs → IsNextOf (images_in bs free) now o
