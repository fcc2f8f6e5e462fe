-- The commands and the items of a text that the scanner finds.
use Rattle.std.proofs.Common.{ℕ, if◌then◌else◌, List, [], ◌∷◌, ◌++◌, map, Option, Some, None}
use Rattle.ab_lex.specs.declared.scanner.Mode.{Mode}
use Rattle.ab_lex.specs.declared.scanner.Mode.TheVariants.{Plain}
use Rattle.ab_lex.specs.Scanner.{ends, step}
use Rattle.ab_lex.specs.Commands.{Item, item_of, items_of_rest}

-- the commands, where these bytes of the first have come before
abbrev pub commands_from : Mode → List ℕ → List ℕ → List (List ℕ)
commands_from m c [] = []
commands_from m c (b ∷ s) =
    if ends m b then (c ++ b ∷ []) ∷ commands_from Plain [] s else commands_from (step m b) (c ++ b ∷ []) s

-- what is left behind the last of them
abbrev pub rest_from : Mode → List ℕ → List ℕ → List ℕ
rest_from m c [] = c
rest_from m c (b ∷ s) = if ends m b then rest_from Plain [] s else rest_from (step m b) (c ++ b ∷ []) s

abbrev pub commands : List ℕ → List (List ℕ)
commands s = commands_from Plain [] s

abbrev pub rest : List ℕ → List ℕ
rest s = rest_from Plain [] s

abbrev pub items_within : ℕ → List ℕ → List Item
items_within limit s = map (item_of limit) (commands s) ++ items_of_rest limit (rest s)

-- the items behind the end of a command that was told to be long, where its end came
abbrev pub items_behind : ℕ → Option (List ℕ) → List Item
items_behind limit None = []
items_behind limit (Some r) = items_within limit r
