-- Names as lists of arguments. Only private contracts speak of this.
use Rattle.std.specs.Prelude.{ℕ, List, [], ◌∷◌}
use Rattle.ab_term.specs.Types.{Ty, kind, arrow}
use Rattle.ab_term.specs.Terms as tree
use Rattle.ab_term.specs.Terms.{Term}
use Rattle.ab_term.specs.Expansion.{expansion}

-- the heads as arguments for something of this type: their eta-long forms
abbrev pub name_list : {Hint : Type 0} → Hint → Ty → List (tree.Head ℕ) → List (Term ℕ Hint)
name_list x A [] = []
name_list x (kind k) (h ∷ hs) = []
name_list x (arrow A B) (h ∷ hs) = expansion x A h ∷ name_list x B hs
