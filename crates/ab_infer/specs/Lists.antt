-- Declarations with the constants that lists are made with: `::`, and the empty list.
use Rattle.std.specs.Prelude.{◌≡◌, [], ◌∷◌, codes, Some}
use Rattle.ab_term.specs.Types.{arrows, o, olist}
use Rattle.ab_formulas.specs.Declarations.{Declarations, signature_in}

abbrev pub HasLists : Declarations → Type 0
HasLists D = (signature_in D (codes "::") ≡ Some (arrows (o ∷ olist ∷ []) olist)) × (signature_in D (codes "nil") ≡ Some olist)
