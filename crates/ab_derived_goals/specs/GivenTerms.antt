-- Terms that are given for names.
use Rattle.std.specs.Prelude.{◌≡◌, List, [], ◌∷◌, false, bytes_eq, All}
use Rattle.ab_theory.specs.Pieces.{Given}

-- each is given for another name
abbrev pub AreApart : List Given → Type 0
AreApart [] = Unit {0}
AreApart (g ∷ gs) = All (λ (h : Given). bytes_eq h.name g.name ≡ false) gs × AreApart gs
