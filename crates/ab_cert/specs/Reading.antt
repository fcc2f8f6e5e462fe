-- Tools of the reader's private functions: pieces with the byte that ends them.
use Rattle.std.specs.Prelude.{◌==◌, ℕ, Bool, false, List, [], ◌∷◌, ◌++◌}
use Rattle.ab_cert.specs.Pieces.{Pieces}
use Rattle.ab_cert.specs.Texts.{space}

-- pieces divided by one space each, and then a byte that ends them
abbrev pub text_with_end : ℕ → Pieces → List ℕ
text_with_end end [] = end ∷ []
text_with_end end (p ∷ []) = p ++ end ∷ []
text_with_end end (p ∷ (q ∷ ps)) = p ++ space ∷ text_with_end end (q ∷ ps)

-- the bytes begin by this one
abbrev pub is_led : List ℕ → ℕ → Bool
is_led [] c = false
is_led (b ∷ s) c = b == c
