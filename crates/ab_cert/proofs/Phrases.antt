-- Pieces with the byte that ends them, one behind another.
use Rattle.std.proofs.Common.{◌≡◌, ℕ, List, [], ◌∷◌, ◌++◌, sym, ap, ◌∙◌, append_assoc}
use Rattle.ab_cert.specs.Pieces.{Pieces}
use Rattle.ab_cert.specs.Texts.{space}
use Rattle.ab_cert.specs.Reading.{text_with_end}

-- there is a piece
abbrev pub IsSome : Pieces → Type 0
IsSome [] = ⊥
IsSome (p ∷ ps) = Unit {0}

pub text_cons : (end : ℕ) (p : List ℕ) (ps : Pieces) → IsSome ps → text_with_end end (p ∷ ps) ≡ (p ++ space ∷ []) ++ text_with_end end ps
text_cons end p [] h = absurd h
text_cons end p (q ∷ ps) h = sym (append_assoc p (space ∷ []) (text_with_end end (q ∷ ps)))

pub text_more : (end : ℕ) (ps qs : Pieces) → IsSome ps → IsSome qs → text_with_end end (ps ++ qs) ≡ text_with_end space ps ++ text_with_end end qs
text_more end [] qs h k = absurd h
text_more end (p ∷ []) qs h k = text_cons end p qs k
text_more end (p ∷ (p2 ∷ ps)) qs h k =
    ap (λ x. p ++ space ∷ x) (text_more end (p2 ∷ ps) qs tt k) ∙ sym (append_assoc p (space ∷ text_with_end space (p2 ∷ ps)) (text_with_end end qs))

pub some_more : (ps qs : Pieces) → IsSome ps → IsSome (ps ++ qs)
some_more [] qs h = absurd h
some_more (p ∷ ps) qs h = tt
