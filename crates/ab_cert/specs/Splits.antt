-- Tools of the reader's private functions: a text as its pieces, whatever divides them.
use Rattle.std.specs.Prelude.{◌==◌, not, ◌&&◌, bytes_eq, ℕ, suc, Bool, List, [], ◌∷◌, if◌then◌else◌}
use Rattle.ab_cert.specs.Pieces.{Pieces}
use Rattle.ab_cert.specs.Texts.{space, line_feed}

-- neither a space nor a line feed
abbrev pub is_plain : ℕ → Bool
is_plain b = not (b == space) && not (b == line_feed)

-- a byte in front of pieces, in the first of them
abbrev pub onto : ℕ → Pieces → Pieces
onto b [] = (b ∷ []) ∷ []
onto b (p ∷ ps) = (b ∷ p) ∷ ps

-- THE PIECES OF A TEXT, each up to the next space or line feed
abbrev pub pieces_in : List ℕ → Pieces
pieces_in [] = []
pieces_in (b ∷ w) = if is_plain b then onto b (pieces_in w) else ([] ∷ pieces_in w)

-- the first piece, and an empty one where there is none
abbrev pub first_piece : Pieces → List ℕ
first_piece [] = []
first_piece (p ∷ ps) = p

-- the first place at which a word stands, or the number of the words where it stands nowhere
abbrev pub index_of : List (List ℕ) → List ℕ → ℕ
index_of [] w = 0
index_of (v ∷ vs) w = if bytes_eq v w then 0 else suc (index_of vs w)
