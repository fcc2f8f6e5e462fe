-- A node of a term is told by its first piece.
use Rattle.std.proofs.Common.{◌≡◌, ℕ, List, [], ◌∷◌, ◌++◌, drop, codes, refl, sym, ap, ◌∙◌, arith}
use Rattle.ab_cert.specs.Plain.{Ty, Head}
use Rattle.ab_cert.specs.Tables.{IsName, IsTy}
use Rattle.ab_cert.specs.Pieces.{Pieces, type_pieces}
use Rattle.ab_cert.specs.TermNodes.{Node, lam_node, spine_node, node_pieces}
use Rattle.ab_cert.specs.Splits.{first_piece}
use Rattle.ab_cert.specs.Forms.{IsNode}

abbrev first_byte : List ℕ → ℕ
first_byte [] = 0
first_byte (b ∷ w) = b

spine_first : (head : Head) (count : ℕ) (rest : Pieces) → first_piece (node_pieces (spine_node head count) ++ rest) ≡ codes "@"
spine_first head count rest = refl

pub lam_read : (x : Node) (rest old left new : Pieces) (ty : Ty) (hint : List ℕ) → IsNode x → old ≡ node_pieces x ++ rest → first_piece old ≡ codes "\\" → left ≡ drop 1 old
    → ((y : Ty × List ℕ) (r : Pieces) → IsTy y.0 × IsName y.1 → left ≡ (type_pieces y.0 ++ y.1 ∷ []) ++ r → ((ty, hint) ≡ y) × (new ≡ r)) → (lam_node ty hint ≡ x) × (new ≡ rest)
lam_read (lam_node a b) rest old left new ty hint h e p l f =
    let g = f (a, b) rest h (l ∙ ap (drop 1) e) in
    (ap (λ q. lam_node q.0 q.1) g.0, g.1)
lam_read (spine_node head count) rest old left new ty hint h e p l f =
    let same : codes "@" ≡ codes "\\" = sym (spine_first head count rest) ∙ (sym (ap first_piece e) ∙ p) in
    let byte : 64 ≡ 92 = ap first_byte same in
    absurd (omega (arith, byte))
