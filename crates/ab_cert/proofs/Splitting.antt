-- A text as its pieces: one piece after another, and the pieces of a certificate's lines.
use Rattle.std.proofs.Common.{◌≡◌, ◌≤◌, ◌<◌, ◌+◌, ◌-◌, ℕ, zero, suc, Bool, true, false, cond, List, [], ◌∷◌, ◌++◌, length, take, drop, get_or, refl, sym, ap, ◌∙◌, append_assoc, arith}
use Rattle.std.specs.List.{flat_map}
use Rattle.std.proofs.lemmas.Bool.{and_parts, and_from}
use Rattle.std.proofs.lemmas.List.{append-nil, take-append-drop, take_more, length-drop}
use Rattle.std.proofs.Math.Seq.{drop-cons}
use Rattle.ab_cert.specs.Pieces.{Pieces}
use Rattle.ab_cert.specs.Texts.{space, line_feed, line_text}
use Rattle.ab_cert.specs.Splits.{is_plain, onto, pieces_in, first_piece}
use Rattle.ab_cert.proofs.Lines.{is_clean, are_clean, IsLine, AreLines}
use Rattle.ab_cert.proofs.Clean.{clean_more}

plain_byte : (b : ℕ) (w : List ℕ) → is_plain b ≡ true → pieces_in (b ∷ w) ≡ onto b (pieces_in w)
plain_byte b w e = ap (λ t. cond t (onto b (pieces_in w)) ([] ∷ pieces_in w)) e

end_byte : (b : ℕ) (w : List ℕ) → is_plain b ≡ false → pieces_in (b ∷ w) ≡ [] ∷ pieces_in w
end_byte b w e = ap (λ t. cond t (onto b (pieces_in w)) ([] ∷ pieces_in w)) e

-- a piece with the byte that ends it
pub piece_front : (p : List ℕ) (b : ℕ) (w : List ℕ) → is_clean p ≡ true → is_plain b ≡ false → pieces_in (p ++ b ∷ w) ≡ p ∷ pieces_in w
piece_front [] b w h e = end_byte b w e
piece_front (x ∷ p) b w h e =
    let parts = and_parts (is_plain x) (is_clean p) h in
    plain_byte x (p ++ b ∷ w) parts.0 ∙ ap (onto x) (piece_front p b w parts.1 e)

-- the last piece, where no byte ends it
piece_alone : (x : ℕ) (p : List ℕ) → is_clean (x ∷ p) ≡ true → pieces_in (x ∷ p) ≡ (x ∷ p) ∷ []
piece_alone x [] h = plain_byte x [] (and_parts (is_plain x) true h).0
piece_alone x (y ∷ p) h =
    let parts = and_parts (is_plain x) (is_clean (y ∷ p)) h in
    plain_byte x (y ∷ p) parts.0 ∙ ap (onto x) (piece_alone y p parts.1)

last_first : (p : List ℕ) → is_clean p ≡ true → first_piece (pieces_in p) ≡ p
last_first [] h = refl
last_first (x ∷ p) h = ap first_piece (piece_alone x p h)

last_left : (p : List ℕ) → is_clean p ≡ true → drop 1 (pieces_in p) ≡ []
last_left [] h = refl
last_left (x ∷ p) h = ap (drop 1) (piece_alone x p h)

-- one more byte
pub clean_on : (w : List ℕ) (n : ℕ) → n < length w → is_clean (take n w) ≡ true → is_plain (get_or w n 0) ≡ true → is_clean (take (n + 1) w) ≡ true
clean_on w n l h e =
    ap is_clean (take_more w n 0 l) ∙ clean_more (take n w) (get_or w n 0 ∷ []) h (and_from (is_plain (get_or w n 0)) true e refl)

-- the text where a byte ends the piece
at_byte : (w : List ℕ) (n : ℕ) → n < length w → w ≡ take n w ++ get_or w n 0 ∷ drop (n + 1) w
at_byte w n l =
    let next : suc n ≡ n + 1 = omega arith in
    sym (take-append-drop n w) ∙ (ap (λ q. take n w ++ q) (drop-cons w n 0 l) ∙ ap (λ k. take n w ++ get_or w n 0 ∷ drop k w) next)

take_whole : (w : List ℕ) (n : ℕ) → length w ≤ n → take n w ≡ w
take_whole [] zero l = refl
take_whole [] (suc n) l = refl
take_whole (x ∷ w) zero l = absurd (omega (arith, l))
take_whole (x ∷ w) (suc n) l = ap (λ q. x ∷ q) (take_whole w n (omega (arith, l)))

drop_whole : (w : List ℕ) (n : ℕ) → length w ≤ n → drop n w ≡ []
drop_whole [] zero l = refl
drop_whole [] (suc n) l = refl
drop_whole (x ∷ w) zero l = absurd (omega (arith, l))
drop_whole (x ∷ w) (suc n) l = drop_whole w n (omega (arith, l))

-- what is left of the text behind a place
part_left : (w : List ℕ) (n : ℕ) → take (length w - n) (drop n w) ≡ drop n w
part_left w n = take_whole (drop n w) (length w - n) (omega (arith, length-drop {A = ℕ} n w))

module _ (w : List ℕ) (n : ℕ) (clean : is_clean (take n w) ≡ true) where
  pub first_ended : n < length w → is_plain (get_or w n 0) ≡ false → take n w ≡ first_piece (pieces_in w)
  first_ended l e = sym (ap (λ q. first_piece (pieces_in q)) (at_byte w n l) ∙ ap first_piece (piece_front (take n w) (get_or w n 0) (drop (n + 1) w) clean e))

  pub left_ended : n < length w → is_plain (get_or w n 0) ≡ false → pieces_in (take (length w - (n + 1)) (drop (n + 1) w)) ≡ drop 1 (pieces_in w)
  left_ended l e = ap pieces_in (part_left w (n + 1)) ∙ sym (ap (λ q. drop 1 (pieces_in q)) (at_byte w n l) ∙ ap (drop 1) (piece_front (take n w) (get_or w n 0) (drop (n + 1) w) clean e))

  pub first_last : length w ≤ n → w ≡ first_piece (pieces_in w)
  first_last l =
      sym (last_first w (sym (ap is_clean (take_whole w n l)) ∙ clean))

  pub left_last : length w ≤ n → pieces_in (take (length w - n) (drop n w)) ≡ drop 1 (pieces_in w)
  left_last l =
      ap pieces_in (part_left w n ∙ drop_whole w n l) ∙ sym (last_left w (sym (ap is_clean (take_whole w n l)) ∙ clean))

-- A CERTIFICATE'S LINES

line_pieces : (p : List ℕ) (ps : Pieces) (w : List ℕ) → are_clean (p ∷ ps) ≡ true → pieces_in (line_text (p ∷ ps) ++ w) ≡ (p ∷ ps) ++ pieces_in w
line_pieces p [] w h =
    ap pieces_in (append_assoc p (line_feed ∷ []) w) ∙ piece_front p line_feed w (and_parts (is_clean p) true h).0 refl
line_pieces p (q ∷ ps) w h =
    let parts = and_parts (is_clean p) (are_clean (q ∷ ps)) h in
    ap pieces_in (append_assoc p (space ∷ line_text (q ∷ ps)) w)
    ∙ (piece_front p space (line_text (q ∷ ps) ++ w) parts.0 refl ∙ ap (λ r. p ∷ r) (line_pieces q ps w parts.1))

some_line : (l : Pieces) (w : List ℕ) → IsLine l → pieces_in (line_text l ++ w) ≡ l ++ pieces_in w
some_line [] w h = absurd h
some_line (p ∷ ps) w h = line_pieces p ps w h

-- the pieces of lines, one behind another
pub lines_pieces : (ls : List Pieces) → AreLines ls → pieces_in (flat_map line_text ls) ≡ flat_map (λ l. l) ls
lines_pieces [] h = refl
lines_pieces (l ∷ ls) h = some_line l (flat_map line_text ls) h.0 ∙ ap (λ q. l ++ q) (lines_pieces ls h.1)
