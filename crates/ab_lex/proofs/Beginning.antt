-- Where a text begins, behind its first blanks and comments.
use Rattle.std.proofs.Common.{◌≡◌, ◌+◌, ◌≤◌, ℕ, List, ◌∷◌, ◌++◌, length, take, drop, refl, sym, ap, ◌∙◌, subst, arith}
use Rattle.std.proofs.lemmas.List.{append_cancel_right, take-append-drop, drop_all, drop-drop, length-drop, length-take-le}
use Rattle.ab_lex.specs.declared.token.Token.{Token as LexToken}
use Rattle.ab_lex.specs.declared.token.LexFault.{LexFault}
use Rattle.ab_lex.specs.declared.tokenizer.Piece.{Piece}
use Rattle.ab_lex.specs.declared.tokenizer.Piece.TheVariants.{Gap, Token, BadByte, OpenString, OpenComment}
use Rattle.ab_lex.specs.Units.{GapAt}
use Rattle.ab_lex.specs.Tokens.{token_at, TokensFrom, no_more, gap, token, FaultAt, bad_byte, open_string, open_comment, FaultFrom, here, gap_before, token_before, place_of, BeginsFrom, begins, gap_first, BeginsAt}
use Rattle.ab_lex.specs.Reader.{StandsAt}
use Rattle.ab_lex.proofs.OneReading.{gap_some, gap_unique, gap_no_token, stuck_no_gap}

-- blanks and comments stand before `place`: where the text begins from there on, it begins from the front
pub record Skipped (bytes : List ℕ) (place : ℕ) : Type 0 where
  pub within : place ≤ length bytes
  pub begins_on : (start : ℕ) → BeginsFrom place (drop place bytes) start → BeginsAt bytes start

pub skipped_none : (bytes : List ℕ) → Skipped bytes 0
skipped_none bytes = record { within = omega arith; begins_on = λ start h. h }

module _ (bytes : List ℕ) (place : ℕ) (k : Skipped bytes place) where
  pub skipped_gap : (size : ℕ) → StandsAt (drop place bytes) (Gap size) → Skipped bytes (place + size)
  skipped_gap size h =
      let s = drop place bytes in
      let w = k.within in
      let n : length (take size s) ≡ size = length-take-le size s h.1 in
      let d : drop (place + size) bytes ≡ drop size s = sym (drop-drop size place bytes) in
      record {
        within = let l = h.1 in omega (arith, length-drop {A = ℕ});
        begins_on = λ start b. k.begins_on start (gap_first (take size s) (sym (take-append-drop size s)) h.2
            (subst (λ m. BeginsFrom (place + m) (drop size s) start) (sym n) (subst (λ q. BeginsFrom (place + size) q start) d b)));
      }

  pub skipped_all : length bytes ≤ place → BeginsAt bytes place
  skipped_all l = k.begins_on place (begins (subst (λ q. (r : List ℕ) → ¬ GapAt q r) (sym (drop_all place bytes l)) (λ r g. gap_some g)))

  pub skipped_here : ((r : List ℕ) → ¬ GapAt (drop place bytes) r) → BeginsAt bytes place
  skipped_here h = k.begins_on place (begins h)

-- where no gap was found, none stands
pub no_gap_there : (s : List ℕ) (p : Piece) → StandsAt s p → ((size : ℕ) → ¬ (p ≡ Gap size)) → (r : List ℕ) → ¬ GapAt s r
no_gap_there s (Gap size) h n r g = n size refl
no_gap_there s (Token kind size) h n r g = gap_no_token g kind (take size s) (drop size s) (sym (take-append-drop size s)) h.2.form
no_gap_there s BadByte h n r g = stuck_no_gap (h 0) g
no_gap_there s OpenString h n r g = stuck_no_gap (h 0) g
no_gap_there s OpenComment h n r g = stuck_no_gap (h 0) g

-- one beginning
pub one_beginning : {place : ℕ} {s : List ℕ} {n m : ℕ} → BeginsFrom place s n → BeginsFrom place s m → n ≡ m
one_beginning (begins h) (begins k) = refl
one_beginning (begins h) (gap_first {r = r} c e g k) = absurd (h r g)
one_beginning (gap_first {r = r} c e g k) (begins h) = absurd (h r g)
one_beginning {place} {s} {n} {m} (gap_first {r = r} c e g h) (gap_first {r = q} d f k l) =
    let a : r ≡ q = gap_unique g k in
    let b : c ≡ d = append_cancel_right c d r (sym e ∙ (f ∙ ap (λ w. d ++ w) (sym a))) in
    one_beginning h (subst (λ w. BeginsFrom (place + length w) r m) (sym b) (subst (λ w. BeginsFrom (place + length d) w m) (sym a) l))

-- a text begins at its first token
pub begins_at_token : {place : ℕ} {s : List ℕ} {all ts : List LexToken} {t : LexToken} → TokensFrom place s all → all ≡ t ∷ ts → BeginsFrom place s t.span.start
begins_at_token no_more e = cc
begins_at_token (gap c p g h) e = gap_first c p g (begins_at_token h e)
begins_at_token {place} {s} {all} {ts} {t} (token {kind = k} {c = c} {r = r} {ts = us} p x h) e =
    let g : token_at k place (length c) ≡ t = cc in
    subst (BeginsFrom place s) (ap (λ (u : LexToken). u.span.start) g) (begins (λ q w. gap_no_token w k c r p x.form))

-- and not behind its fault
stands_within : {place : ℕ} {s : List ℕ} {f : LexFault} → FaultAt place s f → place_of f ≡ place
stands_within (bad_byte n p q o h) = refl
stands_within (open_string e h) = refl
stands_within (open_comment o h) = refl

not_before : {place : ℕ} {s : List ℕ} {f : LexFault} → FaultFrom place s f → place ≤ place_of f
not_before {place} (here x) = let e = stands_within x in omega arith
not_before {place} (gap_before c e g x) = let h = not_before x in omega arith
not_before {place} (token_before {c = c} e t x) = let h = not_before x in omega arith

pub begins_before_fault : {place : ℕ} {s : List ℕ} {f : LexFault} {n : ℕ} → BeginsFrom place s n → FaultFrom place s f → n ≤ place_of f
begins_before_fault (begins h) x = not_before x
begins_before_fault (gap_first {r = r} c e g h) (here x) = absurd (stuck_no_gap x g)
begins_before_fault {place} {s} {f} {n} (gap_first {r = r} c e g h) (gap_before {r = q} d p k x) =
    let a : r ≡ q = gap_unique g k in
    let b : c ≡ d = append_cancel_right c d r (sym e ∙ (p ∙ ap (λ w. d ++ w) (sym a))) in
    begins_before_fault h (subst (λ w. FaultFrom (place + length w) r f) (sym b) (subst (λ w. FaultFrom (place + length d) w f) (sym a) x))
begins_before_fault (gap_first c e g h) (token_before {kind = k} {c = d} {r = q} p t x) = absurd (gap_no_token g k d q p t.form)
