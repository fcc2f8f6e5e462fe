-- The reading of a text's tokens, from its front on, and where they stand.
use Rattle.std.proofs.Common.{◌≡◌, ◌+◌, ◌-◌, ◌<◌, ◌≤◌, ℕ, List, [], ◌∷◌, ◌++◌, length, take, drop, get_or, sym, ap, ◌∙◌, subst, arith, append_assoc}
use Rattle.std.specs.Prelude.{slice_range, All, AllPairs}
use Rattle.std.proofs.lemmas.List.{append-nil, take-append-drop, take_rest, take_at, drop_at, drop_all, drop-drop, drop_more, length-append, length-drop, length-take-le}
use Rattle.std.proofs.lemmas.List.Elements.{All-nil, All-cons}
use Rattle.std.proofs.lemmas.List.Kept.{AllPairs-cons}
use Rattle.ab_lex.specs.declared.token.TokenKind.{TokenKind}
use Rattle.ab_lex.specs.declared.token.TokenKind.TheVariants.{Word, Number, Text, Sign}
use Rattle.ab_lex.specs.declared.token.Token.{Token}
use Rattle.ab_lex.specs.declared.token.LexFault.{LexFault}
use Rattle.ab_lex.specs.declared.tokenizer.Piece.TheVariants as piece
use Rattle.ab_lex.specs.Tokens.{HasForm, IsToken, token_at, TokensFrom, no_more, gap, token, FaultAt, FaultFrom, here, gap_before, token_before, StandsIn, Follows}
use Rattle.ab_lex.specs.Reader.{StandsAt}
use Rattle.ab_lex.proofs.FirstByte.{some_bytes}

-- the tokens before `place` are read: whatever is read from there on is read from the front
pub record Reading (bytes : List ℕ) (place : ℕ) (before : List Token) : Type 0 where
  pub within : place ≤ length bytes
  pub tokens_on : (ts : List Token) → TokensFrom place (drop place bytes) ts → TokensFrom 0 bytes (before ++ ts)
  pub fault_on : (f : LexFault) → FaultFrom place (drop place bytes) f → FaultFrom 0 bytes f

pub reading_none : (bytes : List ℕ) → Reading bytes 0 []
reading_none bytes = record { within = omega arith; tokens_on = λ ts h. h; fault_on = λ f h. h }

-- the bytes from `place` on, as the reader takes them
pub from_here : (bytes : List ℕ) (place : ℕ) → place < length bytes
    → get_or bytes place 0 ∷ take (length bytes - (place + 1)) (drop (place + 1) bytes) ≡ drop place bytes
from_here bytes place l = ap (λ q. get_or bytes place 0 ∷ q) (take_rest bytes (place + 1)) ∙ sym (drop_more bytes place 0 l)

module _ (bytes : List ℕ) (place : ℕ) (before : List Token) (r : Reading bytes place before) where
  end_within : (size : ℕ) → size ≤ length (drop place bytes) → place + size ≤ length bytes
  end_within size l = let w = r.within in omega (arith, length-drop {A = ℕ})

  pub reading_gap : (size : ℕ) → StandsAt (drop place bytes) (piece.Gap size) → Reading bytes (place + size) before
  reading_gap size h =
      let s = drop place bytes in
      let n : length (take size s) ≡ size = length-take-le size s h.1 in
      let d : drop (place + size) bytes ≡ drop size s = sym (drop-drop size place bytes) in
      record {
        within = end_within size h.1;
        tokens_on = λ ts k. r.tokens_on ts (gap (take size s) (sym (take-append-drop size s)) h.2
            (subst (λ m. TokensFrom (place + m) (drop size s) ts) (sym n) (subst (λ q. TokensFrom (place + size) q ts) d k)));
        fault_on = λ f k. r.fault_on f (gap_before (take size s) (sym (take-append-drop size s)) h.2
            (subst (λ m. FaultFrom (place + m) (drop size s) f) (sym n) (subst (λ q. FaultFrom (place + size) q f) d k)));
      }

  pub reading_token : (kind : TokenKind) (size : ℕ) → StandsAt (drop place bytes) (piece.Token kind size) → Reading bytes (place + size) (before ++ token_at kind place size ∷ [])
  reading_token kind size h =
      let s = drop place bytes in
      let n : length (take size s) ≡ size = length-take-le size s h.1 in
      let d : drop (place + size) bytes ≡ drop size s = sym (drop-drop size place bytes) in
      record {
        within = end_within size h.1;
        tokens_on = λ ts k.
            let on : TokensFrom place s (token_at kind place (length (take size s)) ∷ ts) = token (sym (take-append-drop size s)) h.2
            (subst (λ m. TokensFrom (place + m) (drop size s) ts) (sym n) (subst (λ q. TokensFrom (place + size) q ts) d k)) in
            subst (TokensFrom 0 bytes) (sym (append_assoc before (token_at kind place size ∷ []) ts))
            (r.tokens_on (token_at kind place size ∷ ts) (subst (λ m. TokensFrom place s (token_at kind place m ∷ ts)) n on));
        fault_on = λ f k. r.fault_on f (token_before (sym (take-append-drop size s)) h.2
            (subst (λ m. FaultFrom (place + m) (drop size s) f) (sym n) (subst (λ q. FaultFrom (place + size) q f) d k)));
      }

  pub reading_all : length bytes ≤ place → TokensFrom 0 bytes before
  reading_all l =
      subst (TokensFrom 0 bytes) (append-nil before)
      (r.tokens_on [] (subst (λ q. TokensFrom place q []) (sym (drop_all place bytes l)) no_more))

  pub reading_fault : (f : LexFault) → (s : List ℕ) → s ≡ drop place bytes → FaultAt place s f → FaultFrom 0 bytes f
  reading_fault f s e h = r.fault_on f (subst (λ q. FaultFrom place q f) e (here h))

-- where tokens stand
form_of : (k : TokenKind) (c r : List ℕ) → IsToken k c r → HasForm k c
form_of Word c r h = h
form_of Number c r h = h
form_of Text c r h = h
form_of Sign c r h = h.0

holds_bytes : (k : TokenKind) (c r : List ℕ) → IsToken k c r → 0 < length c
holds_bytes k [] r h = absurd (some_bytes k r h)
holds_bytes k (b ∷ c) r h = omega arith

pub stands_there : (text front c r : List ℕ) (place : ℕ) (kind : TokenKind) → text ≡ front ++ (c ++ r) → length front ≡ place → IsToken kind c r → StandsIn text (token_at kind place (length c))
stands_there text front c r place kind e l h =
    let some = holds_bytes kind c r h in
    let n = ap length e in
    let d : drop place text ≡ c ++ r = ap (drop place) e ∙ drop_at front (c ++ r) place l in
    let size : length c ≡ place + length c - place = omega arith in
    let b : slice_range text place (place + length c) ≡ c = ap (take (place + length c - place)) d ∙ take_at c r (place + length c - place) size in
    record {
      some = omega arith;
      within = omega (arith, length-append {A = ℕ});
      form = subst (HasForm kind) (sym b) (form_of kind c r h);
    }

pub all_stand : {place : ℕ} {s : List ℕ} {ts : List Token} (text front : List ℕ) → text ≡ front ++ s → length front ≡ place → TokensFrom place s ts → All (StandsIn text) ts
all_stand text front e l no_more = All-nil (StandsIn text)
all_stand text front e l (gap {r = r} c p g h) =
    all_stand text (front ++ c) (e ∙ (ap (λ q. front ++ q) p ∙ sym (append_assoc front c r))) (length-append front c ∙ ap (λ n. n + length c) l) h
all_stand text front e l (token {place = place} {kind = kind} {c = c} {r = r} {ts = ts} p t h) =
    All-cons (StandsIn text) (token_at kind place (length c)) ts (stands_there text front c r place kind (e ∙ ap (λ q. front ++ q) p) l t.form)
    (all_stand text (front ++ c) (e ∙ (ap (λ q. front ++ q) p ∙ sym (append_assoc front c r))) (length-append front c ∙ ap (λ n. n + length c) l) h)

all_behind : {place : ℕ} {s : List ℕ} {ts : List Token} (low : ℕ) → low ≤ place → TokensFrom place s ts → All (λ (t : Token). low ≤ t.span.start) ts
all_behind low l no_more = All-nil (λ (t : Token). low ≤ t.span.start)
all_behind low l (gap c p g h) = all_behind low (omega arith) h
all_behind low l (token {place = place} {kind = kind} {c = c} {ts = ts} p t h) =
    All-cons (λ (t : Token). low ≤ t.span.start) (token_at kind place (length c)) ts l (all_behind low (omega arith) h)

pub all_follow : {place : ℕ} {s : List ℕ} {ts : List Token} → TokensFrom place s ts → AllPairs Follows ts
all_follow no_more = λ i j d k l. absurd (omega arith)
all_follow (gap c p g h) = all_follow h
all_follow (token {place = place} {kind = kind} {c = c} {ts = ts} p t h) =
    AllPairs-cons Follows (token_at kind place (length c)) ts (all_behind (place + length c) (omega arith) h) (all_follow h)
