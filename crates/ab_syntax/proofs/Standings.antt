-- Tokens of a text stand in its bytes, in order; its words are ASCII, its numbers digits, and its quoted texts have their quotes.
use Rattle.std.proofs.Common.{◌≡◌, ◌<◌, ◌≤◌, ◌+◌, ◌-◌, ℕ, zero, suc, List, [], ◌∷◌, ◌++◌, true, All, length, take, drop, refl, sym, ◌∙◌, ap, subst, append_assoc, length-append, arith}
use Rattle.std.specs.List.{list_all}
use Rattle.std.specs.Char.{is_ascii_alphabetic, is_ascii_alphanumeric, is_ascii_digit}
use Rattle.std.proofs.lemmas.Grind.{common_steps}
use Rattle.std.proofs.lemmas.List.{take_at, drop_at}
use Rattle.ab_lex.specs.declared.token.Token.{Token}
use Rattle.ab_lex.specs.declared.token.TokenKind.{TokenKind}
use Rattle.ab_lex.specs.declared.token.TokenKind.TheVariants.{Word, Number, Text, Sign}
use Rattle.ab_lex.specs.Tokens.{is_word_byte, IsWordTail, ends, byte, joined, IsWord, alone, letters, IsNumber, last_digit, digit, IsString, IsToken, TokenAt, token_at, TokensFrom, no_more, gap, token}
use Rattle.ab_lex.specs.Units.{StringEnds, at_quote, in_string}
use Rattle.ab_expressions.specs.Tokens.{origin_of, IsTokenOf, StandIn}

module _ {X : Type 0} (P : X → Type 0) where
  all_cons : (x : X) (xs : List X) → P x → All P xs → All P (x ∷ xs)
  all_cons x xs h r zero d k = h
  all_cons x xs h r (suc i) d k = r i d (omega arith)

alphanumeric_plain : (b : ℕ) → is_ascii_alphanumeric b ≡ true → b < 128
alphanumeric_plain b h = grind (arith, common_steps)

alphabetic_plain : (b : ℕ) → is_ascii_alphabetic b ≡ true → b < 128
alphabetic_plain b h = grind (arith, common_steps)

word_byte_plain : (b : ℕ) → is_word_byte b ≡ true → b < 128
word_byte_plain b h = grind (arith, common_steps)

tail_plain : {w : List ℕ} → IsWordTail w → All (λ b. b < 128) w
tail_plain ends = λ i d k. absurd (omega arith)
tail_plain (byte {b = b} {w = w} h r) = all_cons (λ b. b < 128) b w (word_byte_plain b h) (tail_plain r)
tail_plain (joined {b = b} {c = c} {w = w} e h r) = all_cons (λ b. b < 128) b (c ∷ w) (omega arith) (tail_plain r)

word_plain : {w : List ℕ} → IsWord w → All (λ b. b < 128) w
word_plain (alone {b = b} e) = all_cons (λ b. b < 128) b [] (omega arith) (λ i d k. absurd (omega arith))
word_plain (letters {b = b} {w = w} h r) = all_cons (λ b. b < 128) b w (alphabetic_plain b h) (tail_plain r)

form_plain : (kind : TokenKind) (c r : List ℕ) → IsToken kind c r → kind ≡ Word → All (λ b. b < 128) c
form_plain Word c r h e = word_plain h
form_plain Number c r h e = absurd (cc)
form_plain Text c r h e = absurd (cc)
form_plain Sign c r h e = absurd (cc)

string_quoted : (w r : List ℕ) → StringEnds w r → length r + 1 ≤ length w
string_quoted _ r (at_quote e) = omega arith
string_quoted _ r (in_string {s = s} n h) = omega (arith, string_quoted s r h)

quoted_text : (c : List ℕ) → IsString c → 2 ≤ length c
quoted_text [] h = absurd h
quoted_text (b ∷ w) h = omega (arith, string_quoted w [] (h.1))

number_digits : {c : List ℕ} → IsNumber c → list_all is_ascii_digit c ≡ true
number_digits (last_digit {b = b} h) = rw h refl
number_digits (digit {b = b} {w = w} h r) = rw h (number_digits r)

form_digits : (kind : TokenKind) (c r : List ℕ) → IsToken kind c r → kind ≡ Number → list_all is_ascii_digit c ≡ true
form_digits Word c r h e = absurd (cc)
form_digits Number c r h e = number_digits h
form_digits Text c r h e = absurd (cc)
form_digits Sign c r h e = absurd (cc)

form_quoted : (kind : TokenKind) (c r : List ℕ) → IsToken kind c r → kind ≡ Text → 2 ≤ length c
form_quoted Word c r h e = absurd (cc)
form_quoted Number c r h e = absurd (cc)
form_quoted Text c r h e = quoted_text c h
form_quoted Sign c r h e = absurd (cc)

later : (bytes : List ℕ) (low high : ℕ) (ts : List Token) → low ≤ high → StandIn bytes high ts → StandIn bytes low ts
later bytes low high ts h r i d k = let s = r i d k in record { within = s.within; from_origin = omega arith; plain_word = s.plain_word; digits = s.digits; quoted = s.quoted }

module _ (bytes : List ℕ) where
  one_stands : (kind : TokenKind) (front c r : List ℕ) → bytes ≡ front ++ (c ++ r) → TokenAt kind c r → IsTokenOf bytes (length front) (token_at kind (length front) (length c))
  one_stands kind front c r e t =
      let size : (length front + length c) - length front ≡ length c = omega arith in
      let text : take ((length front + length c) - length front) (drop (length front) bytes) ≡ c = rw (size, e, drop_at front (c ++ r) (length front) refl) (take_at c r (length c) refl) in
      record {
        within = (omega arith, omega (arith, ap length e, length-append front (c ++ r), length-append c r));
        from_origin = omega arith;
        plain_word = λ w. subst (λ (x : List ℕ). All (λ b. b < 128) x) (sym text) (form_plain kind c r (t.form) w);
        digits = λ w. subst (λ (x : List ℕ). list_all is_ascii_digit x ≡ true) (sym text) (form_digits kind c r (t.form) w);
        quoted = λ w. subst (λ (x : List ℕ). 2 ≤ length x) (sym text) (form_quoted kind c r (t.form) w);
      }

  pub tokens_stand : {place : ℕ} {s : List ℕ} {ts : List Token} → TokensFrom place s ts → (front : List ℕ) → length front ≡ place → bytes ≡ front ++ s → StandIn bytes place ts
  tokens_stand no_more front h e = λ i d k. absurd (omega arith)
  tokens_stand (gap {place = place} {s = s} {r = r} {ts = ts} c split g rest) front h e =
      later bytes place (place + length c) ts (omega arith)
      (tokens_stand rest (front ++ c) (omega (arith, length-append front c)) (e ∙ ap (λ (x : List ℕ). front ++ x) split ∙ sym (append_assoc front c r)))
  tokens_stand (token {place = place} {kind = kind} {c = c} {s = s} {r = r} {ts = ts} split t rest) front h e =
      let whole : bytes ≡ front ++ (c ++ r) = e ∙ ap (λ (x : List ℕ). front ++ x) split in
      all_cons (IsTokenOf bytes place) (token_at kind place (length c)) ts
      (subst (λ (n : ℕ). IsTokenOf bytes n (token_at kind n (length c))) h (one_stands kind front c r whole t))
      (later bytes place (place + length c) ts (omega arith) (tokens_stand rest (front ++ c) (omega (arith, length-append front c)) (whole ∙ sym (append_assoc front c r))))

  from_first : {place : ℕ} {s : List ℕ} {ts : List Token} → TokensFrom place s ts → (front : List ℕ) → length front ≡ place → bytes ≡ front ++ s → StandIn bytes (origin_of ts) ts
  from_first no_more front h e = λ i d k. absurd (omega arith)
  from_first (gap {r = r} c split g rest) front h e = from_first rest (front ++ c) (omega (arith, length-append front c)) (e ∙ ap (λ (x : List ℕ). front ++ x) split ∙ sym (append_assoc front c r))
  from_first (token split t rest) front h e = tokens_stand (token split t rest) front h e

  pub tokens_of_stand : (ts : List Token) → TokensFrom 0 bytes ts → StandIn bytes (origin_of ts) ts
  tokens_of_stand ts d = from_first d [] refl refl
