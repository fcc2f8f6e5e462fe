-- What stands at the front of a text, for each of its first bytes.
use Rattle.std.proofs.Common.{◌≡◌, ◌≢◌, ◌==◌, ◌+◌, ◌≤◌, ℕ, zero, suc, true, false, List, [], ◌∷◌, ◌++◌, length, take, drop, refl, sym, ap, ◌∙◌, subst, arith, one-add}
use Rattle.std.specs.List.{prefix_len}
use Rattle.std.specs.Char.{is_ascii_alphabetic, is_ascii_digit}
use Rattle.std.proofs.lemmas.List.{take-append-drop, append_cancel_right, length-append, length-drop, length-take-le}
use Rattle.std.proofs.lemmas.Bool.{and_parts, eqb-true, ne_eqb}
use Rattle.ab_lex.specs.declared.token.TokenKind.{TokenKind}
use Rattle.ab_lex.specs.declared.token.TokenKind.TheVariants.{Word, Number, Text, Sign}
use Rattle.ab_lex.specs.declared.tokenizer.Piece.TheVariants.{Gap, Token, BadByte, OpenString, OpenComment}
use Rattle.ab_lex.specs.Units.{is_blank, percent, quote, slash, star, OpensNothing, LineEnds, StringEnds, at_quote, in_string, BlocksEnd, blank, line_comment, block_comment}
use Rattle.ab_lex.specs.Tokens.{underscore, IsWordTail, IsWord, alone, letters, IsNumber, last_digit, digit, IsToken, bad_byte, open_string, open_comment}
use Rattle.ab_lex.specs.Reader.{tail_size, sign_size, opens_at, IsPlainByte, StandsAt}
use Rattle.ab_lex.proofs.FirstByte.{kind_of, letter_kind, underscore_kind, digit_kind, quote_kind, first_kind, some_bytes}
use Rattle.ab_lex.proofs.Words.{tail_longest, tail_is, number_longest, number_is}
use Rattle.ab_lex.proofs.Signs.{sign_is, sign_longest}
use Rattle.ab_lex.proofs.Past.{string_unique}

-- among tokens that begin with b, the longest of b's kind is the longest
pub longest_of : (k : TokenKind) (b : ℕ) (t : List ℕ) (n : ℕ) → kind_of b ≡ k → ((d q : List ℕ) → d ++ q ≡ t → IsToken k (b ∷ d) q → length d ≤ n)
    → (other : TokenKind) (d q : List ℕ) → d ++ q ≡ b ∷ t → IsToken other d q → length d ≤ suc n
longest_of k b t n e h other [] q p g = omega arith
longest_of k b t n e h other (x ∷ d) q p g =
    let first : x ≡ b = cc in
    let behind : d ++ q ≡ t = cc in
    let kind : other ≡ k = sym (first_kind other x d q g) ∙ (ap kind_of first ∙ e) in
    let l = h d q behind (subst (λ y. IsToken k (y ∷ d) q) first (subst (λ j. IsToken j (x ∷ d) q) kind g)) in
    omega arith

token_stands : (k : TokenKind) (b : ℕ) (t : List ℕ) (n : ℕ) → kind_of b ≡ k → n ≤ length t → IsToken k (b ∷ take n t) (drop n t)
    → ((d q : List ℕ) → d ++ q ≡ t → IsToken k (b ∷ d) q → length d ≤ n) → StandsAt (b ∷ t) (Token k (suc n))
token_stands k b t n e l f h = (
  omega arith,
  omega arith,
  record {
    form = f;
    longest = λ other d q p g.
        let a = longest_of k b t n e h other d q (p ∙ ap (λ s. b ∷ s) (take-append-drop n t)) g in
        let c = length-take-le n t l in
        omega arith;
  },
)

-- words
pub word_at_most : {b : ℕ} {d : List ℕ} (t q : List ℕ) → d ++ q ≡ t → IsWord (b ∷ d) → length d ≤ tail_size t
word_at_most t q p (alone e) = omega arith
word_at_most t q p (letters {w = w} h k) = subst (λ s. length w ≤ tail_size s) p (tail_longest q k)

pub word_stands : (b : ℕ) (t : List ℕ) (n : ℕ) → is_ascii_alphabetic b ≡ true → n ≡ tail_size t → n ≤ length t → StandsAt (b ∷ t) (Token Word (1 + n))
word_stands b t n h e l =
    let f : IsWord (b ∷ take n t) = letters h (subst (λ m. IsWordTail (take m t)) (sym e) (tail_is t)) in
    subst (λ m. StandsAt (b ∷ t) (Token Word m)) (sym (one-add n))
    (token_stands Word b t n (letter_kind b h) l f (λ d q p g. subst (λ m. length d ≤ m) (sym e) (word_at_most t q p g)))

pub alone_at_most : {b : ℕ} {d : List ℕ} → b ≡ underscore → IsWord (b ∷ d) → length d ≤ 0
alone_at_most u (alone e) = omega arith
alone_at_most {b = b} u (letters h k) = let f : false ≡ true = rw u at h in cc

pub underscore_stands : (b : ℕ) (t : List ℕ) → b ≡ underscore → StandsAt (b ∷ t) (Token Word 1)
underscore_stands b t u = token_stands Word b t 0 (underscore_kind b u) (omega arith) (alone u) (λ d q p g. alone_at_most u g)

-- numbers
pub number_at_most : {b : ℕ} {d : List ℕ} (t q : List ℕ) → d ++ q ≡ t → IsNumber (b ∷ d) → length d ≤ prefix_len is_ascii_digit t
number_at_most t q p (last_digit e) = omega arith
number_at_most t q p (digit {w = w} h k) = subst (λ s. length w ≤ prefix_len is_ascii_digit s) p (number_longest q k)

pub number_stands : (b : ℕ) (t : List ℕ) (n : ℕ) → is_ascii_digit b ≡ true → n ≡ prefix_len is_ascii_digit t → n ≤ length t → StandsAt (b ∷ t) (Token Number (1 + n))
number_stands b t n h e l =
    let f : IsNumber (b ∷ take n t) = subst (λ m. IsNumber (b ∷ take m t)) (sym e) (number_is b t h) in
    subst (λ m. StandsAt (b ∷ t) (Token Number m)) (sym (one-add n))
    (token_stands Number b t n (digit_kind b h) l f (λ d q p g. subst (λ m. length d ≤ m) (sym e) (number_at_most t q p g)))

-- strings
pub record Closed (s r : List ℕ) : Type 0 where
  pub bytes : List ℕ
  pub front : s ≡ bytes ++ r
  pub ends : StringEnds bytes []

string_bytes : {s r : List ℕ} → StringEnds s r → Closed s r
string_bytes (at_quote {b = b} {s = s} e) = record { bytes = b ∷ []; front = refl; ends = at_quote e }
string_bytes (in_string {b = b} n h) =
    let k = string_bytes h in
    record { bytes = b ∷ k.bytes; front = ap (λ q. b ∷ q) k.front; ends = in_string n k.ends }

pub string_on : {s r : List ℕ} (q : List ℕ) → StringEnds s r → StringEnds (s ++ q) (r ++ q)
string_on q (at_quote e) = at_quote e
string_on q (in_string n h) = in_string n (string_on q h)

pub string_stands : (b : ℕ) (t : List ℕ) (n : ℕ) → b ≡ quote → n ≤ length t → StringEnds t (drop n t) → StandsAt (b ∷ t) (Token Text (1 + n))
string_stands b t n e l h =
    let k = string_bytes h in
    let same : k.bytes ≡ take n t = append_cancel_right k.bytes (take n t) (drop n t) (sym k.front ∙ sym (take-append-drop n t)) in
    subst (λ m. StandsAt (b ∷ t) (Token Text m)) (sym (one-add n))
    (token_stands Text b t n (quote_kind b e) l (e, subst (λ w. StringEnds w []) same k.ends) (λ d q p g.
    let u : q ≡ drop n t = string_unique (subst (λ w. StringEnds w q) p (string_on q g.1)) h in
    let x = ap length u in
    let y = ap length p in
    omega (arith, length-append {A = ℕ}, length-drop {A = ℕ})))

pub string_opens : (b : ℕ) (t : List ℕ) → b ≡ quote → ((r : List ℕ) → ¬ StringEnds t r) → StandsAt (b ∷ t) OpenString
string_opens b t e h = λ place. open_string e h

-- signs
pub other_kind : (b : ℕ) → is_ascii_alphabetic b ≡ false → b ≢ underscore → is_ascii_digit b ≡ false → b ≢ quote → kind_of b ≡ Sign
other_kind b h n k m = rw (h, ne_eqb b underscore n, k, ne_eqb b quote m)

sign_at_most : (b : ℕ) (t d q : List ℕ) (n : ℕ) → sign_size b t ≡ suc n → d ++ q ≡ t → IsToken Sign (b ∷ d) q → length d ≤ n
sign_at_most b t d q n e p g =
    let l = subst (λ s. suc (length d) ≤ sign_size b s) p (sign_longest b d q g) in
    omega arith

pub sign_stands : (b : ℕ) (t : List ℕ) (size : ℕ) → kind_of b ≡ Sign → size ≡ sign_size b t → size ≢ 0 → StandsAt (b ∷ t) (Token Sign size)
sign_stands b t zero k e n = absurd (n refl)
sign_stands b t (suc n) k e _ =
    let g = sign_is b t n (sym e) in
    token_stands Sign b t n k g.within g.form (λ d q p h. sign_at_most b t d q n (sym e) p h)

-- a byte that begins nothing
opens_nothing : (b : ℕ) (t : List ℕ) → opens_at b t ≡ false → OpensNothing b t
opens_nothing b [] h = tt
opens_nothing b (c ∷ t) h = λ o. let f : true ≡ false = rw (o.0, o.1) at h in cc

no_token : (b : ℕ) (t : List ℕ) → kind_of b ≡ Sign → sign_size b t ≡ 0 → (kind : TokenKind) (c r : List ℕ) → b ∷ t ≡ c ++ r → ¬ IsToken kind c r
no_token b t k e kind [] r p g = some_bytes kind r g
no_token b t k e kind (x ∷ d) r p g =
    let first : x ≡ b = cc in
    let behind : d ++ r ≡ t = cc in
    let same : kind ≡ Sign = sym (first_kind kind x d r g) ∙ (ap kind_of first ∙ k) in
    let h = subst (λ y. IsToken Sign (y ∷ d) r) first (subst (λ j. IsToken j (x ∷ d) r) same g) in
    let l = subst (λ s. suc (length d) ≤ sign_size b s) behind (sign_longest b d r h) in
    absurd (omega arith)

pub bad_stands : (b : ℕ) (t : List ℕ) → IsPlainByte b t → kind_of b ≡ Sign → sign_size b t ≡ 0 → StandsAt (b ∷ t) BadByte
bad_stands b t plain k e = λ place. bad_byte plain.no_blank plain.no_line plain.no_string (opens_nothing b t plain.no_block) (no_token b t k e)

-- blanks and comments
pub blank_stands : (b : ℕ) (t : List ℕ) → is_blank b ≡ true → StandsAt (b ∷ t) (Gap 1)
blank_stands b t h = (omega arith, omega arith, blank h)

pub line_stands : (b : ℕ) (t : List ℕ) (n : ℕ) → b ≡ percent → n ≤ length t → LineEnds t (drop n t) → StandsAt (b ∷ t) (Gap (1 + n))
line_stands b t n e l h = subst (λ m. StandsAt (b ∷ t) (Gap m)) (sym (one-add n)) (omega arith, omega arith, line_comment e h)

-- the bytes behind `/*`
pub comment_stands : (b : ℕ) (t : List ℕ) (n : ℕ) → opens_at b t ≡ true → n ≤ length (drop 1 t) → BlocksEnd 1 (drop 1 t) (drop n (drop 1 t)) → StandsAt (b ∷ t) (Gap (2 + n))
comment_stands b [] n o l h = let p = and_parts (b == slash) false o in let f : false ≡ true = p.1 in cc
comment_stands b (c ∷ t) n o l h =
    let p = and_parts (b == slash) (c == star) o in
    let two : suc (suc n) ≡ 2 + n = omega arith in
    subst (λ m. StandsAt (b ∷ c ∷ t) (Gap m)) two (omega arith, omega arith, block_comment (eqb-true b slash p.0, eqb-true c star p.1) h)

pub comment_opens : (b : ℕ) (t : List ℕ) → opens_at b t ≡ true → ((r : List ℕ) → ¬ BlocksEnd 1 (drop 1 t) r) → StandsAt (b ∷ t) OpenComment
comment_opens b [] o h = let p = and_parts (b == slash) false o in let f : false ≡ true = p.1 in cc
comment_opens b (c ∷ t) o h = let p = and_parts (b == slash) (c == star) o in λ place. open_comment (eqb-true b slash p.0, eqb-true c star p.1) h
