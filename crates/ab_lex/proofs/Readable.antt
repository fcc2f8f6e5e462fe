-- Each text has its tokens or a fault.
use Rattle.std.proofs.Common.{◌≡◌, ◌==◌, ◌+◌, ◌<◌, ◌≤◌, ◌⊎◌, ℕ, zero, suc, true, false, List, [], ◌∷◌, ◌++◌, length, drop, Option, Some, None, refl, sym, ap, ◌∙◌, subst, arith, inl, inr}
use Rattle.std.specs.List.{prefix_len}
use Rattle.std.specs.Char.{is_ascii_alphabetic, is_ascii_digit}
use Rattle.std.proofs.lemmas.List.{take-append-drop, drop_at, length-append}
use Rattle.std.proofs.lemmas.Bool.{cases_Bool, cases_eq, and_parts, eqb-true}
use Rattle.ab_lex.specs.declared.token.TokenKind.{TokenKind}
use Rattle.ab_lex.specs.declared.token.TokenKind.TheVariants.{Word, Number, Text, Sign}
use Rattle.ab_lex.specs.declared.token.Token.{Token as Placed}
use Rattle.ab_lex.specs.declared.token.LexFault.{LexFault}
use Rattle.ab_lex.specs.declared.token.LexFault.TheVariants as fault
use Rattle.ab_lex.specs.declared.tokenizer.Piece.TheVariants.{Token}
use Rattle.ab_lex.specs.declared.scanner.Mode.TheVariants.{Line, Quoted, Block}
use Rattle.ab_lex.specs.Units.{is_blank, percent, quote, slash, star, Opens, StringEnds, GapAt, blank, line_comment, block_comment}
use Rattle.ab_lex.specs.Tokens.{underscore, IsToken, TokenAt, token_at, TokensFrom, no_more, gap, token, FaultAt, open_string, open_comment, FaultFrom, here, gap_before, token_before, HasReading}
use Rattle.ab_lex.specs.Scanner.{past}
use Rattle.ab_lex.specs.Reader.{tail_size, sign_size, opens_at, IsPlainByte, StandsAt}
use Rattle.ab_lex.proofs.FirstByte.{kind_of, some_bytes}
use Rattle.ab_lex.proofs.Past.{line_ends, line_runs_out, string_ends, string_open, block_ends, block_open}
use Rattle.ab_lex.proofs.Words.{tail_within, digits_within}
use Rattle.ab_lex.proofs.Pieces.{word_stands, underscore_stands, number_stands, string_stands, other_kind, sign_stands, bad_stands}
use Rattle.ab_lex.proofs.Fronts.{gap_bytes, string_front, line_front, blocks_front}

data PieceThere (s : List ℕ) : Type 0 where
  gap_there : {r : List ℕ} → GapAt s r → PieceThere s
  token_there : {kind : TokenKind} {c r : List ℕ} → s ≡ c ++ r → TokenAt kind c r → PieceThere s
  fault_there : ((place : ℕ) → (f : LexFault) × FaultAt place s f) → PieceThere s

-- a token of so many bytes
of_size : (b : ℕ) (t : List ℕ) (kind : TokenKind) (size : ℕ) → StandsAt (b ∷ t) (Token kind size) → PieceThere (b ∷ t)
of_size b t kind size h = token_there (sym (take-append-drop size (b ∷ t))) h.2

line_piece : (b : ℕ) (t : List ℕ) → b ≡ percent → (o : Option (List ℕ)) → past Line t ≡ o → PieceThere (b ∷ t)
line_piece b t e None h = gap_there (line_comment e (line_runs_out t h))
line_piece b t e (Some r) h = gap_there (line_comment e (line_ends t r h))

string_piece : (b : ℕ) (t : List ℕ) → b ≡ quote → (o : Option (List ℕ)) → past Quoted t ≡ o → PieceThere (b ∷ t)
string_piece b t e None h = fault_there (λ place. (fault.OpenString place, open_string e (string_open t h)))
string_piece b t e (Some r) h =
    let k = string_ends t r h in
    let f = string_front k in
    let n = length f.bytes in
    let d : drop n t ≡ r = ap (drop n) f.split ∙ drop_at f.bytes r n refl in
    let l = ap length f.split in
    of_size b t Text (1 + n) (string_stands b t n e (omega (arith, length-append {A = ℕ})) (subst (StringEnds t) (sym d) k))

block_piece : (b : ℕ) (t : List ℕ) → opens_at b t ≡ true → PieceThere (b ∷ t)
block_piece b [] o = let p = and_parts (b == slash) false o in let f : false ≡ true = p.1 in cc
block_piece b (c ∷ t) o =
    let p = and_parts (b == slash) (c == star) o in
    by_end t (eqb-true b slash p.0, eqb-true c star p.1) (past (Block 0) t) refl
  where
    by_end : (t : List ℕ) → Opens b c → (o : Option (List ℕ)) → past (Block 0) t ≡ o → PieceThere (b ∷ c ∷ t)
    by_end t p None h = fault_there (λ place. (fault.OpenComment place, open_comment p (block_open t h)))
    by_end t p (Some r) h = gap_there (block_comment p (block_ends t r h))

sign_piece : (b : ℕ) (t : List ℕ) → IsPlainByte b t → kind_of b ≡ Sign → (n : ℕ) → n ≡ sign_size b t → PieceThere (b ∷ t)
sign_piece b t plain k zero e = fault_there (λ place. (fault.BadByte place, bad_stands b t plain k (sym e) place))
sign_piece b t plain k (suc n) e = of_size b t Sign (suc n) (sign_stands b t (suc n) k e (λ z. absurd (omega arith)))

plain_piece : (b : ℕ) (t : List ℕ) → IsPlainByte b t → PieceThere (b ∷ t)
plain_piece b t plain =
    elim (cases_Bool (is_ascii_alphabetic b)) [
      | inl e ↦ of_size b t Word (1 + tail_size t) (word_stands b t (tail_size t) e refl (tail_within t))
      | inr n ↦ elim (cases_eq b underscore) [
        | inl e ↦ of_size b t Word 1 (underscore_stands b t e)
        | inr m ↦ elim (cases_Bool (is_ascii_digit b)) [
          | inl e ↦ of_size b t Number (1 + prefix_len is_ascii_digit t) (number_stands b t (prefix_len is_ascii_digit t) e refl (digits_within t))
          | inr k ↦ sign_piece b t plain (other_kind b n m k plain.no_string) (sign_size b t) refl
        ]
      ]
    ]

piece_there : (b : ℕ) (t : List ℕ) → PieceThere (b ∷ t)
piece_there b t =
    elim (cases_Bool (is_blank b)) [
      | inl e ↦ gap_there (blank e)
      | inr n ↦ elim (cases_eq b percent) [
        | inl e ↦ line_piece b t e (past Line t) refl
        | inr m ↦ elim (cases_eq b quote) [
          | inl e ↦ string_piece b t e (past Quoted t) refl
          | inr k ↦ elim (cases_Bool (opens_at b t)) [
            | inl e ↦ block_piece b t e
            | inr o ↦ plain_piece b t (record { no_blank = n; no_line = m; no_string = k; no_block = o })
          ]
        ]
      ]
    ]

abbrev ReadFrom : ℕ → List ℕ → Type 0
ReadFrom place s = ((ts : List Placed) × TokensFrom place s ts) ⊎ ((f : LexFault) × FaultFrom place s f)

gap_shorter : {s r : List ℕ} → GapAt s r → length r < length s
gap_shorter (blank h) = omega arith
gap_shorter (line_comment e l) = let f = line_front l in let x = ap length f.split in omega (arith, length-append {A = ℕ})
gap_shorter (block_comment o l) = let f = blocks_front l in let x = ap length f.split in omega (arith, length-append {A = ℕ})

token_shorter : (k : TokenKind) (c r s : List ℕ) → s ≡ c ++ r → IsToken k c r → length r < length s
token_shorter k [] r s e t = absurd (some_bytes k r t)
token_shorter k (b ∷ c) r s e t = let x = ap length e in omega (arith, length-append c r)

read_on : (n : ℕ) (s : List ℕ) (place : ℕ) → length s ≤ n → ((q : List ℕ) (p : ℕ) → length q < n → ReadFrom p q) → PieceThere s → ReadFrom place s
read_on n s place l on (gap_there {r = r} g) =
    let f = gap_bytes g in
    let x = gap_shorter g in
    elim (on r (place + length f.bytes) (omega arith)) [
      | inl h ↦ inl (h.0, gap f.bytes f.split g h.1)
      | inr h ↦ inr (h.0, gap_before f.bytes f.split g h.1)
    ]
read_on n s place l on (token_there {kind = k} {c = c} {r = r} e t) =
    let x = token_shorter k c r s e t.form in
    elim (on r (place + length c) (omega arith)) [
      | inl h ↦ inl (token_at k place (length c) ∷ h.0, token e t h.1)
      | inr h ↦ inr (h.0, token_before e t h.1)
    ]
read_on n s place l on (fault_there h) = let x = h place in inr (x.0, here x.1)

read_within : (n : ℕ) (s : List ℕ) (place : ℕ) → length s < n → ReadFrom place s
read_within zero s place l = absurd (omega arith)
read_within (suc n) [] place l = inl ([], no_more)
read_within (suc n) (b ∷ t) place l = read_on n (b ∷ t) place (omega arith) (λ q p m. read_within n q p m) (piece_there b t)

pub reading_there : (text : List ℕ) → HasReading text
reading_there text = read_within (suc (length text)) text 0 (omega arith)
