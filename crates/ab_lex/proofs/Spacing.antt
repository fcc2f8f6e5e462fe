-- Written with blanks or comments between them, tokens are read as they are.
use Rattle.std.proofs.Common.{◌≡◌, ◌≢◌, ◌==◌, ◌&&◌, ◌||◌, ◌+◌, ◌-◌, ◌≤◌, ℕ, suc, Bool, true, false, cond, not, List, [], ◌∷◌, ◌++◌, length, take, drop, refl, sym, ap, ◌∙◌, subst, arith, append_assoc, lit≤, inl, inr}
use Rattle.std.specs.Prelude.{codes, slice_range, Contains}
use Rattle.std.specs.List.{list_all, prefix_len}
use Rattle.std.specs.Char.{is_ascii_digit}
use Rattle.std.proofs.lemmas.List.{append-nil, take_at, drop_at, length-append}
use Rattle.std.proofs.lemmas.Bool.{cases_Bool, or_cases, eqb-true, ne_eqb, not-true}
use Rattle.ab_lex.specs.declared.token.TokenKind.{TokenKind}
use Rattle.ab_lex.specs.declared.token.TokenKind.TheVariants.{Word, Number, Text, Sign}
use Rattle.ab_lex.specs.declared.token.Token.{Token}
use Rattle.ab_lex.specs.Units.{newline, is_blank, percent, slash, star, Opens, OpensNothing, StringEnds, GapAt, blank, line_comment, block_comment}
use Rattle.ab_lex.specs.Tokens.{IsWordTail, ends, byte, joined, IsWord, alone, letters, IsNumber, last_digit, digit, signs, OpensNowhere, HasForm, IsToken, TokenAt, token_at, TokensFrom, no_more, gap, token}
use Rattle.ab_lex.specs.Reader.{begins_star, tail_size, is_single, is_pair, single_size, short_size, sign_size}
use Rattle.ab_lex.specs.Blanks.{Lexeme, lexeme, lexemes, Spaced, empty, gap as spaced_gap, last, next, Spells}
use Rattle.ab_lex.proofs.FirstByte.{contains_cases, contains_passes, first_kind, some_bytes}
use Rattle.ab_lex.proofs.Words.{goes_on, joins}
use Rattle.ab_lex.proofs.Signs.{has_size, all_sized, pair_in, sign_longest}
use Rattle.ab_lex.proofs.Pieces.{longest_of, word_at_most, alone_at_most, number_at_most, string_on}
use Rattle.ab_lex.proofs.Past.{string_unique}
use Rattle.ab_lex.proofs.Fronts.{gap_bytes}

-- a blank or comment begins with one of six bytes, and a slash is followed by a star
abbrev is_gap_byte : ℕ → Bool
is_gap_byte b = is_blank b || ((b == percent) || (b == slash))

six_cases : (P : ℕ → Type 0) → P 32 → P 9 → P 13 → P 10 → P 37 → P 47 → (b : ℕ) → is_gap_byte b ≡ true → P b
six_cases P p32 p9 p13 p10 p37 p47 b h =
    let at : (n : ℕ) → P n → (b == n) ≡ true → P b = λ n p e. subst P (sym (eqb-true b n e)) p in
    elim (or_cases (is_blank b) ((b == percent) || (b == slash)) h) [
      | inl h ↦ elim (or_cases (b == 32) ((b == 9) || ((b == 13) || (b == newline))) h) [
        | inl e ↦ at 32 p32 e
        | inr h ↦ elim (or_cases (b == 9) ((b == 13) || (b == newline)) h) [
          | inl e ↦ at 9 p9 e
          | inr h ↦ elim (or_cases (b == 13) (b == newline) h) [ inl e ↦ at 13 p13 e | inr e ↦ at 10 p10 e ]
        ]
      ]
      | inr h ↦ elim (or_cases (b == percent) (b == slash) h) [ inl e ↦ at 37 p37 e | inr e ↦ at 47 p47 e ]
    ]

abbrev GapFront : List ℕ → Type 0
GapFront [] = ⊥
GapFront (b ∷ s) = (is_gap_byte b ≡ true) × (b ≡ slash → begins_star s ≡ true)

gap_front : {s r : List ℕ} → GapAt s r → GapFront s
gap_front (blank {b = b} h) = (
  ap (λ t. t || ((b == percent) || (b == slash))) h,
  λ e. let f : false ≡ true = rw e at h in cc,
)
gap_front (line_comment e l) = (rw e, λ f. absurd (let g : percent ≡ slash = sym e ∙ f in omega arith))
gap_front (block_comment {c = c} {s = s} o l) = (rw o.0, λ _. rw o.1)

-- nothing goes on with what stands before a blank or comment
no_tail : (s : List ℕ) → GapFront s → tail_size s ≡ 0
no_tail [] h = absurd h
no_tail (b ∷ s) h = six_cases (λ b. tail_size (b ∷ s) ≡ 0) refl refl refl refl refl refl b h.0

no_digit : (s : List ℕ) → GapFront s → prefix_len is_ascii_digit s ≡ 0
no_digit [] h = absurd h
no_digit (b ∷ s) h = six_cases (λ b. prefix_len is_ascii_digit (b ∷ s) ≡ 0) refl refl refl refl refl refl b h.0

no_star : (s : List ℕ) → GapFront s → begins_star s ≡ false
no_star [] h = absurd h
no_star (b ∷ s) h = six_cases (λ b. begins_star (b ∷ s) ≡ false) refl refl refl refl refl refl b h.0

tail_stops : {w : List ℕ} (s : List ℕ) → IsWordTail w → tail_size s ≡ 0 → tail_size (w ++ s) ≡ length w
tail_stops s ends e = e
tail_stops s (byte {b = b} {w = w} h k) e = goes_on b (w ++ s) h ∙ ap suc (tail_stops s k e)
tail_stops s (joined {b = b} {c = c} {w = w} h f k) e = joins b c (w ++ s) h f ∙ ap suc (tail_stops s k e)

digits_stop : {w : List ℕ} (s : List ℕ) → IsNumber w → prefix_len is_ascii_digit s ≡ 0 → prefix_len is_ascii_digit (w ++ s) ≡ length w
digits_stop s (last_digit {b = b} h) e = ap (λ t. cond t (1 + prefix_len is_ascii_digit s) 0) h ∙ ap (λ n. 1 + n) e
digits_stop s (digit {b = b} {w = w} h k) e =
    let f = digits_stop s k e in
    ap (λ t. cond t (1 + prefix_len is_ascii_digit (w ++ s)) 0) h ∙ omega arith

-- signs
abbrev ends_dark : List ℕ → Bool
ends_dark [] = true
ends_dark (b ∷ []) = true
ends_dark (b ∷ c ∷ []) = not (is_blank c) && not (c == percent)
ends_dark (b ∷ c ∷ d ∷ s) = true

all_end_dark : list_all ends_dark signs ≡ true
all_end_dark = refl

no_pair : (b c : ℕ) → (not (is_blank c) && not (c == percent)) ≡ false → is_pair b c ≡ false
no_pair b c h =
    elim (cases_Bool (is_pair b c)) [
      | inl t ↦ let e = contains_passes ends_dark signs (b ∷ c ∷ []) all_end_dark (pair_in b c t) in let f : true ≡ false = sym e ∙ h in cc
      | inr t ↦ t
    ]

and_false : (t : Bool) → (t && false) ≡ false
and_false true = refl
and_false false = refl

pair_stops : (b c : ℕ) (s : List ℕ) → GapFront (c ∷ s) → (is_pair b c && not ((c == slash) && begins_star s)) ≡ false
pair_stops b c s h =
    six_cases (λ c. (c ≡ slash → begins_star s ≡ true) → (is_pair b c && not ((c == slash) && begins_star s)) ≡ false)
    (λ _. rw (no_pair b 32 refl)) (λ _. rw (no_pair b 9 refl)) (λ _. rw (no_pair b 13 refl)) (λ _. rw (no_pair b 10 refl)) (λ _. rw (no_pair b 37 refl))
    (λ f. rw (f refl) (and_false (is_pair b 47))) c h.0 h.1

abbrev Stops : List ℕ → List ℕ → Type 0
Stops s [] = Unit {0}
Stops s (b ∷ c) = sign_size b (c ++ s) ≤ suc (length c)

short_only : (b : ℕ) (s : List ℕ) (n : ℕ) → b ≢ 35 → short_size b s ≤ n → sign_size b s ≤ n
short_only b s n h l = rw (ne_eqb b 35 h) l

single_most : (b : ℕ) → single_size b ≤ 1
single_most b = elim (cases_Bool (is_single b)) [ inl t ↦ rw t (omega arith) | inr t ↦ rw t (omega arith) ]

short_most : (b : ℕ) (s : List ℕ) → short_size b s ≤ 2
short_most b [] = let h = single_most b in omega arith
short_most b (c ∷ s) = either (is_pair b c && not ((c == slash) && begins_star s)) (single_most b)
  where
    either : (t : Bool) → single_size b ≤ 1 → cond t 2 (single_size b) ≤ 2
    either true h = omega arith
    either false h = omega arith

single_stops : (b : ℕ) (s : List ℕ) → GapFront s → short_size b s ≤ 1
single_stops b [] h = absurd h
single_stops b (c ∷ s) h = rw (pair_stops b c s h) (single_most b)

sized_stop : (s c : List ℕ) → GapFront s → has_size c ≡ true → Stops s c
sized_stop s [] h k = tt
sized_stop s (b ∷ []) h k = short_only b s 1 (λ e. let f : false ≡ true = rw e at k in cc) (single_stops b s h)
sized_stop s (b ∷ c ∷ []) h k = short_only b (c ∷ s) 2 (λ e. let f : false ≡ true = rw e at k in cc) (short_most b (c ∷ s))
sized_stop s (b ∷ c ∷ d ∷ w) h k = cc

sign_stops : (s c : List ℕ) → GapFront s → Contains signs c → Stops s c
sign_stops s c h m =
    elim (contains_cases (codes "#reset") (drop 1 signs) c m) [
      | inl e ↦ subst (Stops s) e (lit≤ tt)
      | inr m ↦ elim (contains_cases (codes "#back") (drop 2 signs) c m) [
        | inl e ↦ subst (Stops s) e (lit≤ tt)
        | inr n ↦ sized_stop s c h (contains_passes has_size (drop 2 signs) c all_sized n)
      ]
    ]

-- no sign holds `/*`
abbrev inner : List ℕ → Bool
inner [] = false
inner (b ∷ []) = false
inner (b ∷ c ∷ s) = ((b == slash) && (c == star)) || inner (c ∷ s)

none_inner : list_all (λ c. not (inner c)) signs ≡ true
none_inner = refl

or_false : (t u : Bool) → (t || u) ≡ false → (t ≡ false) × (u ≡ false)
or_false true u h = cc
or_false false u h = (refl, h)

at_end_nothing : (b : ℕ) (s : List ℕ) → begins_star s ≡ false → OpensNothing b s
at_end_nothing b [] h = tt
at_end_nothing b (c ∷ s) h = λ o. let f : true ≡ false = rw o.1 at h in cc

nowhere : (c s : List ℕ) → inner c ≡ false → begins_star s ≡ false → OpensNowhere c s
nowhere [] s h k = tt
nowhere (b ∷ []) s h k = (at_end_nothing b s k, tt)
nowhere (b ∷ x ∷ c) s h k =
    let p = or_false ((b == slash) && (x == star)) (inner (x ∷ c)) h in
    ((λ (o : Opens b x). let f : true ≡ false = rw (o.0, o.1) at p.0 in cc), nowhere (x ∷ c) s p.1 k)

-- bytes of a token's form can be a token where no star follows
token_form : (k : TokenKind) (c s : List ℕ) → begins_star s ≡ false → HasForm k c → IsToken k c s
token_form Word c s h f = f
token_form Number c s h f = f
token_form Text c s h f = f
token_form Sign c s h f = (f, nowhere c s (not-true (inner c) (contains_passes (λ c. not (inner c)) signs c none_inner f)) h)

-- and they are the token at their place where a blank or a comment follows
module _ (s : List ℕ) (front : GapFront s) where
  word_most : {b : ℕ} {c d : List ℕ} (q : List ℕ) → IsWord (b ∷ c) → d ++ q ≡ c ++ s → IsWord (b ∷ d) → length d ≤ length c
  word_most q (alone u) p g = alone_at_most u g
  word_most q (letters {w = w} h k) p g =
      let a = word_at_most (w ++ s) q p g in
      let e = tail_stops s k (no_tail s front) in
      omega arith

  number_most : {b : ℕ} {c d : List ℕ} (q : List ℕ) → IsNumber (b ∷ c) → d ++ q ≡ c ++ s → IsNumber (b ∷ d) → length d ≤ length c
  number_most q (last_digit h) p g = let a = number_at_most s q p g in let e = no_digit s front in omega arith
  number_most q (digit {w = w} h k) p g =
      let a = number_at_most (w ++ s) q p g in
      let e = digits_stop s k (no_digit s front) in
      omega arith

  string_most : (c d q : List ℕ) → StringEnds c [] → d ++ q ≡ c ++ s → StringEnds d [] → length d ≤ length c
  string_most c d q h p g =
      let e : q ≡ s = string_unique (subst (λ w. StringEnds w q) p (string_on q g)) (string_on s h) in
      let x = ap length e in
      let y = ap length p in
      omega (arith, length-append {A = ℕ})

  sign_most : (b : ℕ) (c d q : List ℕ) → Contains signs (b ∷ c) → d ++ q ≡ c ++ s → IsToken Sign (b ∷ d) q → length d ≤ length c
  sign_most b c d q h p g =
      let a = subst (λ w. suc (length d) ≤ sign_size b w) p (sign_longest b d q g) in
      let e = sign_stops s (b ∷ c) front h in
      omega arith

  at_most : (k : TokenKind) (b : ℕ) (c d q : List ℕ) → HasForm k (b ∷ c) → d ++ q ≡ c ++ s → IsToken k (b ∷ d) q → length d ≤ length c
  at_most Word b c d q h p g = word_most q h p g
  at_most Number b c d q h p g = number_most q h p g
  at_most Text b c d q h p g = string_most c d q h.1 p g.1
  at_most Sign b c d q h p g = sign_most b c d q h p g

  before_gap : (k : TokenKind) (c : List ℕ) → HasForm k c → TokenAt k c s
  before_gap k [] h = absurd (some_bytes k s (token_form k [] s (no_star s front) h))
  before_gap k (b ∷ c) h =
      let t = token_form k (b ∷ c) s (no_star s front) h in
      record {
        form = t;
        longest = λ other d q p g. longest_of k b (c ++ s) (length c) (first_kind k b c s t) (λ d q p g. at_most k b c d q h p g) other d q p g;
      }

before_end : (k : TokenKind) (c : List ℕ) → HasForm k c → TokenAt k c []
before_end k c h = record {
  form = token_form k c [] refl h;
  longest = λ other d q p g. let x = ap length p in omega (arith, length-append {A = ℕ});
}

pub record SpellsFrom (text : List ℕ) (place : ℕ) (s : List ℕ) (ls : List Lexeme) : Type 0 where
  pub tokens : List Token
  pub reads : TokensFrom place s tokens
  pub same : lexemes text tokens ≡ ls

-- the bytes of the token at this place
token_bytes : (text front c r : List ℕ) (place : ℕ) → text ≡ front ++ (c ++ r) → length front ≡ place → slice_range text place (place + length c) ≡ c
token_bytes text front c r place e l =
    let d : drop place text ≡ c ++ r = ap (drop place) e ∙ drop_at front (c ++ r) place l in
    let size : length c ≡ place + length c - place = omega arith in
    ap (take (place + length c - place)) d ∙ take_at c r (place + length c - place) size

spells_from : {ls : List Lexeme} {s : List ℕ} (text front : List ℕ) (place : ℕ) → text ≡ front ++ s → length front ≡ place → Spaced ls s → SpellsFrom text place s ls
spells_from text front place e l empty = record { tokens = []; reads = no_more; same = refl }
spells_from text front place e l (spaced_gap {r = r} g h) =
    let f = gap_bytes g in
    let k = spells_from text (front ++ f.bytes) (place + length f.bytes) (e ∙ (ap (λ q. front ++ q) f.split ∙ sym (append_assoc front f.bytes r)))
    (length-append front f.bytes ∙ ap (λ n. n + length f.bytes) l) h in
    record { tokens = k.tokens; reads = gap f.bytes f.split g k.reads; same = k.same }
spells_from text front place e l (last {kind = kind} {c = c} h) =
    let b = token_bytes text front c [] place (e ∙ ap (λ q. front ++ q) (sym (append-nil c))) l in
    record {
      tokens = token_at kind place (length c) ∷ [];
      reads = token (sym (append-nil c)) (before_end kind c h) no_more;
      same = ap (λ w. lexeme kind w ∷ []) b;
    }
spells_from text front place e l (next {ls = ls} {kind = kind} {c = c} {s = s} h g k) =
    let b = token_bytes text front c s place e l in
    let r = spells_from text (front ++ c) (place + length c) (e ∙ sym (append_assoc front c s)) (length-append front c ∙ ap (λ n. n + length c) l) k in
    record {
      tokens = token_at kind place (length c) ∷ r.tokens;
      reads = token refl (before_gap s (gap_front g) kind c h) r.reads;
      same = ap (λ w. lexeme kind w ∷ lexemes text r.tokens) b ∙ ap (λ ws. lexeme kind c ∷ ws) r.same;
    }

pub spells : (text : List ℕ) (ls : List Lexeme) → Spaced ls text → Spells text ls
spells text ls h =
    let k = spells_from text [] 0 refl refl h in
    record { tokens = k.tokens; reads = k.reads; same = k.same }
