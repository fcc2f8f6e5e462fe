-- Names are UTF-8; and the place of a word in a list.
use Rattle.std.proofs.Common.{◌≡◌, ◌<◌, ◌+◌, ◌==◌, ℕ, zero, suc, Bool, true, false, cond, List, [], ◌∷◌, length, map, drop, get_or, bytes_eq, Option, Some, None, refl, sym, ap, ◌∙◌, subst, arith, add-one, inl, inr}
use Rattle.std.specs.Char.{is_ascii_alphabetic, is_ascii_alphanumeric, is_ascii_digit}
use Rattle.std.specs.Str.{IsUtf8}
use Rattle.std.proofs.lemmas.Str.{IsUtf8-from_ascii}
use Rattle.std.proofs.lemmas.Bool.Decides.{nat_tests}
use Rattle.std.proofs.lemmas.Bool.{cases_Bool}
use Rattle.std.proofs.lemmas.Slice.Eq.{bytes_eq-Decides}
use Rattle.std.proofs.Math.Seq.{drop-cons}
use Rattle.ab_lex.specs.Tokens.{underscore, is_word_byte, IsWordTail, ends, byte, joined, IsWord, alone, letters, IsNumber, last_digit, digit}
use Rattle.ab_cert.specs.Tables.{Each, IsName, word, underscore_number, cons, value_at}
use Rattle.ab_cert.specs.Splits.{index_of}

-- names

abbrev Ascii : List ℕ → Type 0
Ascii bs = Each (λ b. b < 128) bs

letter_ascii : (b : ℕ) → is_ascii_alphabetic b ≡ true → b < 128
letter_ascii b e = grind (arith, nat_tests)

digit_ascii : (b : ℕ) → is_ascii_digit b ≡ true → b < 128
digit_ascii b e = grind (arith, nat_tests)

byte_ascii : (b : ℕ) → is_word_byte b ≡ true → b < 128
byte_ascii b e = grind (arith, nat_tests)

tail_ascii : {w : List ℕ} → IsWordTail w → Ascii w
tail_ascii ends = tt
tail_ascii (byte {b = b} h t) = (byte_ascii b h, tail_ascii t)
tail_ascii (joined {b = b} e h t) = (omega (arith, e), tail_ascii t)

number_ascii : {w : List ℕ} → IsNumber w → Ascii w
number_ascii (last_digit {b = b} h) = (digit_ascii b h, tt)
number_ascii (digit {b = b} h n) = (digit_ascii b h, number_ascii n)

word_ascii : {w : List ℕ} → IsWord w → Ascii w
word_ascii (alone {b = b} e) = (omega (arith, e), tt)
word_ascii (letters {b = b} h t) = (letter_ascii b h, tail_ascii t)

name_ascii : {x : List ℕ} → IsName x → Ascii x
name_ascii (word h) = word_ascii h
name_ascii (underscore_number {b = b} e n) = (omega (arith, e), number_ascii n)
name_ascii (cons e) = subst Ascii (sym e) (omega arith, (omega arith, tt))

ascii_at : (bs : List ℕ) → Ascii bs → (i : ℕ) → get_or bs i 0 < 128
ascii_at [] h i = omega arith
ascii_at (b ∷ bs) h zero = h.0
ascii_at (b ∷ bs) h (suc i) = ascii_at bs h.1 i

pub name_utf8 : (x : List ℕ) → IsName x → IsUtf8 x
name_utf8 x h = IsUtf8-from_ascii x (ascii_at x (name_ascii h))

-- places

module _ {B : Type 0} (f : B → List ℕ) (rows : List B) (x : List ℕ) (d : B) (i : ℕ) (within : i < length rows) where
  index_from : index_of (map f (drop i rows)) x ≡ index_of (f (get_or rows i d) ∷ map f (drop (suc i) rows)) x
  index_from = ap (λ (w : List B). index_of (map f w) x) (drop-cons rows i d within)

  pub index_here : bytes_eq (f (get_or rows i d)) x ≡ true → index_of (map f (drop i rows)) x ≡ 0
  index_here e = index_from ∙ ap (λ b. cond b 0 (suc (index_of (map f (drop (suc i) rows)) x))) e

  pub index_passed : bytes_eq (f (get_or rows i d)) x ≡ false → index_of (map f (drop i rows)) x ≡ suc (index_of (map f (drop (i + 1) rows)) x)
  index_passed e = index_from ∙ (ap (λ b. cond b 0 (suc (index_of (map f (drop (suc i) rows)) x))) e ∙ ap (λ n. suc (index_of (map f (drop n rows)) x)) (sym (add-one i)))

-- what stands at a place in a table
abbrev pub row_at : {A : Type 0} → List (List ℕ × A) → ℕ → Option (List ℕ × A)
row_at [] n = None
row_at (r ∷ rs) zero = Some r
row_at (r ∷ rs) (suc n) = row_at rs n

abbrev pub heads_of : {A : Type 0} → List (List ℕ × A) → List (List ℕ)
heads_of [] = []
heads_of (r ∷ rs) = r.0 ∷ heads_of rs

some_same : {A : Type 0} (a b : A) → Some a ≡ Some b → a ≡ b
some_same a b e = cc

-- a word of the table stands in it at its place
pub found_at : {A : Type 0} (rows : List (List ℕ × A)) (w : List ℕ) (k : A) → value_at rows w ≡ Some k → row_at rows (index_of (heads_of rows) w) ≡ Some (w, k)
found_at [] w k e = cc
found_at {A = A} (r ∷ rs) w k e =
    elim (cases_Bool (bytes_eq r.0 w)) [
      | inl t ↦
          let f : Some r.1 ≡ Some k = sym (ap (λ b. cond b (Some r.1) (value_at rs w)) t) ∙ e in
          let same : r.0 ≡ w = (bytes_eq-Decides r.0 w).0 t in
          ap (λ b. row_at (r ∷ rs) (cond b 0 (suc (index_of (heads_of rs) w)))) t ∙ (ap (λ q. Some (q, r.1)) same ∙ ap (λ q. Some (w, q)) (some_same r.1 k f))
      | inr t ↦
          let f : value_at rs w ≡ Some k = sym (ap (λ b. cond b (Some r.1) (value_at rs w)) t) ∙ e in
          ap (λ b. row_at (r ∷ rs) (cond b 0 (suc (index_of (heads_of rs) w)))) t ∙ found_at rs w k f
    ]

pub row_within : {A : Type 0} (rows : List (List ℕ × A)) (n : ℕ) (r : List ℕ × A) → row_at rows n ≡ Some r → n < length rows
row_within [] n r e = cc
row_within (q ∷ rows) zero r e = omega arith
row_within (q ∷ rows) (suc n) r e = let l = row_within rows n r e in omega (arith, l)
