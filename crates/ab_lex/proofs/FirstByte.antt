-- The kind of a token is known by its first byte.
use Rattle.std.proofs.Common.{◌≡◌, ◌==◌, ◌||◌, ℕ, zero, suc, Bool, true, false, List, [], ◌∷◌, refl, subst, arith, inl, inr, ◌⊎◌}
use Rattle.std.specs.Prelude.{Contains, if◌then◌else◌}
use Rattle.std.specs.List.{list_all}
use Rattle.std.specs.Char.{is_ascii_alphabetic, is_ascii_digit}
use Rattle.std.proofs.lemmas.Bool.{and_parts}
use Rattle.std.proofs.lemmas.Bool.Decides.{nat_tests}
use Rattle.ab_lex.specs.declared.token.TokenKind.{TokenKind}
use Rattle.ab_lex.specs.declared.token.TokenKind.TheVariants.{Word, Number, Text, Sign}
use Rattle.ab_lex.specs.Units.{quote}
use Rattle.ab_lex.specs.Tokens.{underscore, IsWord, alone, letters, IsNumber, last_digit, digit, signs, IsToken}

-- an element of a list passes a test that all pass
pub contains_cases : {X : Type 0} (x : X) (xs : List X) (c : X) → Contains (x ∷ xs) c → (x ≡ c) ⊎ Contains xs c
contains_cases x xs c (zero, l, e) = inl e
contains_cases x xs c (suc k, l, e) = inr (k, omega arith, e)

pub contains_passes : {X : Type 0} (p : X → Bool) (xs : List X) (c : X) → list_all p xs ≡ true → Contains xs c → p c ≡ true
contains_passes p [] c h (k, l, e) = absurd (omega arith)
contains_passes p (x ∷ xs) c h m =
    let both = and_parts (p x) (list_all p xs) h in
    elim (contains_cases x xs c m) [
      | inl e ↦ subst (λ y. p y ≡ true) e both.0
      | inr t ↦ contains_passes p xs c both.1 t
    ]

abbrev pub kind_of : ℕ → TokenKind
kind_of b = if is_ascii_alphabetic b || (b == underscore) then Word else if is_ascii_digit b then Number else if b == quote then Text else Sign

no_letter : (b : ℕ) → is_ascii_digit b ≡ true → (is_ascii_alphabetic b || (b == underscore)) ≡ false
no_letter b h = grind (arith, nat_tests)

pub letter_kind : (b : ℕ) → is_ascii_alphabetic b ≡ true → kind_of b ≡ Word
letter_kind b h = rw h

pub underscore_kind : (b : ℕ) → b ≡ underscore → kind_of b ≡ Word
underscore_kind b e = rw e

pub digit_kind : (b : ℕ) → is_ascii_digit b ≡ true → kind_of b ≡ Number
digit_kind b h = rw (no_letter b h, h)

pub quote_kind : (b : ℕ) → b ≡ quote → kind_of b ≡ Text
quote_kind b e = rw e

abbrev is_sign_kind : TokenKind → Bool
is_sign_kind Word = false
is_sign_kind Number = false
is_sign_kind Text = false
is_sign_kind Sign = true

sign_kind : (k : TokenKind) → is_sign_kind k ≡ true → k ≡ Sign
sign_kind Word h = cc
sign_kind Number h = cc
sign_kind Text h = cc
sign_kind Sign h = refl

abbrev begins_sign : List ℕ → Bool
begins_sign [] = false
begins_sign (b ∷ s) = is_sign_kind (kind_of b)

all_begin : list_all begins_sign signs ≡ true
all_begin = refl

word_first : {b : ℕ} {d : List ℕ} → IsWord (b ∷ d) → kind_of b ≡ Word
word_first (alone {b = b} e) = underscore_kind b e
word_first (letters {b = b} h t) = letter_kind b h

number_first : {b : ℕ} {d : List ℕ} → IsNumber (b ∷ d) → kind_of b ≡ Number
number_first (last_digit {b = b} h) = digit_kind b h
number_first (digit {b = b} h t) = digit_kind b h

pub first_kind : (k : TokenKind) (b : ℕ) (d q : List ℕ) → IsToken k (b ∷ d) q → kind_of b ≡ k
first_kind Word b d q h = word_first h
first_kind Number b d q h = number_first h
first_kind Text b d q h = quote_kind b h.0
first_kind Sign b d q h = sign_kind (kind_of b) (contains_passes begins_sign signs (b ∷ d) all_begin h.0)

-- no token is empty
no_word : IsWord [] → ⊥
no_word h = elim h [ ]

no_number : IsNumber [] → ⊥
no_number h = elim h [ ]

pub some_bytes : (k : TokenKind) (q : List ℕ) → IsToken k [] q → ⊥
some_bytes Word q h = no_word h
some_bytes Number q h = no_number h
some_bytes Text q h = h
some_bytes Sign q h = let e : false ≡ true = contains_passes begins_sign signs [] all_begin h.0 in cc
