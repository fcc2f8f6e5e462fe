-- Words, numbers and signs are ASCII, so they are UTF-8.
use Rattle.std.proofs.Common.{◌≡◌, ◌<◌, ℕ, zero, suc, true, List, [], ◌∷◌, refl, arith}
use Rattle.std.specs.List.{list_all}
use Rattle.std.specs.Prelude.{nat_lt, Contains, IsUtf8}
use Rattle.std.specs.Str.{IsAscii}
use Rattle.std.specs.Char.{is_ascii_alphabetic, is_ascii_digit}
use Rattle.std.proofs.lemmas.Bool.{and_parts}
use Rattle.std.proofs.lemmas.Bool.Decides.{nat_tests}
use Rattle.std.proofs.lemmas.Str.{IsUtf8-from_ascii}
use Rattle.ab_lex.specs.Tokens.{is_word_byte, IsWordTail, ends, byte, joined, IsWord, alone, letters, IsNumber, last_digit, digit, signs}
use Rattle.ab_lex.proofs.FirstByte.{contains_passes}

no_bytes : IsAscii []
no_bytes i = omega arith

one_byte : (b : ℕ) (w : List ℕ) → b < 128 → IsAscii w → IsAscii (b ∷ w)
one_byte b w l h zero = l
one_byte b w l h (suc i) = h i

word_byte_small : (b : ℕ) → is_word_byte b ≡ true → b < 128
word_byte_small b h = grind (arith, nat_tests)

letter_small : (b : ℕ) → is_ascii_alphabetic b ≡ true → b < 128
letter_small b h = grind (arith, nat_tests)

digit_small : (b : ℕ) → is_ascii_digit b ≡ true → b < 128
digit_small b h = grind (arith, nat_tests)

tail_ascii : {w : List ℕ} → IsWordTail w → IsAscii w
tail_ascii ends = no_bytes
tail_ascii (byte {b = b} {w = w} h t) = one_byte b w (word_byte_small b h) (tail_ascii t)
tail_ascii (joined {b = b} {c = c} {w = w} e h t) = one_byte b (c ∷ w) (omega (arith, e)) (tail_ascii t)

pub word_is_ascii : {c : List ℕ} → IsWord c → IsAscii c
word_is_ascii (alone {b = b} e) = one_byte b [] (omega (arith, e)) no_bytes
word_is_ascii (letters {b = b} {w = w} h t) = one_byte b w (letter_small b h) (tail_ascii t)

pub number_is_ascii : {c : List ℕ} → IsNumber c → IsAscii c
number_is_ascii (last_digit {b = b} h) = one_byte b [] (digit_small b h) no_bytes
number_is_ascii (digit {b = b} {w = w} h t) = one_byte b w (digit_small b h) (number_is_ascii t)

all_small : (c : List ℕ) → list_all (λ b. nat_lt b 128) c ≡ true → IsAscii c
all_small [] h = no_bytes
all_small (b ∷ c) h =
    let p = and_parts (nat_lt b 128) (list_all (λ b. nat_lt b 128) c) h in
    let l : b < 128 = grind (arith, nat_tests, p.0) in
    one_byte b c l (all_small c p.1)

signs_small : list_all (λ c. list_all (λ b. nat_lt b 128) c) signs ≡ true
signs_small = refl

pub sign_is_ascii : (c : List ℕ) → Contains signs c → IsAscii c
sign_is_ascii c h = all_small c (contains_passes (λ c. list_all (λ b. nat_lt b 128) c) signs c signs_small h)

pub word_is_utf8 : {c : List ℕ} → IsWord c → IsUtf8 c
word_is_utf8 {c} h = IsUtf8-from_ascii c (word_is_ascii h)
