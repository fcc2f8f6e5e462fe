-- Names, numbers and words: how pieces differ.
use Rattle.std.proofs.Common.{◌≡◌, ◌<◌, ◌^◌, ◌==◌, ◌||◌, ℕ, Bool, true, false, List, [], ◌∷◌, decimal, eqb, refl, sym, ap, ◌∙◌}
use Rattle.std.specs.Char.{is_ascii_alphabetic}
use Rattle.std.specs.Str.Parse.{digits_value}
use Rattle.std.proofs.lemmas.Bool.{eq-eqb}
use Rattle.std.proofs.lemmas.Fmt.{decimal_is_IsNumeral_wide}
use Rattle.ab_lex.specs.Tokens.{alone, letters}
use Rattle.ab_cert.specs.Pieces.{Pieces}
use Rattle.ab_cert.specs.Tables.{IsName, word, underscore_number, cons}

-- the bytes that a name begins with
abbrev pub begins_name : List ℕ → Bool
begins_name [] = false
begins_name (b ∷ x) = is_ascii_alphabetic b || ((b == 95) || (b == 58))

or_left : (a b : Bool) → a ≡ true → a || b ≡ true
or_left true b e = refl
or_left false b e = cc

pub name_begins : {x : List ℕ} → IsName x → begins_name x ≡ true
name_begins (word (alone {b = b} e)) = ap (λ c. is_ascii_alphabetic c || ((c == 95) || (c == 58))) e
name_begins (word (letters {b = b} h t)) = or_left (is_ascii_alphabetic b) ((b == 95) || (b == 58)) h
name_begins (underscore_number {b = b} e n) = ap (λ c. is_ascii_alphabetic c || ((c == 95) || (c == 58))) e
name_begins (cons e) = ap begins_name e

-- so a piece that begins otherwise is no name
pub no_name : (x p : List ℕ) → IsName x → begins_name p ≡ false → x ≡ p → ⊥
no_name x p h k e = let f : true ≡ false = sym (name_begins h) ∙ (ap begins_name e ∙ k) in cc

-- numbers that are written alike are equal
pub one_number : (m n : ℕ) → m < 10 ^ 64 → n < 10 ^ 64 → decimal m ≡ decimal n → m ≡ n
one_number m n h k e = sym (decimal_is_IsNumeral_wide m h).1 ∙ (ap (digits_value 10) e ∙ (decimal_is_IsNumeral_wide n k).1)

-- the byte that pieces begin with
abbrev pub first_byte : Pieces → ℕ
first_byte [] = 0
first_byte ([] ∷ ps) = 0
first_byte ((b ∷ p) ∷ ps) = b

-- pieces that begin with different bytes differ
pub unlike : (ps qs : Pieces) → eqb (first_byte ps) (first_byte qs) ≡ false → ps ≡ qs → ⊥
unlike ps qs h e = let f : true ≡ false = sym (eq-eqb (first_byte ps) (first_byte qs) (ap first_byte e)) ∙ h in cc

abbrev pub line_at_first : List Pieces → Pieces
line_at_first [] = []
line_at_first (l ∷ ls) = l

pub unlike_lines : (ls ms : List Pieces) → eqb (first_byte (line_at_first ls)) (first_byte (line_at_first ms)) ≡ false → ls ≡ ms → ⊥
unlike_lines ls ms h e = unlike (line_at_first ls) (line_at_first ms) h (ap line_at_first e)
