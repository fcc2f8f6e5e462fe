-- A nominal name is known by its number.
use Rattle.std.specs.Prelude.{if◌then◌else◌, nat_le, ◌&&◌, not, decimal}
use Rattle.std.specs.List.{list_all}
use Rattle.std.specs.Char.{is_ascii_digit}
use Rattle.std.specs.Str.Parse.{digits_value}
use Rattle.std.proofs.Common.{◌≡◌, ◌≢◌, ◌==◌, ◌≤◌, ℕ, List, [], ◌∷◌, length, Bool, true, false, Some, None, refl, sym, ◌∙◌, ap, arith, rules}
use Rattle.std.proofs.lemmas.Str.Parse.{IsNumeralModel, numerals_by_value, digits_value_short}
use Rattle.std.proofs.lemmas.Fmt.{decimal-digits_value}
use Rattle.ab_meaning.specs.ResolvedNames.{Name}
use Rattle.ab_meaning.specs.Scopes.{is_number, nominal_number}

abbrev AreDigits : List ℕ → Type 0
AreDigits w = list_all is_ascii_digit w ≡ true

numeral : IsNumeralModel AreDigits (digits_value 10)
numeral = numerals_by_value AreDigits (search rules)

-- the digits of a number are those that write it
digits_are : (ds : List ℕ) → is_number ds ≡ true → decimal (digits_value 10 ds) ≡ ds
digits_are [] e = let bad : false ≡ true = e in absurd (cc)
digits_are (d ∷ ds) e = go (d == 48) (nat_le (length ds) 8) (list_all is_ascii_digit (d ∷ ds)) refl refl refl e
  where
    go : (a b c : Bool) → (d == 48) ≡ a → nat_le (length ds) 8 ≡ b → list_all is_ascii_digit (d ∷ ds) ≡ c → (not a && (b && c)) ≡ true
        → decimal (digits_value 10 (d ∷ ds)) ≡ d ∷ ds
    go true b c p q r e = let bad : false ≡ true = e in absurd (cc)
    go false false c p q r e = let bad : false ≡ true = e in absurd (cc)
    go false true false p q r e = let bad : false ≡ true = e in absurd (cc)
    go false true true p q r e =
        let no_zero : d ≢ 48 = grind arith in
        let short : length ds ≤ 8 = grind arith in
        let small = digits_value_short numeral (d ∷ ds) 9 r (omega (arith, short)) in
        decimal-digits_value numeral (d ∷ ds) r (omega arith) (λ z. absurd (no_zero z)) (omega (arith, small))

-- a nominal name is written by its number
written_by : (x : Name) (n : ℕ) → nominal_number x ≡ Some n → x ≡ 110 ∷ decimal n
written_by [] n e = let bad : None ≡ Some n = e in absurd (cc)
written_by (c ∷ ds) n e = go (c == 110) (is_number ds) refl refl e
  where
    go : (a b : Bool) → (c == 110) ≡ a → is_number ds ≡ b → (if a && b then Some (digits_value 10 ds) else None) ≡ Some n → c ∷ ds ≡ 110 ∷ decimal n
    go true true p q e =
        let first : c ≡ 110 = grind arith in
        let number : digits_value 10 ds ≡ n = cc in
        ap (λ b. b ∷ ds) first ∙ ap (λ w. 110 ∷ w) (sym (digits_are ds q) ∙ ap decimal number)
    go true false p q e = let bad : None ≡ Some n = e in absurd (cc)
    go false b p q e = let bad : None ≡ Some n = e in absurd (cc)

-- two nominal names of one number are one
pub same_name : (x y : Name) (n : ℕ) → nominal_number x ≡ Some n → nominal_number y ≡ Some n → x ≡ y
same_name x y n e f = written_by x n e ∙ sym (written_by y n f)
