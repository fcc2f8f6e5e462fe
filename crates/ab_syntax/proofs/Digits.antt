-- Digits and the numbers that they write.
use Rattle.std.proofs.Common.{◌≡◌, ◌<◌, ◌+◌, ◌-◌, ◌*◌, ◌^◌, ℕ, true, List, [], ◌∷◌, length, get_or, take, refl, sym, ◌∙◌, ap, subst, decimal, arith, rules}
use Rattle.std.specs.List.{list_all}
use Rattle.std.specs.Char.{is_ascii_digit, digit_value}
use Rattle.std.specs.Int.{IsInRange}
use Rattle.std.specs.Str.Parse.{digits_value}
use Rattle.std.specs.Prelude.{slice_range}
use Rattle.std.proofs.lemmas.Str.Parse.{IsNumeralModel, numerals_by_value, digits_value_short, digits_value-take-le, digit_at}
use Rattle.std.proofs.lemmas.Int.Digits.{digits_value_more}
use Rattle.std.proofs.lemmas.Fmt.{decimal-digits_value, length-decimal-le, first_decimal, digits_decimal, decimal_nonempty}
use Rattle.std.proofs.lemmas.Grind.{common_steps}
use Rattle.ab_grammar.specs.CommandTable.{IsNominal}
use Rattle.ab_expressions.specs.Digits.{IsShort, IsPositive, HasNominalForm}

abbrev pub AreDigits : List ℕ → Type 0
AreDigits w = list_all is_ascii_digit w ≡ true

pub numeral : IsNumeralModel AreDigits (digits_value 10)
numeral = numerals_by_value AreDigits (search rules)

pub short_value : (w : List ℕ) → IsShort w → digits_value 10 w < 10 ^ 9
short_value w h = digits_value_short numeral w 9 (h.0) (h.1)

pub digit_in : (w : List ℕ) (i : ℕ) → AreDigits w → i < length w → IsInRange 48 57 (get_or w i 0)
digit_in w i h k = digit_at w i (numeral.to w h) k

pub value_so_far : (w : List ℕ) (i : ℕ) → IsShort w → digits_value 10 (take i w) < 10 ^ 9
value_so_far w i h = omega (arith, digits_value-take-le 10 w i (omega arith), short_value w h)

pub value_step : (w : List ℕ) (i : ℕ) → AreDigits w → i < length w → digits_value 10 (take (i + 1) w) ≡ digits_value 10 (take i w) * 10 + (get_or w i 0 - 48)
value_step w i h k =
    let e = digits_value_more 10 w i k in
    let d = digit_in w i h k in
    let v : digit_value (get_or w i 0) ≡ get_or w i 0 - 48 = grind (arith, common_steps) in
    e ∙ ap (λ n. digits_value 10 (take i w) * 10 + n) v

pub value_above : (w : List ℕ) → IsPositive w → 0 < digits_value 10 w
value_above w h =
    let e = value_step w 0 (h.0.0) (h.1) in
    let d = digit_in w 0 (h.0.0) (h.1) in
    let zero_first : digits_value 10 (take 0 w) ≡ 0 = refl in
    omega (arith, e, d, zero_first, h.2, digits_value-take-le 10 w (0 + 1) (omega arith))

-- the number of a nominal name
pub nominal_read : (w : List ℕ) → IsPositive w → IsNominal (110 ∷ w) (digits_value 10 w)
nominal_read w h = (ap (λ (v : List ℕ). 110 ∷ v) (sym (decimal-digits_value numeral w (h.0.0) (h.1) (λ e. absurd (h.2 e)) (omega (arith, short_value w (h.0))))), value_above w h, omega (arith, short_value w (h.0)))

first_byte : (x : List ℕ) → 1 < length x → get_or x 0 0 ≡ 110 → x ≡ 110 ∷ slice_range x 1 (length x)
first_byte [] h e = absurd (omega arith)
first_byte (b ∷ w) h e = grind (arith, common_steps)

pub nominal_is : (x : List ℕ) → HasNominalForm x → IsNominal x (digits_value 10 (slice_range x 1 (length x)))
nominal_is x h = subst (λ (v : List ℕ). IsNominal v (digits_value 10 (slice_range x 1 (length x)))) (sym (first_byte x (h.0) (h.1))) (nominal_read (slice_range x 1 (length x)) (h.2))

all_behind : (w : List ℕ) → slice_range (110 ∷ w) 1 (length (110 ∷ w)) ≡ w
all_behind w = grind (arith, common_steps)

rest_of : (x w : List ℕ) → x ≡ 110 ∷ w → slice_range x 1 (length x) ≡ w
rest_of x w e = ap (λ (v : List ℕ). slice_range v 1 (length v)) e ∙ all_behind w

pub nominal_form : (x : List ℕ) (n : ℕ) → IsNominal x n → HasNominalForm x
nominal_form x n h =
    let small : n < 2 ^ 64 = omega (arith, h.2) in
    let some = decimal_nonempty n small in
    let positive : IsPositive (decimal n) = ((digits_decimal numeral n small, length-decimal-le 9 n (omega arith) (omega (arith, h.2)) small), some, λ e. absurd (omega (arith, first_decimal n (h.1) small))) in
    (omega (arith, ap length (h.0)), ap (λ (v : List ℕ). get_or v 0 0) (h.0), subst IsPositive (sym (rest_of x (decimal n) (h.0))) positive)
