-- The stem of a name, seen from the name's end.
use Rattle.std.proofs.Common.{◌≡◌, ℕ, suc, ◌-◌, ◌≤◌, length, take, get_or, arith, List, [], ◌∷◌, ◌++◌, Bool, true, false, ◌&&◌, refl, sym, ◌∙◌, ap}
use Rattle.std.proofs.Math.Seq.{take-suc, take-length}
use Rattle.std.specs.Prelude.{if◌then◌else◌}
use Rattle.std.specs.Char.{is_ascii_digit}
use Rattle.std.specs.List.{list_all}
use Rattle.ab_print.specs.PrintedNames.{stem}

abbrev all_digits : List ℕ → Bool
all_digits = list_all is_ascii_digit

and_assoc : (a b c : Bool) → (a && (b && c)) ≡ ((a && b) && c)
and_assoc true b c = refl
and_assoc false b c = refl

and_true : (a : Bool) → (a && true) ≡ a
and_true true = refl
and_true false = refl

and_false : (a : Bool) → (a && false) ≡ false
and_false true = refl
and_false false = refl

all_with_digit : (xs : List ℕ) (d : ℕ) → is_ascii_digit d ≡ true → all_digits (xs ++ d ∷ []) ≡ all_digits xs
all_with_digit [] d h = ap (λ (w : Bool). w && true) h
all_with_digit (x ∷ xs) d h = ap (λ (w : Bool). is_ascii_digit x && w) (all_with_digit xs d h)

all_with_other : (xs : List ℕ) (d : ℕ) → is_ascii_digit d ≡ false → all_digits (xs ++ d ∷ []) ≡ false
all_with_other [] d h = ap (λ (w : Bool). w && true) h
all_with_other (x ∷ xs) d h = ap (λ (w : Bool). is_ascii_digit x && w) (all_with_other xs d h) ∙ and_false (is_ascii_digit x)

pub stem_digit : (xs : List ℕ) (d : ℕ) → is_ascii_digit d ≡ true → stem (xs ++ d ∷ []) ≡ stem xs
stem_digit [] d h = ap (λ (w : Bool). if (w && true) then [] else (d ∷ [])) h
stem_digit (x ∷ xs) d h =
    ap (λ (w : Bool). if (is_ascii_digit x && w) then [] else (x ∷ stem (xs ++ d ∷ []))) (all_with_digit xs d h)
    ∙ ap (λ (w : List ℕ). if (all_digits (x ∷ xs)) then [] else (x ∷ w)) (stem_digit xs d h)

pub stem_other : (xs : List ℕ) (d : ℕ) → is_ascii_digit d ≡ false → stem (xs ++ d ∷ []) ≡ xs ++ d ∷ []
stem_other [] d h = ap (λ (w : Bool). if (w && true) then [] else (d ∷ [])) h
stem_other (x ∷ xs) d h =
    ap (λ (w : Bool). if w then [] else (x ∷ stem (xs ++ d ∷ []))) (ap (λ (w : Bool). is_ascii_digit x && w) (all_with_other xs d h) ∙ and_false (is_ascii_digit x))
    ∙ ap (λ (w : List ℕ). x ∷ w) (stem_other xs d h)

at_end : (xs : List ℕ) → 1 ≤ length xs → xs ≡ take (length xs - 1) xs ++ get_or xs (length xs - 1) 0 ∷ []
at_end xs h =
    let e : take (suc (length xs - 1)) xs ≡ take (length xs - 1) xs ++ get_or xs (length xs - 1) 0 ∷ [] = take-suc xs (length xs - 1) 0 (omega arith) in
    let n : suc (length xs - 1) ≡ length xs = omega arith in
    sym (take-length xs) ∙ ap (λ (k : ℕ). take k xs) (sym n) ∙ e

pub stem_of_digit : (xs : List ℕ) → 1 ≤ length xs → is_ascii_digit (get_or xs (length xs - 1) 0) ≡ true → stem (take (length xs - 1) xs) ≡ stem xs
stem_of_digit xs h d = sym (ap stem (at_end xs h) ∙ stem_digit (take (length xs - 1) xs) (get_or xs (length xs - 1) 0) d)

pub stem_of_other : (xs : List ℕ) → 1 ≤ length xs → is_ascii_digit (get_or xs (length xs - 1) 0) ≡ false → stem xs ≡ xs
stem_of_other xs h d = ap stem (at_end xs h) ∙ stem_other (take (length xs - 1) xs) (get_or xs (length xs - 1) 0) d ∙ sym (at_end xs h)
