-- Three pieces that were appended one behind the other, where the last was.
use Rattle.std.specs.Prelude.{Result, Ok, Err, OnOk, is_ok}
use Rattle.std.proofs.Common.{◌≡◌, ℕ, List, ◌++◌, ◌∙◌, ap, append_assoc, if◌then◌else◌}

three_in_row : (o a b c x y z : List ℕ) → x ≡ o ++ a → y ≡ x ++ b → z ≡ y ++ c → z ≡ o ++ (a ++ b ++ c)
three_in_row o a b c x y z one two three =
    three
    ∙ ap (λ w. w ++ c) (two ∙ ap (λ w. w ++ b) one)
    ∙ ap (λ w. w ++ c) (append_assoc o a b)
    ∙ append_assoc o (a ++ b) c

pub third_appended : {T E : Type 0} (r : Result T E) (o a b c x y z : List ℕ) → x ≡ o ++ a → y ≡ x ++ b → z ≡ (if is_ok r then y ++ c else y) → OnOk r (z ≡ o ++ (a ++ b ++ c))
third_appended (Ok t) o a b c x y z one two three = three_in_row o a b c x y z one two three
third_appended (Err e) o a b c x y z one two three = tt
