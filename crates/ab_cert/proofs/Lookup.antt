-- Loops over a table.
use Rattle.std.proofs.Common.{◌≡◌, ◌<◌, ◌+◌, ℕ, suc, Bool, true, false, List, ◌∷◌, length, map, take, drop, get_or, Some, sym, ◌∙◌, ap, bytes_eq, add-one}
use Rattle.std.specs.Prelude.{if◌then◌else◌}
use Rattle.std.proofs.Math.Seq.{drop-cons}
use Rattle.ab_cert.specs.Tables.{value_at}
use Rattle.ab_cert.specs.Grammar.{is_front}

module _ {A B : Type 0} (f : B → List ℕ × A) (rows : List B) (x : List ℕ) (d : B) (i : ℕ) (within : i < length rows) where
  found_from : value_at (map f (drop i rows)) x ≡ value_at (f (get_or rows i d) ∷ map f (drop (suc i) rows)) x
  found_from = ap (λ (w : List B). value_at (map f w) x) (drop-cons rows i d within)

  pub row_found : bytes_eq ((f (get_or rows i d)).0) x ≡ true → value_at (map f (drop i rows)) x ≡ Some ((f (get_or rows i d)).1)
  row_found e = found_from ∙ ap (λ (b : Bool). if b then Some ((f (get_or rows i d)).1) else value_at (map f (drop (suc i) rows)) x) e

  pub row_passed : bytes_eq ((f (get_or rows i d)).0) x ≡ false → value_at (map f (drop i rows)) x ≡ value_at (map f (drop (i + 1) rows)) x
  row_passed e = found_from ∙ (ap (λ (b : Bool). if b then Some ((f (get_or rows i d)).1) else value_at (map f (drop (suc i) rows)) x) e ∙ ap (λ n. value_at (map f (drop n rows)) x) (sym (add-one i)))

  front_from : is_front (map f (drop i rows)) x ≡ is_front (f (get_or rows i d) ∷ map f (drop (suc i) rows)) x
  front_from = ap (λ (w : List B). is_front (map f w) x) (drop-cons rows i d within)

  pub front_here : bytes_eq x (take (length x) ((f (get_or rows i d)).0)) ≡ true → is_front (map f (drop i rows)) x ≡ true
  front_here e = front_from ∙ ap (λ (b : Bool). if b then true else is_front (map f (drop (suc i) rows)) x) e

  pub front_passed : bytes_eq x (take (length x) ((f (get_or rows i d)).0)) ≡ false → is_front (map f (drop i rows)) x ≡ is_front (map f (drop (i + 1) rows)) x
  front_passed e = front_from ∙ (ap (λ (b : Bool). if b then true else is_front (map f (drop (suc i) rows)) x) e ∙ ap (λ n. is_front (map f (drop n rows)) x) (sym (add-one i)))
