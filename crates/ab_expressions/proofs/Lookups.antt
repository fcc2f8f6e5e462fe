-- A loop over a table.
use Rattle.std.proofs.Common.{◌≡◌, ◌<◌, ◌+◌, ℕ, suc, Bool, true, false, List, ◌∷◌, length, map, drop, get_or, Some, sym, ◌∙◌, ap, bytes_eq, cond, add-one}
use Rattle.std.proofs.Math.Seq.{drop-cons}
use Rattle.ab_grammar.specs.CommandTable.{listed}

module _ {A B : Type 0} (f : B → List ℕ × A) (rows : List B) (x : List ℕ) (d : B) (i : ℕ) (within : i < length rows) where
  from_here : listed (map f (drop i rows)) x ≡ listed (f (get_or rows i d) ∷ map f (drop (suc i) rows)) x
  from_here = ap (λ (w : List B). listed (map f w) x) (drop-cons rows i d within)

  pub row_found : bytes_eq x ((f (get_or rows i d)).0) ≡ true → listed (map f (drop i rows)) x ≡ Some ((f (get_or rows i d)).1)
  row_found e = from_here ∙ ap (λ (b : Bool). cond b (Some ((f (get_or rows i d)).1)) (listed (map f (drop (suc i) rows)) x)) e

  pub row_passed : bytes_eq x ((f (get_or rows i d)).0) ≡ false → listed (map f (drop i rows)) x ≡ listed (map f (drop (i + 1) rows)) x
  row_passed e = from_here ∙ ap (λ (b : Bool). cond b (Some ((f (get_or rows i d)).1)) (listed (map f (drop (suc i) rows)) x)) e ∙ ap (λ n. listed (map f (drop n rows)) x) (sym (add-one i))
