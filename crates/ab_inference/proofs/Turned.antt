-- Lists with the last first.
use Rattle.std.specs.List.{All}
use Rattle.std.proofs.Common.{◌≡◌, ℕ, zero, suc, ◌<◌, ◌≤◌, ◌∷◌, [], ◌++◌, List, length, drop, get_or, Option, Some, None, refl, sym, ap, ◌∙◌, arith, subst}
use Rattle.std.specs.Prelude.{MatchOption, option_to_list}
use Rattle.ab_inference.specs.Inferences.{turned}

pub turned_last : (xs : List ℕ) (x : ℕ) → turned (xs ++ x ∷ []) ≡ x ∷ turned xs
turned_last [] x = refl
turned_last (y ∷ xs) x = ap (λ ys. ys ++ y ∷ []) (turned_last xs x)

none_left : (xs : List ℕ) → length xs ≡ 0 → turned xs ≡ []
none_left [] l = refl
none_left (x ∷ xs) l = absurd (omega arith)

pub turned_pop : (popped : Option ℕ) (all rest : List ℕ) → all ≡ rest ++ option_to_list popped → (popped ≡ None → length all ≡ 0) → MatchOption popped (turned all ≡ []) (λ x. turned all ≡ x ∷ turned rest)
turned_pop None all rest e h = none_left all (h refl)
turned_pop (Some x) all rest e h = ap turned e ∙ turned_last rest x

-- the step at i, and those behind it
pub from_here : {X : Type 0} (xs : List X) (i : ℕ) (x : X) → i < length xs → x ≡ get_or xs i x → drop i xs ≡ x ∷ drop (suc i) xs
from_here [] i x l e = absurd (omega arith)
from_here (y ∷ xs) zero x l e = ap (λ z. z ∷ xs) (sym e)
from_here (y ∷ xs) (suc i) x l e = from_here xs i x (omega arith) e

pub all_at : {X : Type 0} (P : X → Type 0) (xs : List X) (i : ℕ) (x : X) → i < length xs → x ≡ get_or xs i x → All P xs → P x
all_at P xs i x l e h = subst P (sym e) (h i x l)

pub nothing_behind : {X : Type 0} (xs : List X) (i : ℕ) → length xs ≤ i → drop i xs ≡ []
nothing_behind [] zero l = refl
nothing_behind [] (suc i) l = refl
nothing_behind (x ∷ xs) zero l = absurd (omega arith)
nothing_behind (x ∷ xs) (suc i) l = nothing_behind xs i (omega arith)
