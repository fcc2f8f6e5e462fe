-- Each goal is over some list of variables, each known by its place.
use Rattle.std.specs.Prelude.{if◌then◌else◌, ◌==◌, AllPairs, Contains, slice_get, Some}
use Rattle.std.proofs.Common.{◌≡◌, ◌≢◌, inl, inr, ℕ, zero, suc, ◌+◌, ◌<◌, List, [], ◌∷◌, true, false, refl, ◌∙◌, ap, subst, arith}
use Rattle.std.proofs.lemmas.List.Elements.{All-contains}
use Rattle.ab_term.specs.Types.{prop}
use Rattle.ab_term.proofs.Lists.{Contains-none, Contains-cases, AllPairs-parts, All-from_contains}
use Rattle.ab_unifiers.specs.Replacements.{Cell}
use Rattle.ab_formulas.specs.Sequents.{Variable, Sequent}
use Rattle.ab_theory.specs.Equations.{AreCells}
use Rattle.ab_theory.specs.Splits.{cell_for}

abbrev pub NumbersDiffer : List Variable → Type 0
NumbersDiffer = AllPairs (λ (x y : Variable). x.number ≢ y.number)

-- the variable of a number
abbrev cell_at : List Variable → ℕ → Cell (List ℕ)
cell_at [] n = record { hint = []; type = prop }
cell_at (x ∷ xs) n = if x.number == n then cell_for x else cell_at xs n

cell_is : (xs : List Variable) → NumbersDiffer xs → (x : Variable) → Contains xs x → cell_at xs x.number ≡ cell_for x
cell_is [] d x c = absurd (Contains-none x c)
cell_is (z ∷ zs) d x c =
    let parts = AllPairs-parts (λ (x y : Variable). x.number ≢ y.number) z zs d in
    elim (Contains-cases z zs x c) [
      | inl e ↦ subst (λ (y : Variable). cell_at (z ∷ zs) y.number ≡ cell_for y) e (let same : (z.number == z.number) ≡ true = grind arith in rw same refl)
      | inr m ↦
          let apart = All-contains (λ (y : Variable). z.number ≢ y.number) zs x parts.0 m in
          let other : (z.number == x.number) ≡ false = grind arith in
          rw other (cell_is zs parts.1 x m)
    ]

-- those of so many numbers, from one on
abbrev cells_from : List Variable → ℕ → ℕ → List (Cell (List ℕ))
cells_from xs k zero = []
cells_from xs k (suc n) = cell_at xs k ∷ cells_from xs (suc k) n

found_from : (xs : List Variable) (k n i : ℕ) → i < n → slice_get (cells_from xs k n) i ≡ Some (cell_at xs (k + i))
found_from xs k zero i l = absurd (omega (arith, l))
found_from xs k (suc n) zero l = let here : k ≡ k + 0 = omega arith in ap (λ m. Some (cell_at xs m)) here
found_from xs k (suc n) (suc i) l =
    let there : suc k + i ≡ k + suc i = omega arith in
    found_from xs (suc k) n i (omega (arith, l)) ∙ ap (λ m. Some (cell_at xs m)) there

-- more than each of the numbers
abbrev above : List Variable → ℕ
above [] = 0
above (x ∷ xs) = x.number + (above xs + 1)

number_below : (xs : List Variable) (x : Variable) → Contains xs x → x.number < above xs
number_below [] x c = absurd (Contains-none x c)
number_below (z ∷ zs) x c =
    elim (Contains-cases z zs x c) [
      | inl e ↦ subst (λ (y : Variable). y.number < above (z ∷ zs)) e (omega arith)
      | inr m ↦ (let rest = number_below zs x m in omega (arith, rest))
    ]

abbrev pub places_of : Sequent → List (Cell (List ℕ))
places_of s = cells_from s.variables 0 (above s.variables)

pub are_places : (s : Sequent) → NumbersDiffer s.variables → AreCells (places_of s) s
are_places s differ =
    All-from_contains (λ (x : Variable). slice_get (places_of s) x.number ≡ Some (cell_for x)) s.variables
    (λ x there.
    let here : 0 + x.number ≡ x.number = omega arith in
    found_from s.variables 0 (above s.variables) x.number (number_below s.variables x there)
    ∙ ap (λ n. Some (cell_at s.variables n)) here
    ∙ ap Some (cell_is s.variables differ x there))
