-- Each sequent is over some list of variables, each known by its place; and a new hypothesis of it finds a name.
use Rattle.std.specs.Prelude.{if◌then◌else◌, ◌==◌, AllPairs, Contains, slice_get, Option, Some, None, bytes_eq}
use Rattle.std.specs.Option.{IsSome}
use Rattle.std.proofs.Common.{◌≡◌, ◌≢◌, inl, inr, ℕ, zero, suc, ◌+◌, ◌<◌, List, [], ◌∷◌, length, true, false, refl, ◌∙◌, ap, subst, arith}
use Rattle.std.proofs.lemmas.Bool.{false_from_ne_true}
use Rattle.std.proofs.lemmas.List.Elements.{All-contains}
use Rattle.std.proofs.lemmas.Slice.Eq.{bytes_eq-Decides}
use Rattle.ab_term.specs.Types.{prop}
use Rattle.ab_term.specs.Terms.{Read}
use Rattle.ab_term.proofs.Lists.{Contains-none, Contains-cases, AllPairs-parts, All-from_contains}
use Rattle.ab_unifiers.specs.Replacements.{Cell}
use Rattle.ab_formulas.specs.Sequents.{Variable, Hypothesis, Sequent, named, IsUsed}
use Rattle.ab_theory.specs.Equations.{AreCells}
use Rattle.ab_theory.specs.Splits.{cell_for}

-- the variable of a number
abbrev cell_at : List Variable → ℕ → Cell (List ℕ)
cell_at [] n = record { hint = []; type = prop }
cell_at (x ∷ xs) n = if x.number == n then cell_for x else cell_at xs n

cell_is : (xs : List Variable) → AllPairs (λ (x y : Variable). x.number ≢ y.number) xs → (x : Variable) → Contains xs x → cell_at xs x.number ≡ cell_for x
cell_is [] d x c = absurd (Contains-none x c)
cell_is (z ∷ zs) d x c =
    let parts = AllPairs-parts (λ (x y : Variable). x.number ≢ y.number) z zs d in
    elim (Contains-cases z zs x c) [
      | inl e ↦ subst (λ (y : Variable). cell_at (z ∷ zs) y.number ≡ cell_for y) e (let same : (z.number == z.number) ≡ true = grind arith in rw same refl)
      | inr m ↦
          let apart = All-contains (λ (y : Variable). z.number ≢ y.number) zs x parts.0 m in
          let other : (z.number == x.number) ≡ false = grind arith in
          rw other (cell_is zs parts.1 x m)
    ]

-- those of so many numbers, from one on
abbrev cells_from : List Variable → ℕ → ℕ → List (Cell (List ℕ))
cells_from xs k zero = []
cells_from xs k (suc n) = cell_at xs k ∷ cells_from xs (suc k) n

found_from : (xs : List Variable) (k n i : ℕ) → i < n → slice_get (cells_from xs k n) i ≡ Some (cell_at xs (k + i))
found_from xs k zero i l = absurd (omega (arith, l))
found_from xs k (suc n) zero l = let here : k ≡ k + 0 = omega arith in ap (λ m. Some (cell_at xs m)) here
found_from xs k (suc n) (suc i) l =
    let there : suc k + i ≡ k + suc i = omega arith in
    found_from xs (suc k) n i (omega (arith, l)) ∙ ap (λ m. Some (cell_at xs m)) there

-- more than each of the numbers
abbrev above : List Variable → ℕ
above [] = 0
above (x ∷ xs) = x.number + (above xs + 1)

number_below : (xs : List Variable) (x : Variable) → Contains xs x → x.number < above xs
number_below [] x c = absurd (Contains-none x c)
number_below (z ∷ zs) x c = elim (Contains-cases z zs x c) [
  | inl e ↦ subst (λ (y : Variable). y.number < above (z ∷ zs)) e (omega arith)
  | inr m ↦ (let rest = number_below zs x m in omega (arith, rest))
]

pub some_cells : (s : Sequent) → AllPairs (λ (x y : Variable). x.number ≢ y.number) s.variables → (cells : List (Cell (List ℕ))) × AreCells cells s
some_cells s differ = (
  cells_from s.variables 0 (above s.variables),
  All-from_contains (λ (x : Variable). slice_get (cells_from s.variables 0 (above s.variables)) x.number ≡ Some (cell_for x)) s.variables
      (λ x there.
      let here : 0 + x.number ≡ x.number = omega arith in
      found_from s.variables 0 (above s.variables) x.number (number_below s.variables x there)
      ∙ ap (λ n. Some (cell_at s.variables n)) here
      ∙ ap Some (cell_is s.variables differ x there)),
)

-- A NAME that is longer than all
abbrev zeros : ℕ → List ℕ
zeros zero = []
zeros (suc n) = 0 ∷ zeros n

zeros_length : (n : ℕ) → length (zeros n) ≡ n
zeros_length zero = refl
zeros_length (suc n) = omega (arith, zeros_length n)

abbrev letters : List Hypothesis → ℕ
letters [] = 0
letters (h ∷ hs) = length h.name + letters hs

none_named : (hs : List Hypothesis) (n : ℕ) → letters hs < n → named hs (zeros n) ≡ None
none_named [] n l = refl
none_named (h ∷ hs) n l =
    let other : bytes_eq h.name (zeros n) ≡ false = false_from_ne_true (bytes_eq h.name (zeros n)) (λ e. omega (arith, l, ap length ((bytes_eq-Decides h.name (zeros n)).0 e), zeros_length n)) in
    ap (λ b. if b then Some h.formula else named hs (zeros n)) other ∙ none_named hs n (omega (arith, l))

none_some : (o : Option Read) → o ≡ None → IsSome o → ⊥
none_some None e h = absurd (cc)
none_some (Some F) e h = absurd (cc)

pub some_label : (s : Sequent) → (name : List ℕ) × (¬ IsUsed s name)
some_label s =
    let n = suc (letters s.hypotheses) in
    (zeros n, λ used. none_some (named s.hypotheses (zeros n)) (none_named s.hypotheses n (omega arith)) used)
