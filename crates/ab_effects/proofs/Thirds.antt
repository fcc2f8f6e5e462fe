-- A third numbering for two goals that are the same with names for numbers: each variable of the goal gets its place,
-- and behind them stand the cells of both.
use Rattle.std.proofs.Common.{◌≡◌, ◌≢◌, ◌⊎◌, inl, inr, ℕ, zero, suc, ◌+◌, ◌-◌, ◌≤◌, List, [], ◌∷◌, map, length, Bool, true, false, Option, Some, None, refl, sym, ◌∙◌, ap, subst, arith}
use Rattle.std.specs.Prelude.{if◌then◌else◌, ◌==◌, slice_get, bytes_eq, All, AllPairs, Contains}
use Rattle.std.proofs.lemmas.Bool.{eqb-true, false_from_ne_true}
use Rattle.std.proofs.lemmas.List.Elements.{All-head, All-tail, All-contains}
use Rattle.std.proofs.lemmas.Option.{slice_get_within, slice_get_past}
use Rattle.std.proofs.lemmas.Slice.Eq.{bytes_eq-Decides}
use Rattle.std.specs.Cmp.{unsigned_Decides}
use Rattle.ab_term.specs.Terms as tree
use Rattle.ab_term.specs.Translation.{translate}
use Rattle.ab_term.specs.Variables.{variables}
use Rattle.ab_term.proofs.Lists.{Contains-none, Contains-cases, AllPairs-parts}
use Rattle.ab_term.specs.Terms.{Read}
use Rattle.ab_unifiers.specs.Replacements.{Cell}
use Rattle.ab_formulas.specs.Sequents.{Variable, in_terms, HoldsOnly}
use Rattle.ab_formulas.specs.NamedGoals.{name_in, with_names, variable_named}
use Rattle.ab_formulas.proofs.GoalsAgreeing.{translate_agrees}
use Rattle.ab_unifiers.specs.Renumbering.{renumbered, IsRenumbering}
use Rattle.ab_effects.proofs.Renumbered.{translate_twice, moved_variable}

abbrev pub cell_of : Variable → Cell (List ℕ)
cell_of x = record { hint = x.name; type = x.type }

-- ONE LIST

module _ {X : Type 0} where
  pub at_all : (P : X → Type 0) (xs : List X) (k : ℕ) (x : X) → slice_get xs k ≡ Some x → All P xs → P x
  at_all P [] k x e all = absurd (cc)
  at_all P (y ∷ ys) zero x e all =
      let same : y ≡ x = cc in
      subst P same (All-head P y ys all)
  at_all P (y ∷ ys) (suc k) x e all = at_all P ys k x e (All-tail P y ys all)

-- the place of the number in the list, from i on, or else d
abbrev pub place_or : List Variable → ℕ → ℕ → ℕ → ℕ
place_or [] i j d = d
place_or (x ∷ xs) i j d = if (x.number == j) then i else place_or xs (i + 1) j d

abbrev Placed : List Variable → ℕ → ℕ → ℕ → Type 0
Placed xs i j d = ((k : ℕ) × (x : Variable) × (slice_get xs k ≡ Some x) × (x.number ≡ j) × (place_or xs i j d ≡ i + k)) ⊎ (place_or xs i j d ≡ d)

placed : (xs : List Variable) (i j d : ℕ) → Placed xs i j d
placed [] i j d = inr refl
placed (x ∷ xs) i j d = go (x.number == j) refl (placed xs (i + 1) j d)
  where
    go : (b : Bool) → (x.number == j) ≡ b → Placed xs (i + 1) j d → Placed (x ∷ xs) i j d
    go true e w =
        let here : i ≡ i + 0 = omega arith in
        inl (0, x, refl, eqb-true x.number j e, ap (λ b. if b then i else place_or xs (i + 1) j d) e ∙ here)
    go false e (inl w) =
        let there : i + 1 + w.0 ≡ i + suc w.0 = omega arith in
        inl (suc w.0, w.1, w.2, w.3, ap (λ b. if b then i else place_or xs (i + 1) j d) e ∙ w.4 ∙ there)
    go false e (inr w) = inr (ap (λ b. if b then i else place_or xs (i + 1) j d) e ∙ w)

other_number : (x y : Variable) → x.number ≢ y.number → (x.number == y.number) ≡ false
other_number x y ne = false_from_ne_true (x.number == y.number) (λ e. ne (eqb-true x.number y.number e))

same_number_is : (n : ℕ) → (n == n) ≡ true
same_number_is n = (unsigned_Decides n n).1 refl

abbrev NumbersDiffer : List Variable → Type 0
NumbersDiffer xs = AllPairs (λ (x y : Variable). x.number ≢ y.number) xs

abbrev NamesDiffer : List Variable → Type 0
NamesDiffer xs = AllPairs (λ (x y : Variable). x.name ≢ y.name) xs

-- a variable that stands at k has the place k
place_at : (xs : List Variable) (i k d : ℕ) (x : Variable) → NumbersDiffer xs → slice_get xs k ≡ Some x → place_or xs i x.number d ≡ i + k
place_at [] i k d x differ e = absurd (cc)
place_at (y ∷ ys) i zero d x differ e =
    let same : y ≡ x = cc in
    let number : (y.number == x.number) ≡ true = ap (λ (v : Variable). v.number == x.number) same ∙ same_number_is x.number in
    let here : i ≡ i + zero = omega arith in
    ap (λ b. if b then i else place_or ys (i + 1) x.number d) number ∙ here
place_at (y ∷ ys) i (suc k) d x differ e =
    let parts = AllPairs-parts (λ (x y : Variable). x.number ≢ y.number) y ys differ in
    let other = other_number y x (at_all (λ (z : Variable). y.number ≢ z.number) ys k x e parts.0) in
    let there : i + 1 + k ≡ i + suc k = omega arith in
    ap (λ b. if b then i else place_or ys (i + 1) x.number d) other ∙ place_at ys (i + 1) k d x parts.1 e ∙ there

name_at : (xs : List Variable) (k : ℕ) (x : Variable) → NumbersDiffer xs → slice_get xs k ≡ Some x → name_in xs x.number ≡ x.name
name_at [] k x differ e = absurd (cc)
name_at (y ∷ ys) zero x differ e =
    let same : y ≡ x = cc in
    let number : (y.number == x.number) ≡ true = ap (λ (v : Variable). v.number == x.number) same ∙ same_number_is x.number in
    ap (λ b. if b then y.name else name_in ys x.number) number ∙ ap (λ (v : Variable). v.name) same
name_at (y ∷ ys) (suc k) x differ e =
    let parts = AllPairs-parts (λ (x y : Variable). x.number ≢ y.number) y ys differ in
    let other = other_number y x (at_all (λ (z : Variable). y.number ≢ z.number) ys k x e parts.0) in
    ap (λ b. if b then y.name else name_in ys x.number) other ∙ name_at ys k x parts.1 e

-- the place of the name
abbrev pub named_place : List (tree.Variable (List ℕ)) → ℕ → List ℕ → ℕ
named_place [] i name = 0
named_place (v ∷ vs) i name = if bytes_eq v.name name then i else named_place vs (i + 1) name

named_place_at : (xs : List Variable) (i k : ℕ) (x : Variable) → NamesDiffer xs → slice_get xs k ≡ Some x → named_place (map variable_named xs) i x.name ≡ i + k
named_place_at [] i k x differ e = absurd (cc)
named_place_at (y ∷ ys) i zero x differ e =
    let same : y ≡ x = cc in
    let name : bytes_eq y.name x.name ≡ true = (bytes_eq-Decides y.name x.name).1 (ap (λ (v : Variable). v.name) same) in
    let here : i ≡ i + zero = omega arith in
    ap (λ b. if b then i else named_place (map variable_named ys) (i + 1) x.name) name ∙ here
named_place_at (y ∷ ys) i (suc k) x differ e =
    let parts = AllPairs-parts (λ (x y : Variable). x.name ≢ y.name) y ys differ in
    let ne = at_all (λ (z : Variable). y.name ≢ z.name) ys k x e parts.0 in
    let other : bytes_eq y.name x.name ≡ false = false_from_ne_true (bytes_eq y.name x.name) (λ t. ne ((bytes_eq-Decides y.name x.name).0 t)) in
    let there : i + 1 + k ≡ i + suc k = omega arith in
    ap (λ b. if b then i else named_place (map variable_named ys) (i + 1) x.name) other ∙ named_place_at ys (i + 1) k x parts.1 e ∙ there

stands_at : (xs : List Variable) (y : tree.Variable ℕ) → Contains (map in_terms xs) y → (k : ℕ) × (x : Variable) × (slice_get xs k ≡ Some x) × (in_terms x ≡ y)
stands_at [] y c = absurd (Contains-none y c)
stands_at (x ∷ xs) y c = go (λ d. stands_at xs y d) (Contains-cases (in_terms x) (map in_terms xs) y c)
  where
    go : (Contains (map in_terms xs) y → (k : ℕ) × (z : Variable) × (slice_get xs k ≡ Some z) × (in_terms z ≡ y)) → (in_terms x ≡ y) ⊎ Contains (map in_terms xs) y
        → (k : ℕ) × (z : Variable) × (slice_get (x ∷ xs) k ≡ Some z) × (in_terms z ≡ y)
    go rest (inl e) = (0, x, refl, e)
    go rest (inr d) = let w = rest d in (suc w.0, w.1, w.2, w.3)

-- the variables, numbered by their places
abbrev pub indexed : ℕ → List (tree.Variable (List ℕ)) → List Variable
indexed i [] = []
indexed i (v ∷ vs) = record { number = i; type = v.type; name = v.name } ∷ indexed (i + 1) vs

indexed_moved : (f : ℕ → ℕ) (xs : List Variable) (i : ℕ) → ((k : ℕ) (x : Variable) → slice_get xs k ≡ Some x → f x.number ≡ i + k) → map (moved_variable f) xs ≡ indexed i (map variable_named xs)
indexed_moved f [] i at = refl
indexed_moved f (x ∷ xs) i at =
    let here : i + 0 ≡ i = omega arith in
    ap (λ n. record { number = n; type = x.type; name = x.name } ∷ map (moved_variable f) xs) (at 0 x refl ∙ here)
    ∙ ap (λ l. record { number = i; type = x.type; name = x.name } ∷ l) (indexed_moved f xs (i + 1) (λ k z e. let there : i + suc k ≡ i + 1 + k = omega arith in at (suc k) z e ∙ there))

-- A NUMBERING BY PLACES

by_cell : ℕ → ℕ → ℕ → Option (Cell (List ℕ)) → ℕ → ℕ
by_cell start behind n (Some c) j = start + j
by_cell start behind n None j = behind + (j - n)

-- the variables get their places, what else is a cell its number from `start` on, and all other numbers go on behind
pub by_place : List Variable → List (Cell (List ℕ)) → ℕ → ℕ → ℕ → ℕ
by_place xs cells start behind j = place_or xs 0 j (by_cell start behind (length cells) (slice_get cells j) j)

module _ (xs : List Variable) (cells third : List (Cell (List ℕ))) (start : ℕ) where
  abbrev f : ℕ → ℕ
  f = by_place xs cells start (length third)

  data Stands (j : ℕ) : Type 0 where
    listed : (k : ℕ) (x : Variable) → slice_get xs k ≡ Some x → x.number ≡ j → f j ≡ k → Stands j
    kept : (c : Cell (List ℕ)) → slice_get cells j ≡ Some c → f j ≡ start + j → Stands j
    fresh : length cells ≤ j → f j ≡ length third + (j - length cells) → Stands j

  outside : (cs : List (Cell (List ℕ))) (i : ℕ) → slice_get cs i ≡ None → length cs ≤ i
  outside [] i e = omega arith
  outside (c ∷ cs) zero e = absurd (cc)
  outside (c ∷ cs) (suc i) e = omega (arith, outside cs i e)

  place_is : (j : ℕ) → f j ≡ place_or xs 0 j (by_cell start (length third) (length cells) (slice_get cells j) j)
  unfolding by_place
  place_is j = refl

  by_some : (c : Cell (List ℕ)) (j : ℕ) → by_cell start (length third) (length cells) (Some c) j ≡ start + j
  unfolding by_cell
  by_some c j = refl

  by_none : (j : ℕ) → by_cell start (length third) (length cells) None j ≡ length third + (j - length cells)
  unfolding by_cell
  by_none j = refl

  stands : (j : ℕ) → Stands j
  stands j = go (placed xs 0 j (by_cell start (length third) (length cells) (slice_get cells j) j))
    where
      behind : (o : Option (Cell (List ℕ))) → slice_get cells j ≡ o → place_or xs 0 j (by_cell start (length third) (length cells) (slice_get cells j) j) ≡ by_cell start (length third) (length cells) (slice_get cells j) j → Stands j
      behind (Some c) e w = kept c e (place_is j ∙ w ∙ ap (λ o. by_cell start (length third) (length cells) o j) e ∙ by_some c j)
      behind None e w = fresh (outside cells j e) (place_is j ∙ w ∙ ap (λ o. by_cell start (length third) (length cells) o j) e ∙ by_none j)

      go : Placed xs 0 j (by_cell start (length third) (length cells) (slice_get cells j) j) → Stands j
      go (inl w) = let here : 0 + w.0 ≡ w.0 = omega arith in listed w.0 w.1 w.2 w.3 (place_is j ∙ w.4 ∙ here)
      go (inr w) = behind (slice_get cells j) refl w

  module _ (are : All (λ (x : Variable). slice_get cells x.number ≡ Some (cell_of x)) xs)
      (low : length xs ≤ start) (high : start + length cells ≤ length third)
      (listed_cells : (k : ℕ) (x : Variable) → slice_get xs k ≡ Some x → slice_get third k ≡ Some (cell_of x))
      (kept_cells : (i : ℕ) (c : Cell (List ℕ)) → slice_get cells i ≡ Some c → slice_get third (start + i) ≡ Some c) where
    different : (i j : ℕ) → Stands i → Stands j → f i ≡ f j → i ≡ j
    different i j (listed k x a n p) (listed l y b m q) e =
        let place : k ≡ l = sym p ∙ e ∙ q in
        let both : Some x ≡ Some y = sym a ∙ ap (slice_get xs) place ∙ b in
        let one : x ≡ y = cc in
        sym n ∙ ap (λ (v : Variable). v.number) one ∙ m
    different i j (listed k x a n p) (kept c b q) e =
        let within = slice_get_within xs k x a in
        let place : k ≡ start + j = sym p ∙ e ∙ q in
        absurd (omega (arith, within, place, low))
    different i j (listed k x a n p) (fresh b q) e =
        let within = slice_get_within xs k x a in
        let place : k ≡ length third + (j - length cells) = sym p ∙ e ∙ q in
        absurd (omega (arith, within, place, low, high))
    different i j (kept c a p) (listed l y b m q) e =
        let within = slice_get_within xs l y b in
        let place : start + i ≡ l = sym p ∙ e ∙ q in
        absurd (omega (arith, within, place, low))
    different i j (kept c a p) (kept d b q) e =
        let place : start + i ≡ start + j = sym p ∙ e ∙ q in
        omega (arith, place)
    different i j (kept c a p) (fresh b q) e =
        let within = slice_get_within cells i c a in
        let place : start + i ≡ length third + (j - length cells) = sym p ∙ e ∙ q in
        absurd (omega (arith, within, place, high))
    different i j (fresh a p) (listed l y b m q) e =
        let within = slice_get_within xs l y b in
        let place : length third + (i - length cells) ≡ l = sym p ∙ e ∙ q in
        absurd (omega (arith, within, place, low, high))
    different i j (fresh a p) (kept d b q) e =
        let within = slice_get_within cells j d b in
        let place : length third + (i - length cells) ≡ start + j = sym p ∙ e ∙ q in
        absurd (omega (arith, within, place, high))
    different i j (fresh a p) (fresh b q) e =
        let place : length third + (i - length cells) ≡ length third + (j - length cells) = sym p ∙ e ∙ q in
        omega (arith, place, a, b)

    same_cell : (i : ℕ) → Stands i → slice_get third (f i) ≡ slice_get cells i
    same_cell i (listed k x a n p) =
        ap (slice_get third) p ∙ listed_cells k x a ∙ sym (at_all (λ (y : Variable). slice_get cells y.number ≡ Some (cell_of y)) xs k x a are) ∙ ap (slice_get cells) n
    same_cell i (kept c a p) = ap (slice_get third) p ∙ kept_cells i c a ∙ sym a
    same_cell i (fresh a p) = ap (slice_get third) p ∙ slice_get_past third (length third + (i - length cells)) (omega arith) ∙ sym (slice_get_past cells i a)

    goes_on : (k j : ℕ) → j ≡ length cells + k → Stands j → f j ≡ length third + k
    goes_on k j e (listed l x a n p) =
        let within = slice_get_within cells x.number (cell_of x) (at_all (λ (y : Variable). slice_get cells y.number ≡ Some (cell_of y)) xs l x a are) in
        absurd (omega (arith, within, e, n))
    goes_on k j e (kept c a p) =
        let within = slice_get_within cells j c a in
        absurd (omega (arith, within, e))
    goes_on k j e (fresh a p) =
        let far : length third + (j - length cells) ≡ length third + k = omega (arith, e) in
        p ∙ far

    pub numbering : IsRenumbering f cells third
    numbering = record {
      different = λ i j e. different i j (stands i) (stands j) e;
      same_cells = λ i. same_cell i (stands i);
      behind = λ k. goes_on k (length cells + k) refl (stands (length cells + k));
    }

  module _ (numbers : NumbersDiffer xs) where
    at_place : (k : ℕ) (x : Variable) → slice_get xs k ≡ Some x → f x.number ≡ k
    at_place k x e =
        let here : 0 + k ≡ k = omega arith in
        place_is x.number ∙ place_at xs 0 k (by_cell start (length third) (length cells) (slice_get cells x.number) x.number) x numbers e ∙ here

    pub variables_indexed : map (moved_variable f) xs ≡ indexed 0 (map variable_named xs)
    variables_indexed = indexed_moved f xs 0 (λ k x e. let here : k ≡ 0 + k = omega arith in at_place k x e ∙ here)

    -- each variable of a term has the place of its name
    pub term_by_names : NamesDiffer xs → (F : Read) → HoldsOnly xs F → renumbered f F ≡ translate (named_place (map variable_named xs) 0) (λ x. x) (with_names xs F)
    term_by_names names F closed =
        translate_agrees f (λ n. named_place (map variable_named xs) 0 (name_in xs n)) (λ x. x) F
        (λ y c. agrees y (stands_at xs y (All-contains (Contains (map in_terms xs)) (variables F) y closed c)))
        ∙ sym (translate_twice (named_place (map variable_named xs) 0) (name_in xs) F)
      where
        agrees : (y : tree.Variable ℕ) → (k : ℕ) × (x : Variable) × (slice_get xs k ≡ Some x) × (in_terms x ≡ y) → f y.name ≡ named_place (map variable_named xs) 0 (name_in xs y.name)
        agrees y w =
            let number : w.1.number ≡ y.name = ap (λ (v : tree.Variable ℕ). v.name) w.3 in
            let here : w.0 ≡ 0 + w.0 = omega arith in
            subst (λ n. f n ≡ named_place (map variable_named xs) 0 (name_in xs n)) number
            (at_place w.0 w.1 w.2 ∙ here ∙ sym (named_place_at xs 0 w.0 w.1 names w.2) ∙ ap (named_place (map variable_named xs) 0) (sym (name_at xs w.0 w.1 numbers w.2)))
