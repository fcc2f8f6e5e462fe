-- NAMES THAT STAND OPEN in the search, in the end, or in both, name by name: with places among those that stand open in the search, and among those in the end.
use Rattle.std.proofs.Common.{◌≡◌, inl, inr, ℕ, zero, suc, ◌+◌, ◌≤◌, List, [], ◌∷◌, map, codes, Bool, true, false, Option, Some, None, option_map, refl, sym, ◌∙◌, ap, subst, arith}
use Rattle.std.specs.Prelude.{Contains}
use Rattle.std.proofs.lemmas.Bool.{false≢true, false_from_ne_true, or_cases, or_left, or_right}
use Rattle.ab_term.specs.Types.{Ty}
use Rattle.ab_term.specs.Logical.{Logical}
use Rattle.ab_term.specs.Terms.{Nominal, Variable, Head, logical, Read}
use Rattle.ab_term.specs.Typing.{Signature, HasType}
use Rattle.ab_term.specs.Abstraction.{given_names}
use Rattle.ab_term.specs.Translation.{forget}
use Rattle.ab_term.specs.Sameness.{same_numbered}
use Rattle.ab_term.proofs.Lists.{Contains-none, Contains-here, Contains-there, Contains-cases}
use Rattle.ab_term.proofs.Raising.{new_over}
use Rattle.ab_term.proofs.Same.{same_numbered-Decides}
use Rattle.ab_term.proofs.Standing.{Has}
use Rattle.ab_unifiers.specs.Replacements.{Cell, holds}
use Rattle.ab_unifiers.specs.Clauses.{Each, numbered}
use Rattle.ab_unifiers.specs.Alternatives.{made_over, made_terms}
use Rattle.ab_unifiers.proofs.Lifting.{OfCells}
use Rattle.ab_unifiers.proofs.Rows.{numbered_within}
use Rattle.ab_coverage.proofs.Cases.{OptionsHave}
use Rattle.ab_coverage.proofs.IndexedInstances.{IsGuess}
use Rattle.ab_coverage.proofs.IndexedSpecClauses.{left_open, spread}
use Rattle.ab_coverage.proofs.Taking.{Rows, no_rows, closed_in_both, closed_before, open_in_both, closed_after, merged}
use Rattle.ab_pattern_matching.specs.Raising.{Bare}
use Rattle.ab_search_answers.proofs.Through.{GoesThrough, AreMet, types_in}

-- ds and es: for each name whether it is closed in the search, and in the end. The names that are open in both, as variables: i of those that are open in the search stand before
abbrev pub both_open : ℕ → List Bool → List Bool → List (Cell (List ℕ)) → ℕ → List (Variable ℕ)
both_open N (true ∷ ds) (e ∷ es) (b ∷ bs) i = both_open N ds es bs i
both_open N (false ∷ ds) (true ∷ es) (b ∷ bs) i = both_open N ds es bs (suc i)
both_open N (false ∷ ds) (false ∷ es) (b ∷ bs) i = record { name = N + i; type = b.type } ∷ both_open N ds es bs (suc i)
both_open N _ _ _ i = []

-- the place in the end of a name that is open in the search
abbrev pub further : Bool → ℕ → ℕ
further true n = n
further false n = suc n

abbrev pub to_place : List Bool → List Bool → ℕ → ℕ
to_place (true ∷ ds) (e ∷ es) i = further e (to_place ds es i)
to_place (false ∷ ds) (e ∷ es) zero = zero
to_place (false ∷ ds) (e ∷ es) (suc i) = further e (to_place ds es i)
to_place _ _ i = zero

-- what is put for the names that are open in the search: for those that stay open, and for the others
abbrev pub row : (ℕ → ℕ → Ty → Read) → (ℕ → ℕ → Ty → Read) → List Bool → List Bool → List (Cell (List ℕ)) → ℕ → ℕ → List (Option Read)
row f g (true ∷ ds) (true ∷ es) (b ∷ bs) i j = None ∷ row f g ds es bs i j
row f g (true ∷ ds) (false ∷ es) (b ∷ bs) i j = None ∷ row f g ds es bs i (suc j)
row f g (false ∷ ds) (true ∷ es) (b ∷ bs) i j = Some (g i j b.type) ∷ row f g ds es bs (suc i) j
row f g (false ∷ ds) (false ∷ es) (b ∷ bs) i j = Some (f i j b.type) ∷ row f g ds es bs (suc i) (suc j)
row f g _ _ _ i j = []

-- what is so of each of them
abbrev pub EachRow : (ℕ → ℕ → Ty → Type 0) → (ℕ → ℕ → Ty → Type 0) → List Bool → List Bool → List (Cell (List ℕ)) → ℕ → ℕ → Type 0
EachRow X Y [] [] [] i j = Unit {0}
EachRow X Y (true ∷ ds) (true ∷ es) (b ∷ bs) i j = EachRow X Y ds es bs i j
EachRow X Y (true ∷ ds) (false ∷ es) (b ∷ bs) i j = EachRow X Y ds es bs i (suc j)
EachRow X Y (false ∷ ds) (true ∷ es) (b ∷ bs) i j = Y i j b.type × EachRow X Y ds es bs (suc i) j
EachRow X Y (false ∷ ds) (false ∷ es) (b ∷ bs) i j = X i j b.type × EachRow X Y ds es bs (suc i) (suc j)
EachRow X Y _ _ _ i j = ⊥

pub each_row_map : (X Y V W : ℕ → ℕ → Ty → Type 0) → ((i j : ℕ) (A : Ty) → X i j A → V i j A) → ((i j : ℕ) (A : Ty) → Y i j A → W i j A) → (ds es : List Bool) (bs : List (Cell (List ℕ))) (i j : ℕ) → EachRow X Y ds es bs i j → EachRow V W ds es bs i j
each_row_map X Y V W f g [] [] [] i j e = tt
each_row_map X Y V W f g (true ∷ ds) (true ∷ es) (b ∷ bs) i j e = each_row_map X Y V W f g ds es bs i j e
each_row_map X Y V W f g (true ∷ ds) (false ∷ es) (b ∷ bs) i j e = each_row_map X Y V W f g ds es bs i (suc j) e
each_row_map X Y V W f g (false ∷ ds) (true ∷ es) (b ∷ bs) i j e = (g i j b.type e.0, each_row_map X Y V W f g ds es bs (suc i) j e.1)
each_row_map X Y V W f g (false ∷ ds) (false ∷ es) (b ∷ bs) i j e = (f i j b.type e.0, each_row_map X Y V W f g ds es bs (suc i) (suc j) e.1)
each_row_map X Y V W f g ds es bs i j e = absurd e

module _ (sg : Signature) where
  pub row_guess : (f g : ℕ → ℕ → Ty → Read) (ds es : List Bool) (bs : List (Cell (List ℕ))) (i j : ℕ) → EachRow (λ i j A. HasType sg [] (f i j A) A) (λ i j A. HasType sg [] (g i j A) A) ds es bs i j → IsGuess sg ds bs (row f g ds es bs i j)
  row_guess f g [] [] [] i j e = tt
  row_guess f g (true ∷ ds) (true ∷ es) (b ∷ bs) i j e = row_guess f g ds es bs i j e
  row_guess f g (true ∷ ds) (false ∷ es) (b ∷ bs) i j e = row_guess f g ds es bs i (suc j) e
  row_guess f g (false ∷ ds) (true ∷ es) (b ∷ bs) i j e = (e.0, row_guess f g ds es bs (suc i) j e.1)
  row_guess f g (false ∷ ds) (false ∷ es) (b ∷ bs) i j e = (e.0, row_guess f g ds es bs (suc i) (suc j) e.1)
  row_guess f g ds es bs i j e = absurd e

  pub row_has : (P : Head ℕ → Type 0) (logicals : (l : Logical) → P (logical l)) (f g : ℕ → ℕ → Ty → Read) (ds es : List Bool) (bs : List (Cell (List ℕ))) (i j : ℕ) → EachRow (λ i j A. Has P (f i j A)) (λ i j A. Has P (g i j A)) ds es bs i j → OptionsHave P logicals (row f g ds es bs i j)
  row_has P ls f g [] [] [] i j e = tt
  row_has P ls f g (true ∷ ds) (true ∷ es) (b ∷ bs) i j e = (tt, row_has P ls f g ds es bs i j e)
  row_has P ls f g (true ∷ ds) (false ∷ es) (b ∷ bs) i j e = (tt, row_has P ls f g ds es bs i (suc j) e)
  row_has P ls f g (false ∷ ds) (true ∷ es) (b ∷ bs) i j e = (e.0, row_has P ls f g ds es bs (suc i) j e.1)
  row_has P ls f g (false ∷ ds) (false ∷ es) (b ∷ bs) i j e = (e.0, row_has P ls f g ds es bs (suc i) (suc j) e.1)
  row_has P ls f g ds es bs i j e = absurd e

  pub rows_met : (O : Bare → Bare) (through : GoesThrough sg O) (f g h k : ℕ → ℕ → Ty → Read) (ds es : List Bool) (bs : List (Cell (List ℕ))) (i j : ℕ) → EachRow (λ i j A. O (forget (f i j A)) ≡ forget (h i j A)) (λ i j A. O (forget (g i j A)) ≡ forget (k i j A)) ds es bs i j
      → AreMet sg O through (row f g ds es bs i j) (row h k ds es bs i j)
  rows_met O t f g h k [] [] [] i j e = tt
  rows_met O t f g h k (true ∷ ds) (true ∷ es) (b ∷ bs) i j e = (tt, rows_met O t f g h k ds es bs i j e)
  rows_met O t f g h k (true ∷ ds) (false ∷ es) (b ∷ bs) i j e = (tt, rows_met O t f g h k ds es bs i (suc j) e)
  rows_met O t f g h k (false ∷ ds) (true ∷ es) (b ∷ bs) i j e = (e.0, rows_met O t f g h k ds es bs (suc i) j e.1)
  rows_met O t f g h k (false ∷ ds) (false ∷ es) (b ∷ bs) i j e = (e.0, rows_met O t f g h k ds es bs (suc i) (suc j) e.1)
  rows_met O t f g h k ds es bs i j e = absurd e

-- a name that is open in both has its row
module _ (X Y : ℕ → ℕ → Ty → Type 0) (N : ℕ) where
  abbrev pub HasRow : Variable ℕ → Type 0
  HasRow w = (i : ℕ) × (j : ℕ) × (A : Ty) × (w ≡ record { name = N + i; type = A }) × X i j A

  pub held_row : (ds es : List Bool) (bs : List (Cell (List ℕ))) (i j : ℕ) → EachRow X Y ds es bs i j → (w : Variable ℕ) → holds (both_open N ds es bs i) w ≡ true → HasRow w
  held_row [] [] [] i j e w h = absurd (false≢true h)
  held_row (true ∷ ds) (true ∷ es) (b ∷ bs) i j e w h = held_row ds es bs i j e w h
  held_row (true ∷ ds) (false ∷ es) (b ∷ bs) i j e w h = held_row ds es bs i (suc j) e w h
  held_row (false ∷ ds) (true ∷ es) (b ∷ bs) i j e w h = held_row ds es bs (suc i) j e.1 w h
  held_row (false ∷ ds) (false ∷ es) (b ∷ bs) i j e w h =
      let z : Variable ℕ = record { name = N + i; type = b.type } in
      elim (or_cases (same_numbered z w) (holds (both_open N ds es bs (suc i)) w) h) [
        | inl a ↦ (i, j, b.type, sym ((same_numbered-Decides z w).0 a), e.0)
        | inr a ↦ held_row ds es bs (suc i) (suc j) e.1 w a
      ]
  held_row ds es bs i j e w h = absurd e

-- they are some of those that are open in the search
pub some_open : (N : ℕ) (ds es : List Bool) (bs : List (Cell (List ℕ))) (i : ℕ) (w : Variable ℕ) → holds (both_open N ds es bs i) w ≡ true → holds (numbered (N + i) (left_open ds bs)) w ≡ true
some_open N (true ∷ ds) (e ∷ es) (b ∷ bs) i w h = some_open N ds es bs i w h
some_open N (false ∷ ds) (true ∷ es) (b ∷ bs) i w h =
    let z : Variable ℕ = record { name = N + i; type = b.type } in
    let next : N + suc i ≡ suc (N + i) = omega arith in
    or_right (same_numbered z w) (holds (numbered (suc (N + i)) (left_open ds bs)) w) (subst (λ k. holds (numbered k (left_open ds bs)) w ≡ true) next (some_open N ds es bs (suc i) w h))
some_open N (false ∷ ds) (false ∷ es) (b ∷ bs) i w h =
    let z : Variable ℕ = record { name = N + i; type = b.type } in
    let next : N + suc i ≡ suc (N + i) = omega arith in
    elim (or_cases (same_numbered z w) (holds (both_open N ds es bs (suc i)) w) h) [
      | inl a ↦ or_left (same_numbered z w) (holds (numbered (suc (N + i)) (left_open ds bs)) w) a
      | inr a ↦ or_right (same_numbered z w) (holds (numbered (suc (N + i)) (left_open ds bs)) w) (subst (λ k. holds (numbered k (left_open ds bs)) w ≡ true) next (some_open N ds es bs (suc i) w a))
    ]
some_open N [] es bs i w h = absurd (false≢true h)
some_open N (true ∷ ds) [] bs i w h = absurd (false≢true h)
some_open N (false ∷ ds) [] bs i w h = absurd (false≢true h)
some_open N (true ∷ ds) (e ∷ es) [] i w h = absurd (false≢true h)
some_open N (false ∷ ds) (true ∷ es) [] i w h = absurd (false≢true h)
some_open N (false ∷ ds) (false ∷ es) [] i w h = absurd (false≢true h)

-- the terms that there are
abbrev pub some_terms : List (Option Read) → List Read
some_terms [] = []
some_terms (None ∷ vs) = some_terms vs
some_terms (Some u ∷ vs) = u ∷ some_terms vs

pub some_from : (vs : List (Option Read)) (u : Read) → Contains (some_terms vs) u → Contains vs (Some u)
some_from [] u m = absurd (Contains-none u m)
some_from (None ∷ vs) u m = Contains-there None vs (Some u) (some_from vs u m)
some_from (Some v ∷ vs) u m = elim (Contains-cases v (some_terms vs) u m) [
  | inl e ↦ subst (λ z. Contains (Some v ∷ vs) (Some z)) e (Contains-here (Some v) vs)
  | inr n ↦ Contains-there (Some v) vs (Some u) (some_from vs u n)
]

module _ (sg : Signature) where
  -- THE ROWS with other cells of the same types
  pub rows_over : {ds es : List Bool} {bs : List (Cell (List ℕ))} {vs ks : List (Option Read)} → Rows sg ds es bs vs ks → (cs : List (Cell (List ℕ))) → types_in bs ≡ types_in cs → Rows sg ds es cs vs ks
  rows_over no_rows [] e = no_rows
  rows_over no_rows (c ∷ cs) e = absurd (cc)
  rows_over (closed_in_both r) [] e = absurd (cc)
  rows_over (closed_in_both {b = b} {bs = bs} r) (c ∷ cs) e = let rest : types_in bs ≡ types_in cs = cc in closed_in_both (rows_over r cs rest)
  rows_over (closed_before d r) [] e = absurd (cc)
  rows_over (closed_before {b = b} {bs = bs} {u = u} d r) (c ∷ cs) e = let one : b.type ≡ c.type = cc in let rest : types_in bs ≡ types_in cs = cc in closed_before (subst (HasType sg [] u) one d) (rows_over r cs rest)
  rows_over (open_in_both d r) [] e = absurd (cc)
  rows_over (open_in_both {b = b} {bs = bs} {u = u} d r) (c ∷ cs) e = let one : b.type ≡ c.type = cc in let rest : types_in bs ≡ types_in cs = cc in open_in_both (subst (HasType sg [] u) one d) (rows_over r cs rest)
  rows_over (closed_after d r) [] e = absurd (cc)
  rows_over (closed_after {b = b} {bs = bs} {k = k} d r) (c ∷ cs) e = let one : b.type ≡ c.type = cc in let rest : types_in bs ≡ types_in cs = cc in closed_after (subst (HasType sg [] k) one d) (rows_over r cs rest)

  -- the kernel's terms
  pub some_are : {ds es : List Bool} {bs : List (Cell (List ℕ))} {vs ks : List (Option Read)} → Rows sg ds es bs vs ks → OfCells sg (codes "x") (left_open es bs) (some_terms vs)
  some_are no_rows = tt
  some_are (closed_in_both r) = some_are r
  some_are (closed_before d r) = (d, some_are r)
  some_are (open_in_both d r) = (d, some_are r)
  some_are (closed_after d r) = some_are r

  pub spread_some : {ds es : List Bool} {bs : List (Cell (List ℕ))} {vs ks : List (Option Read)} → Rows sg ds es bs vs ks → spread es (some_terms vs) ≡ vs
  spread_some no_rows = refl
  spread_some (closed_in_both r) = ap (λ l. None ∷ l) (spread_some r)
  spread_some (closed_before {u = u} d r) = ap (λ l. Some u ∷ l) (spread_some r)
  spread_some (open_in_both {u = u} d r) = ap (λ l. Some u ∷ l) (spread_some r)
  spread_some (closed_after d r) = ap (λ l. None ∷ l) (spread_some r)

  -- with other terms for the names
  pub rows_there : (f : Read → Read) → ((A : Ty) (t : Read) → HasType sg [] t A → HasType sg [] (f t) A) → {ds es : List Bool} {bs : List (Cell (List ℕ))} {vs ks : List (Option Read)} → Rows sg ds es bs vs ks → (ms : List Read) → OfCells sg (codes "x") (left_open es bs) ms
      → Rows sg ds es bs (spread es ms) (map (option_map f) ks)
  rows_there f keeps no_rows ms e = no_rows
  rows_there f keeps (closed_in_both r) ms e = closed_in_both (rows_there f keeps r ms e)
  rows_there f keeps (closed_before d r) [] e = absurd e
  rows_there f keeps (closed_before d r) (m ∷ ms) e = closed_before e.0 (rows_there f keeps r ms e.1)
  rows_there f keeps (open_in_both d r) [] e = absurd e
  rows_there f keeps (open_in_both d r) (m ∷ ms) e = open_in_both e.0 (rows_there f keeps r ms e.1)
  rows_there f keeps (closed_after {b = b} {k = k} d r) ms e = closed_after (keeps b.type k d) (rows_there f keeps r ms e)

  pub rows_guess : {ds es : List Bool} {bs : List (Cell (List ℕ))} {vs ks : List (Option Read)} → Rows sg ds es bs vs ks → IsGuess sg es bs vs
  rows_guess no_rows = tt
  rows_guess (closed_in_both r) = rows_guess r
  rows_guess (closed_before d r) = (d, rows_guess r)
  rows_guess (open_in_both d r) = (d, rows_guess r)
  rows_guess (closed_after d r) = rows_guess r

pub spread_map : (f : Read → Read) (fs : List Bool) (us : List Read) → spread fs (map f us) ≡ map (option_map f) (spread fs us)
spread_map f [] us = refl
spread_map f (true ∷ fs) us = ap (λ l. None ∷ l) (spread_map f fs us)
spread_map f (false ∷ fs) [] = ap (λ l. None ∷ l) (spread_map f fs [])
spread_map f (false ∷ fs) (u ∷ us) = ap (λ l. Some (f u) ∷ l) (spread_map f fs us)

-- made terms depend on types alone
pub made_same : (n : ℕ) (S : List Nominal) (fs : List Bool) (bs cs : List (Cell (List ℕ))) → types_in bs ≡ types_in cs → made_terms (codes "x") n S (left_open fs bs) ≡ made_terms (codes "x") n S (left_open fs cs)
made_same n S [] bs cs e = refl
made_same n S (f ∷ fs) [] [] e = refl
made_same n S (f ∷ fs) [] (c ∷ cs) e = absurd (cc)
made_same n S (f ∷ fs) (b ∷ bs) [] e = absurd (cc)
made_same n S (true ∷ fs) (b ∷ bs) (c ∷ cs) e = let rest : types_in bs ≡ types_in cs = cc in made_same n S fs bs cs rest
made_same n S (false ∷ fs) (b ∷ bs) (c ∷ cs) e =
    let one : b.type ≡ c.type = cc in
    let rest : types_in bs ≡ types_in cs = cc in
    ap (λ A. given_names (codes "x") (new_over n S A) S A ∷ made_terms (codes "x") (suc n) S (left_open fs bs)) one
    ∙ ap (λ l. given_names (codes "x") (new_over n S c.type) S c.type ∷ l) (made_same (suc n) S fs bs cs rest)

pub made_over_same : (n : ℕ) (S : List Nominal) (fs : List Bool) (bs cs : List (Cell (List ℕ))) → types_in bs ≡ types_in cs → made_over (codes "x") n S (left_open fs bs) ≡ made_over (codes "x") n S (left_open fs cs)
made_over_same n S [] bs cs e = refl
made_over_same n S (f ∷ fs) [] [] e = refl
made_over_same n S (f ∷ fs) [] (c ∷ cs) e = absurd (cc)
made_over_same n S (f ∷ fs) (b ∷ bs) [] e = absurd (cc)
made_over_same n S (true ∷ fs) (b ∷ bs) (c ∷ cs) e = let rest : types_in bs ≡ types_in cs = cc in made_over_same n S fs bs cs rest
made_over_same n S (false ∷ fs) (b ∷ bs) (c ∷ cs) e =
    let one : b.type ≡ c.type = cc in
    let rest : types_in bs ≡ types_in cs = cc in
    ap (λ A. new_over n S A ∷ made_over (codes "x") (suc n) S (left_open fs bs)) one
    ∙ ap (λ l. new_over n S c.type ∷ l) (made_over_same (suc n) S fs bs cs rest)

-- ROW BY ROW: new terms of the search from n on over S, those of the other place from k on over T; `end` says what becomes of the search's
module _ (sg : Signature) (N n k : ℕ) (S T : List Nominal) (end there : Read → Read) (Becomes : Read → Read → Type 0) where
  abbrev pub made_at : ℕ → ℕ → Ty → Read
  made_at i j A = given_names (codes "x") (new_over (n + i) S A) S A

  abbrev pub other_at : ℕ → ℕ → Ty → Read
  other_at i j A = given_names (codes "x") (new_over (k + j) T A) T A

  abbrev pub alone_at : ℕ → ℕ → Ty → Variable ℕ
  alone_at i j A = record { name = N + i; type = A }

  abbrev pub end_at : ℕ → ℕ → Ty → Read
  end_at i j A = there (end (given_names (codes "x") (new_over (n + i) S A) S A))

  -- the names of the whole row
  module _ (whole : List (Variable ℕ)) (place : ℕ → ℕ) (made : List Read) where
    pub record IsBoth (i j : ℕ) (A : Ty) : Type 0 where
      pub held : holds whole (alone_at i j A) ≡ true
      pub placed : place i ≡ j
      pub made_one : Contains made (made_at i j A)
      pub becomes : Becomes (other_at i j A) (end_at i j A)

    pub record IsOne (i j : ℕ) (A : Ty) : Type 0 where
      pub made_one : Contains made (made_at i j A)
      pub unheld : (w : Variable ℕ) → w.name ≡ N + i → holds whole w ≡ false

    pub both_rows : {ds es : List Bool} {bs : List (Cell (List ℕ))} {vs ks : List (Option Read)} → Rows sg ds es bs vs ks → (i j : ℕ)
        → ((w : Variable ℕ) → holds (both_open N ds es bs i) w ≡ true → holds whole w ≡ true)
        → ((w : Variable ℕ) → N + i ≤ w.name → holds whole w ≡ true → holds (both_open N ds es bs i) w ≡ true)
        → ((m : ℕ) → place (i + m) ≡ j + to_place ds es m)
        → ((u : Read) → Contains (made_terms (codes "x") (n + i) S (left_open ds bs)) u → Contains made u)
        → merged sg ds vs ks ≡ spread ds (map end (made_terms (codes "x") (n + i) S (left_open ds bs)))
        → Each (λ m u. Becomes m (there u)) (made_terms (codes "x") (k + j) T (left_open es bs)) (some_terms vs)
        → EachRow IsBoth IsOne ds es bs i j
    both_rows no_rows i j h o p c e b = tt
    both_rows (closed_in_both {ds = ds} {es = es} {bs = bs} {vs = vs} {ks = ks} r) i j h o p c e b =
        let rest : merged sg ds vs ks ≡ spread ds (map end (made_terms (codes "x") (n + i) S (left_open ds bs))) = cc in
        both_rows r i j h o (λ m. p m) c rest b
    both_rows (closed_before {ds = ds} {es = es} {bs = bs} {vs = vs} {ks = ks} {u = u} d r) i j h o p c e b =
        let rest : merged sg ds vs ks ≡ spread ds (map end (made_terms (codes "x") (n + i) S (left_open ds bs))) = cc in
        let next : suc (k + j) ≡ k + suc j = omega arith in
        both_rows r i (suc j) h o (λ m. p m ∙ (let s : j + suc (to_place ds es m) ≡ suc j + to_place ds es m = omega arith in s)) c rest
        (subst (λ q. Each (λ m u. Becomes m (there u)) (made_terms (codes "x") q T (left_open es bs)) (some_terms vs)) next b.1)
    both_rows (open_in_both {ds = ds} {es = es} {b = a} {bs = bs} {vs = vs} {ks = ks} {u = u} d r) i j h o p c e b =
        let first : u ≡ end (given_names (codes "x") (new_over (n + i) S a.type) S a.type) = cc in
        let rest : merged sg ds vs ks ≡ spread ds (map end (made_terms (codes "x") (suc (n + i)) S (left_open ds bs))) = cc in
        let next : suc (k + j) ≡ k + suc j = omega arith in
        let mine : suc (n + i) ≡ n + suc i = omega arith in
        let z : Variable ℕ = record { name = N + i; type = a.type } in (
          record {
            held = h z (or_left (same_numbered z z) (holds (both_open N ds es bs (suc i)) z) ((same_numbered-Decides z z).1 refl));
            placed = (let start : i ≡ i + zero = omega arith in ap place start) ∙ p zero ∙ (let s : j + zero ≡ j = omega arith in s);
            made_one = c (given_names (codes "x") (new_over (n + i) S a.type) S a.type) (Contains-here (given_names (codes "x") (new_over (n + i) S a.type) S a.type) (made_terms (codes "x") (suc (n + i)) S (left_open ds bs)));
            becomes = subst (λ v. Becomes (given_names (codes "x") (new_over (k + j) T a.type) T a.type) (there v)) first b.0;
          },
          both_rows r (suc i) (suc j)
              (λ w m. h w (or_right (same_numbered z w) (holds (both_open N ds es bs (suc i)) w) m))
              (λ w l m. elim (or_cases (same_numbered z w) (holds (both_open N ds es bs (suc i)) w) (o w (omega (arith, l)) m)) [
                | inl q ↦ (let same : z.name ≡ w.name = ap (λ (v : Variable ℕ). v.name) ((same_numbered-Decides z w).0 q) in absurd (omega (arith, l, same)))
                | inr q ↦ q
              ])
              (λ m. (let s : suc i + m ≡ i + suc m = omega arith in ap place s) ∙ p (suc m) ∙ (let s : j + suc (to_place ds es m) ≡ suc j + to_place ds es m = omega arith in s))
              (λ v m. c v (Contains-there (given_names (codes "x") (new_over (n + i) S a.type) S a.type) (made_terms (codes "x") (suc (n + i)) S (left_open ds bs)) v (subst (λ q. Contains (made_terms (codes "x") q S (left_open ds bs)) v) (sym mine) m)))
              (subst (λ q. merged sg ds vs ks ≡ spread ds (map end (made_terms (codes "x") q S (left_open ds bs)))) mine rest)
              (subst (λ q. Each (λ m u. Becomes m (there u)) (made_terms (codes "x") q T (left_open es bs)) (some_terms vs)) next b.1),
        )
    both_rows (closed_after {ds = ds} {es = es} {b = a} {bs = bs} {vs = vs} {ks = ks} {k = t} d r) i j h o p c e b =
        let rest : merged sg ds vs ks ≡ spread ds (map end (made_terms (codes "x") (suc (n + i)) S (left_open ds bs))) = cc in
        let mine : suc (n + i) ≡ n + suc i = omega arith in (
          record {
            made_one = c (given_names (codes "x") (new_over (n + i) S a.type) S a.type) (Contains-here (given_names (codes "x") (new_over (n + i) S a.type) S a.type) (made_terms (codes "x") (suc (n + i)) S (left_open ds bs)));
            unheld = λ w q. false_from_ne_true (holds whole w) (λ m.
                let high = (numbered_within (N + suc i) (left_open ds bs) w (some_open N ds es bs (suc i) w (o w (omega (arith, q)) m))).0 in
                omega (arith, high, q));
          },
          both_rows r (suc i) j
              h
              (λ w l m. o w (omega (arith, l)) m)
              (λ m. (let s : suc i + m ≡ i + suc m = omega arith in ap place s) ∙ p (suc m))
              (λ v m. c v (Contains-there (given_names (codes "x") (new_over (n + i) S a.type) S a.type) (made_terms (codes "x") (suc (n + i)) S (left_open ds bs)) v (subst (λ q. Contains (made_terms (codes "x") q S (left_open ds bs)) v) (sym mine) m)))
              (subst (λ q. merged sg ds vs ks ≡ spread ds (map end (made_terms (codes "x") q S (left_open ds bs)))) mine rest)
              b,
        )

  -- THE SEARCH'S new terms, as a row
  pub made_row : {ds es : List Bool} {bs : List (Cell (List ℕ))} {vs ks : List (Option Read)} → Rows sg ds es bs vs ks → (i j : ℕ) → spread ds (made_terms (codes "x") (n + i) S (left_open ds bs)) ≡ row made_at made_at ds es bs i j
  made_row no_rows i j = refl
  made_row (closed_in_both r) i j = ap (λ l. None ∷ l) (made_row r i j)
  made_row (closed_before d r) i j = ap (λ l. None ∷ l) (made_row r i (suc j))
  made_row (open_in_both {ds = ds} {b = a} {bs = bs} d r) i j =
      let mine : suc (n + i) ≡ n + suc i = omega arith in
      ap (λ q. Some (made_at i j a.type) ∷ spread ds (made_terms (codes "x") q S (left_open ds bs))) mine ∙ ap (λ l. Some (made_at i j a.type) ∷ l) (made_row r (suc i) (suc j))
  made_row (closed_after {ds = ds} {b = a} {bs = bs} d r) i j =
      let mine : suc (n + i) ≡ n + suc i = omega arith in
      ap (λ q. Some (made_at i j a.type) ∷ spread ds (made_terms (codes "x") q S (left_open ds bs))) mine ∙ ap (λ l. Some (made_at i j a.type) ∷ l) (made_row r (suc i) j)

  -- the terms there, with what becomes of the search's where there are none
  pub there_row : {ds es : List Bool} {bs : List (Cell (List ℕ))} {vs ks : List (Option Read)} → Rows sg ds es bs vs ks → (i j : ℕ) → merged sg ds vs ks ≡ spread ds (map end (made_terms (codes "x") (n + i) S (left_open ds bs)))
      → merged sg ds (spread es (made_terms (codes "x") (k + j) T (left_open es bs))) (map (option_map there) ks) ≡ row other_at end_at ds es bs i j
  there_row no_rows i j e = refl
  there_row (closed_in_both {ds = ds} {bs = bs} {vs = vs} {ks = ks} r) i j e =
      let rest : merged sg ds vs ks ≡ spread ds (map end (made_terms (codes "x") (n + i) S (left_open ds bs))) = cc in
      ap (λ l. None ∷ l) (there_row r i j rest)
  there_row (closed_before {ds = ds} {es = es} {bs = bs} {vs = vs} {ks = ks} d r) i j e =
      let rest : merged sg ds vs ks ≡ spread ds (map end (made_terms (codes "x") (n + i) S (left_open ds bs))) = cc in
      let next : suc (k + j) ≡ k + suc j = omega arith in
      ap (λ q. None ∷ merged sg ds (spread es (made_terms (codes "x") q T (left_open es bs))) (map (option_map there) ks)) next ∙ ap (λ l. None ∷ l) (there_row r i (suc j) rest)
  there_row (open_in_both {ds = ds} {es = es} {b = a} {bs = bs} {vs = vs} {ks = ks} {u = u} d r) i j e =
      let rest : merged sg ds vs ks ≡ spread ds (map end (made_terms (codes "x") (suc (n + i)) S (left_open ds bs))) = cc in
      let next : suc (k + j) ≡ k + suc j = omega arith in
      let mine : suc (n + i) ≡ n + suc i = omega arith in
      ap (λ q. Some (other_at i j a.type) ∷ merged sg ds (spread es (made_terms (codes "x") q T (left_open es bs))) (map (option_map there) ks)) next
      ∙ ap (λ l. Some (other_at i j a.type) ∷ l) (there_row r (suc i) (suc j) (subst (λ q. merged sg ds vs ks ≡ spread ds (map end (made_terms (codes "x") q S (left_open ds bs)))) mine rest))
  there_row (closed_after {ds = ds} {es = es} {b = a} {bs = bs} {vs = vs} {ks = ks} {k = t} d r) i j e =
      let first : t ≡ end (given_names (codes "x") (new_over (n + i) S a.type) S a.type) = cc in
      let rest : merged sg ds vs ks ≡ spread ds (map end (made_terms (codes "x") (suc (n + i)) S (left_open ds bs))) = cc in
      let mine : suc (n + i) ≡ n + suc i = omega arith in
      ap (λ v. Some (there v) ∷ merged sg ds (spread es (made_terms (codes "x") (k + j) T (left_open es bs))) (map (option_map there) ks)) first
      ∙ ap (λ l. Some (end_at i j a.type) ∷ l) (there_row r (suc i) j (subst (λ q. merged sg ds vs ks ≡ spread ds (map end (made_terms (codes "x") q S (left_open ds bs)))) mine rest))
