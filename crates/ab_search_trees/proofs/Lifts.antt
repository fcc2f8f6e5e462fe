-- A GUESS OF TERMS for the variables that may be replaced, which makes the sides of some equations the same: it is the answer,
-- and then a guess for the variables that are left.
use Rattle.std.proofs.Common.{◌≡◌, ◌⊎◌, inl, inr, ℕ, zero, suc, ◌+◌, ◌<◌, ◌≤◌, List, [], ◌∷◌, ◌++◌, length, drop, filter, Bool, true, false, cond, not, ◌||◌, Option, Some, None, option_map, refl, sym, ◌∙◌, ap, subst, arith}
use Rattle.std.specs.Prelude.{Contains, All, slice_get}
use Rattle.std.proofs.lemmas.Bool.{false≢true, or_left, or_right, or_cases, false_from_ne_true}
use Rattle.std.proofs.lemmas.List.Elements.{All-contains}
use Rattle.ab_term.specs.Types.{Ty}
use Rattle.ab_term.specs.Terms.{Variable, variable, Term}
use Rattle.ab_term.specs.Typing.{Signature, HasType}
use Rattle.ab_term.specs.Names.{support}
use Rattle.ab_term.specs.Translation.{forget}
use Rattle.ab_term.specs.Variables.{Substitution, variables, value_in, image, image_by}
use Rattle.ab_term.specs.Sameness.{same_numbered, same_number}
use Rattle.ab_term.specs.Abstraction.{Only}
use Rattle.ab_term.proofs.Lists.{Contains-none, Contains-here, Contains-there}
use Rattle.ab_term.proofs.Compositions.{then_by, image_typed}
use Rattle.ab_term.proofs.Same.{same_numbered-Decides}
use Rattle.ab_term.proofs.Depends.{image_agrees}
use Rattle.ab_term.proofs.PastHints.{variables-forget}
use Rattle.ab_term.proofs.Expansions.{expansion_typed}
use Rattle.ab_term.proofs.OwnExpansion.{image_by-own}
use Rattle.ab_term.proofs.Only.{expansion_only}
use Rattle.ab_term.proofs.Translations.{translate_typed}
use Rattle.ab_unifiers.specs.Replacements.{Cell, holds}
use Rattle.ab_unifiers.specs.Unification.{Equation, unified, apart, Solves}
use Rattle.ab_unifiers.specs.Unifiers.{given, AreTyped, AreKnown, AreOver, IsOver, IsCell, HoldsCells, AllHoldCells, keys}
use Rattle.ab_unifiers.proofs.Ruling.{image_none}
use Rattle.ab_unifiers.proofs.Agreeing.{contains_holds, holds_front, holds_behind}
use Rattle.ab_unifiers.proofs.Avoiding.{not_held}
use Rattle.ab_unifiers.proofs.Cells.{Grows, cell_kept, answer_cells}
use Rattle.ab_unifiers.proofs.Problems.{answer_typed}
use Rattle.ab_unifiers.proofs.Following.{Put, Fits, follows_on}
use Rattle.ab_unifiers.proofs.General.{AllAlike}
use Rattle.ab_unifiers.proofs.Most.{Most}
use Rattle.ab_unifiers.specs.Clauses.{numbered}
use Rattle.ab_unifiers.proofs.Past.{bare_own, maps_agree}
use Rattle.ab_unifiers.proofs.Variables.{Has, has_held, held_has, holds_contains, expansion_of_has, image_by_has}
use Rattle.ab_formulas.proofs.Idempotent.{none_replaced}
use Rattle.ab_search_trees.specs.Lifting.{left_of, Guess, IsGuessFor, MakesEqual}
use Rattle.ab_search_trees.proofs.Nameless.{nameless_support}
use Rattle.ab_search_trees.proofs.Guessed.{no_names, over_known, lifts, support_only, contained}

below_or : (i m : ℕ) → (i < m) ⊎ (m ≤ i)
below_or i zero = inr (omega arith)
below_or zero (suc m) = inl (omega arith)
below_or (suc i) (suc m) = elim (below_or i m) [ inl a ↦ inl (omega (arith, a)) | inr b ↦ inr (omega (arith, b)) ]

-- a variable is below the number of cells
pub known_cell : {Hint : Type 0} (cells : List (Cell Hint)) (n : ℕ) (A : Ty) → option_map (λ (c : Cell Hint). c.type) (slice_get cells n) ≡ Some A → n < length cells
known_cell [] n A e = absurd (cc)
known_cell (c ∷ cells) zero A e = omega arith
known_cell (c ∷ cells) (suc n) A e = let rest = known_cell cells n A e in omega (arith, rest)

pub cells_over : {Hint : Type 0} (cells : List (Cell Hint)) (t : Term ℕ Hint) → HoldsCells cells t → IsOver cells t
cells_over cells t h y m = known_cell cells y.name y.type (h y (holds_contains (variables t) y m))

pub cells_all_over : {Hint : Type 0} (cells : List (Cell Hint)) (es : List (Equation Hint)) → AllHoldCells cells es → AreOver cells es
cells_all_over cells [] h = tt
cells_all_over cells (e ∷ es) h = (cells_over cells e.left h.0, cells_over cells e.right h.1, cells_all_over cells es h.2)

-- a cell behind the others is among the numbered ones
pub numbered_at : {Hint : Type 0} (made : List (Cell Hint)) (n k : ℕ) (y : Variable ℕ) → y.name ≡ n + k → option_map (λ (c : Cell Hint). c.type) (slice_get made k) ≡ Some y.type → holds (numbered n made) y ≡ true
numbered_at [] n k y e f = absurd (cc)
numbered_at (c ∷ made) n zero y e f =
    let type : c.type ≡ y.type = cc in
    let name : n ≡ y.name = omega (arith, e) in
    let first : Variable ℕ = record { name = n; type = c.type } in
    let same : first ≡ y = λ i. record { name = name i; type = type i } in
    or_left (same_numbered first y) (holds (numbered (suc n) made) y) ((same_numbered-Decides first y).1 same)
numbered_at (c ∷ made) n (suc k) y e f =
    or_right (same_numbered (record { name = n; type = c.type }) y) (holds (numbered (suc n) made) y) (numbered_at made (suc n) k y (omega (arith, e)) f)

behind_at : {Hint : Type 0} (cells made : List (Cell Hint)) (n : ℕ) (A : Ty) → length cells ≤ n → option_map (λ (c : Cell Hint). c.type) (slice_get (cells ++ made) n) ≡ Some A → (k : ℕ) × (n ≡ length cells + k) × (option_map (λ (c : Cell Hint). c.type) (slice_get made k) ≡ Some A)
behind_at [] made n A l e = (n, omega arith, e)
behind_at (c ∷ cells) made zero A l e = absurd (omega (arith, l))
behind_at (c ∷ cells) made (suc n) A l e = let r = behind_at cells made n A (omega (arith, l)) e in let sum = r.1 in (r.0, omega (arith, sum), r.2)

drop_front : {X : Type 0} (xs ys : List X) → drop (length xs) (xs ++ ys) ≡ ys
drop_front [] ys = refl
drop_front (x ∷ xs) ys = drop_front xs ys

made_held : {Hint : Type 0} (cells more : List (Cell Hint)) → Grows cells more → (y : Variable ℕ) → length cells ≤ y.name → IsCell more y → holds (numbered (length cells) (drop (length cells) more)) y ≡ true
made_held cells more g y l e =
    let at = behind_at cells g.0 y.name y.type l (subst (λ m. IsCell m y) g.1 e) in
    subst (λ m. holds (numbered (length cells) m) y ≡ true) (sym (drop_front cells g.0) ∙ ap (drop (length cells)) (sym g.1)) (numbered_at g.0 (length cells) at.0 y at.1 at.2)

-- what passes the filter
pub filter_held : (test : Variable ℕ → Bool) (ys : List (Variable ℕ)) (y : Variable ℕ) → holds ys y ≡ true → test y ≡ true → holds (filter test ys) y ≡ true
filter_held test [] y h t = absurd (false≢true h)
filter_held test (z ∷ ys) y h t = go (same_numbered z y) refl (test z) refl h (λ m. filter_held test ys y m t)
  where
    go : (a : Bool) → same_numbered z y ≡ a → (b : Bool) → test z ≡ b → (a || holds ys y) ≡ true → (holds ys y ≡ true → holds (filter test ys) y ≡ true) → holds (cond b (z ∷ filter test ys) (filter test ys)) y ≡ true
    go true s true f h rest = or_left (same_numbered z y) (holds (filter test ys) y) s
    go true s false f h rest = absurd (false≢true (sym f ∙ ap test ((same_numbered-Decides z y).0 s) ∙ t))
    go false s true f h rest = or_right (same_numbered z y) (holds (filter test ys) y) (rest h)
    go false s false f h rest = rest h

pub filter_from : (test : Variable ℕ → Bool) (ys : List (Variable ℕ)) (y : Variable ℕ) → holds (filter test ys) y ≡ true → holds ys y ≡ true
filter_from test [] y h = h
filter_from test (z ∷ ys) y h = go (test z) h (filter_from test ys y)
  where
    go : (b : Bool) → holds (cond b (z ∷ filter test ys) (filter test ys)) y ≡ true → (holds (filter test ys) y ≡ true → holds ys y ≡ true) → (same_numbered z y || holds ys y) ≡ true
    go true h rest = elim (or_cases (same_numbered z y) (holds (filter test ys) y) h) [ inl a ↦ or_left (same_numbered z y) (holds ys y) a | inr a ↦ or_right (same_numbered z y) (holds ys y) (rest a) ]
    go false h rest = or_right (same_numbered z y) (holds ys y) (rest h)

-- a variable without a value is no key, and the other way round
not_key : {Hint : Type 0} (q : Substitution ℕ Hint) (y : Variable ℕ) → value_in same_number q y ≡ None → holds (keys q) y ≡ false
not_key [] y e = refl
not_key (p ∷ q) y e = go (same_numbered p.0 y) e (not_key q y)
  where
    go : (b : Bool) → cond b (Some p.1) (value_in same_number q y) ≡ None → (value_in same_number q y ≡ None → holds (keys q) y ≡ false) → (b || holds (keys q) y) ≡ false
    go true e rest = absurd (cc)
    go false e rest = rest e

pub no_value : {Hint : Type 0} (q : Substitution ℕ Hint) (y : Variable ℕ) → holds (keys q) y ≡ false → value_in same_number q y ≡ None
no_value [] y e = refl
no_value (p ∷ q) y e = go (same_numbered p.0 y) e (no_value q y)
  where
    go : (b : Bool) → (b || holds (keys q) y) ≡ false → (holds (keys q) y ≡ false → value_in same_number q y ≡ None) → cond b (Some p.1) (value_in same_number q y) ≡ None
    go true e rest = absurd (false≢true (sym e))
    go false e rest = rest e

-- a value is that of a pair
found_pair : {Hint : Type 0} (r : Substitution ℕ Hint) (y : Variable ℕ) (u : Term ℕ Hint) → value_in same_number r y ≡ Some u → (p : Variable ℕ × Term ℕ Hint) × Contains r p × (p.1 ≡ u)
found_pair [] y u e = absurd (cc)
found_pair {Hint = Hint} (p ∷ r) y u e = go (same_numbered p.0 y) e (found_pair r y u)
  where
    go : (b : Bool) → cond b (Some p.1) (value_in same_number r y) ≡ Some u → (value_in same_number r y ≡ Some u → (k : Variable ℕ × Term ℕ Hint) × Contains r k × (k.1 ≡ u)) → (k : Variable ℕ × Term ℕ Hint) × Contains (p ∷ r) k × (k.1 ≡ u)
    go true e rest = let same : p.1 ≡ u = cc in (p, Contains-here p r, same)
    go false e rest = let k = rest e in (k.0, Contains-there p r k.0 k.1, k.2)

-- a numbered variable is a cell
pub numbered_cell : {Hint : Type 0} (made : List (Cell Hint)) (n : ℕ) (y : Variable ℕ) → holds (numbered n made) y ≡ true → (k : ℕ) × (y.name ≡ n + k) × (option_map (λ (c : Cell Hint). c.type) (slice_get made k) ≡ Some y.type)
numbered_cell [] n y h = absurd (false≢true h)
numbered_cell {Hint = Hint} (c ∷ made) n y h = elim (or_cases (same_numbered (record { name = n; type = c.type }) y) (holds (numbered (suc n) made) y) h) [
  | inl a ↦ (
      let first : Variable ℕ = record { name = n; type = c.type } in
      let same : first ≡ y = (same_numbered-Decides first y).0 a in
      let name : n ≡ y.name = ap (λ v. v.name) same in
      (zero, omega (arith, name), ap (λ v. Some v.type) same))
  | inr a ↦ (let r = numbered_cell made (suc n) y a in let sum = r.1 in (suc r.0, omega (arith, sum), r.2))
]

pub at_behind : {Hint : Type 0} (cells made : List (Cell Hint)) (k n : ℕ) (A : Ty) → n ≡ length cells + k → option_map (λ (c : Cell Hint). c.type) (slice_get made k) ≡ Some A → option_map (λ (c : Cell Hint). c.type) (slice_get (cells ++ made) n) ≡ Some A
at_behind [] made k n A e f = subst (λ m. option_map (λ c. c.type) (slice_get made m) ≡ Some A) (let same : k ≡ n = omega (arith, e) in same) f
at_behind (c ∷ cells) made k zero A e f = absurd (omega (arith, e))
at_behind (c ∷ cells) made k (suc n) A e f = at_behind cells made k n A (omega (arith, e)) f

-- a variable's own form holds that variable alone
pub own_holds : (y v : Variable ℕ) → holds (variables (bare_own y)) v ≡ true → v ≡ y
own_holds y v h = has_held (λ z. z ≡ y) (bare_own y) (expansion_of_has (λ z. z ≡ y) tt y.type (variable y) _ refl tt) v h

-- what two maps do to it is the same where they are the same for it
pub own_agrees : (f g : Put) (y : Variable ℕ) → f y ≡ g y → image_by f (bare_own y) ≡ image_by g (bare_own y)
own_agrees f g y e = image_agrees f g (bare_own y) (λ v m. let same = own_holds y v (contains_holds (variables (bare_own y)) v m) in ap f same ∙ e ∙ sym (ap g same))

pub own_stays : (f : Put) (y : Variable ℕ) → f y ≡ None → image_by f (bare_own y) ≡ bare_own y
own_stays f y e = own_agrees f (value_in same_number []) y e ∙ image_none (bare_own y)

module _ (sg : Signature) {Hint : Type 0} (x : Hint) (es : List (Equation Hint)) (cells : List (Cell Hint)) (ys : List (Variable ℕ)) (typed : AreTyped sg es) (known : AreKnown cells ys) (ys_cells : (y : Variable ℕ) → holds ys y ≡ true → IsCell cells y) (over : AllHoldCells cells es)
    (more : List (Cell Hint)) (q : Substitution ℕ Hint) (solves : Solves x (given es cells ys) (unified more q)) where
  answers : Grows cells more × All (λ p. IsCell more p.0 × HoldsCells more p.1) q
  answers = answer_cells x es cells ys ys_cells over more q solves

  pub answer_grows : Grows cells more
  answer_grows = answers.0

  -- a value's variables are cells, and not replaced
  value_has : (y : Variable ℕ) (u : Term ℕ Hint) → value_in same_number q y ≡ Some u → Has (λ z. IsCell more z × (holds (keys q) z ≡ false)) u
  value_has y u e = held_has (λ z. IsCell more z × (holds (keys q) z ≡ false)) u (λ z h.
      let there = holds_contains (variables u) z h in
      (cells_there q answers.1 y u e z there, none_replaced x es cells ys known (cells_all_over cells es over) more q solves y u e z there))
    where
      cells_there : (r : Substitution ℕ Hint) → All (λ p. IsCell more p.0 × HoldsCells more p.1) r → (y : Variable ℕ) (u : Term ℕ Hint) → value_in same_number r y ≡ Some u → (z : Variable ℕ) → Contains (variables u) z → IsCell more z
      cells_there r all y u e z m = let there = found_pair r y u e in (All-contains (λ p. IsCell more p.0 × HoldsCells more p.1) r there.0 all there.1).1 z (subst (λ t. Contains (variables t) z) (sym there.2) m)

  -- what stands in an image is a cell, and not replaced
  image_has : (t : Term ℕ Hint) → HoldsCells cells t → Has (λ z. IsCell more z × (holds (keys q) z ≡ false)) (image same_number q t)
  image_has t h = image_by_has (IsCell cells) (λ z. IsCell more z × (holds (keys q) z ≡ false)) (value_in same_number q) value_has (λ y e p. (cell_kept cells more answers.0 y p, not_key q y e)) t (held_has (IsCell cells) t (λ y m. h y (holds_contains (variables t) y m)))

  pub image_cells : (t : Term ℕ Hint) → HoldsCells cells t → HoldsCells more (image same_number q t)
  image_cells t h y m = (has_held (λ z. IsCell more z × (holds (keys q) z ≡ false)) (image same_number q t) (image_has t h) y (contains_holds (variables (image same_number q t)) y m)).0

  abbrev pub left : List (Variable ℕ)
  left = left_of cells ys more q

  -- the variables that are left are cells
  pub left_cells : (y : Variable ℕ) → holds left y ≡ true → IsCell more y
  left_cells y h = elim (not_held ys (numbered (length cells) (drop (length cells) more)) y (filter_from (λ z. not (holds (keys q) z)) (ys ++ numbered (length cells) (drop (length cells) more)) y h)) [
    | inl a ↦ cell_kept cells more answers.0 y (ys_cells y a)
    | inr a ↦ (
        let made = answers.0 in
        let at = numbered_cell (drop (length cells) more) (length cells) y a in
        let there = subst (λ m. option_map (λ (c : Cell Hint). c.type) (slice_get m at.0) ≡ Some y.type) (ap (drop (length cells)) made.1 ∙ drop_front cells made.0) at.2 in
        subst (λ m. IsCell m y) (sym made.1) (at_behind cells made.0 at.0 y.name y.type at.1 there))
  ]

  pub left_known : AreKnown more left
  left_known y h = known_cell more y.name y.type (left_cells y h)

  module _ (f : Put) (fits : Fits sg [] ys f) (alike : AllAlike f es) where
    pub follows : Most sg [] no_names x (length cells) f (unified more q)
    follows = lifts sg x es cells ys typed known (cells_all_over cells es over) f fits alike (unified more q) solves

    abbrev pub next : Put
    next = (follows.1).next

    abbrev pub or_own : Variable ℕ → Option (Term ℕ (Unit {0})) → Term ℕ (Unit {0})
    or_own y None = bare_own y
    or_own y (Some v) = v

    -- THE GUESS for what is left
    abbrev pub rest : Put
    rest y = cond (holds left y) (Some (or_own y (next y))) None

    own_typed : (y : Variable ℕ) (o : Option (Term ℕ (Unit {0}))) → next y ≡ o → HasType sg [] (or_own y o) y.type
    own_typed y None e = expansion_typed sg tt y.type [] (variable y) refl
    own_typed y (Some v) e = (follows.1).fits.typed y v e

    own_only : (y : Variable ℕ) (o : Option (Term ℕ (Unit {0}))) → next y ≡ o → Only [] (or_own y o)
    own_only y None e = expansion_only tt y.type [] (variable y) refl
    own_only y (Some v) e = (follows.1).fits.has y v e

    rest_value : (P : Term ℕ (Unit {0}) → Type 0) (y : Variable ℕ) → P (or_own y (next y)) → (b : Bool) (u : Term ℕ (Unit {0})) → cond b (Some (or_own y (next y))) None ≡ Some u → P u
    rest_value P y p true u e = let same : or_own y (next y) ≡ u = cc in subst P same p
    rest_value P y p false u e = absurd (cc)

    pub rest_fits : Fits sg [] left rest
    rest_fits = record {
      typed = λ y u e. rest_value (λ t. HasType sg [] t y.type) y (own_typed y (next y) refl) (holds left y) u e;
      has = λ y u e. rest_value (Only []) y (own_only y (next y) refl) (holds left y) u e;
      some = λ y h. (or_own y (next y), ap (λ b. cond b (Some (or_own y (next y))) None) h);
      none = λ y h. ap (λ b. cond b (Some (or_own y (next y))) None) h;
    }

    -- it does what follows the answer, for what stands in an image
    rest_same : (y : Variable ℕ) → IsCell more y → holds (keys q) y ≡ false → image_by rest (bare_own y) ≡ image_by next (bare_own y)
    rest_same y c k = go (holds left y) refl
      where
        at_left : (o : Option (Term ℕ (Unit {0}))) → next y ≡ o → rest y ≡ Some (or_own y o) → image_by rest (bare_own y) ≡ image_by next (bare_own y)
        at_left None e f = image_by-own sg ℕ rest rest_fits.typed y (bare_own y) f ∙ sym (own_stays next y e)
        at_left (Some v) e f = own_agrees rest next y (f ∙ sym e)

        go : (b : Bool) → holds left y ≡ b → image_by rest (bare_own y) ≡ image_by next (bare_own y)
        go true h = at_left (next y) refl (ap (λ b. cond b (Some (or_own y (next y))) None) h)
        go false h = own_agrees rest next y (ap (λ b. cond b (Some (or_own y (next y))) None) h ∙ sym (none_next (below_or y.name (length cells))))
          where
            not_left : (holds (ys ++ numbered (length cells) (drop (length cells) more)) y ≡ true) → ⊥
            not_left there = false≢true (sym h ∙ filter_held (λ z. not (holds (keys q) z)) (ys ++ numbered (length cells) (drop (length cells) more)) y there (ap not k))

            none_next : (y.name < length cells) ⊎ (length cells ≤ y.name) → next y ≡ None
            none_next (inr l) = absurd (not_left (holds_behind ys (numbered (length cells) (drop (length cells) more)) y (made_held cells more answers.0 y l c)))
            none_next (inl l) = sym (ap (then_by next y) (ap (option_map forget) (no_value q y k))) ∙ (follows.1).through y l ∙ fits.none y (false_from_ne_true (holds ys y) (λ m. not_left (holds_front ys (numbered (length cells) (drop (length cells) more)) y m)))

    -- THE GUESS IS THE ANSWER AND THEN THE REST
    pub lifted : {G : List Ty} {A : Ty} (t : Term ℕ Hint) → HasType sg G t A → HoldsCells cells t → image_by rest (forget (image same_number q t)) ≡ image_by f (forget t)
    lifted t d h =
        let q_typed = answer_typed sg x es cells ys typed known more q solves in
        let T = image same_number q t in
        maps_agree sg rest next rest_fits.typed (follows.1).fits.typed (translate_typed sg (λ v. v) (λ y. tt) (image_typed sg same_number q q_typed d))
        (λ y m.
        let p = has_held (λ z. IsCell more z × (holds (keys q) z ≡ false)) T (image_has t h) y (ap (λ l. holds l y) (sym (variables-forget T)) ∙ m) in
        rest_same y p.0 p.1)
        ∙ follows_on sg [] q_typed follows.1 d (over_known cells t (cells_over cells t h))

-- IN THE WORDS OF GUESSES
module _ (sg : Signature) {Hint : Type 0} (x : Hint) (es : List (Equation Hint)) (cells : List (Cell Hint)) (ys : List (Variable ℕ)) (typed : AreTyped sg es) (known : AreKnown cells ys) (ys_cells : (y : Variable ℕ) → holds ys y ≡ true → IsCell cells y) (over : AllHoldCells cells es)
    (f : Guess) (guess : IsGuessFor sg ys f) (equal : MakesEqual f es) where
  as_fits : Fits sg [] ys f
  as_fits = record {
    typed = guess.typed;
    has = λ y v e. support_only sg [] [] v (guess.typed y v e) (λ i l. absurd (omega (arith, l))) (λ a m. absurd (Contains-none a (subst (λ k. Contains k a) (guess.nameless y v e) (contained (support v) a m))));
    some = guess.some;
    none = guess.none;
  }

  as_alike : (fs : List (Equation Hint)) → MakesEqual f fs → AllAlike f fs
  as_alike [] q = tt
  as_alike (e ∷ fs) q = (q.0, as_alike fs q.1)

  pub guess_not_apart : ¬ (Solves x (given es cells ys) apart)
  guess_not_apart p = lifts sg x es cells ys typed known (cells_all_over cells es over) f as_fits (as_alike es equal) apart p

  pub guess_lifts : (more : List (Cell Hint)) (q : Substitution ℕ Hint) → Solves x (given es cells ys) (unified more q)
      → (r : Guess) × IsGuessFor sg (left_of cells ys more q) r × ((G : List Ty) (t : Term ℕ Hint) (A : Ty) → HasType sg G t A → HoldsCells cells t → image_by r (forget (image same_number q t)) ≡ image_by f (forget t))
  guess_lifts more q p =
      let fits = rest_fits sg x es cells ys typed known ys_cells over more q p f as_fits (as_alike es equal) in (
        rest sg x es cells ys typed known ys_cells over more q p f as_fits (as_alike es equal),
        record { typed = fits.typed; nameless = λ y v e. nameless_support v (fits.has y v e); some = fits.some; none = fits.none },
        λ G t A d h. lifted sg x es cells ys typed known ys_cells over more q p f as_fits (as_alike es equal) t d h,
      )
