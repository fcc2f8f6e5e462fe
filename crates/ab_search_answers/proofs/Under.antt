-- ONE STEP DOWN: the equations of a way are solved, and what is put in goes to all goals. What was in a scope still is; and what is put in in the end
-- below is, with the answer before it, what is put in in the end here.
use Rattle.std.proofs.Common.{◌≡◌, ◌⊎◌, inl, inr, ℕ, zero, suc, ◌+◌, ◌<◌, ◌≤◌, List, [], ◌∷◌, ◌++◌, length, drop, codes, Bool, true, false, cond, not, Option, Some, None, option_map, refl, sym, ◌∙◌, ap, subst, arith, length-append}
use Rattle.std.specs.Prelude.{All, Contains, slice_get}
use Rattle.std.proofs.lemmas.Bool.{false≢true, false_from_ne_true}
use Rattle.std.proofs.lemmas.List.Elements.{All-head, All-tail, All-weaker}
use Rattle.ab_term.specs.Types.{Ty}
use Rattle.ab_term.specs.Terms.{Nominal, Variable, Read}
use Rattle.ab_term.specs.Typing.{Signature}
use Rattle.ab_term.specs.Names.{support}
use Rattle.ab_term.specs.Variables.{Substitution, variables, value_in, image, composition, IsTyped}
use Rattle.ab_term.specs.Sameness.{same_numbered, same_number}
use Rattle.ab_term.proofs.Compositions.{then_by, value_in-composition, composition_typed}
use Rattle.ab_term.proofs.Lists.{Contains-none}
use Rattle.ab_term.proofs.Stands.{support-image, variables-image}
use Rattle.ab_unifiers.specs.Replacements.{Cell, holds}
use Rattle.ab_unifiers.specs.Unification.{Equation, unified, Solves}
use Rattle.ab_unifiers.specs.Unifiers.{given, AreTyped, AreKnown, IsCell, HoldsCells, AllHoldCells, keys}
use Rattle.ab_unifiers.specs.Clauses.{numbered}
use Rattle.ab_unifiers.proofs.Agreeing.{contains_holds, holds_front, holds_behind}
use Rattle.ab_unifiers.proofs.Avoiding.{not_held}
use Rattle.ab_unifiers.proofs.Cells.{Grows, answer_cells}
use Rattle.ab_unifiers.proofs.Keys.{keys-composition}
use Rattle.ab_unifiers.proofs.Once.{answer_once}
use Rattle.ab_unifiers.proofs.Problems.{answer_typed, answer_clean}
use Rattle.ab_unifiers.proofs.RenumberedAnswers.{value_given}
use Rattle.ab_unifiers.proofs.Restricted.{key_held}
use Rattle.ab_unifiers.proofs.Rows.{numbered_within, held_append}
use Rattle.ab_unifiers.proofs.Variables.{holds_contains}
use Rattle.ab_formulas.proofs.Idempotent.{none_replaced}
use Rattle.ab_formulas.specs.GoalTerms.{HoldsOnly}
use Rattle.ab_pattern_matching.specs.Reading.{Every}
use Rattle.ab_search_trees.specs.Goals.{Now}
use Rattle.ab_search_trees.specs.Lifting.{left_of}
use Rattle.ab_search_trees.proofs.Lifts.{known_cell, cells_all_over, numbered_at, filter_held, filter_from}
use Rattle.ab_search_trees.proofs.Carried.{AreFlexible}
use Rattle.ab_search_answers.proofs.Alone.{Missing, left_alone}
use Rattle.ab_search_answers.proofs.Final.{Scopes, IsIn, InScope, IsFinal, final_scope}

-- a cell behind the others
behind_at : (cells made : List (Cell (List ℕ))) (n : ℕ) (A : Ty) → length cells ≤ n → option_map (λ (c : Cell (List ℕ)). c.type) (slice_get (cells ++ made) n) ≡ Some A
    → (k : ℕ) × (n ≡ length cells + k) × (option_map (λ (c : Cell (List ℕ)). c.type) (slice_get made k) ≡ Some A)
behind_at [] made n A l e = (n, omega arith, e)
behind_at (c ∷ cells) made zero A l e = absurd (omega (arith, l))
behind_at (c ∷ cells) made (suc n) A l e = let r = behind_at cells made n A (omega (arith, l)) e in let sum = r.1 in (r.0, omega (arith, sum), r.2)

drop_front : {X : Type 0} (xs ys : List X) → drop (length xs) (xs ++ ys) ≡ ys
drop_front [] ys = refl
drop_front (x ∷ xs) ys = drop_front xs ys

-- what holds of what is put in holds of each value
of_pairs : (P : Read → Type 0) (r : Substitution ℕ (List ℕ)) → All (λ p. P p.1) r → (y : Variable ℕ) (u : Read) → value_in same_number r y ≡ Some u → P u
of_pairs P [] a y u e = absurd (cc)
of_pairs P (p ∷ r) a y u e = go (same_numbered p.0 y) e (of_pairs P r (All-tail (λ p. P p.1) p r a) y u)
  where
    go : (b : Bool) → cond b (Some p.1) (value_in same_number r y) ≡ Some u → (value_in same_number r y ≡ Some u → P u) → P u
    go true e rest = let same : p.1 ≡ u = cc in subst P same (All-head (λ p. P p.1) p r a)
    go false e rest = rest e

-- both sides of an equation are in the scope
abbrev pub BothIn : Now → Scopes → List (Variable ℕ) → Equation (List ℕ) → Type 0
BothIn now S ys e = InScope now S ys e.left × InScope now S ys e.right

module _ (sg : Signature) (mid : Now) (flexible : AreFlexible mid) (es : List (Equation (List ℕ))) (typed : AreTyped sg es) (over : AllHoldCells mid.cells es)
    (more : List (Cell (List ℕ))) (q : Substitution ℕ (List ℕ)) (solves : Solves (codes "x") (given es mid.cells mid.flexible) (unified more q)) (answer : Substitution ℕ (List ℕ))
    (S : Scopes) (ys : List (Variable ℕ)) (newer : (y : Variable ℕ) → length mid.cells ≤ y.name → S y ≡ ys) (both : Every (BothIn mid S ys) es) where
  abbrev after : Now
  after = record { cells = more; flexible = left_of mid.cells mid.flexible more q; answer = answer; held = mid.held }

  abbrev news : List (Variable ℕ)
  news = numbered (length mid.cells) (drop (length mid.cells) more)

  known : AreKnown mid.cells mid.flexible
  known y h = known_cell mid.cells y.name y.type (flexible y h)

  cells : Grows mid.cells more × All (λ p. IsCell more p.0 × HoldsCells more p.1) q
  cells = answer_cells (codes "x") es mid.cells mid.flexible flexible over more q solves

  value_cells : (y : Variable ℕ) (u : Read) → value_in same_number q y ≡ Some u → HoldsCells more u
  value_cells y u e = of_pairs (HoldsCells more) q (All-weaker (λ (p : Variable ℕ × Read). IsCell more p.0 × HoldsCells more p.1) (λ (p : Variable ℕ × Read). HoldsCells more p.1) (λ p c. c.1) q cells.1) y u e

  -- a variable that stands in the equations is in their scope
  in_or_missing : (y : Variable ℕ) (fs : List (Equation (List ℕ))) → Every (BothIn mid S ys) fs → Every (Missing y) fs ⊎ IsIn mid S ys y
  in_or_missing y [] b = inl tt
  in_or_missing y (e ∷ fs) b = go (holds (variables e.left) y) refl (holds (variables e.right) y) refl (in_or_missing y fs b.1)
    where
      go : (l : Bool) → holds (variables e.left) y ≡ l → (r : Bool) → holds (variables e.right) y ≡ r → Every (Missing y) fs ⊎ IsIn mid S ys y → Every (Missing y) (e ∷ fs) ⊎ IsIn mid S ys y
      go true l r k rest = inr (b.0.0 y (holds_contains (variables e.left) y l))
      go false l true r rest = inr (b.0.1 y (holds_contains (variables e.right) y r))
      go false l false r (inl m) = inl ((l, r), m)
      go false l false r (inr k) = inr k

  -- so is one that is replaced, or comes into what is put in, if it was there before
  replaced_in : (y : Variable ℕ) (u : Read) → y.name < length mid.cells → value_in same_number q y ≡ Some u → IsIn mid S ys y
  replaced_in y u low e = elim (in_or_missing y es both) [
    | inl m ↦ absurd (let none = (left_alone y (codes "x") es mid.cells more mid.flexible q solves low m).0 in let bad : None ≡ Some u = sym none ∙ e in cc)
    | inr k ↦ k
  ]

  comes_in : (y : Variable ℕ) (u : Read) → value_in same_number q y ≡ Some u → (z : Variable ℕ) → Contains (variables u) z → z.name < length mid.cells → IsIn mid S ys z
  comes_in y u e z m low = elim (in_or_missing z es both) [
    | inl n ↦ absurd (false≢true (sym ((left_alone z (codes "x") es mid.cells more mid.flexible q solves low n).1 y u e) ∙ contains_holds (variables u) z m))
    | inr k ↦ k
  ]

  -- what is left
  stays_left : (y : Variable ℕ) → holds (mid.flexible ++ news) y ≡ true → holds (keys q) y ≡ false → holds after.flexible y ≡ true
  stays_left y h k = filter_held (λ z. not (holds (keys q) z)) (mid.flexible ++ news) y h (ap not k)

  not_left : (y : Variable ℕ) → holds mid.flexible y ≡ false → y.name < length mid.cells → holds after.flexible y ≡ false
  not_left y n l = false_from_ne_true (holds after.flexible y) (λ h. elim (not_held mid.flexible news y (filter_from (λ z. not (holds (keys q) z)) (mid.flexible ++ news) y h)) [
    | inl a ↦ false≢true (sym n ∙ a)
    | inr a ↦ (let low = (numbered_within (length mid.cells) (drop (length mid.cells) more) y a).0 in absurd (omega (arith, low, l)))
  ])

  made_held : (y : Variable ℕ) → length mid.cells ≤ y.name → IsCell more y → holds news y ≡ true
  made_held y l e =
      let g = cells.0 in
      let at = behind_at mid.cells g.0 y.name y.type l (subst (λ m. IsCell m y) g.1 e) in
      subst (λ m. holds (numbered (length mid.cells) m) y ≡ true) (sym (drop_front mid.cells g.0) ∙ ap (drop (length mid.cells)) (sym g.1)) (numbered_at g.0 (length mid.cells) at.0 y at.1 at.2)

  -- WHAT IS PUT IN is in the scope of the equations
  below_or : (i m : ℕ) → (i < m) ⊎ (m ≤ i)
  below_or i zero = inr (omega arith)
  below_or zero (suc m) = inl (omega arith)
  below_or (suc i) (suc m) = elim (below_or i m) [ inl a ↦ inl (omega (arith, a)) | inr b ↦ inr (omega (arith, b)) ]

  still_in : (zs : List (Variable ℕ)) (y : Variable ℕ) → holds (keys q) y ≡ false → y.name < length mid.cells → IsIn mid S zs y → IsIn after S zs y
  still_in zs y k low (inl a) = inl (stays_left y (holds_front mid.flexible news y a.0) k, a.1)
  still_in zs y k low (inr a) = inr (not_left y a.0 low, a.1)

  value_in_scope : (y : Variable ℕ) (u : Read) → value_in same_number q y ≡ Some u → InScope after S ys u
  value_in_scope y u e z m =
      let kept = none_replaced (codes "x") es mid.cells mid.flexible known (cells_all_over mid.cells es over) more q solves y u e z m in
      elim (below_or z.name (length mid.cells)) [
        | inl low ↦ still_in ys z kept low (comes_in y u e z m low)
        | inr high ↦ inl (stays_left z (holds_behind mid.flexible news z (made_held z high (value_cells y u e z m))) kept, newer z high)
      ]

  not_key : (y : Variable ℕ) → value_in same_number q y ≡ None → holds (keys q) y ≡ false
  not_key y e = false_from_ne_true (holds (keys q) y) (λ k. let v = value_given (λ i. i) q y k in absurd (let bad : None ≡ Some v.0 = sym e ∙ v.1 in cc))

  -- WHAT WAS IN A SCOPE still is
  pub in_under : (zs : List (Variable ℕ)) (t : Read) → HoldsCells mid.cells t → InScope mid S zs t → InScope after S zs (image same_number q t)
  in_under zs t cells_of in_zs y m = elim (variables-image (value_in same_number q) t y m) [
    | inl a ↦ still_in zs y (not_key y a.1) (known_cell mid.cells y.name y.type (cells_of y a.0)) (in_zs y a.0)
    | inr a ↦ (
        let z = a.0 in
        let u = a.1 in
        let at = (a.2).0 in
        let e = (a.2).1 in
        let low = known_cell mid.cells z.name z.type (cells_of z at) in
        subst (λ l. IsIn after S l y) (one_scope z u low e (in_zs z at)) (value_in_scope z u e y a.3))
  ]
    where
      one_scope : (z : Variable ℕ) (u : Read) → z.name < length mid.cells → value_in same_number q z ≡ Some u → IsIn mid S zs z → ys ≡ zs
      one_scope z u low e (inl b) = elim (replaced_in z u low e) [ inl c ↦ sym c.1 ∙ b.1 | inr c ↦ absurd (false≢true (sym c.0 ∙ b.0)) ]
      one_scope z u low e (inr b) = elim ((answer_once (codes "x") es mid.cells mid.flexible known more q solves).1 z (key_held q z u e)) [
        | inl c ↦ absurd (false≢true (sym b.0 ∙ c))
        | inr c ↦ (let high = c.0 in absurd (omega (arith, high, low)))
      ]

  -- WHAT IS PUT IN IN THE END below, with the answer before it
  module _ (r : Substitution ℕ (List ℕ)) (final : IsFinal sg after S r) where
    q_typed : IsTyped sg q
    q_typed = answer_typed sg (codes "x") es mid.cells mid.flexible typed known more q solves

    value_both : (y : Variable ℕ) (o : Option Read) → value_in same_number q y ≡ o → value_in same_number (composition same_number q r) y ≡ then_by (value_in same_number r) y o
    value_both y o e = value_in-composition same_number q r y ∙ ap (then_by (value_in same_number r) y) e

    clear_both : (y : Variable ℕ) (v : Read) → value_in same_number (composition same_number q r) y ≡ Some v → (a : Nominal) → Contains (support v) a → ¬ (Contains mid.held a)
    clear_both y v e a m h = go (value_in same_number q y) refl
      where
        go : (o : Option Read) → value_in same_number q y ≡ o → ⊥
        go None f = final.clear y v (sym (value_both y None f) ∙ e) a m h
        go (Some u) f =
            let same : image same_number r u ≡ v = (let two : Some (image same_number r u) ≡ Some v = sym (value_both y (Some u) f) ∙ e in cc) in
            elim (support-image (value_in same_number r) u a (subst (λ k. Contains (support k) a) (sym same) m)) [
              | inl b ↦ Contains-none a (subst (λ l. Contains l a) (answer_clean sg (codes "x") es mid.cells mid.flexible typed known more q solves y u f) b)
              | inr b ↦ final.clear b.0 b.1 (b.2).1 a b.3 h
            ]

    within_both : (y : Variable ℕ) → holds (keys (composition same_number q r)) y ≡ true → (holds mid.flexible y ≡ true) ⊎ (length mid.cells ≤ y.name)
    within_both y e = elim (held_append (keys q) (keys r) y (subst (λ l. holds l y ≡ true) (keys-composition q r) e)) [
      | inl c ↦ elim ((answer_once (codes "x") es mid.cells mid.flexible known more q solves).1 y c) [ inl b ↦ inl b | inr b ↦ inr b.0 ]
      | inr c ↦ elim (final.within y c) [
        | inl b ↦ elim (not_held mid.flexible news y (filter_from (λ z. not (holds (keys q) z)) (mid.flexible ++ news) y b)) [ inl d ↦ inl d | inr d ↦ inr (numbered_within (length mid.cells) (drop (length mid.cells) more) y d).0 ]
        | inr b ↦ inr (let g = (cells.0).1 in longer g b)
      ]
    ]
      where
        longer : more ≡ mid.cells ++ (cells.0).0 → length more ≤ y.name → length mid.cells ≤ y.name
        longer g b = let sum = ap length g ∙ length-append mid.cells (cells.0).0 in omega (arith, sum, b)

    some_both : (y : Variable ℕ) → holds mid.flexible y ≡ true → (v : Read) × (value_in same_number (composition same_number q r) y ≡ Some v)
    some_both y h = go (value_in same_number q y) refl
      where
        go : (o : Option Read) → value_in same_number q y ≡ o → (v : Read) × (value_in same_number (composition same_number q r) y ≡ Some v)
        go None f = let v = final.some y (stays_left y (holds_front mid.flexible news y h) (not_key y f)) in (v.0, value_both y None f ∙ v.1)
        go (Some u) f = (image same_number r u, value_both y (Some u) f)

    scoped_both : (y : Variable ℕ) (v : Read) → holds mid.flexible y ≡ true → value_in same_number (composition same_number q r) y ≡ Some v → HoldsOnly (S y) v
    scoped_both y v h e = go (value_in same_number q y) refl
      where
        go : (o : Option Read) → value_in same_number q y ≡ o → HoldsOnly (S y) v
        go None f = final.scoped y v (stays_left y (holds_front mid.flexible news y h) (not_key y f)) (sym (value_both y None f) ∙ e)
        go (Some u) f =
            let same : image same_number r u ≡ v = (let two : Some (image same_number r u) ≡ Some v = sym (value_both y (Some u) f) ∙ e in cc) in
            let here = final_scope sg after S r final ys u (value_cells y u f) (value_in_scope y u f) in
            subst (HoldsOnly (S y)) same (elim (replaced_in y u (known y h) f) [ inl c ↦ subst (λ l. HoldsOnly l (image same_number r u)) (sym c.1) here | inr c ↦ absurd (false≢true (sym c.0 ∙ h)) ])

    pub final_under : IsFinal sg mid S (composition same_number q r)
    final_under = record { typed = composition_typed sg same_number q q_typed r final.typed; clear = clear_both; within = within_both; some = some_both; scoped = scoped_both }
