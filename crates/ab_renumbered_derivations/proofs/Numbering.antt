-- NUMBERS BETWEEN TWO GOALS that are the same with names for numbers: each variable of the first gets the number of the second's of its name, and all
-- other numbers go on behind the second's cells.
use Rattle.std.specs.Prelude.{if◌then◌else◌, ◌==◌, slice_get, bytes_eq, All, AllPairs, Contains}
use Rattle.std.proofs.Common.{◌≡◌, ◌≢◌, ◌⊎◌, inl, inr, ℕ, zero, suc, ◌+◌, List, [], ◌∷◌, ◌++◌, map, length, Bool, true, false, Some, refl, sym, ◌∙◌, ap, subst, arith, length-append}
use Rattle.std.proofs.lemmas.Bool.{eqb-true, false_from_ne_true}
use Rattle.std.proofs.lemmas.List.Elements.{All-head, All-tail, All-weaker, All-contains}
use Rattle.std.proofs.lemmas.Option.{slice_get_within}
use Rattle.std.proofs.lemmas.Slice.Eq.{bytes_eq-Decides}
use Rattle.std.specs.Cmp.{unsigned_Decides}
use Rattle.ab_term.specs.Terms as tree
use Rattle.ab_term.specs.Terms.{Read}
use Rattle.ab_term.specs.Translation.{translate}
use Rattle.ab_term.specs.Variables.{variables}
use Rattle.ab_term.proofs.Lists.{Contains-none, Contains-here, Contains-there, Contains-cases, Contains-from_map, AllPairs-parts}
use Rattle.ab_unifiers.specs.Renumbering.{IsRenumbering}
use Rattle.ab_unifiers.specs.Replacements.{Cell}
use Rattle.ab_unifiers.proofs.Changes.{front, rear}
use Rattle.ab_formulas.specs.Declarations.{Declarations}
use Rattle.ab_formulas.specs.NamedGoals as shown
use Rattle.ab_formulas.specs.NamedGoals.{Goal, name_in, with_names, variable_named, hypothesis_named, named}
use Rattle.ab_formulas.specs.Sequents.{Variable, Hypothesis, Sequent, IsSequent, HoldsOnly, in_terms, formulas}
use Rattle.ab_formulas.proofs.GoalsAgreeing.{translate_agrees}
use Rattle.ab_theory.specs.Equations.{AreCells}
use Rattle.ab_theory.specs.Splits.{cell_for}
use Rattle.ab_effects.proofs.Renumbered.{translate_twice, moved_variable, moved_hypothesis, moved_goal}
use Rattle.ab_effects.proofs.Thirds.{at_all}
use Rattle.ab_search_trees.proofs.MovedForms.{T}
use Rattle.ab_derived_goals.proofs.Itself.{term_itself}
use Rattle.ab_renumbered_derivations.proofs.Formulas.{closed_moved}

abbrev Cells : Type 0
Cells = List (Cell (List ℕ))

abbrev NumbersDiffer : List Variable → Type 0
NumbersDiffer = AllPairs (λ (x y : Variable). x.number ≢ y.number)

abbrev NamesDiffer : List Variable → Type 0
NamesDiffer = AllPairs (λ (x y : Variable). x.name ≢ y.name)

abbrev AlikeVariables : List Variable → List Variable → Type 0
AlikeVariables xs ys = map variable_named xs ≡ map variable_named ys

first_alike : (x y : Variable) (xs ys : List Variable) → AlikeVariables (x ∷ xs) (y ∷ ys) → variable_named x ≡ variable_named y
first_alike x y xs ys e = cc

rest_alike : (x y : Variable) (xs ys : List Variable) → AlikeVariables (x ∷ xs) (y ∷ ys) → AlikeVariables xs ys
rest_alike x y xs ys e = cc

none_alike : {X : Type 0} (y : Variable) (ys : List Variable) → [] ≡ map variable_named (y ∷ ys) → X
none_alike y ys e = absurd (cc)

same_itself : (n : ℕ) → (n == n) ≡ true
same_itself n = (unsigned_Decides n n).1 refl

other_number : (m n : ℕ) → m ≢ n → (m == n) ≡ false
other_number m n apart = false_from_ne_true (m == n) (λ e. apart (eqb-true m n e))

-- THE NUMBER of the partner of the variable of a number, or else d
abbrev partner : List Variable → List Variable → ℕ → ℕ → ℕ
partner [] ys j d = d
partner (x ∷ xs) [] j d = d
partner (x ∷ xs) (y ∷ ys) j d = if x.number == j then y.number else partner xs ys j d

-- the two stand at one place
record ArePartners (xs ys : List Variable) (x y : Variable) : Type 0 where
  place : ℕ
  first : slice_get xs place ≡ Some x
  second : slice_get ys place ≡ Some y
  alike : variable_named x ≡ variable_named y

further : (a b : Variable) (xs ys : List Variable) (x y : Variable) → ArePartners xs ys x y → ArePartners (a ∷ xs) (b ∷ ys) x y
further a b xs ys x y p = record { place = suc p.place; first = p.first; second = p.second; alike = p.alike }

abbrev Placed : List Variable → List Variable → ℕ → ℕ → Type 0
Placed xs ys j d = ((x : Variable) × (y : Variable) × ArePartners xs ys x y × (x.number ≡ j) × (partner xs ys j d ≡ y.number)) ⊎ (partner xs ys j d ≡ d)

placed : (xs ys : List Variable) (j d : ℕ) → AlikeVariables xs ys → Placed xs ys j d
placed [] ys j d e = inr refl
placed (x ∷ xs) [] j d e = inr refl
placed (x ∷ xs) (y ∷ ys) j d e = go (x.number == j) refl (placed xs ys j d (rest_alike x y xs ys e))
  where
    go : (b : Bool) → (x.number == j) ≡ b → Placed xs ys j d → Placed (x ∷ xs) (y ∷ ys) j d
    go true is w = inl (x, y, record { place = 0; first = refl; second = refl; alike = first_alike x y xs ys e }, eqb-true x.number j is, ap (λ b. if b then y.number else partner xs ys j d) is)
    go false is (inl w) = inl (w.0, w.1, further x y xs ys w.0 w.1 w.2, w.3, ap (λ b. if b then y.number else partner xs ys j d) is ∙ w.4)
    go false is (inr w) = inr (ap (λ b. if b then y.number else partner xs ys j d) is ∙ w)

-- a variable of the list has a partner
has_partner : (xs ys : List Variable) → AlikeVariables xs ys → (x : Variable) → Contains xs x → (y : Variable) × ArePartners xs ys x y
has_partner [] ys e x c = absurd (Contains-none x c)
has_partner (a ∷ xs) [] e x c = none_alike a xs (sym e)
has_partner (a ∷ xs) (b ∷ ys) e x c = go (λ d. has_partner xs ys (rest_alike a b xs ys e) x d) (Contains-cases a xs x c)
  where
    go : (Contains xs x → (y : Variable) × ArePartners xs ys x y) → (a ≡ x) ⊎ Contains xs x → (y : Variable) × ArePartners (a ∷ xs) (b ∷ ys) x y
    go rest (inl same) = (b, record { place = 0; first = ap Some same; second = refl; alike = ap variable_named (sym same) ∙ first_alike a b xs ys e })
    go rest (inr d) = let w = rest d in (w.0, further a b xs ys x w.0 w.1)

-- whose number is found
partner_found : (xs ys : List Variable) (d : ℕ) → NumbersDiffer xs → (x y : Variable) (k : ℕ) → slice_get xs k ≡ Some x → slice_get ys k ≡ Some y → partner xs ys x.number d ≡ y.number
partner_found [] ys d differ x y k e h = absurd (cc)
partner_found (a ∷ xs) [] d differ x y zero e h = absurd (cc)
partner_found (a ∷ xs) [] d differ x y (suc k) e h = absurd (cc)
partner_found (a ∷ xs) (b ∷ ys) d differ x y zero e h =
    let first : a ≡ x = cc in
    let second : b ≡ y = cc in
    ap (λ c. if c then b.number else partner xs ys x.number d) (ap (λ (v : Variable). v.number == x.number) first ∙ same_itself x.number) ∙ ap (λ (v : Variable). v.number) second
partner_found (a ∷ xs) (b ∷ ys) d differ x y (suc k) e h =
    let parts = AllPairs-parts (λ (x y : Variable). x.number ≢ y.number) a xs differ in
    let other = other_number a.number x.number (at_all (λ (z : Variable). a.number ≢ z.number) xs k x e parts.0) in
    ap (λ c. if c then b.number else partner xs ys x.number d) other ∙ partner_found xs ys d parts.1 x y k e h

-- one number stands at one place
one_place : (ys : List Variable) → NumbersDiffer ys → (k l : ℕ) (y z : Variable) → slice_get ys k ≡ Some y → slice_get ys l ≡ Some z → y.number ≡ z.number → k ≡ l
one_place [] differ k l y z e h same = absurd (cc)
one_place (a ∷ ys) differ zero zero y z e h same = refl
one_place (a ∷ ys) differ zero (suc l) y z e h same =
    let parts = AllPairs-parts (λ (x y : Variable). x.number ≢ y.number) a ys differ in
    let first : a ≡ y = cc in
    absurd (at_all (λ (v : Variable). a.number ≢ v.number) ys l z h parts.0 (ap (λ (v : Variable). v.number) first ∙ same))
one_place (a ∷ ys) differ (suc k) zero y z e h same =
    let parts = AllPairs-parts (λ (x y : Variable). x.number ≢ y.number) a ys differ in
    let first : a ≡ z = cc in
    absurd (at_all (λ (v : Variable). a.number ≢ v.number) ys k y e parts.0 (ap (λ (v : Variable). v.number) first ∙ sym same))
one_place (a ∷ ys) differ (suc k) (suc l) y z e h same = ap suc (one_place ys (AllPairs-parts (λ (x y : Variable). x.number ≢ y.number) a ys differ).1 k l y z e h same)

at_place : (ys : List Variable) (k : ℕ) (y : Variable) → slice_get ys k ≡ Some y → Contains ys y
at_place [] k y e = absurd (cc)
at_place (a ∷ ys) zero y e = let same : a ≡ y = cc in subst (Contains (a ∷ ys)) same (Contains-here a ys)
at_place (a ∷ ys) (suc k) y e = Contains-there a ys y (at_place ys k y e)

-- A NAME FOR A NUMBER, and back

number_named : (xs : List Variable) → NumbersDiffer xs → (x : Variable) → Contains xs x → name_in xs x.number ≡ x.name
number_named [] d x c = absurd (Contains-none x c)
number_named (z ∷ zs) d x c =
    let parts = AllPairs-parts (λ (x y : Variable). x.number ≢ y.number) z zs d in
    elim (Contains-cases z zs x c) [
      | inl e ↦ ap (λ (b : Bool). if b then z.name else name_in zs x.number) (ap (λ (v : Variable). v.number == x.number) e ∙ same_itself x.number) ∙ ap (λ (v : Variable). v.name) e
      | inr m ↦ ap (λ (b : Bool). if b then z.name else name_in zs x.number) (other_number z.number x.number (All-contains (λ (y : Variable). z.number ≢ y.number) zs x parts.0 m)) ∙ number_named zs parts.1 x m
    ]

abbrev number_in : List Variable → List ℕ → ℕ
number_in [] name = 0
number_in (y ∷ ys) name = if bytes_eq y.name name then y.number else number_in ys name

name_numbered : (ys : List Variable) → NamesDiffer ys → (y : Variable) → Contains ys y → number_in ys y.name ≡ y.number
name_numbered [] d y c = absurd (Contains-none y c)
name_numbered (z ∷ zs) d y c =
    let parts = AllPairs-parts (λ (x y : Variable). x.name ≢ y.name) z zs d in
    elim (Contains-cases z zs y c) [
      | inl e ↦ ap (λ (b : Bool). if b then z.number else number_in zs y.name) ((bytes_eq-Decides z.name y.name).1 (ap (λ (v : Variable). v.name) e)) ∙ ap (λ (v : Variable). v.number) e
      | inr m ↦ ap (λ (b : Bool). if b then z.number else number_in zs y.name)
          (false_from_ne_true (bytes_eq z.name y.name) (λ t. All-contains (λ (v : Variable). z.name ≢ v.name) zs y parts.0 m ((bytes_eq-Decides z.name y.name).0 t))) ∙ name_numbered zs parts.1 y m
    ]

module _ (ys : List Variable) (numbers : NumbersDiffer ys) (names : NamesDiffer ys) where
  formula_back : (F : Read) → HoldsOnly ys F → translate (number_in ys) (λ x. x) (with_names ys F) ≡ F
  formula_back F closed =
      translate_twice (number_in ys) (name_in ys) F
      ∙ translate_agrees (λ n. number_in ys (name_in ys n)) (λ n. n) (λ (h : List ℕ). h) F (λ v c. own v (All-contains (Contains (map in_terms ys)) (variables F) v closed c))
      ∙ term_itself F
    where
      own : (v : tree.Variable ℕ) → Contains (map in_terms ys) v → number_in ys (name_in ys v.name) ≡ v.name
      own v c =
          let y = Contains-from_map in_terms ys v c in
          let n : y.0.number ≡ v.name = ap (λ (w : tree.Variable ℕ). w.name) y.2 in
          ap (λ k. number_in ys (name_in ys k)) (sym n) ∙ ap (number_in ys) (number_named ys numbers y.0 y.1) ∙ name_numbered ys names y.0 y.1 ∙ n

-- THE NUMBERS

module _ (D : Declarations) (t s : Sequent) (is : IsSequent D t) (its : IsSequent D s) (same : named t ≡ named s) (cells : Cells) (are : AreCells cells t) (places : Cells) (are_places : AreCells places s) where
  abbrev xs : List Variable
  xs = t.variables

  abbrev ys : List Variable
  ys = s.variables

  abbrev pub most : Cells
  most = places ++ cells

  abbrev pub f : ℕ → ℕ
  f j = partner xs ys j (length places + j)

  alike : AlikeVariables xs ys
  alike = ap (λ (g : Goal). g.variables) same

  is_placed : (j : ℕ) → Placed xs ys j (length places + j)
  is_placed j = placed xs ys j (length places + j) alike

  second_below : (x y : Variable) → ArePartners xs ys x y → slice_get places y.number ≡ Some (cell_for y)
  second_below x y p = at_all (λ (v : Variable). slice_get places v.number ≡ Some (cell_for v)) ys p.place y p.second are_places

  first_below : (x y : Variable) → ArePartners xs ys x y → slice_get cells x.number ≡ Some (cell_for x)
  first_below x y p = at_all (λ (v : Variable). slice_get cells v.number ≡ Some (cell_for v)) xs p.place x p.first are

  one_cell : (x y : Variable) → variable_named x ≡ variable_named y → cell_for x ≡ cell_for y
  one_cell x y e = ap (λ (v : tree.Variable (List ℕ)). record { hint = v.name; type = v.type }) e

  different : (i j : ℕ) → Placed xs ys i (length places + i) → Placed xs ys j (length places + j) → f i ≡ f j → i ≡ j
  different i j (inl (x, y, p, n, e)) (inl (v, w, q, m, h)) same =
      let numbers : y.number ≡ w.number = sym e ∙ same ∙ h in
      let place = one_place ys its.numbers_differ p.place q.place y w p.second q.second numbers in
      let both : Some x ≡ Some v = sym p.first ∙ ap (slice_get xs) place ∙ q.first in
      let one : x ≡ v = cc in
      sym n ∙ ap (λ (z : Variable). z.number) one ∙ m
  different i j (inl (x, y, p, n, e)) (inr h) same =
      let below = slice_get_within places y.number (cell_for y) (second_below x y p) in
      let number : y.number ≡ length places + j = sym e ∙ same ∙ h in
      absurd (omega (arith, below, number))
  different i j (inr e) (inl (v, w, q, m, h)) same =
      let below = slice_get_within places w.number (cell_for w) (second_below v w q) in
      let number : length places + i ≡ w.number = sym e ∙ same ∙ h in
      absurd (omega (arith, below, number))
  different i j (inr e) (inr h) same =
      let number : length places + i ≡ length places + j = sym e ∙ same ∙ h in
      omega (arith, number)

  same_cell : (i : ℕ) → Placed xs ys i (length places + i) → slice_get most (f i) ≡ slice_get cells i
  same_cell i (inl (x, y, p, n, e)) =
      ap (slice_get most) e
      ∙ front places cells y.number (cell_for y) (second_below x y p)
      ∙ ap Some (sym (one_cell x y p.alike))
      ∙ sym (first_below x y p)
      ∙ ap (slice_get cells) n
  same_cell i (inr e) = ap (slice_get most) e ∙ rear places cells i

  goes_on : (k j : ℕ) → j ≡ length cells + k → Placed xs ys j (length places + j) → f j ≡ length most + k
  goes_on k j is_j (inl (x, y, p, n, e)) =
      let below = slice_get_within cells x.number (cell_for x) (first_below x y p) in
      absurd (omega (arith, below, n, is_j))
  goes_on k j is_j (inr e) =
      let long = length-append places cells in
      let far : length places + j ≡ length most + k = omega (arith, long, is_j) in
      e ∙ far

  pub numbering : IsRenumbering f cells most
  numbering = record {
    different = λ i j e. different i j (is_placed i) (is_placed j) e;
    same_cells = λ i. same_cell i (is_placed i);
    behind = λ k. goes_on k (length cells + k) refl (is_placed (length cells + k));
  }

  pub are_most : AreCells most s
  are_most = All-weaker (λ (v : Variable). slice_get places v.number ≡ Some (cell_for v)) (λ (v : Variable). slice_get most v.number ≡ Some (cell_for v)) (λ v e. front places cells v.number (cell_for v) e) ys are_places

  -- THE GOAL is the second then

  partners_meet : (x y : Variable) → ArePartners xs ys x y → f x.number ≡ y.number
  partners_meet x y p = partner_found xs ys (length places + x.number) is.numbers_differ x y p.place p.first p.second

  variables_meet : (vs bs : List Variable) → AlikeVariables vs bs → ((x y : Variable) → ArePartners vs bs x y → f x.number ≡ y.number) → map (moved_variable f) vs ≡ bs
  variables_meet [] [] e meet = refl
  variables_meet [] (b ∷ bs) e meet = none_alike b bs e
  variables_meet (a ∷ vs) [] e meet = none_alike a vs (sym e)
  variables_meet (a ∷ vs) (b ∷ bs) e meet =
      let one = first_alike a b vs bs e in
      let number = meet a b (record { place = 0; first = refl; second = refl; alike = one }) in
      let type = ap (λ (v : tree.Variable (List ℕ)). v.type) one in
      let name = ap (λ (v : tree.Variable (List ℕ)). v.name) one in
      let first : moved_variable f a ≡ b = λ i. record { number = number i; type = type i; name = name i } in
      ap (λ v. v ∷ map (moved_variable f) vs) first ∙ ap (λ l. b ∷ l) (variables_meet vs bs (rest_alike a b vs bs e) (λ x y p. meet x y (further a b vs bs x y p)))

  variables_are : map (moved_variable f) xs ≡ ys
  variables_are = variables_meet xs ys alike partners_meet

  names_same : (F : Read) → HoldsOnly xs F → with_names ys (T f F) ≡ with_names xs F
  names_same F closed =
      translate_twice (name_in ys) f F
      ∙ translate_agrees (λ n. name_in ys (f n)) (name_in xs) (λ (h : List ℕ). h) F (λ v c. own v (All-contains (Contains (map in_terms xs)) (variables F) v closed c))
    where
      own : (v : tree.Variable ℕ) → Contains (map in_terms xs) v → name_in ys (f v.name) ≡ name_in xs v.name
      own v c =
          let x = Contains-from_map in_terms xs v c in
          let n : x.0.number ≡ v.name = ap (λ (w : tree.Variable ℕ). w.name) x.2 in
          let p = has_partner xs ys alike x.0 x.1 in
          let there : Contains ys p.0 = at_place ys p.1.place p.0 p.1.second in
          subst (λ k. name_in ys (f k) ≡ name_in xs k) n
          (ap (name_in ys) (partners_meet x.0 p.0 p.1)
          ∙ number_named ys its.numbers_differ p.0 there
          ∙ ap (λ (w : tree.Variable (List ℕ)). w.name) (sym p.1.alike)
          ∙ sym (number_named xs is.numbers_differ x.0 x.1))

  formula_is : (F G : Read) → HoldsOnly xs F → HoldsOnly ys G → with_names xs F ≡ with_names ys G → T f F ≡ G
  formula_is F G first second e =
      sym (formula_back ys its.numbers_differ its.names_differ (T f F) (subst (λ zs. HoldsOnly zs (T f F)) variables_are (closed_moved f xs F first)))
      ∙ ap (translate (number_in ys) (λ x. x)) (names_same F first ∙ e)
      ∙ formula_back ys its.numbers_differ its.names_differ G second

  hypotheses_are : (hs gs : List Hypothesis) → All (HoldsOnly xs) (formulas hs) → All (HoldsOnly ys) (formulas gs) → map (hypothesis_named xs) hs ≡ map (hypothesis_named ys) gs → map (moved_hypothesis f) hs ≡ gs
  hypotheses_are [] [] a b e = refl
  hypotheses_are [] (g ∷ gs) a b e = absurd (cc)
  hypotheses_are (h ∷ hs) [] a b e = absurd (cc)
  hypotheses_are (h ∷ hs) (g ∷ gs) a b e =
      let one : hypothesis_named xs h ≡ hypothesis_named ys g = cc in
      let rest : map (hypothesis_named xs) hs ≡ map (hypothesis_named ys) gs = cc in
      let name = ap (λ (k : shown.Hypothesis). k.name) one in
      let formula = formula_is h.formula g.formula (All-head (HoldsOnly xs) h.formula (formulas hs) a) (All-head (HoldsOnly ys) g.formula (formulas gs) b) (ap (λ (k : shown.Hypothesis). k.formula) one) in
      let first : moved_hypothesis f h ≡ g = λ i. record { name = name i; formula = formula i } in
      ap (λ k. k ∷ map (moved_hypothesis f) hs) first
      ∙ ap (λ l. g ∷ l) (hypotheses_are hs gs (All-tail (HoldsOnly xs) h.formula (formulas hs) a) (All-tail (HoldsOnly ys) g.formula (formulas gs) b) rest)

  pub goal_is : moved_goal f t ≡ s
  goal_is =
      let variables = variables_are in
      let hypotheses = hypotheses_are t.hypotheses s.hypotheses (All-tail (HoldsOnly xs) t.conclusion (formulas t.hypotheses) is.closed) (All-tail (HoldsOnly ys) s.conclusion (formulas s.hypotheses) its.closed) (ap (λ (g : Goal). g.hypotheses) same) in
      let conclusion = formula_is t.conclusion s.conclusion (All-head (HoldsOnly xs) t.conclusion (formulas t.hypotheses) is.closed) (All-head (HoldsOnly ys) s.conclusion (formulas s.hypotheses) its.closed) (ap (λ (g : Goal). g.conclusion) same) in
      let counter = ap (λ (g : Goal). g.counter) same in
      λ i. record { variables = variables i; hypotheses = hypotheses i; conclusion = conclusion i; counter = counter i }
