-- The answer to a use's equations, with constants for what stays open: its terms may stand in the goal, and what is given meets what is
-- asked for under it.
use Rattle.std.specs.Prelude.{All, Contains, slice_get, drop}
use Rattle.std.proofs.Common.{◌≡◌, ◌⊎◌, inl, inr, ℕ, ◌+◌, ◌<◌, ◌≤◌, List, [], ◌∷◌, ◌++◌, map, length, Bool, true, false, cond, not, ◌||◌, Option, Some, None, option_map, codes, refl, sym, ◌∙◌, ap, subst, arith, length-append, append_assoc}
use Rattle.std.proofs.lemmas.Option.{slice_get_within}
use Rattle.std.proofs.lemmas.List.Elements.{All-nil, All-cons, All-head, All-tail, All-weaker, All-contains, All-append, Contains-append_right, Contains-append_cases}
use Rattle.ab_term.specs.Types.{Ty, prop}
use Rattle.ab_term.specs.Terms as tree
use Rattle.ab_term.specs.Terms.{Nominal, Read}
use Rattle.ab_term.specs.Typing.{Signature, HasType}
use Rattle.ab_term.specs.Names.{support}
use Rattle.ab_term.specs.Translation.{forget, EqualPastHints}
use Rattle.ab_term.specs.Variables.{Substitution, variables, value_in, image, composition, IsTyped}
use Rattle.ab_term.specs.Sameness.{same_numbered, same_number}
use Rattle.ab_term.proofs.Compositions.{then_by, value_in-composition, image-composition, composition_typed}
use Rattle.ab_term.proofs.Depends.{image_unmoved}
use Rattle.ab_term.proofs.Lists.{Contains-none, Contains-cases, Contains-map, Contains-from_map, All-from_contains}
use Rattle.ab_term.proofs.PastHints.{image_past_hints}
use Rattle.ab_term.proofs.Stands.{support-image, variables-image}
use Rattle.ab_term.proofs.UpToNames.{up_to_names-itself}
use Rattle.ab_unifiers.specs.Replacements.{Cell, holds}
use Rattle.ab_unifiers.specs.Unification.{Equation, unified, Solves}
use Rattle.ab_unifiers.specs.Unifiers.{AreTyped, AreKnown, IsOver, AreOver, IsCell, HoldsCells, AllHoldCells, given, keys, sides}
use Rattle.ab_unifiers.proofs.Agreeing.{contains_holds}
use Rattle.ab_unifiers.proofs.Cells.{Grows, answer_cells, cell_kept}
use Rattle.ab_unifiers.proofs.Choosing.{kept_contains, contains_kept}
use Rattle.ab_unifiers.proofs.Covered.{found_of_all}
use Rattle.ab_unifiers.proofs.Following.{plain, image_plain}
use Rattle.ab_unifiers.proofs.Once.{answer_once}
use Rattle.ab_unifiers.proofs.Problems.{answer_typed, answer_clean}
use Rattle.ab_unifiers.proofs.Variables.{holds_contains}
use Rattle.ab_formulas.proofs.Idempotent.{none_replaced, where_from}
use Rattle.ab_formulas.specs.Formulas.{StandsIn, a_formula}
use Rattle.ab_formulas.specs.Marks.{erased, marks_of, MarksServe, MarksServeIn}
use Rattle.ab_formulas.specs.Sequents.{Variable, HoldsOnly, in_terms}
use Rattle.ab_theory.specs.Equations.{stays, made, variables_from}
use Rattle.ab_theory.specs.Splits.{cell_for}
use Rattle.ab_theory.specs.UseAnswers.{standing_in}
use Rattle.ab_theory.proofs.Carried.{cells_in_front}
use Rattle.ab_theory.proofs.Putting.{IsPut}
use Rattle.ab_theory.proofs.Renaming.{behind_cell, made_listed}
use Rattle.ab_search_trees.proofs.Hypotheses.{erased_variables}
use Rattle.ab_search_trees.proofs.Unmarked.{erased_typed, makes_erased, marks_made_same}
use Rattle.ab_consequences.specs.Leading.{Meets}

abbrev Cells : Type 0
Cells = List (Cell (List ℕ))

abbrev pub AreThere : Cells → List Variable → Type 0
AreThere cells xs = All (λ (x : Variable). slice_get cells x.number ≡ Some (cell_for x)) xs

cell_of : (cells : Cells) (xs : List Variable) → AreThere cells xs → (z : tree.Variable ℕ) → Contains (map in_terms xs) z → IsCell cells z
cell_of cells xs all z m =
    let found = Contains-from_map in_terms xs z m in
    let is = All-contains (λ (x : Variable). slice_get cells x.number ≡ Some (cell_for x)) xs found.0 all found.1 in
    subst (IsCell cells) found.2 (ap (option_map (λ (c : Cell (List ℕ)). c.type)) is)

below_cells : (cells : Cells) (z : tree.Variable ℕ) → IsCell cells z → z.name < length cells
below_cells cells z e = go (slice_get cells z.name) refl e
  where
    go : (o : Option (Cell (List ℕ))) → slice_get cells z.name ≡ o → option_map (λ (c : Cell (List ℕ)). c.type) o ≡ Some z.type → z.name < length cells
    go None d e = absurd (cc)
    go (Some c) d e = slice_get_within cells z.name c d

from_there : (front cells : Cells) (n : ℕ) → length front ≡ n → AreThere (front ++ cells) (variables_from n cells)
from_there front [] n e = All-nil (λ (x : Variable). slice_get (front ++ []) x.number ≡ Some (cell_for x))
from_there front (c ∷ cells) n e =
    let long : length (front ++ c ∷ []) ≡ n + 1 = length-append front (c ∷ []) ∙ ap (λ k. k + 1) e in
    All-cons (λ (x : Variable). slice_get (front ++ c ∷ cells) x.number ≡ Some (cell_for x)) (record { number = n; type = c.type; name = c.hint }) (variables_from (n + 1) cells)
    (let found = behind_cell front (c ∷ cells) n (omega (arith, e)) in
    found.2 ∙ ap (slice_get (c ∷ cells)) (let at : found.0 ≡ 0 = omega (arith, found.1, e) in at))
    (subst (λ cs. AreThere cs (variables_from (n + 1) cells)) (append_assoc front (c ∷ []) cells) (from_there (front ++ c ∷ []) cells (n + 1) long))

from_numbers : (n : ℕ) (cells : Cells) (x : Variable) → Contains (variables_from n cells) x → n ≤ x.number
from_numbers n [] x m = absurd (Contains-none x m)
from_numbers n (c ∷ cells) x m = elim (Contains-cases (record { number = n; type = c.type; name = c.hint }) (variables_from (n + 1) cells) x m) [
  | inl e ↦ (let same : n ≡ x.number = ap (λ (y : Variable). y.number) e in omega (arith, same))
  | inr r ↦ (let less = from_numbers (n + 1) cells x r in omega (arith, less))
]

pub none_key : (s : Substitution ℕ (List ℕ)) (y : tree.Variable ℕ) → value_in same_number s y ≡ None → holds (keys s) y ≡ false
none_key [] y e = refl
none_key (p ∷ s) y e = go (same_numbered p.0 y) e (none_key s y)
  where
    go : (b : Bool) → cond b (Some p.1) (value_in same_number s y) ≡ None → (value_in same_number s y ≡ None → holds (keys s) y ≡ false) → (b || holds (keys s) y) ≡ false
    go true e rest = absurd (cc)
    go false e rest = rest e

pub some_key : (s : Substitution ℕ (List ℕ)) (y : tree.Variable ℕ) (v : Read) → value_in same_number s y ≡ Some v → holds (keys s) y ≡ true
some_key [] y v e = absurd (cc)
some_key (p ∷ s) y v e = go (same_numbered p.0 y) e (some_key s y v)
  where
    go : (b : Bool) → cond b (Some p.1) (value_in same_number s y) ≡ Some v → (value_in same_number s y ≡ Some v → holds (keys s) y ≡ true) → (b || holds (keys s) y) ≡ true
    go true e rest = refl
    go false e rest = rest e

over_sides : (cells : Cells) (P : tree.Variable ℕ → Type 0) → ((z : tree.Variable ℕ) → P z → IsCell cells z) → (es : List (Equation (List ℕ))) → All (λ t. All P (variables t)) (sides es) → AllHoldCells cells es × AreOver cells es
over_sides cells P cell [] all = (tt, tt)
over_sides cells P cell (e ∷ es) all =
    let Over : Read → Type 0 = λ t. All P (variables t) in
    let first = All-head Over e.left (e.right ∷ sides es) all in
    let others = All-tail Over e.left (e.right ∷ sides es) all in
    let second = All-head Over e.right (sides es) others in
    let rest = over_sides cells P cell es (All-tail Over e.right (sides es) others) in
    let held : (t : Read) → Over t → HoldsCells cells t = λ t over z m. cell z (All-contains P (variables t) z over m) in
    let known : (t : Read) → Over t → IsOver cells t = λ t over z h. below_cells cells z (held t over z (holds_contains (variables t) z h)) in
    ((held e.left first, held e.right second, rest.0), (known e.left first, known e.right second, rest.1))

-- TERMS FOR WHAT STAYS OPEN: one for each of these variables, which holds no variable and no nominal constant but these
pub record IsFilled (sg : Signature) (left : List Variable) (new : List Nominal) (r : Substitution ℕ (List ℕ)) : Type 0 where
  pub typed : IsTyped sg r
  pub covers : (y : tree.Variable ℕ) → Contains (map in_terms left) y → value_in same_number r y ≡ None → ⊥
  pub keys : (y : tree.Variable ℕ) (v : Read) → value_in same_number r y ≡ Some v → Contains (map in_terms left) y
  pub rigid : (y : tree.Variable ℕ) (v : Read) → value_in same_number r y ≡ Some v → variables v ≡ []
  pub names : (y : tree.Variable ℕ) (v : Read) → value_in same_number r y ≡ Some v → (a : Nominal) → Contains (support v) a → Contains new a

-- EQUATIONS whose variables are those of a goal and others behind all that were made; the others alone are replaced
module _ (sg : Signature) (xs : List Variable) (before own : Cells) (es : List (Equation (List ℕ))) (flexible : List (tree.Variable ℕ)) (there : AreThere before xs) (typed : AreTyped sg es)
    (over : All (HoldsOnly (xs ++ variables_from (length before) own)) (sides es))
    (within : (z : tree.Variable ℕ) → Contains flexible z → Contains (map in_terms (variables_from (length before) own)) z)
    (more : Cells) (answer : Substitution ℕ (List ℕ)) (solves : Solves (codes "x") (given es (before ++ own) flexible) (unified more answer)) where
  abbrev cells : Cells
  cells = before ++ own

  abbrev new_ones : List Variable
  new_ones = variables_from (length before) own

  abbrev Z : List Variable
  Z = xs ++ new_ones

  abbrev IsKnown : tree.Variable ℕ → Type 0
  IsKnown z = Contains (map in_terms Z) z

  from_new : (z : tree.Variable ℕ) → Contains (map in_terms new_ones) z → IsKnown z
  from_new z m =
      let found = Contains-from_map in_terms new_ones z m in
      subst IsKnown found.2 (Contains-map in_terms Z found.0 (Contains-append_right xs new_ones found.0 found.1))

  known_cell : (z : tree.Variable ℕ) → IsKnown z → IsCell cells z
  known_cell =
      cell_of cells Z
      (All-append (λ (x : Variable). slice_get cells x.number ≡ Some (cell_for x)) xs new_ones (cells_in_front before own xs there) (from_there before own (length before) refl))

  flexible_known : (z : tree.Variable ℕ) → holds flexible z ≡ true → IsKnown z
  flexible_known z h = from_new z (within z (holds_contains flexible z h))

  flexible_cell : (z : tree.Variable ℕ) → holds flexible z ≡ true → IsCell cells z
  flexible_cell z h = known_cell z (flexible_known z h)

  pub known : AreKnown cells flexible
  known z h = below_cells cells z (flexible_cell z h)

  both : AllHoldCells cells es × AreOver cells es
  both = over_sides cells IsKnown known_cell es over

  all_cells : Grows cells more × All (λ p. IsCell more p.0 × HoldsCells more p.1) answer
  all_cells = answer_cells (codes "x") es cells flexible flexible_cell both.0 more answer solves

  abbrev added : Cells
  added = own ++ all_cells.0.0

  more_is : more ≡ before ++ added
  more_is = let grown = all_cells.0 in grown.1 ∙ append_assoc before own grown.0

  -- the variables that were made and are left
  abbrev left : List Variable
  left = made before more answer

  abbrev IsLeft : tree.Variable ℕ → Type 0
  IsLeft z = Contains (map in_terms xs) z ⊎ Contains (map in_terms left) z

  new_left : (z : tree.Variable ℕ) → length before ≤ z.name → IsCell more z → holds (keys answer) z ≡ false → Contains (map in_terms left) z
  new_left z l cell k =
      let new : List Variable = variables_from (length before) (drop (length before) more) in
      let listed : Contains (map in_terms new) z =
      subst (λ cs. Contains (map in_terms (variables_from (length before) (drop (length before) cs))) z) (sym more_is) (made_listed before added z l (subst (λ cs. IsCell cs z) more_is cell)) in
      let found = Contains-from_map in_terms new z listed in
      let stay : stays answer found.0 ≡ true = ap (λ v. not (holds (keys answer) v)) found.2 ∙ ap not k in
      subst (Contains (map in_terms left)) found.2 (Contains-map in_terms left found.0 (kept_contains (stays answer) new found.0 found.1 stay))

  high : (z : tree.Variable ℕ) → Contains (map in_terms new_ones) z → length before ≤ z.name
  high z m =
      let found = Contains-from_map in_terms new_ones z m in
      let low = from_numbers (length before) own found.0 found.1 in
      let number : found.0.number ≡ z.name = ap (λ (v : tree.Variable ℕ). v.name) found.2 in
      omega (arith, low, number)

  known_left : (z : tree.Variable ℕ) → IsKnown z → holds (keys answer) z ≡ false → IsLeft z
  known_left z m k =
      let found = Contains-from_map in_terms Z z m in
      elim (Contains-append_cases xs new_ones found.0 found.1) [
        | inl a ↦ inl (subst (Contains (map in_terms xs)) found.2 (Contains-map in_terms xs found.0 a))
        | inr a ↦ inr (new_left z (high z (subst (Contains (map in_terms new_ones)) found.2 (Contains-map in_terms new_ones found.0 a))) (cell_kept cells more all_cells.0 z (known_cell z m)) k)
      ]

  of_value : (w : tree.Variable ℕ) (v : Read) → value_in same_number answer w ≡ Some v → (z : tree.Variable ℕ) → Contains (variables v) z → IsLeft z
  of_value w v e z m =
      let free : holds (keys answer) z ≡ false = none_replaced (codes "x") es cells flexible known both.1 more answer solves w v e z m in
      let is_cell : IsCell more z =
      found_of_all (HoldsCells more) answer (All-weaker (λ p. IsCell more p.0 × HoldsCells more p.1) (λ p. HoldsCells more p.1) (λ p q. q.1) answer all_cells.1) w v e z m in
      elim (where_from (codes "x") es cells flexible known both.1 more answer solves w v e z m) [
        | inl a ↦ elim a [
          | inl b ↦ known_left z (flexible_known z b) free
          | inr b ↦ (let far = b.0 in let long = length-append before own in inr (new_left z (omega (arith, far, long)) is_cell free))
        ]
        | inr a ↦ known_left z (All-contains IsKnown (variables a.0) z (All-contains (λ t. All IsKnown (variables t)) (sides es) a.0 over a.1) a.2) free
      ]

  -- a variable of the goal is below all that are new, and isn't replaced
  old_low : (y : tree.Variable ℕ) → Contains (map in_terms xs) y → y.name < length before
  old_low y m = below_cells before y (cell_of before xs there y m)

  key_high : (y : tree.Variable ℕ) → holds (keys answer) y ≡ true → length before ≤ y.name
  key_high y k = elim ((answer_once (codes "x") es cells flexible known more answer solves).1 y k) [
    | inl b ↦ high y (within y (holds_contains flexible y b))
    | inr b ↦ (let far = b.0 in let long = length-append before own in omega (arith, far, long))
  ]

  old_stays : (y : tree.Variable ℕ) → Contains (map in_terms xs) y → value_in same_number answer y ≡ None
  old_stays y m = go (value_in same_number answer y) refl
    where
      go : (o : Option Read) → value_in same_number answer y ≡ o → value_in same_number answer y ≡ None
      go None e = e
      go (Some v) e = let low = old_low y m in let far = key_high y (some_key answer y v e) in absurd (omega (arith, low, far))

  -- so a term over the goal's variables stays under the answer
  pub old_term : (t : Read) → HoldsOnly xs t → image same_number answer t ≡ t
  old_term t closed = image_unmoved (value_in same_number answer) t (λ y m. old_stays y (All-contains (Contains (map in_terms xs)) (variables t) y closed m))

  module _ (new : List Nominal) (r : Substitution ℕ (List ℕ)) (filled : IsFilled sg left new r) where
    left_high : (y : tree.Variable ℕ) → Contains (map in_terms left) y → length before ≤ y.name
    left_high y m =
        let found = Contains-from_map in_terms left y m in
        let listed = kept_from found.0 found.1 in
        let low = from_numbers (length before) (drop (length before) more) found.0 listed in
        let number : found.0.number ≡ y.name = ap (λ (v : tree.Variable ℕ). v.name) found.2 in
        omega (arith, low, number)
      where
        kept_from : (x : Variable) → Contains left x → Contains (variables_from (length before) (drop (length before) more)) x
        kept_from x c = (contains_kept (stays answer) (variables_from (length before) (drop (length before) more)) x c).0

    old_open : (y : tree.Variable ℕ) → Contains (map in_terms xs) y → value_in same_number r y ≡ None
    old_open y m = go (value_in same_number r y) refl
      where
        go : (o : Option Read) → value_in same_number r y ≡ o → value_in same_number r y ≡ None
        go None e = e
        go (Some v) e = let low = old_low y m in let far = left_high y (filled.keys y v e) in absurd (omega (arith, low, far))

    old_filled : (t : Read) → HoldsOnly xs t → image same_number r t ≡ t
    old_filled t closed = image_unmoved (value_in same_number r) t (λ y m. old_open y (All-contains (Contains (map in_terms xs)) (variables t) y closed m))

    -- the answer, and then the filling
    abbrev pub both_ways : Substitution ℕ (List ℕ)
    both_ways = composition same_number answer r

    answer_is_typed : IsTyped sg answer
    answer_is_typed = answer_typed sg (codes "x") es cells flexible typed known more answer solves

    both_typed : IsTyped sg both_ways
    both_typed = composition_typed sg same_number answer answer_is_typed r filled.typed

    value_is : (y : tree.Variable ℕ) → value_in same_number both_ways y ≡ then_by (value_in same_number r) y (value_in same_number answer y)
    value_is y = value_in-composition same_number answer r y

    -- what a value holds
    value_names : (y : tree.Variable ℕ) (v : Read) → value_in same_number both_ways y ≡ Some v → (a : Nominal) → Contains (support v) a → Contains new a
    value_names y v e a m = go (value_in same_number answer y) refl (sym (value_is y) ∙ e)
      where
        go : (o : Option Read) → value_in same_number answer y ≡ o → then_by (value_in same_number r) y o ≡ Some v → Contains new a
        go None d f = filled.names y v f a m
        go (Some w) d f =
            let is : image same_number r w ≡ v = cc in
            elim (support-image (value_in same_number r) w a (subst (λ t. Contains (support t) a) (sym is) m)) [
              | inl k ↦ absurd (Contains-none a (subst (λ l. Contains l a) (answer_clean sg (codes "x") es cells flexible typed known more answer solves y w d) k))
              | inr k ↦ filled.names k.0 k.1 k.2.1 a k.3
            ]

    value_closed : (y : tree.Variable ℕ) (v : Read) → value_in same_number both_ways y ≡ Some v → HoldsOnly xs v
    value_closed y v e = All-from_contains (Contains (map in_terms xs)) (variables v) (λ z m. go z m (value_in same_number answer y) refl (sym (value_is y) ∙ e))
      where
        rigid : (k : tree.Variable ℕ) (u : Read) → value_in same_number r k ≡ Some u → (z : tree.Variable ℕ) → Contains (variables u) z → ⊥
        rigid k u d z m = Contains-none z (subst (λ l. Contains l z) (filled.rigid k u d) m)

        here : (z : tree.Variable ℕ) → value_in same_number r z ≡ None → IsLeft z → Contains (map in_terms xs) z
        here z d (inl a) = a
        here z d (inr a) = absurd (filled.covers z a d)

        go : (z : tree.Variable ℕ) → Contains (variables v) z → (o : Option Read) → value_in same_number answer y ≡ o → then_by (value_in same_number r) y o ≡ Some v → Contains (map in_terms xs) z
        go z m None d f = absurd (rigid y v f z m)
        go z m (Some w) d f =
            let is : image same_number r w ≡ v = cc in
            elim (variables-image (value_in same_number r) w z (subst (λ t. Contains (variables t) z) (sym is) m)) [
              | inl a ↦ here z a.1 (of_value y w d z a.0)
              | inr a ↦ absurd (rigid a.0 a.1 a.2.1 z a.3)
            ]

    value_stays : (y : tree.Variable ℕ) → IsKnown y → value_in same_number both_ways y ≡ None → Contains (map in_terms xs) y
    value_stays y m e = go (value_in same_number answer y) refl (sym (value_is y) ∙ e)
      where
        go : (o : Option Read) → value_in same_number answer y ≡ o → then_by (value_in same_number r) y o ≡ None → Contains (map in_terms xs) y
        go None d f = elim (known_left y m (none_key answer y d)) [ inl a ↦ a | inr a ↦ absurd (filled.covers y a f) ]
        go (Some w) d f = absurd (cc)

    -- TERMS MAY BE PUT IN
    pub is_put : (N : List Nominal) → ((a : Nominal) → Contains new a → Contains N a) → IsPut sg xs N (Contains (map in_terms Z)) both_ways
    is_put N within_N = record {
      typed = both_typed;
      stays = value_stays;
      closed = value_closed;
      names = λ y v e a m. within_N a (value_names y v e a m);
    }

    -- and hold no chosen constant
    pub holds_none : (chosen_ones : List Nominal) → ((a : Nominal) → Contains new a → Contains chosen_ones a → ⊥)
        → (y : tree.Variable ℕ) (v : Read) → value_in same_number both_ways y ≡ Some v → (a : Nominal) → Contains (support v) a → Contains chosen_ones a → ⊥
    holds_none chosen_ones apart y v e a m c = apart a (value_names y v e a m) c

    abbrev I : Read → Read
    I = image same_number both_ways

    in_turn : (t : Read) (A : Ty) → HasType sg [] t A → I t ≡ image same_number r (image same_number answer t)
    in_turn t A d = image-composition sg same_number answer answer_is_typed r filled.typed d

    over_erased : (G : Read) → HoldsOnly xs G → HoldsOnly xs (erased G)
    over_erased G closed = All-from_contains (Contains (map in_terms xs)) (variables (erased G)) (λ z m. All-contains (Contains (map in_terms xs)) (variables G) z closed (erased_variables G z m))

    -- a term over the goal's variables stays
    pub stays_under : (t : Read) (A : Ty) → HasType sg [] t A → HoldsOnly xs t → I t ≡ t
    stays_under t A d closed = in_turn t A d ∙ ap (image same_number r) (old_term t closed) ∙ old_filled t closed

    -- and so does what the answer makes of a term, where nothing that was left stands in it
    pub nothing_left : (t : Read) (A : Ty) → HasType sg [] t A → [] ≡ standing_in (image same_number answer t) left → I t ≡ image same_number answer t
    nothing_left t A d none = in_turn t A d ∙ image_unmoved (value_in same_number r) (image same_number answer t) (λ z m. go z m (value_in same_number r z) refl)
      where
        go : (z : tree.Variable ℕ) → Contains (variables (image same_number answer t)) z → (o : Option Read) → value_in same_number r z ≡ o → value_in same_number r z ≡ None
        go z m None e = e
        go z m (Some v) e =
            let K = image same_number answer t in
            let found = Contains-from_map in_terms left z (filled.keys z v e) in
            let stands : holds (variables K) (in_terms found.0) ≡ true = contains_holds (variables K) (in_terms found.0) (subst (Contains (variables K)) (sym found.2) m) in
            absurd (Contains-none found.0 (subst (λ l. Contains l found.0) (sym none) (kept_contains (λ y. holds (variables K) (in_terms y)) left found.0 found.1 stands)))

    -- what is equal under the answer
    same_under : (A G : Read) → HasType sg [] A prop → StandsIn a_formula A → HoldsOnly xs G → EqualPastHints (image same_number answer (erased A)) (image same_number answer (erased G)) → forget (erased (I A)) ≡ forget (erased G)
    same_under A G typed_A stands closed same =
        let moved : forget (erased (I A)) ≡ forget (I (erased A)) = sym (makes_erased (plain both_ways) A (I A) stands (sym (image_plain both_ways A))) ∙ sym (image_plain both_ways (erased A)) in
        let answered : image same_number answer (erased G) ≡ erased G = old_term (erased G) (over_erased G closed) in
        let filled_in : image same_number r (erased G) ≡ erased G = old_filled (erased G) (over_erased G closed) in
        let under_r : forget (image same_number r (image same_number answer (erased A))) ≡ forget (image same_number r (erased G)) =
        image_past_hints (value_in same_number r) (value_in same_number r) (λ y. refl) (image same_number answer (erased A)) (erased G) (same ∙ ap forget answered) in
        moved ∙ ap forget (in_turn (erased A) prop (erased_typed sg typed_A)) ∙ under_r ∙ ap forget filled_in

    marks_under : (A : Read) → StandsIn a_formula A → marks_of A ≡ marks_of (I A)
    marks_under A stands = marks_made_same (plain both_ways) A (I A) stands (sym (image_plain both_ways A))

    -- WHAT IS GIVEN MEETS what it is equal to under the answer
    pub met_by_equation : (A G : Read) → HasType sg [] A prop → StandsIn a_formula A → HoldsOnly xs G → EqualPastHints (image same_number answer (erased A)) (image same_number answer (erased G)) → MarksServeIn A G → Meets G (I A)
    met_by_equation A G typed_A stands closed same serve =
        let itself = up_to_names-itself (erased G) in
        ((itself.0, itself.1, itself.2 ∙ sym (same_under A G typed_A stands closed same)), subst (λ k. MarksServe k (marks_of G)) (marks_under A stands) serve)

    -- and a result meets what it is equal to
    pub meets_by_equation : (A G : Read) → HasType sg [] A prop → StandsIn a_formula A → HoldsOnly xs G → EqualPastHints (image same_number answer (erased A)) (image same_number answer (erased G)) → MarksServeIn G A → Meets (I A) G
    meets_by_equation A G typed_A stands closed same serve =
        let itself = up_to_names-itself (erased (I A)) in
        ((itself.0, itself.1, itself.2 ∙ same_under A G typed_A stands closed same), subst (MarksServe (marks_of G)) (marks_under A stands) serve)
