-- What is left of a case once its equations are solved: where no variable that was made stands in it, a formula over the goal's
-- variables, with the constants that it had.
use Rattle.std.specs.Prelude.{All, Contains, slice_get, drop}
use Rattle.std.proofs.Common.{◌≡◌, ◌⊎◌, inl, inr, ℕ, ◌+◌, ◌<◌, ◌≤◌, List, [], ◌∷◌, ◌++◌, map, length, Bool, true, false, cond, not, ◌||◌, Option, Some, None, option_map, codes, refl, sym, ◌∙◌, ap, subst, arith, length-append, append_assoc}
use Rattle.std.proofs.lemmas.Option.{slice_get_within}
use Rattle.std.proofs.lemmas.List.Elements.{All-nil, All-cons, All-head, All-tail, All-weaker, All-contains, All-append, Contains-append_cases}
use Rattle.ab_term.specs.Terms as tree
use Rattle.ab_term.specs.Terms.{Nominal, Read}
use Rattle.ab_term.specs.Names.{support}
use Rattle.ab_term.specs.Variables.{Substitution, variables, value_in, image}
use Rattle.ab_term.specs.Sameness.{same_numbered, same_number}
use Rattle.ab_term.proofs.Lists.{Contains-none, Contains-cases, Contains-map, Contains-from_map, All-from_contains}
use Rattle.ab_term.proofs.Stands.{support-image, variables-image}
use Rattle.ab_unifiers.specs.Replacements.{Cell, holds}
use Rattle.ab_unifiers.specs.Unification.{Equation, unified, Solves}
use Rattle.ab_unifiers.specs.Unifiers.{AreTyped, AreKnown, IsOver, AreOver, IsCell, HoldsCells, AllHoldCells, keys, sides}
use Rattle.ab_unifiers.proofs.Agreeing.{contains_holds}
use Rattle.ab_unifiers.proofs.Problems.{answer_typed, answer_clean}
use Rattle.ab_unifiers.proofs.Cells.{Grows, answer_cells, cell_kept}
use Rattle.ab_unifiers.proofs.Choosing.{kept_contains}
use Rattle.ab_unifiers.proofs.Covered.{found_of_all}
use Rattle.ab_unifiers.proofs.Variables.{holds_contains}
use Rattle.ab_formulas.proofs.Images.{image_formula}
use Rattle.ab_formulas.specs.Declarations.{Declarations, signature_in}
use Rattle.ab_formulas.specs.Sequents.{Variable, HoldsOnly, in_terms}
use Rattle.ab_theory.specs.Equations.{AreCells, stays, made, variables_from}
use Rattle.ab_theory.specs.Splits.{Case, problem_of, variables_of, cell_for}
use Rattle.ab_theory.proofs.Carried.{cells_in_front}
use Rattle.ab_formulas.proofs.Idempotent.{none_replaced, where_from}
use Rattle.ab_theory.proofs.Renaming.{behind_cell, made_listed}
use Rattle.ab_theory.proofs.RulesParts.{MayStand}
use Rattle.ab_theory.specs.UseAnswers.{standing_in}

abbrev Cells : Type 0
Cells = List (Cell (List ℕ))

abbrev AreThere : Cells → List Variable → Type 0
AreThere cells xs = All (λ (x : Variable). slice_get cells x.number ≡ Some (cell_for x)) xs

cell_of : (cells : Cells) (xs : List Variable) → AreThere cells xs → (z : tree.Variable ℕ) → Contains (map in_terms xs) z → IsCell cells z
cell_of cells xs all z m =
    let found = Contains-from_map in_terms xs z m in
    let is = All-contains (λ (x : Variable). slice_get cells x.number ≡ Some (cell_for x)) xs found.0 all found.1 in
    subst (IsCell cells) found.2 (ap (option_map (λ (c : Cell (List ℕ)). c.type)) is)

below_cells : (cells : Cells) (z : tree.Variable ℕ) → IsCell cells z → z.name < length cells
below_cells cells z e = go (slice_get cells z.name) refl e
  where
    go : (o : Option (Cell (List ℕ))) → slice_get cells z.name ≡ o → option_map (λ (c : Cell (List ℕ)). c.type) o ≡ Some z.type → z.name < length cells
    go None d e = absurd (cc)
    go (Some c) d e = slice_get_within cells z.name c d

from_there : (front cells : Cells) (n : ℕ) → length front ≡ n → AreThere (front ++ cells) (variables_from n cells)
from_there front [] n e = All-nil (λ (x : Variable). slice_get (front ++ []) x.number ≡ Some (cell_for x))
from_there front (c ∷ cells) n e =
    let long : length (front ++ c ∷ []) ≡ n + 1 = length-append front (c ∷ []) ∙ ap (λ k. k + 1) e in
    All-cons (λ (x : Variable). slice_get (front ++ c ∷ cells) x.number ≡ Some (cell_for x)) (record { number = n; type = c.type; name = c.hint }) (variables_from (n + 1) cells)
    (let found = behind_cell front (c ∷ cells) n (omega (arith, e)) in
    found.2 ∙ ap (slice_get (c ∷ cells)) (let at : found.0 ≡ 0 = omega (arith, found.1, e) in at))
    (subst (λ cs. AreThere cs (variables_from (n + 1) cells)) (append_assoc front (c ∷ []) cells) (from_there (front ++ c ∷ []) cells (n + 1) long))

from_numbers : (n : ℕ) (cells : Cells) (x : Variable) → Contains (variables_from n cells) x → n ≤ x.number
from_numbers n [] x m = absurd (Contains-none x m)
from_numbers n (c ∷ cells) x m = elim (Contains-cases (record { number = n; type = c.type; name = c.hint }) (variables_from (n + 1) cells) x m) [
  | inl e ↦ (let same : n ≡ x.number = ap (λ (y : Variable). y.number) e in omega (arith, same))
  | inr r ↦ (let less = from_numbers (n + 1) cells x r in omega (arith, less))
]

none_key : (s : Substitution ℕ (List ℕ)) (y : tree.Variable ℕ) → value_in same_number s y ≡ None → holds (keys s) y ≡ false
none_key [] y e = refl
none_key (p ∷ s) y e = go (same_numbered p.0 y) e (none_key s y)
  where
    go : (b : Bool) → cond b (Some p.1) (value_in same_number s y) ≡ None → (value_in same_number s y ≡ None → holds (keys s) y ≡ false) → (b || holds (keys s) y) ≡ false
    go true e rest = absurd (cc)
    go false e rest = rest e

over_sides : (cells : Cells) (P : tree.Variable ℕ → Type 0) → ((z : tree.Variable ℕ) → P z → IsCell cells z) → (es : List (Equation (List ℕ))) → All (λ t. All P (variables t)) (sides es) → AllHoldCells cells es × AreOver cells es
over_sides cells P cell [] all = (tt, tt)
over_sides cells P cell (e ∷ es) all =
    let Over : Read → Type 0 = λ t. All P (variables t) in
    let first = All-head Over e.left (e.right ∷ sides es) all in
    let others = All-tail Over e.left (e.right ∷ sides es) all in
    let second = All-head Over e.right (sides es) others in
    let rest = over_sides cells P cell es (All-tail Over e.right (sides es) others) in
    let held : (t : Read) → Over t → HoldsCells cells t = λ t over z m. cell z (All-contains P (variables t) z over m) in
    let known : (t : Read) → Over t → IsOver cells t = λ t over z h. below_cells cells z (held t over z (holds_contains (variables t) z h)) in
    ((held e.left first, held e.right second, rest.0), (known e.left first, known e.right second, rest.1))

-- A CASE whose equations are typed and over its variables, of which some may be replaced
module _ (D : Declarations) (c : Case) (there : AreCells c.before c.goal) (typed : AreTyped (signature_in D) c.equations) (over : All (HoldsOnly (variables_of c)) (sides c.equations))
    (flexible : (z : tree.Variable ℕ) → Contains c.flexible z → Contains (map in_terms (variables_of c)) z)
    (more : Cells) (answer : Substitution ℕ (List ℕ)) (solves : Solves (codes "x") (problem_of c) (unified more answer)) where
  abbrev xs : List Variable
  xs = c.goal.variables

  abbrev cells : Cells
  cells = c.before ++ c.own

  abbrev IsKnown : tree.Variable ℕ → Type 0
  IsKnown z = Contains (map in_terms (variables_of c)) z

  known_cell : (z : tree.Variable ℕ) → IsKnown z → IsCell cells z
  known_cell =
      cell_of cells (variables_of c)
      (All-append (λ (x : Variable). slice_get cells x.number ≡ Some (cell_for x)) xs (variables_from (length c.before) c.own) (cells_in_front c.before c.own xs there) (from_there c.before c.own (length c.before) refl))

  flexible_known : (z : tree.Variable ℕ) → holds c.flexible z ≡ true → IsKnown z
  flexible_known z h = flexible z (holds_contains c.flexible z h)

  flexible_cell : (z : tree.Variable ℕ) → holds c.flexible z ≡ true → IsCell cells z
  flexible_cell z h = known_cell z (flexible_known z h)

  known : AreKnown cells c.flexible
  known z h = below_cells cells z (flexible_cell z h)

  both : AllHoldCells cells c.equations × AreOver cells c.equations
  both = over_sides cells IsKnown known_cell c.equations over

  all_cells : Grows cells more × All (λ p. IsCell more p.0 × HoldsCells more p.1) answer
  all_cells = answer_cells (codes "x") c.equations cells c.flexible flexible_cell both.0 more answer solves

  abbrev added : Cells
  added = c.own ++ all_cells.0.0

  more_is : more ≡ c.before ++ added
  more_is = let grown = all_cells.0 in grown.1 ∙ append_assoc c.before c.own grown.0

  -- the variables that were made and are left
  abbrev left : List Variable
  left = made c.before more answer

  abbrev IsLeft : tree.Variable ℕ → Type 0
  IsLeft z = Contains (map in_terms xs) z ⊎ Contains (map in_terms left) z

  new_left : (z : tree.Variable ℕ) → length c.before ≤ z.name → IsCell more z → holds (keys answer) z ≡ false → Contains (map in_terms left) z
  new_left z l cell k =
      let new : List Variable = variables_from (length c.before) (drop (length c.before) more) in
      let listed : Contains (map in_terms new) z =
      subst (λ cs. Contains (map in_terms (variables_from (length c.before) (drop (length c.before) cs))) z) (sym more_is) (made_listed c.before added z l (subst (λ cs. IsCell cs z) more_is cell)) in
      let found = Contains-from_map in_terms new z listed in
      let stay : stays answer found.0 ≡ true = ap (λ v. not (holds (keys answer) v)) found.2 ∙ ap not k in
      subst (Contains (map in_terms left)) found.2 (Contains-map in_terms left found.0 (kept_contains (stays answer) new found.0 found.1 stay))

  known_left : (z : tree.Variable ℕ) → IsKnown z → holds (keys answer) z ≡ false → IsLeft z
  known_left z m k =
      let found = Contains-from_map in_terms (variables_of c) z m in
      elim (Contains-append_cases xs (variables_from (length c.before) c.own) found.0 found.1) [
        | inl a ↦ inl (subst (Contains (map in_terms xs)) found.2 (Contains-map in_terms xs found.0 a))
        | inr a ↦ (let low : length c.before ≤ found.0.number = from_numbers (length c.before) c.own found.0 a in
            let number : found.0.number ≡ z.name = ap (λ (v : tree.Variable ℕ). v.name) found.2 in
            inr (new_left z (omega (arith, low, number)) (cell_kept cells more all_cells.0 z (known_cell z m)) k))
      ]

  of_value : (w : tree.Variable ℕ) (v : Read) → value_in same_number answer w ≡ Some v → (z : tree.Variable ℕ) → Contains (variables v) z → IsLeft z
  of_value w v e z m =
      let free : holds (keys answer) z ≡ false = none_replaced (codes "x") c.equations cells c.flexible known both.1 more answer solves w v e z m in
      let is_cell : IsCell more z =
      found_of_all (HoldsCells more) answer (All-weaker (λ p. IsCell more p.0 × HoldsCells more p.1) (λ p. HoldsCells more p.1) (λ p q. q.1) answer all_cells.1) w v e z m in
      elim (where_from (codes "x") c.equations cells c.flexible known both.1 more answer solves w v e z m) [
        | inl a ↦ elim a [
          | inl b ↦ known_left z (flexible_known z b) free
          | inr b ↦ (let high = b.0 in let long = length-append c.before c.own in inr (new_left z (omega (arith, high, long)) is_cell free))
        ]
        | inr a ↦ known_left z (All-contains IsKnown (variables a.0) z (All-contains (λ t. All IsKnown (variables t)) (sides c.equations) a.0 over a.1) a.2) free
      ]

  -- A FORMULA UNDER THE ANSWER
  module _ (M : List Nominal) (F : Read) (may : MayStand (signature_in D) (variables_of c) M F) where
    abbrev K : Read
    K = image same_number answer F

    of_image : (z : tree.Variable ℕ) → Contains (variables K) z → IsLeft z
    of_image z m = elim (variables-image (value_in same_number answer) F z m) [
      | inl a ↦ known_left z (All-contains IsKnown (variables F) z may.closed a.0) (none_key answer z a.1)
      | inr a ↦ of_value a.0 a.1 a.2.1 z a.3
    ]

    names_in : (a : Nominal) → Contains (support K) a → Contains M a
    names_in a m = elim (support-image (value_in same_number answer) F a m) [
      | inl k ↦ may.names a k
      | inr k ↦ absurd (Contains-none a (subst (λ l. Contains l a) (answer_clean (signature_in D) (codes "x") c.equations cells c.flexible typed known more answer solves k.0 k.1 k.2.1) k.3))
    ]

    -- where none that was made stands in it
    pub left_may : [] ≡ standing_in K left → MayStand (signature_in D) xs M K
    left_may none = record {
      formula = image_formula (signature_in D) answer (answer_typed (signature_in D) (codes "x") c.equations cells c.flexible typed known more answer solves) F may.formula;
      closed = All-from_contains (Contains (map in_terms xs)) (variables K) (λ z m. elim (of_image z m) [ inl a ↦ a | inr a ↦ absurd (not_left z m a) ]);
      names = names_in;
    }
      where
        not_left : (z : tree.Variable ℕ) → Contains (variables K) z → Contains (map in_terms left) z → ⊥
        not_left z m a =
            let found = Contains-from_map in_terms left z a in
            let stands : holds (variables K) (in_terms found.0) ≡ true = contains_holds (variables K) (in_terms found.0) (subst (Contains (variables K)) (sym found.2) m) in
            Contains-none found.0 (subst (λ l. Contains l found.0) (sym none) (kept_contains (λ y. holds (variables K) (in_terms y)) left found.0 found.1 stands))
