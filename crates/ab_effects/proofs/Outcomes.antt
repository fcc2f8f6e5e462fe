-- One equation of one goal, over two lists of numbers, has one outcome.
use Rattle.std.proofs.Common.{◌≡◌, ℕ, ◌+◌, List, [], ◌∷◌, ◌++◌, map, length, Some, option_map, refl, sym, ◌∙◌, ap, subst, arith, codes, length-append}
use Rattle.std.specs.Prelude.{slice_get, All}
use Rattle.std.proofs.lemmas.List.{length-map}
use Rattle.std.proofs.lemmas.List.Elements.{All-head, All-tail}
use Rattle.std.proofs.lemmas.Option.{slice_get-map}
use Rattle.ab_term.specs.Terms as tree
use Rattle.ab_term.specs.Translation.{translate_variable, translate}
use Rattle.ab_term.specs.Variables.{Substitution}
use Rattle.ab_term.specs.Terms.{Read}
use Rattle.ab_unifiers.specs.Replacements.{Cell}
use Rattle.ab_unifiers.specs.Unification.{Answer, unified, apart, stuck, Solves}
use Rattle.ab_unifiers.proofs.Ending.{answered}
use Rattle.ab_formulas.specs.Declarations.{Declarations}
use Rattle.ab_formulas.specs.Sequents.{Variable, Hypothesis, Sequent, IsSequent, HoldsOnly, in_terms, over, formulas}
use Rattle.ab_formulas.specs.NamedGoals.{Goal, with_names, variable_named, hypothesis_named, named}
use Rattle.ab_formulas.specs.NamedGoals as shown
use Rattle.ab_theory.specs.Equations.{AreCells, problem, made, Naming, Named, under, Carried, Becomes, AreApart, AreStuck}
use Rattle.ab_unifiers.specs.Renumbering.{renumbered, renumbered_pairs, renumbered_state, renumbered_answer, IsRenumbering}
use Rattle.ab_unifiers.proofs.Changes.{front, rear, agreeing}
use Rattle.ab_unifiers.proofs.Runs.{same_answers, cells_kept}
use Rattle.ab_effects.specs.Likeness.{IsSameTerm, IsSameEquation}
use Rattle.ab_effects.proofs.Namings.{HaveSameNames, IsByNames, IsSettled}
use Rattle.ab_effects.proofs.Renumbered.{moved_variable, moved_hypothesis, moved_goal, names_kept, named_moved}
use Rattle.ab_effects.proofs.Carrying.{GoOn, one_on, at_once, names_more, carried_once, most_of, made_moved, under_moved, behind_more, carried_moved}
use Rattle.ab_effects.proofs.Thirds.{cell_of, by_place, numbering, indexed, named_place, variables_indexed, term_by_names}

-- CELLS FOR BOTH

abbrev named_cell : tree.Variable (List ℕ) → Cell (List ℕ)
named_cell v = record { hint = v.name; type = v.type }

cells_named : (xs : List Variable) → map cell_of xs ≡ map named_cell (map variable_named xs)
cells_named [] = refl
cells_named (x ∷ xs) = ap (λ l. cell_of x ∷ l) (cells_named xs)

module _ (xs : List Variable) (cells others : List (Cell (List ℕ))) where
  abbrev pub third : List (Cell (List ℕ))
  third = map cell_of xs ++ (cells ++ others)

  third_length : length third ≡ length xs + (length cells + length others)
  third_length =
      let one = length-append (map cell_of xs) (cells ++ others) in
      let two = length-append cells others in
      let three : length (map cell_of xs) ≡ length xs = length-map xs cell_of in
      omega (arith, one, two, three)

  listed : (k : ℕ) (x : Variable) → slice_get xs k ≡ Some x → slice_get third k ≡ Some (cell_of x)
  listed k x e = front (map cell_of xs) (cells ++ others) k (cell_of x) (slice_get-map cell_of xs k ∙ ap (option_map cell_of) e)

  behind_listed : (j i : ℕ) → j ≡ length xs + i → slice_get third j ≡ slice_get (cells ++ others) i
  behind_listed j i e =
      let three : length (map cell_of xs) ≡ length xs = length-map xs cell_of in
      let there : j ≡ length (map cell_of xs) + i = omega (arith, three, e) in
      ap (slice_get third) there ∙ rear (map cell_of xs) (cells ++ others) i

  pub first_numbering : All (λ (x : Variable). slice_get cells x.number ≡ Some (cell_of x)) xs → IsRenumbering (by_place xs cells (length xs) (length third)) cells third
  first_numbering are =
      numbering xs cells third (length xs) are (omega arith) (omega (arith, third_length)) listed
      (λ i c e. behind_listed (length xs + i) i refl ∙ front cells others i c e)

  pub second_numbering : (ys : List Variable) → map variable_named xs ≡ map variable_named ys → All (λ (y : Variable). slice_get others y.number ≡ Some (cell_of y)) ys
      → IsRenumbering (by_place ys others (length xs + length cells) (length third)) others third
  second_numbering ys same are =
      let cells_same : map cell_of xs ≡ map cell_of ys = cells_named xs ∙ ap (map named_cell) same ∙ sym (cells_named ys) in
      let long : length (map cell_of xs) ≡ length (map cell_of ys) = ap (λ (l : List (Cell (List ℕ))). length l) cells_same in
      let one : length (map cell_of xs) ≡ length xs = length-map xs cell_of in
      let two : length (map cell_of ys) ≡ length ys = length-map ys cell_of in
      numbering ys others third (length xs + length cells) are (omega (arith, long, one, two)) (omega (arith, third_length))
      (λ k y e. ap (λ l. slice_get (l ++ (cells ++ others)) k) cells_same ∙ front (map cell_of ys) (cells ++ others) k (cell_of y) (slice_get-map cell_of ys k ∙ ap (option_map cell_of) e))
      (λ i c e. behind_listed (length xs + length cells + i) (length cells + i) (omega arith) ∙ rear cells others i ∙ e)

-- THE PROBLEM with other numbers

pub flexible_moved : (f : ℕ → ℕ) (xs : List Variable) → map (translate_variable f) (map in_terms xs) ≡ map in_terms (map (moved_variable f) xs)
flexible_moved f [] = refl
flexible_moved f (x ∷ xs) = ap (λ l. in_terms (moved_variable f x) ∷ l) (flexible_moved f xs)

problem_moved : (f : ℕ → ℕ) (cells others : List (Cell (List ℕ))) (s : Sequent) (t r : Read) → renumbered_state f others (problem cells s t r) ≡ problem others (moved_goal f s) (renumbered f t) (renumbered f r)
problem_moved f cells others s t r =
    let flexible = flexible_moved f s.variables in
    λ i. record { equations = record { place = 0; left = renumbered f t; right = renumbered f r } ∷ []; cells = others; flexible = flexible i; pairs = [] }

-- each formula of a goal, with places for names
abbrev placed_hypothesis : List (tree.Variable (List ℕ)) → shown.Hypothesis → Hypothesis
placed_hypothesis vs h = record { name = h.name; formula = translate (named_place vs 0) (λ x. x) h.formula }

abbrev pub placed_goal : Goal → Sequent
placed_goal g = record {
  variables = indexed 0 g.variables;
  hypotheses = map (placed_hypothesis g.variables) g.hypotheses;
  conclusion = translate (named_place g.variables 0) (λ x. x) g.conclusion;
  counter = g.counter;
}

module _ (D : Declarations) (s : Sequent) (sequent : IsSequent D s) (cells third : List (Cell (List ℕ))) (start : ℕ) where
  abbrev F : ℕ → ℕ
  F = by_place s.variables cells start (length third)

  pub term_placed : (t : Read) → HoldsOnly s.variables t → renumbered F t ≡ translate (named_place (map variable_named s.variables) 0) (λ x. x) (with_names s.variables t)
  term_placed t closed = term_by_names s.variables cells third start sequent.numbers_differ sequent.names_differ t closed

  hypotheses_placed : (hs : List Hypothesis) → All (HoldsOnly s.variables) (formulas hs) → map (moved_hypothesis F) hs ≡ map (placed_hypothesis (map variable_named s.variables)) (map (hypothesis_named s.variables) hs)
  hypotheses_placed [] all = refl
  hypotheses_placed (h ∷ hs) all =
      ap (λ G. record { name = h.name; formula = G } ∷ map (moved_hypothesis F) hs) (term_placed h.formula (All-head (HoldsOnly s.variables) h.formula (formulas hs) all))
      ∙ ap (λ l. placed_hypothesis (map variable_named s.variables) (hypothesis_named s.variables h) ∷ l) (hypotheses_placed hs (All-tail (HoldsOnly s.variables) h.formula (formulas hs) all))

  pub goal_placed : moved_goal F s ≡ placed_goal (named s)
  goal_placed =
      let variables = variables_indexed s.variables cells third start sequent.numbers_differ in
      let hypotheses = hypotheses_placed s.hypotheses (All-tail (HoldsOnly s.variables) s.conclusion (formulas s.hypotheses) sequent.closed) in
      let conclusion = term_placed s.conclusion (All-head (HoldsOnly s.variables) s.conclusion (formulas s.hypotheses) sequent.closed) in
      λ i. record { variables = variables i; hypotheses = hypotheses i; conclusion = conclusion i; counter = s.counter }

-- NEW VARIABLES, numbered afresh

pub named_again : (IsName : Naming) → IsByNames IsName → (s u : Sequent) (n m : ℕ) (xs ys zs : List Variable) → HaveSameNames s u → map variable_named xs ≡ map variable_named ys → Named IsName s n xs zs → Named IsName u m ys (indexed m (map variable_named zs))
named_again IsName by s u n m [] [] [] same alike d = tt
named_again IsName by s u n m [] [] (z ∷ zs) same alike d = absurd d
named_again IsName by s u n m [] (y ∷ ys) zs same alike d = absurd (cc)
named_again IsName by s u n m (x ∷ xs) [] zs same alike d = absurd (cc)
named_again IsName by s u n m (x ∷ xs) (y ∷ ys) [] same alike d = absurd d
named_again IsName by s u n m (x ∷ xs) (y ∷ ys) (z ∷ zs) same alike d =
    let one : variable_named x ≡ variable_named y = cc in
    let rest : map variable_named xs ≡ map variable_named ys = cc in
    let type : x.type ≡ y.type = ap (λ (v : tree.Variable (List ℕ)). v.type) one in
    let name : x.name ≡ y.name = ap (λ (v : tree.Variable (List ℕ)). v.name) one in
    let w : Variable = record { number = m; type = z.type; name = z.name } in (
      refl,
      d.1 ∙ type,
      subst (λ l. IsName u l z.name) name (by s u x.name z.name same d.2),
      named_again IsName by (over z s) (over w u) (n + 1) (m + 1) xs ys zs (names_more s u z w same refl) rest d.3,
    )

-- what is numbered in turn, with other numbers
named_indexed : (IsName : Naming) (f : ℕ → ℕ) (s : Sequent) (n m : ℕ) (xs ys : List Variable) → GoOn f n m → Named IsName s n xs ys → map (moved_variable f) ys ≡ indexed m (map variable_named ys)
named_indexed IsName f s n m [] [] on d = refl
named_indexed IsName f s n m [] (y ∷ ys) on d = absurd d
named_indexed IsName f s n m (x ∷ xs) [] on d = refl
named_indexed IsName f s n m (x ∷ xs) (y ∷ ys) on d =
    ap (λ j. record { number = j; type = y.type; name = y.name } ∷ map (moved_variable f) ys) (ap f d.0 ∙ at_once f n m on)
    ∙ ap (λ l. record { number = m; type = y.type; name = y.name } ∷ l) (named_indexed IsName f (over y s) (n + 1) (m + 1) xs ys (one_on f n m on) d.3)

indexed_named : (n : ℕ) (vs : List (tree.Variable (List ℕ))) → map variable_named (indexed n vs) ≡ vs
indexed_named n [] = refl
indexed_named n (v ∷ vs) = ap (λ l. v ∷ l) (indexed_named (n + 1) vs)

-- ONE OUTCOME

module _ (D : Declarations) (s u : Sequent) (t r v w : Read) (same : IsSameEquation D s u t r v w)
    (cells others : List (Cell (List ℕ))) (are : AreCells cells s) (also : AreCells others u) where
  abbrev C : List (Cell (List ℕ))
  C = third s.variables cells others

  abbrev f : ℕ → ℕ
  f = by_place s.variables cells (length s.variables) (length C)

  abbrev g : ℕ → ℕ
  g = by_place u.variables others (length s.variables + length cells) (length C)

  same_names : HaveSameNames s u
  same_names = ap (λ (g : Goal). g.variables) same.goals

  one : IsRenumbering f cells C
  one = first_numbering s.variables cells others are

  two : IsRenumbering g others C
  two = second_numbering s.variables cells others u.variables same_names also

  goals : moved_goal f s ≡ moved_goal g u
  goals = goal_placed D s same.first cells C (length s.variables) ∙ ap placed_goal same.goals ∙ sym (goal_placed D u same.second others C (length s.variables + length cells))

  terms : (a b : Read) → IsSameTerm s u a b → renumbered f a ≡ renumbered g b
  terms a b is =
      term_placed D s same.first cells C (length s.variables) a is.first
      ∙ ap (translate (named_place (map variable_named s.variables) 0) (λ x. x)) is.same
      ∙ ap (λ vs. translate (named_place vs 0) (λ x. x) (with_names u.variables b)) same_names
      ∙ sym (term_placed D u same.second others C (length s.variables + length cells) b is.second)

  states : renumbered_state f C (problem cells s t r) ≡ renumbered_state g C (problem others u v w)
  states =
      problem_moved f cells C s t r
      ∙ ap (λ q. problem C q (renumbered f t) (renumbered f r)) goals
      ∙ ap (λ a. problem C (moved_goal g u) a (renumbered f r)) (terms t v same.left)
      ∙ ap (problem C (moved_goal g u) (renumbered g v)) (terms r w same.right)
      ∙ sym (problem_moved g others C u v w)

  answers : (a b : Answer (List ℕ)) → Solves (codes "x") (problem cells s t r) a → Solves (codes "x") (problem others u v w) b → renumbered_answer f cells C a ≡ renumbered_answer g others C b
  answers a b d e = same_answers f g (codes "x") (problem cells s t r) (problem others u v w) C a b one two states d e

  -- where neither answer holds cells
  no_cells : (a b : Answer (List ℕ)) → ((more : List (Cell (List ℕ))) (p : Substitution ℕ (List ℕ)) → a ≡ unified more p → ⊥) → renumbered_answer f cells C a ≡ renumbered_answer g others C b → b ≡ a
  no_cells (unified more p) b none e = absurd (none more p refl)
  no_cells apart (unified most q) none e = absurd (cc)
  no_cells apart apart none e = refl
  no_cells apart (stuck n) none e = absurd (cc)
  no_cells (stuck n) (unified most q) none e = absurd (cc)
  no_cells (stuck n) apart none e = absurd (cc)
  no_cells (stuck n) (stuck m) none e = sym e

  goes_along : (a : Answer (List ℕ)) → ((more : List (Cell (List ℕ))) (p : Substitution ℕ (List ℕ)) → a ≡ unified more p → ⊥) → Solves (codes "x") (problem cells s t r) a → Solves (codes "x") (problem others u v w) a
  goes_along a none d =
      let b = answered (codes "x") (problem others u v w) in
      subst (Solves (codes "x") (problem others u v w)) (no_cells a b.0 none (answers a b.0 d b.1)) b.1

  pub apart_also : AreApart cells s t r → AreApart others u v w
  apart_also d = goes_along apart (λ more p e. cc) d

  pub stuck_also : AreStuck cells s t r → AreStuck others u v w
  stuck_also d = goes_along (stuck 0) (λ more p e. cc) d

  module _ (IsName : Naming) (by : IsByNames IsName) where
    moved_first : (more : List (Cell (List ℕ))) (p : Substitution ℕ (List ℕ)) (h : Sequent) → Solves (codes "x") (problem cells s t r) (unified more p) → Carried IsName cells s more p h
        → Carried IsName C (moved_goal f s) (most_of f cells C one more) (renumbered_pairs f p) (moved_goal f h)
    moved_first more p h d c =
        let kept = cells_kept (codes "x") (problem cells s t r) more p d in
        carried_moved f cells C one IsName by s more kept.0 p h kept.1 c

    moved_second : (more : List (Cell (List ℕ))) (p : Substitution ℕ (List ℕ)) (h : Sequent) → Solves (codes "x") (problem others u v w) (unified more p) → Carried IsName others u more p h
        → Carried IsName C (moved_goal g u) (most_of g others C two more) (renumbered_pairs g p) (moved_goal g h)
    moved_second more p h d c =
        let kept = cells_kept (codes "x") (problem others u v w) more p d in
        carried_moved g others C two IsName by u more kept.0 p h kept.1 c

    named_same : (h k : Sequent) → moved_goal f h ≡ moved_goal g k → named h ≡ named k
    named_same h k e = sym (named_moved f (agreeing f one.different) h) ∙ ap named e ∙ named_moved g (agreeing g two.different) k

    pub one_goal : IsSettled IsName → (h k : Sequent) → Becomes IsName cells s t r h → Becomes IsName others u v w k → named h ≡ named k
    one_goal settled h k d e =
        let both = answers (unified d.0 d.1) (unified e.0 e.1) d.2 e.2 in
        let more : most_of f cells C one d.0 ≡ most_of g others C two e.0 = cc in
        let pairs : renumbered_pairs f d.1 ≡ renumbered_pairs g e.1 = cc in
        let first = moved_first d.0 d.1 h d.2 d.3 in
        let second = moved_second e.0 e.1 k e.2 e.3 in
        let moved : Carried IsName C (moved_goal g u) (most_of g others C two e.0) (renumbered_pairs g e.1) (moved_goal f h) =
        subst (λ q. Carried IsName C q (most_of g others C two e.0) (renumbered_pairs g e.1) (moved_goal f h)) goals
        (subst (λ l. Carried IsName C (moved_goal f s) l (renumbered_pairs g e.1) (moved_goal f h)) more
        (subst (λ l. Carried IsName C (moved_goal f s) (most_of f cells C one d.0) l (moved_goal f h)) pairs first)) in
        named_same h k (carried_once IsName settled C (moved_goal g u) (most_of g others C two e.0) (renumbered_pairs g e.1) (moved_goal f h) (moved_goal g k) moved second)

    -- the other goal, where the first becomes this one
    becomes_by : (h : Sequent) → (d : Becomes IsName cells s t r h) → (b : Answer (List ℕ)) → Solves (codes "x") (problem others u v w) b → renumbered_answer f cells C (unified d.0 d.1) ≡ renumbered_answer g others C b
        → (k : Sequent) × Becomes IsName others u v w k × (named h ≡ named k)
    becomes_by h d apart e both = absurd (cc)
    becomes_by h d (stuck n) e both = absurd (cc)
    becomes_by h d (unified most q) e both =
        let more : most_of f cells C one d.0 ≡ most_of g others C two most = cc in
        let pairs : renumbered_pairs f d.1 ≡ renumbered_pairs g q = cc in
        let ys = d.3.0 in
        let zs = indexed (length most) (map variable_named ys) in
        let alike : map variable_named (made cells d.0 d.1) ≡ map variable_named (made others most q) =
        sym (names_kept f (made cells d.0 d.1))
        ∙ ap (map variable_named) (sym (made_moved f cells C one d.0 d.1) ∙ ap (λ l. made C l (renumbered_pairs f d.1)) more ∙ ap (made C (most_of g others C two most)) pairs ∙ made_moved g others C two most q)
        ∙ names_kept g (made others most q) in
        let list : Named IsName u (length most) (made others most q) zs = named_again IsName by s u (length d.0) (length most) (made cells d.0 d.1) (made others most q) ys same_names alike d.3.1 in
        let k = under others most q zs u in
        let carried : Carried IsName others u most q k = (zs, list, refl) in
        let kept_first = cells_kept (codes "x") (problem cells s t r) d.0 d.1 d.2 in
        let kept_second = cells_kept (codes "x") (problem others u v w) most q e in
        let long = length (most_of g others C two most) in
        let on : GoOn f (length d.0) long = subst (λ (l : List (Cell (List ℕ))). GoOn f (length d.0) (length l)) more (behind_more f cells C one d.0 kept_first.0 kept_first.1) in
        let numbers : map (moved_variable f) ys ≡ map (moved_variable g) zs =
        named_indexed IsName f s (length d.0) long (made cells d.0 d.1) ys on d.3.1
        ∙ ap (indexed long) (sym (indexed_named (length most) (map variable_named ys)))
        ∙ sym (named_indexed IsName g u (length most) long (made others most q) zs (behind_more g others C two most kept_second.0 kept_second.1) list) in
        let equal : moved_goal f h ≡ moved_goal g k =
        ap (moved_goal f) d.3.2
        ∙ under_moved f cells C one d.0 d.1 ys s
        ∙ ap (λ l. under C l (renumbered_pairs f d.1) (map (moved_variable f) ys) (moved_goal f s)) more
        ∙ ap (λ p. under C (most_of g others C two most) p (map (moved_variable f) ys) (moved_goal f s)) pairs
        ∙ ap (λ l. under C (most_of g others C two most) (renumbered_pairs g q) l (moved_goal f s)) numbers
        ∙ ap (under C (most_of g others C two most) (renumbered_pairs g q) (map (moved_variable g) zs)) goals
        ∙ sym (under_moved g others C two most q zs u) in
        (k, (most, q, e, carried), named_same h k equal)

    pub becomes_also : (h : Sequent) → Becomes IsName cells s t r h → (k : Sequent) × Becomes IsName others u v w k × (named h ≡ named k)
    becomes_also h d =
        let b = answered (codes "x") (problem others u v w) in
        becomes_by h d b.0 b.1 (answers (unified d.0 d.1) b.0 d.2 b.1)

  pub goal_or_apart : (IsName : Naming) (h : Sequent) → Becomes IsName cells s t r h → AreApart others u v w → ⊥
  goal_or_apart IsName h d e = let both = answers (unified d.0 d.1) apart d.2 e in cc

  pub goal_or_stuck : (IsName : Naming) (h : Sequent) → Becomes IsName cells s t r h → AreStuck others u v w → ⊥
  goal_or_stuck IsName h d e = let both = answers (unified d.0 d.1) (stuck 0) d.2 e in cc

  pub apart_or_stuck : AreApart cells s t r → AreStuck others u v w → ⊥
  apart_or_stuck d e = let both = answers apart (stuck 0) d e in cc
