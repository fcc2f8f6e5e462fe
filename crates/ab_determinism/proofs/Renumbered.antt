-- A GOAL WITH OTHER NUMBERS for its variables. Goals that are one with names for numbers differ in such numbers alone.
use Rattle.std.specs.Prelude.{if◌then◌else◌, ◌==◌, bytes_eq, All, AllPairs, Contains}
use Rattle.std.proofs.Common.{◌≡◌, ◌≢◌, ◌⊎◌, inl, inr, ℕ, ◌+◌, ◌≤◌, List, [], ◌∷◌, map, Bool, true, false, refl, sym, ◌∙◌, ap, subst, arith}
use Rattle.std.proofs.lemmas.List.Elements.{All-nil, All-cons, All-head, All-tail, All-contains, All-weaker}
use Rattle.std.proofs.lemmas.Slice.Eq.{bytes_eq-Decides}
use Rattle.ab_term.specs.Terms as tree
use Rattle.ab_term.specs.Terms.{Head, constant, logical, nominal, variable, index, Term, lam, spine, Terms, no_terms, term, Read}
use Rattle.ab_term.specs.Translation.{translate_head, translate, translate_all}
use Rattle.ab_term.specs.Variables.{variables}
use Rattle.ab_term.proofs.Lists.{Contains-none, Contains-here, Contains-there, Contains-cases, Contains-map, Contains-from_map, AllPairs-parts}
use Rattle.ab_formulas.specs.Declarations.{Declarations}
use Rattle.ab_formulas.specs.Sequents.{Variable, Hypothesis, Sequent, IsSequent, HoldsOnly, in_terms, formulas}
use Rattle.ab_formulas.specs.NamedGoals as shown
use Rattle.ab_formulas.specs.NamedGoals.{Named, Goal, name_in, with_names, variable_named, hypothesis_named, named}
use Rattle.ab_formulas.proofs.GoalsAgreeing.{translate_agrees}

abbrev pub renumber : (ℕ → ℕ) → Read → Read
renumber f t = translate f (λ h. h) t

abbrev pub renumber_variable : (ℕ → ℕ) → Variable → Variable
renumber_variable f x = record { number = f x.number; type = x.type; name = x.name }

abbrev pub renumber_hypothesis : (ℕ → ℕ) → Hypothesis → Hypothesis
renumber_hypothesis f h = record { name = h.name; formula = renumber f h.formula }

abbrev pub renumbered : (ℕ → ℕ) → Sequent → Sequent
renumbered f s = record {
  variables = map (renumber_variable f) s.variables;
  hypotheses = map (renumber_hypothesis f) s.hypotheses;
  conclusion = renumber f s.conclusion;
  counter = s.counter;
}

-- the second goal is the first with these numbers, and each number is named as before
pub record Renumbering (s u : Sequent) : Type 0 where
  pub by : ℕ → ℕ
  pub is : u ≡ renumbered by s
  pub names : (n : ℕ) → name_in u.variables (by n) ≡ name_in s.variables n

-- what stands for variables, twice over
module _ {A B C : Type 0} (f : A → B) (e : B → C) where
  head_twice : (h : Head A) → translate_head e (translate_head f h) ≡ translate_head (λ n. e (f n)) h
  head_twice (constant c) = refl
  head_twice (logical l) = refl
  head_twice (nominal a) = refl
  head_twice (variable x) = refl
  head_twice (index i) = refl

  mutual
    pub twice : (t : Term A (List ℕ)) → translate e (λ h. h) (translate f (λ h. h) t) ≡ translate (λ n. e (f n)) (λ h. h) t
    twice (lam A x t) = ap (lam A x) (twice t)
    twice (spine h ts) = ap (λ k. spine k (translate_all e (λ h. h) (translate_all f (λ h. h) ts))) (head_twice h) ∙ ap (spine (translate_head (λ n. e (f n)) h)) (all_twice ts)

    all_twice : (ts : Terms A (List ℕ)) → translate_all e (λ h. h) (translate_all f (λ h. h) ts) ≡ translate_all (λ n. e (f n)) (λ h. h) ts
    all_twice no_terms = refl
    all_twice (term t ts) = ap (λ k. term k (translate_all e (λ h. h) (translate_all f (λ h. h) ts))) (twice t) ∙ ap (term (translate (λ n. e (f n)) (λ h. h) t)) (all_twice ts)

module _ {A : Type 0} where
  head_itself : (h : Head A) → translate_head (λ n. n) h ≡ h
  head_itself (constant c) = refl
  head_itself (logical l) = refl
  head_itself (nominal a) = refl
  head_itself (variable x) = refl
  head_itself (index i) = refl

  mutual
    pub itself : (t : Term A (List ℕ)) → translate (λ n. n) (λ h. h) t ≡ t
    itself (lam A x t) = ap (lam A x) (itself t)
    itself (spine h ts) = ap (λ k. spine k (translate_all (λ n. n) (λ h. h) ts)) (head_itself h) ∙ ap (spine h) (all_itself ts)

    all_itself : (ts : Terms A (List ℕ)) → translate_all (λ n. n) (λ h. h) ts ≡ ts
    all_itself no_terms = refl
    all_itself (term t ts) = ap (λ k. term k (translate_all (λ n. n) (λ h. h) ts)) (itself t) ∙ ap (term t) (all_itself ts)

-- NAMES AND NUMBERS of a list of variables

abbrev NumbersDiffer : List Variable → Type 0
NumbersDiffer = AllPairs (λ (x y : Variable). x.number ≢ y.number)

abbrev NamesDiffer : List Variable → Type 0
NamesDiffer = AllPairs (λ (x y : Variable). x.name ≢ y.name)

-- no variable has the number
abbrev IsOutside : ℕ → List Variable → Type 0
IsOutside n = All (λ (x : Variable). x.number ≢ n)

-- a number above those of all variables
abbrev above : List Variable → ℕ
above [] = 0
above (x ∷ xs) = x.number + (above xs + 1)

outside_above : (n : ℕ) (xs : List Variable) → above xs ≤ n → IsOutside n xs
outside_above n [] l = All-nil (λ (x : Variable). x.number ≢ n)
outside_above n (x ∷ xs) l = All-cons (λ (x : Variable). x.number ≢ n) x xs (λ e. absurd (omega (arith, l, e))) (outside_above n xs (omega (arith, l)))

abbrev HasName : List Variable → List ℕ → Type 0
HasName xs name = (x : Variable) × Contains xs x × (x.name ≡ name)

-- a number is named by the name of a variable, or by none
name_found : (xs : List Variable) (n : ℕ) → HasName xs (name_in xs n) ⊎ (name_in xs n ≡ [])
name_found [] n = inr refl
name_found (x ∷ xs) n = go (x.number == n) (name_found xs n)
  where
    go : (b : Bool) → HasName xs (name_in xs n) ⊎ (name_in xs n ≡ []) → HasName (x ∷ xs) (if b then x.name else name_in xs n) ⊎ ((if b then x.name else name_in xs n) ≡ [])
    go true r = inl (x, Contains-here x xs, refl)
    go false (inl h) = inl (h.0, Contains-there x xs h.0 h.1, h.2)
    go false (inr e) = inr e

-- a variable's number is named by its name
number_named : (xs : List Variable) → NumbersDiffer xs → (x : Variable) → Contains xs x → name_in xs x.number ≡ x.name
number_named [] d x c = absurd (Contains-none x c)
number_named (z ∷ zs) d x c =
    let parts = AllPairs-parts (λ (x y : Variable). x.number ≢ y.number) z zs d in
    elim (Contains-cases z zs x c) [
      | inl e ↦ subst (λ (y : Variable). name_in (z ∷ zs) y.number ≡ y.name) e (let same : (z.number == z.number) ≡ true = grind arith in rw same refl)
      | inr m ↦
          let apart = All-contains (λ (y : Variable). z.number ≢ y.number) zs x parts.0 m in
          let other : (z.number == x.number) ≡ false = grind arith in
          rw other (number_named zs parts.1 x m)
    ]

-- the number of the variable of a name, or the other number where there is none
module _ (other : ℕ) where
  abbrev pub number_in : List Variable → List ℕ → ℕ
  number_in [] name = other
  number_in (y ∷ ys) name = if bytes_eq y.name name then y.number else number_in ys name

  not_found : (k : ℕ) (ys : List Variable) (name : List ℕ) → IsOutside k ys → other ≢ k → number_in ys name ≢ k
  not_found k [] name all o = o
  not_found k (y ∷ ys) name all o = go (bytes_eq y.name name) (not_found k ys name (All-tail (λ (x : Variable). x.number ≢ k) y ys all) o)
    where
      go : (b : Bool) → number_in ys name ≢ k → (if b then y.number else number_in ys name) ≢ k
      go true rest = All-head (λ (x : Variable). x.number ≢ k) y ys all
      go false rest = rest

  -- the number of a variable's name is its own
  name_numbered : (ys : List Variable) → NamesDiffer ys → (y : Variable) → Contains ys y → number_in ys y.name ≡ y.number
  name_numbered [] d y c = absurd (Contains-none y c)
  name_numbered (z ∷ zs) d y c =
      let parts = AllPairs-parts (λ (x y : Variable). x.name ≢ y.name) z zs d in
      elim (Contains-cases z zs y c) [
        | inl e ↦ subst (λ (x : Variable). number_in (z ∷ zs) x.name ≡ x.number) e (rw ((bytes_eq-Decides z.name z.name).1 refl) refl)
        | inr m ↦ go (bytes_eq z.name y.name) refl (All-contains (λ (x : Variable). z.name ≢ x.name) zs y parts.0 m) (name_numbered zs parts.1 y m)
      ]
    where
      go : (b : Bool) → bytes_eq z.name y.name ≡ b → z.name ≢ y.name → number_in zs y.name ≡ y.number → (if b then z.number else number_in zs y.name) ≡ y.number
      go true e apart rest = absurd (apart ((bytes_eq-Decides z.name y.name).0 e))
      go false e apart rest = rest

  -- a name, or none, is what its number is named by
  named_back : (ys : List Variable) → NumbersDiffer ys → IsOutside other ys → (name : List ℕ) → HasName ys name ⊎ (name ≡ []) → name_in ys (number_in ys name) ≡ name
  named_back [] d new name (inl h) = absurd (Contains-none h.0 h.1)
  named_back [] d new name (inr e) = sym e
  named_back (y ∷ ys) d new name h =
      let parts = AllPairs-parts (λ (x y : Variable). x.number ≢ y.number) y ys d in
      let tail = All-tail (λ (x : Variable). x.number ≢ other) y ys new in
      let first = All-head (λ (x : Variable). x.number ≢ other) y ys new in
      let apart = not_found y.number ys name (All-weaker (λ (x : Variable). y.number ≢ x.number) (λ (x : Variable). x.number ≢ y.number) (λ x n e. n (sym e)) ys parts.0) (λ e. first (sym e)) in
      go (bytes_eq y.name name) refl apart (named_back ys parts.1 tail name) h
    where
      go : (b : Bool) → bytes_eq y.name name ≡ b → number_in ys name ≢ y.number → (HasName ys name ⊎ (name ≡ []) → name_in ys (number_in ys name) ≡ name) → HasName (y ∷ ys) name ⊎ (name ≡ [])
          → name_in (y ∷ ys) (if b then y.number else number_in ys name) ≡ name
      go true e apart rest h = let same : (y.number == y.number) ≡ true = grind arith in rw same ((bytes_eq-Decides y.name name).0 e)
      go false e apart rest h =
          let differs : (y.number == number_in ys name) ≡ false = grind arith in
          rw differs (rest (elim h [
            | inl k ↦ elim (Contains-cases y ys k.0 k.1) [
              | inl same ↦ (let yes = (bytes_eq-Decides y.name name).1 (ap (λ (x : Variable). x.name) same ∙ k.2) in absurd (cc))
              | inr m ↦ inl (k.0, m, k.2)
            ]
            | inr none ↦ inr none
          ]))

  -- A GOAL'S NUMBERS from its names

  abbrev back_variable : List Variable → tree.Variable (List ℕ) → Variable
  back_variable ys v = record { number = number_in ys v.name; type = v.type; name = v.name }

  abbrev back_hypothesis : List Variable → shown.Hypothesis → Hypothesis
  back_hypothesis ys h = record { name = h.name; formula = translate (number_in ys) (λ x. x) h.formula }

  abbrev back : List Variable → Goal → Sequent
  back ys g = record {
    variables = map (back_variable ys) g.variables;
    hypotheses = map (back_hypothesis ys) g.hypotheses;
    conclusion = translate (number_in ys) (λ x. x) g.conclusion;
    counter = g.counter;
  }

  -- a goal of these variables has its own numbers
  module _ (ys : List Variable) (numbers : NumbersDiffer ys) (names : NamesDiffer ys) where
    variables_back : (zs : List Variable) → ((z : Variable) → Contains zs z → Contains ys z) → map (back_variable ys) (map variable_named zs) ≡ zs
    variables_back [] all = refl
    variables_back (z ∷ zs) all =
        ap (λ n. record { number = n; type = z.type; name = z.name } ∷ map (back_variable ys) (map variable_named zs)) (name_numbered ys names z (all z (Contains-here z zs)))
        ∙ ap (λ l. z ∷ l) (variables_back zs (λ x c. all x (Contains-there z zs x c)))

    pub formula_back : (F : Read) → HoldsOnly ys F → translate (number_in ys) (λ x. x) (with_names ys F) ≡ F
    formula_back F closed =
        twice (name_in ys) (number_in ys) F
        ∙ translate_agrees (λ n. number_in ys (name_in ys n)) (λ n. n) (λ h. h) F (λ v c. own v (All-contains (Contains (map in_terms ys)) (variables F) v closed c))
        ∙ itself F
      where
        own : (v : tree.Variable ℕ) → Contains (map in_terms ys) v → number_in ys (name_in ys v.name) ≡ v.name
        own v c =
            let y = Contains-from_map in_terms ys v c in
            let n : y.0.number ≡ v.name = ap (λ (w : tree.Variable ℕ). w.name) y.2 in
            ap (λ k. number_in ys (name_in ys k)) (sym n) ∙ ap (number_in ys) (number_named ys numbers y.0 y.1) ∙ name_numbered ys names y.0 y.1 ∙ n

    hypotheses_back : (hs : List Hypothesis) → All (HoldsOnly ys) (formulas hs) → map (back_hypothesis ys) (map (hypothesis_named ys) hs) ≡ hs
    hypotheses_back [] all = refl
    hypotheses_back (h ∷ hs) all =
        ap (λ F. record { name = h.name; formula = F } ∷ map (back_hypothesis ys) (map (hypothesis_named ys) hs)) (formula_back h.formula (All-head (HoldsOnly ys) h.formula (formulas hs) all))
        ∙ ap (λ l. h ∷ l) (hypotheses_back hs (All-tail (HoldsOnly ys) h.formula (formulas hs) all))

  goal_by : List Variable → List Hypothesis → Read → ℕ → Sequent
  goal_by xs hs F n = record { variables = xs; hypotheses = hs; conclusion = F; counter = n }

  goal_back : (D : Declarations) (u : Sequent) → IsSequent D u → back u.variables (named u) ≡ u
  unfolding goal_by
  goal_back D u is =
      let ys = u.variables in
      let all = is.closed in
      ap (λ xs. goal_by xs (back ys (named u)).hypotheses (back ys (named u)).conclusion u.counter) (variables_back ys is.numbers_differ is.names_differ ys (λ z c. c))
      ∙ ap (λ hs. goal_by ys hs (back ys (named u)).conclusion u.counter) (hypotheses_back ys is.numbers_differ is.names_differ u.hypotheses (All-tail (HoldsOnly ys) u.conclusion (formulas u.hypotheses) all))
      ∙ ap (λ F. goal_by ys u.hypotheses F u.counter) (formula_back ys is.numbers_differ is.names_differ u.conclusion (All-head (HoldsOnly ys) u.conclusion (formulas u.hypotheses) all))

  -- a goal of other variables is renumbered
  module _ (xs ys : List Variable) (numbers : NumbersDiffer xs) where
    abbrev across : ℕ → ℕ
    across n = number_in ys (name_in xs n)

    variables_across : (zs : List Variable) → ((z : Variable) → Contains zs z → Contains xs z) → map (back_variable ys) (map variable_named zs) ≡ map (renumber_variable across) zs
    variables_across [] all = refl
    variables_across (z ∷ zs) all =
        ap (λ n. record { number = number_in ys n; type = z.type; name = z.name } ∷ map (back_variable ys) (map variable_named zs)) (sym (number_named xs numbers z (all z (Contains-here z zs))))
        ∙ ap (λ l. renumber_variable across z ∷ l) (variables_across zs (λ x c. all x (Contains-there z zs x c)))

    hypotheses_across : (hs : List Hypothesis) → map (back_hypothesis ys) (map (hypothesis_named xs) hs) ≡ map (renumber_hypothesis across) hs
    hypotheses_across [] = refl
    hypotheses_across (h ∷ hs) =
        ap (λ F. record { name = h.name; formula = F } ∷ map (back_hypothesis ys) (map (hypothesis_named xs) hs)) (twice (name_in xs) (number_in ys) h.formula)
        ∙ ap (λ l. renumber_hypothesis across h ∷ l) (hypotheses_across hs)

  goal_across : (D : Declarations) (s : Sequent) (ys : List Variable) → IsSequent D s → back ys (named s) ≡ renumbered (λ n. number_in ys (name_in s.variables n)) s
  unfolding goal_by
  goal_across D s ys is =
      let xs = s.variables in
      ap (λ vs. goal_by vs (back ys (named s)).hypotheses (back ys (named s)).conclusion s.counter) (variables_across xs ys is.numbers_differ xs (λ z c. c))
      ∙ ap (λ hs. goal_by (map (renumber_variable (λ n. number_in ys (name_in xs n))) xs) hs (back ys (named s)).conclusion s.counter) (hypotheses_across xs ys is.numbers_differ s.hypotheses)
      ∙ ap (λ F. goal_by (map (renumber_variable (λ n. number_in ys (name_in xs n))) xs) (map (renumber_hypothesis (λ n. number_in ys (name_in xs n))) s.hypotheses) F s.counter) (twice (name_in xs) (number_in ys) s.conclusion)

also_named : (xs ys : List Variable) → map variable_named xs ≡ map variable_named ys → (name : List ℕ) → HasName xs name → HasName ys name
also_named xs ys same name h =
    let there = subst (λ l. Contains l (variable_named h.0)) same (Contains-map variable_named xs h.0 h.1) in
    let y = Contains-from_map variable_named ys (variable_named h.0) there in
    (y.0, y.1, ap (λ (v : tree.Variable (List ℕ)). v.name) y.2 ∙ h.2)

-- GOALS THAT ARE ONE WITH NAMES FOR NUMBERS are one but for the numbers
pub renumbering : (D : Declarations) (s u : Sequent) → IsSequent D s → IsSequent D u → named s ≡ named u → Renumbering s u
renumbering D s u is its same =
    let other = above u.variables in
    let xs = s.variables in
    let ys = u.variables in
    record {
      by = λ n. number_in other ys (name_in xs n);
      is = sym (goal_back other D u its) ∙ ap (back other ys) (sym same) ∙ goal_across other D s ys is;
      names = λ n. named_back other ys its.numbers_differ (outside_above other ys (omega arith)) (name_in xs n)
          (elim (name_found xs n) [ inl h ↦ inl (also_named xs ys (ap (λ (g : Goal). g.variables) same) (name_in xs n) h) | inr e ↦ inr e ]);
    }

pub names_kept : (s u : Sequent) (r : Renumbering s u) (t : Read) → with_names u.variables (renumber r.by t) ≡ with_names s.variables t
names_kept s u r t =
    twice r.by (name_in u.variables) t ∙ translate_agrees (λ n. name_in u.variables (r.by n)) (name_in s.variables) (λ h. h) t (λ v c. r.names v.name)
