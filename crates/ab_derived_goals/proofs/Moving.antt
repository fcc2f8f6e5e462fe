-- Goals with other numbers for their variables, and what is taken of them then. A new variable may have another number too.
use Rattle.std.specs.Option.{IsSome, option_map}
use Rattle.std.specs.Prelude.{if◌then◌else◌, ◌==◌, bytes_eq, All, Contains}
use Rattle.std.proofs.Common.{◌≡◌, ◌≢◌, ◌⊎◌, inl, inr, ℕ, Bool, List, [], ◌∷◌, ◌++◌, map, true, false, Option, Some, None, refl, sym, ◌∙◌, ap, subst, codes}
use Rattle.std.proofs.lemmas.Bool.{eqb-true, false_from_ne_true}
use Rattle.std.proofs.lemmas.List.Elements.{All-contains, All-head, All-tail}
use Rattle.std.specs.Cmp.{unsigned_Decides}
use Rattle.ab_term.specs.Types.{Ty}
use Rattle.ab_term.specs.Terms as tree
use Rattle.ab_term.specs.Terms.{Nominal, variable, Read}
use Rattle.ab_term.specs.Names.{support}
use Rattle.ab_term.specs.Substitution.{instance, instance_by_all}
use Rattle.ab_term.specs.Translation.{translate_variable}
use Rattle.ab_term.specs.Variables.{variables}
use Rattle.ab_term.proofs.Lists.{Contains-here, Contains-there, Contains-map, Contains-from_map, All-from_contains}
use Rattle.ab_term.proofs.Translations.{map-append, translate-instance, translate-instance_by_all, translate-expansion, support-translate, variables-translate}
use Rattle.ab_formulas.specs.Sequents.{Variable, Hypothesis, Sequent, HoldsOnly, IsUsed, named, formula_of, formulas, formulas_of, goal_names, names_of, in_terms, over}
use Rattle.ab_formulas.specs.NewNames.{Label, auto, given, Names, automatic, IsLeast}
use Rattle.ab_formulas.proofs.GoalsAgreeing.{translate_agrees}
use Rattle.ab_theory.specs.Equations.{variable_term}
use Rattle.ab_theory.specs.Rules.{IsNew, hint_of, name_term, raised, applied}
use Rattle.ab_effects.specs.Openings.{MayTake}
use Rattle.ab_effects.proofs.Namings.{HaveSameNames}
use Rattle.ab_effects.proofs.Renumbered.{moved_variable, moved_hypothesis, moved_goal, names_kept}
use Rattle.ab_effects.proofs.Following.{goal_names_moved}
use Rattle.ab_search_trees.proofs.MovedForms.{T}

-- numbers that are told apart stay so
abbrev pub TellsApart : (ℕ → ℕ) → Type 0
TellsApart f = (i j : ℕ) → f i ≡ f j → i ≡ j

module _ (f : ℕ → ℕ) where
  -- HYPOTHESES

  pub named_moved : (hs : List Hypothesis) (x : List ℕ) → named (map (moved_hypothesis f) hs) x ≡ option_map (T f) (named hs x)
  named_moved [] x = refl
  named_moved (h ∷ hs) x = go (bytes_eq h.name x) (named_moved hs x)
    where
      go : (b : Bool) → named (map (moved_hypothesis f) hs) x ≡ option_map (T f) (named hs x)
          → (if b then Some (T f h.formula) else named (map (moved_hypothesis f) hs) x) ≡ option_map (T f) (if b then Some h.formula else named hs x)
      go true e = refl
      go false e = e

  some_both : (o : Option Read) → IsSome (option_map (T f) o) → IsSome o
  some_both None h = h
  some_both (Some F) h = refl

  both_some : (o : Option Read) → IsSome o → IsSome (option_map (T f) o)
  both_some None h = h
  both_some (Some F) h = refl

  pub used_before : (s : Sequent) (x : List ℕ) → IsUsed (moved_goal f s) x → IsUsed s x
  used_before s x used = some_both (formula_of s x) (subst (λ (o : Option Read). IsSome o) (named_moved s.hypotheses x) used)

  pub used_after : (s : Sequent) (x : List ℕ) → IsUsed s x → IsUsed (moved_goal f s) x
  used_after s x used = subst (λ (o : Option Read). IsSome o) (sym (named_moved s.hypotheses x)) (both_some (formula_of s x) used)

  -- NAMES

  pub names_moved : (l : Label) (s v : Sequent) (x : List ℕ) → Names l s x v → Names l (moved_goal f s) x (moved_goal f v)
  names_moved auto s v x (n, least, name, goal) = (
    n,
    record {
      has = record { above = least.has.above; within = least.has.within; unused = λ used. least.has.unused (used_before s (automatic n) used) };
      first = λ m l free. least.first m l (record { above = free.above; within = free.within; unused = λ used. free.unused (used_after s (automatic m) used) });
    },
    name,
    ap (moved_goal f) goal,
  )
  names_moved (given y) s v x (new, name, goal) = (λ used. new (used_before s y used), name, ap (moved_goal f) goal)

  pub same_names : (s : Sequent) → HaveSameNames s (moved_goal f s)
  same_names s = sym (names_kept f s.variables)

  -- CONSTANTS

  pub names_of_moved : (Fs : List Read) → names_of (map (T f) Fs) ≡ names_of Fs
  names_of_moved [] = refl
  names_of_moved (F ∷ Fs) = ap (λ l. l ++ names_of (map (T f) Fs)) (support-translate f (λ (x : List ℕ). x) F) ∙ ap (λ l. support F ++ l) (names_of_moved Fs)

  pub may_take_moved : (s : Sequent) (F : Read) (Fs : List Read) (A : Ty) (n : ℕ) → MayTake s F Fs A n → MayTake (moved_goal f s) (T f F) (map (T f) Fs) A n
  may_take_moved s F Fs A n m = record {
    positive = m.positive;
    outside = λ c. m.outside (subst (λ l. Contains l (record { number = n; type = A })) (support-translate f (λ (x : List ℕ). x) F) c);
    one_type =
        let same : goal_names (moved_goal f s) ++ names_of (map (T f) (F ∷ Fs)) ≡ goal_names s ++ names_of (F ∷ Fs) =
        ap (λ l. l ++ names_of (map (T f) (F ∷ Fs))) (goal_names_moved f s) ∙ ap (λ l. goal_names s ++ l) (names_of_moved (F ∷ Fs)) in
        subst (All (λ (b : Nominal). b.number ≡ n → b.type ≡ A)) (sym same) m.one_type;
  }

  pub may_take_before : (s : Sequent) (F : Read) (Fs : List Read) (A : Ty) (n : ℕ) → MayTake (moved_goal f s) (T f F) (map (T f) Fs) A n → MayTake s F Fs A n
  may_take_before s F Fs A n m = record {
    positive = m.positive;
    outside = λ c. m.outside (subst (λ l. Contains l (record { number = n; type = A })) (sym (support-translate f (λ (x : List ℕ). x) F)) c);
    one_type =
        let same : goal_names (moved_goal f s) ++ names_of (map (T f) (F ∷ Fs)) ≡ goal_names s ++ names_of (F ∷ Fs) =
        ap (λ l. l ++ names_of (map (T f) (F ∷ Fs))) (goal_names_moved f s) ∙ ap (λ l. goal_names s ++ l) (names_of_moved (F ∷ Fs)) in
        subst (All (λ (b : Nominal). b.number ≡ n → b.type ≡ A)) same m.one_type;
  }

  pub least_moved : (s : Sequent) (F : Read) (Fs : List Read) (A : Ty) (n : ℕ) → IsLeast (MayTake s F Fs A) n → IsLeast (MayTake (moved_goal f s) (T f F) (map (T f) Fs) A) n
  least_moved s F Fs A n least = record { has = may_take_moved s F Fs A n least.has; first = λ m l h. least.first m l (may_take_before s F Fs A m h) }

  pub constant_moved : (t : Read) (a : Nominal) → T f (instance t (name_term a)) ≡ instance (T f t) (name_term a)
  constant_moved t a =
      translate-instance f (λ (x : List ℕ). x) t (name_term a)
      ∙ ap (instance (T f t)) (translate-expansion f (λ (x : List ℕ). x) (codes "x") a.type (tree.nominal a))

  constants_moved : (names : List Nominal) → map (T f) (map name_term names) ≡ map name_term names
  constants_moved [] = refl
  constants_moved (a ∷ names) = ap (λ t. t ∷ map (T f) (map name_term names)) (translate-expansion f (λ (x : List ℕ). x) (codes "x") a.type (tree.nominal a)) ∙ ap (λ l. name_term a ∷ l) (constants_moved names)

  pub applied_moved : (n : ℕ) (x : List ℕ) (A : Ty) (names : List Nominal) → T f (applied (raised n x A names) names) ≡ applied (raised (f n) x A names) names
  applied_moved n x A names =
      translate-instance_by_all f (λ (x : List ℕ). x) (map name_term names) (variable_term (raised n x A names))
      ∙ ap (λ ts. tree_all (T f (variable_term (raised n x A names))) ts) (constants_moved names)
      ∙ ap (λ t. tree_all t (map name_term names)) (translate-expansion f (λ (x : List ℕ). x) (codes "x") (raised n x A names).type (variable (in_terms (raised n x A names))))
    where
      tree_all : Read → List Read → Read
      tree_all = instance_by_all

  pub hint_moved : (t : Read) → hint_of (T f t) ≡ hint_of t
  hint_moved (tree.lam A x t) = refl
  hint_moved (tree.spine h ts) = refl

  pub over_moved : (x : Variable) (s : Sequent) → moved_goal f (over x s) ≡ over (moved_variable f x) (moved_goal f s)
  over_moved x s =
      ap (λ (xs : List Variable). record { variables = xs; hypotheses = map (moved_hypothesis f) s.hypotheses; conclusion = T f s.conclusion; counter = s.counter })
      (map-append (moved_variable f) s.variables (x ∷ []))

-- WHERE TWO NUMBERINGS AGREE

module _ (f g : ℕ → ℕ) (xs : List Variable) (agree : (x : Variable) → Contains xs x → f x.number ≡ g x.number) where
  pub terms_agree : (F : Read) → HoldsOnly xs F → T f F ≡ T g F
  terms_agree F closed =
      translate_agrees f g (λ (x : List ℕ). x) F (λ y c.
      let x = Contains-from_map in_terms xs y (All-contains (Contains (map in_terms xs)) (variables F) y closed c) in
      let number : x.0.number ≡ y.name = ap (λ (v : tree.Variable ℕ). v.name) x.2 in
      subst (λ n. f n ≡ g n) number (agree x.0 x.1))

  pub all_agree : (Fs : List Read) → All (HoldsOnly xs) Fs → map (T f) Fs ≡ map (T g) Fs
  all_agree [] all = refl
  all_agree (F ∷ Fs) all = ap (λ t. t ∷ map (T f) Fs) (terms_agree F (All-head (HoldsOnly xs) F Fs all)) ∙ ap (λ l. T g F ∷ l) (all_agree Fs (All-tail (HoldsOnly xs) F Fs all))

  hypotheses_agree : (hs : List Hypothesis) → All (HoldsOnly xs) (formulas hs) → map (moved_hypothesis f) hs ≡ map (moved_hypothesis g) hs
  hypotheses_agree [] all = refl
  hypotheses_agree (h ∷ hs) all =
      ap (λ F. record { name = h.name; formula = F } ∷ map (moved_hypothesis f) hs) (terms_agree h.formula (All-head (HoldsOnly xs) h.formula (formulas hs) all))
      ∙ ap (λ l. moved_hypothesis g h ∷ l) (hypotheses_agree hs (All-tail (HoldsOnly xs) h.formula (formulas hs) all))

variables_agree : (f g : ℕ → ℕ) (xs : List Variable) → ((x : Variable) → Contains xs x → f x.number ≡ g x.number) → map (moved_variable f) xs ≡ map (moved_variable g) xs
variables_agree f g [] agree = refl
variables_agree f g (x ∷ xs) agree =
    ap (λ n. record { number = n; type = x.type; name = x.name } ∷ map (moved_variable f) xs) (agree x (Contains-here x xs))
    ∙ ap (λ l. moved_variable g x ∷ l) (variables_agree f g xs (λ y c. agree y (Contains-there x xs y c)))

pub goals_agree : (f g : ℕ → ℕ) (s : Sequent) → ((x : Variable) → Contains s.variables x → f x.number ≡ g x.number) → All (HoldsOnly s.variables) (formulas_of s) → moved_goal f s ≡ moved_goal g s
goals_agree f g s agree closed =
    let first = variables_agree f g s.variables agree in
    let second = hypotheses_agree f g s.variables agree s.hypotheses (All-tail (HoldsOnly s.variables) s.conclusion (formulas s.hypotheses) closed) in
    let third = terms_agree f g s.variables agree s.conclusion (All-head (HoldsOnly s.variables) s.conclusion (formulas s.hypotheses) closed) in
    λ i. record { variables = first i; hypotheses = second i; conclusion = third i; counter = s.counter }

-- what holds only variables with other numbers did so before
pub closed_before : (f : ℕ → ℕ) → TellsApart f → (xs : List Variable) (F : Read) → HoldsOnly (map (moved_variable f) xs) (T f F) → HoldsOnly xs F
closed_before f apart xs F closed =
    All-from_contains (Contains (map in_terms xs)) (variables F) (λ y c.
    let there = subst (λ l. Contains l (translate_variable f y)) (sym (variables-translate f (λ (x : List ℕ). x) F)) (Contains-map (translate_variable f) (variables F) y c) in
    let v = Contains-from_map in_terms (map (moved_variable f) xs) (translate_variable f y) (All-contains (Contains (map in_terms (map (moved_variable f) xs))) (variables (T f F)) (translate_variable f y) closed there) in
    let x = Contains-from_map (moved_variable f) xs v.0 v.1 in
    let same : in_terms (moved_variable f x.0) ≡ translate_variable f y = ap in_terms x.2 ∙ v.2 in
    let number : x.0.number ≡ y.name = apart x.0.number y.name (ap (λ (w : tree.Variable ℕ). w.name) same) in
    let type : x.0.type ≡ y.type = ap (λ (w : tree.Variable ℕ). w.type) same in
    let one : in_terms x.0 ≡ y = λ i. record { name = number i; type = type i } in
    subst (Contains (map in_terms xs)) one (Contains-map in_terms xs x.0 x.1))

-- ANOTHER NUMBER FOR ONE: that and the number that it had change places

abbrev swapped : ℕ → ℕ → ℕ → ℕ
swapped a b k = if (k == a) then b else (if (k == b) then a else k)

is_it : (k a : ℕ) → k ≡ a → (k == a) ≡ true
is_it k a e = (unsigned_Decides k a).1 e

not_it : (k a : ℕ) → k ≢ a → (k == a) ≡ false
not_it k a e = false_from_ne_true (k == a) (λ t. e (eqb-true k a t))

swapped_first : (a b k : ℕ) → k ≡ a → swapped a b k ≡ b
swapped_first a b k e = ap (λ c. if c then b else (if (k == b) then a else k)) (is_it k a e)

swapped_second : (a b k : ℕ) → k ≢ a → k ≡ b → swapped a b k ≡ a
swapped_second a b k n e = ap (λ c. if c then b else (if (k == b) then a else k)) (not_it k a n) ∙ ap (λ c. if c then a else k) (is_it k b e)

pub swapped_else : (a b k : ℕ) → k ≢ a → k ≢ b → swapped a b k ≡ k
swapped_else a b k n m = ap (λ c. if c then b else (if (k == b) then a else k)) (not_it k a n) ∙ ap (λ c. if c then a else k) (not_it k b m)

decided : (k a : ℕ) → (k ≡ a) ⊎ (k ≢ a)
decided k a = go (k == a) refl
  where
    go : (b : Bool) → (k == a) ≡ b → (k ≡ a) ⊎ (k ≢ a)
    go true e = inl (eqb-true k a e)
    go false e = inr (λ same. let clash : true ≡ false = sym (is_it k a same) ∙ e in cc)

swapped_twice : (a b k : ℕ) → swapped a b (swapped a b k) ≡ k
swapped_twice a b k = elim (decided k a) [
  | inl e ↦ elim (decided b a) [
    | inl f ↦ ap (swapped a b) (swapped_first a b k e) ∙ swapped_first a b b f ∙ f ∙ sym e
    | inr f ↦ ap (swapped a b) (swapped_first a b k e) ∙ swapped_second a b b f refl ∙ sym e
  ]
  | inr n ↦ elim (decided k b) [
    | inl e ↦ ap (swapped a b) (swapped_second a b k n e) ∙ swapped_first a b a refl ∙ sym e
    | inr m ↦ ap (swapped a b) (swapped_else a b k n m) ∙ swapped_else a b k n m
  ]
]

abbrev pub renumbering_one : (ℕ → ℕ) → ℕ → ℕ → ℕ → ℕ
renumbering_one f n m k = swapped (f n) m (f k)

pub one_tells_apart : (f : ℕ → ℕ) (n m : ℕ) → TellsApart f → TellsApart (renumbering_one f n m)
one_tells_apart f n m apart i j e = apart i j (sym (swapped_twice (f n) m (f i)) ∙ ap (swapped (f n) m) e ∙ swapped_twice (f n) m (f j))

pub one_is : (f : ℕ → ℕ) (n m : ℕ) → renumbering_one f n m n ≡ m
one_is f n m = swapped_first (f n) m (f n) refl

-- the variables that there were keep theirs
pub one_keeps : (f : ℕ → ℕ) (n m : ℕ) (s : Sequent) → TellsApart f → IsNew n s → IsNew m (moved_goal f s) → (x : Variable) → Contains s.variables x → renumbering_one f n m x.number ≡ f x.number
one_keeps f n m s apart new other x c =
    swapped_else (f n) m (f x.number)
    (λ e. All-contains (λ (y : Variable). y.number ≢ n) s.variables x new c (apart x.number n e))
    (All-contains (λ (y : Variable). y.number ≢ m) (map (moved_variable f) s.variables) (moved_variable f x) other (Contains-map (moved_variable f) s.variables x c))
