-- From what is known of an alternative's parts: its unifier, that it is one, and what it makes of formulas.
use Rattle.std.proofs.Common.{◌≡◌, ◌⊎◌, inl, inr, ℕ, suc, ◌<◌, List, [], ◌∷◌, ◌++◌, map, length, true, false, Some, None, refl, sym, ◌∙◌, ap, subst, arith, length-append}
use Rattle.std.specs.Prelude.{All, Contains}
use Rattle.std.proofs.lemmas.Bool.{false≢true, false_from_ne_true, or_left, or_right}
use Rattle.std.proofs.lemmas.List.Elements.{All-weaker, All-append, Contains-append_right}
use Rattle.ab_term.specs.Types.{Ty, kind, prop}
use Rattle.ab_term.specs.Terms.{Nominal, Variable, constant, nominal, variable, Term, spine, Terms, no_terms, term}
use Rattle.ab_term.specs.Typing.{Signature, HasType, TakeType, typed_spine}
use Rattle.ab_term.specs.Translation.{forget, forget_all, EqualPastHints}
use Rattle.ab_term.specs.Names.{support}
use Rattle.ab_term.specs.Variables.{Substitution, variables, value_in, image, image_all, IsTyped, IsClean}
use Rattle.ab_term.proofs.Lists.{All-from_contains, Contains-none, Contains-here}
use Rattle.ab_term.specs.Sameness.{same_numbered, same_number}
use Rattle.ab_term.proofs.Same.{same_numbered-Decides}
use Rattle.ab_unifiers.proofs.Problems.{answer_typed}
use Rattle.ab_unifiers.proofs.Agreeing.{holds_front, holds_behind}
use Rattle.ab_term.proofs.Compositions.{image_typed, image-composition}
use Rattle.ab_unifiers.specs.Replacements.{Cell, holds}
use Rattle.ab_unifiers.specs.Unifiers.{AreKnown, AreTyped, IsOver, AreOver, Unifies, IsUnifier, sides, given}
use Rattle.ab_unifiers.specs.Unification.{Equation, Answer, unified, apart, stuck, Solves}
use Rattle.ab_unifiers.specs.Clauses.{Clause, Each, numbered, clause_variables, clause_names, put_together, name_term, filled, head_of, AreFor}
use Rattle.ab_term.specs.Abstraction.{over}
use Rattle.ab_unifiers.specs.Alternatives.{cells_over, made_over, made_terms, arguments_equal}
use Rattle.ab_unifiers.proofs.Past.{own}
use Rattle.ab_unifiers.proofs.Given.{apart_none, most_general}
use Rattle.ab_unifiers.proofs.Constants.{either, Has, AllHave, has_support, support_all_have, has_weaker, expansion_of_has, name_terms_have, image_by_has, image_all_by_have, ButAll}
use Rattle.ab_unifiers.proofs.Variables.{Has as OverVars, AllHave as AllOverVars, expansion_of_has as expansion_over, name_terms_have as names_over, image_all_by_have as image_all_over, image_by_has as image_over, held_has, held_all_have, has_held}
use Rattle.ab_term.proofs.Raising.{new_over}
use Rattle.ab_unifiers.proofs.Rows.{each_weaker, each_append, each_split, each_any, held_append, found_each, found_has, found_none, nothing_found, keys_put_together, together_typed, together_all, numbered_within, numbered_different, append_different}
use Rattle.ab_unifiers.proofs.Lifting.{two_agree, lifted, OfCells, lifted_typed, made_terms_typed}
use Rattle.ab_unifiers.proofs.Sides.{arguments_unify, arguments_typed, arguments_over, EachTerm, all_sides}
use Rattle.ab_unifiers.proofs.Core.{made_are_over, over_typed, over_has, heads_same, bodies_same, Parts}

module _ (sg : Signature) {Hint : Type 0} (x : Hint) where
  pub to_cells : (n : ℕ) (cs : List (Cell Hint)) (us : List (Term ℕ Hint)) → Each (λ y t. HasType sg [] t y.type) (numbered n cs) us → OfCells sg x cs us
  to_cells n [] [] e = tt
  to_cells n [] (u ∷ us) e = absurd e
  to_cells n (c ∷ cs) [] e = absurd e
  to_cells n (c ∷ cs) (u ∷ us) e = (e.0, to_cells (suc n) cs us e.1)

  pub from_cells : (n : ℕ) (cs : List (Cell Hint)) (us : List (Term ℕ Hint)) → OfCells sg x cs us → Each (λ y t. HasType sg [] t y.type) (numbered n cs) us
  from_cells n [] [] e = tt
  from_cells n [] (u ∷ us) e = absurd e
  from_cells n (c ∷ cs) [] e = absurd e
  from_cells n (c ∷ cs) (u ∷ us) e = (e.0, from_cells (suc n) cs us e.1)

  pub filled_typed : (c : Clause Hint) (ts : List (Term ℕ Hint)) (ns : List Nominal) → AreFor sg (clause_variables c) ts → AreFor sg (clause_names c) (map (name_term x) ns) → IsTyped sg (filled x c ts ns)
  filled_typed c ts ns d e = All-append (λ p. HasType sg [] p.1 p.0.type) (put_together (clause_variables c) ts) (put_together (clause_names c) (map (name_term x) ns)) (together_typed sg (clause_variables c) ts d) (together_typed sg (clause_names c) (map (name_term x) ns) e)

  -- what new terms hold
  pub made_have : (P : Nominal → Type 0) (n m : ℕ) (ns : List Nominal) (cs : List (Cell Hint)) → ((a : Nominal) → Contains ns a → P a) → Each (λ y t. Has P t) (numbered n cs) (made_terms x m ns cs)
  made_have P n m ns [] f = tt
  made_have P n m ns (c ∷ cs) f = (expansion_of_has P x c.type (variable (new_over m ns c.type)) _ tt (name_terms_have P x (over ns c.type) ns f), made_have P (suc n) (suc m) ns cs f)

  pub names_have : (P : Nominal → Type 0) (zs : List (Variable ℕ)) (ns : List Nominal) → ((a : Nominal) → Contains ns a → P a) → Each (λ z t. HasType sg [] t z.type) zs (map (name_term x) ns) → Each (λ z t. Has P t) zs (map (name_term x) ns)
  names_have P [] [] f e = tt
  names_have P [] (a ∷ ns) f e = absurd e
  names_have P (z ∷ zs) [] f e = absurd e
  names_have P (z ∷ zs) (a ∷ ns) f e = (expansion_of_has P x a.type (nominal a) no_terms (f a (Contains-here a ns)) tt, names_have P zs ns (λ b m. f b (Contains-append_right (a ∷ []) ns b m)) e.1)

  pub made_over_vars : (Q : Variable ℕ → Type 0) (n m : ℕ) (ns : List Nominal) (cs : List (Cell Hint)) → ((z : Variable ℕ) → holds (made_over x m ns cs) z ≡ true → Q z) → Each (λ y t. OverVars Q t) (numbered n cs) (made_terms x m ns cs)
  made_over_vars Q n m ns [] f = tt
  made_over_vars Q n m ns (c ∷ cs) f = (
    expansion_over Q x c.type (variable (new_over m ns c.type)) _ (f (new_over m ns c.type) (or_left (same_numbered (new_over m ns c.type) (new_over m ns c.type)) (holds (made_over x (suc m) ns cs) (new_over m ns c.type)) ((same_numbered-Decides (new_over m ns c.type) (new_over m ns c.type)).1 refl))) (names_over Q x (over ns c.type) ns),
    made_over_vars Q (suc n) (suc m) ns cs (λ z h. f z (or_right (same_numbered (new_over m ns c.type) z) (holds (made_over x (suc m) ns cs) z) h)),
  )

  pub names_over_vars : (Q : Variable ℕ → Type 0) (zs : List (Variable ℕ)) (ns : List Nominal) → Each (λ z t. HasType sg [] t z.type) zs (map (name_term x) ns) → Each (λ z t. OverVars Q t) zs (map (name_term x) ns)
  names_over_vars Q [] [] e = tt
  names_over_vars Q [] (a ∷ ns) e = absurd e
  names_over_vars Q (z ∷ zs) [] e = absurd e
  names_over_vars Q (z ∷ zs) (a ∷ ns) e = (expansion_over Q x a.type (nominal a) no_terms tt tt, names_over_vars Q zs ns e.1)

  pub have_each : (P : Nominal → Type 0) (ts : Terms ℕ Hint) → AllHave P ts → EachTerm sg x (Has P) ts
  have_each P no_terms e = tt
  have_each P (term t ts) e = (e.0, have_each P ts e.1)

  over_each : (Q : Variable ℕ → Type 0) (cells : List (Cell Hint)) → ((z : Variable ℕ) → Q z → z.name < length cells) → (ts : Terms ℕ Hint) → AllOverVars Q ts → EachTerm sg x (IsOver cells) ts
  over_each Q cells f no_terms e = tt
  over_each Q cells f (term t ts) e = ((λ y h. f y (has_held Q t e.0 y h)), over_each Q cells f ts e.1)

  pub arguments_of : {b k : List ℕ} {ts : Terms ℕ Hint} → HasType sg [] (spine (constant b) ts) (kind k) → (D : Ty) × (sg b ≡ Some D) × TakeType sg [] ts D (kind k)
  arguments_of (typed_spine {A = D} e ds) = (D, e, ds)

pub append-none : {X : Type 0} (xs : List X) → xs ++ [] ≡ xs
append-none [] = refl
append-none (a ∷ xs) = ap (λ l. a ∷ l) (append-none xs)

each_map : {X Y Z : Type 0} (R : X → Y → Type 0) (Q : Y → Type 0) (f : Z → Y) → ((z : Z) → Q (f z)) → (xs : List X) (zs : List Z) → Each R xs (map f zs) → Each (λ a b. Q b) xs (map f zs)
each_map R Q f q [] [] e = tt
each_map R Q f q [] (z ∷ zs) e = absurd e
each_map R Q f q (a ∷ xs) [] e = absurd e
each_map R Q f q (a ∷ xs) (z ∷ zs) e = (q z, each_map R Q f q xs zs e.1)

module _ (sg : Signature) {Hint : Type 0} (x : Hint) (V : List (Variable ℕ)) (old_cells : List (Cell Hint)) (ts : Terms ℕ Hint) (c : Clause Hint) (us : List (Term ℕ Hint)) (ns S fresh left : List Nominal)
    (cells : List (Cell Hint)) (olds : List (Variable ℕ)) (raised s : Substitution ℕ Hint) (p : Parts sg Hint x V old_cells ts c us ns S fresh left (length cells) olds raised s) where
  abbrev m : ℕ
  m = length cells

  abbrev targets : List (Term ℕ Hint)
  targets = map (λ y. image same_number s (own x y)) V

  abbrev zs : List (Variable ℕ)
  zs = made_over x m left c.variables

  abbrev old_values : List (Term ℕ Hint)
  old_values = lifted sg x fresh old_cells targets

  abbrev new_values : List (Term ℕ Hint)
  new_values = lifted sg x left c.variables us

  abbrev pub unifier : Substitution ℕ Hint
  unifier = put_together (olds ++ zs) (old_values ++ new_values)

  abbrev put : Substitution ℕ Hint
  put = filled x c (made_terms x m left c.variables) ns

  us_cells : OfCells sg x c.variables us
  us_cells = to_cells sg x 0 c.variables us p.us_for

  olds_typed : Each (λ z v. HasType sg [] v z.type) olds old_values
  olds_typed = over_typed sg x fresh olds old_cells targets p.olds_over p.old_many

  news_typed : Each (λ z v. HasType sg [] v z.type) zs new_values
  news_typed = lifted_typed sg x m left c.variables us us_cells

  all_typed : Each (λ z v. HasType sg [] v z.type) (olds ++ zs) (old_values ++ new_values)
  all_typed = each_append (λ z v. HasType sg [] v z.type) olds zs old_values new_values olds_typed news_typed

  pub unifier_typed : IsTyped sg unifier
  unifier_typed = together_typed sg (olds ++ zs) (old_values ++ new_values) all_typed

  zs_behind : (y : Variable ℕ) → holds olds y ≡ true → holds zs y ≡ false
  zs_behind y h = false_from_ne_true (holds zs y) (λ g. let low = (numbered_within m (cells_over x left c.variables) y g).0 in let high = p.olds_below y h in omega (arith, low, high))

  found : Each (λ z v. value_in same_number unifier z ≡ Some v) olds old_values × Each (λ z v. value_in same_number unifier z ≡ Some v) zs new_values
  found = each_split (λ z v. value_in same_number unifier z ≡ Some v) olds zs old_values new_values (each_any (λ z v. HasType sg [] v z.type) olds old_values olds_typed)
      (found_each unifier (olds ++ zs) (old_values ++ new_values) (append_different olds zs p.olds_different (numbered_different m (cells_over x left c.variables)) zs_behind) (λ y h t e. e)
      (each_any (λ z v. HasType sg [] v z.type) (olds ++ zs) (old_values ++ new_values) all_typed))

  made_for : AreFor sg (clause_variables c) (made_terms x m left c.variables)
  made_for = from_cells sg x 0 c.variables (made_terms x m left c.variables) (made_terms_typed sg x m left c.variables)

  pub put_typed : IsTyped sg put
  put_typed = filled_typed sg x c (made_terms x m left c.variables) ns made_for p.names_for

  any_for : (ys : List (Variable ℕ)) (ts : List (Term ℕ Hint)) → AreFor sg ys ts → Each (λ y t. Unit {0}) ys ts
  any_for = each_any (λ y t. HasType sg [] t y.type)

  -- what it makes of the sequent's formulas
  pub formulas_same : {t : Term ℕ Hint} {A : Ty} → HasType sg [] t A → ((y : Variable ℕ) → holds (variables t) y ≡ true → holds V y ≡ true)
      → EqualPastHints (image same_number unifier (image same_number raised t)) (image same_number s t)
  formulas_same d v = two_agree sg raised unifier s p.raised_typed unifier_typed p.s_typed d (λ y h. p.raised_same unifier unifier_typed found.0 y (v y h))

  head_same : EqualPastHints (image same_number unifier (image same_number put (head_of c))) (image same_number (filled x c us ns) (head_of c))
  head_same = heads_same sg x c us ns left m p.is_clause us_cells (any_for (clause_variables c) (made_terms x m left c.variables) made_for) (any_for (clause_variables c) us p.us_for) (any_for (clause_names c) (map (name_term x) ns) p.names_for) unifier unifier_typed put_typed (filled_typed sg x c us ns p.us_for p.names_for) found.1

  pub body_same : EqualPastHints (image same_number unifier (image same_number put c.body)) (image same_number (filled x c us ns) c.body)
  body_same = bodies_same sg x c us ns left m p.is_clause us_cells (any_for (clause_variables c) (made_terms x m left c.variables) made_for) (any_for (clause_variables c) us p.us_for) (any_for (clause_names c) (map (name_term x) ns) p.names_for) unifier unifier_typed put_typed (filled_typed sg x c us ns p.us_for p.names_for) found.1

  abbrev equations : List (Equation Hint)
  equations = arguments_equal x 0 (image_all same_number raised ts) (image_all same_number put c.arguments)

  unifies : Unifies unifier equations
  unifies =
      let both : forget (image same_number unifier (image same_number raised (spine (constant c.predicate) ts))) ≡ forget (image same_number unifier (image same_number put (head_of c))) =
      formulas_same p.atom_typed p.atom_variables ∙ sym p.guessed ∙ sym head_same in
      let arguments : forget_all (image_all same_number unifier (image_all same_number raised ts)) ≡ forget_all (image_all same_number unifier (image_all same_number put c.arguments)) = cc in
      arguments_unify sg x unifier 0 (image_all same_number raised ts) (image_all same_number put c.arguments) arguments

  -- constants of the equations, and of what is put in
  abbrev Known : Nominal → Type 0
  Known a = Contains S a ⊎ Contains fresh a

  abbrev NotKnown : Nominal → Type 0
  NotKnown a = ¬ (Known a)

  values_clean : Each (λ z v. Has NotKnown v) (olds ++ zs) (old_values ++ new_values)
  values_clean = each_append (λ z v. Has NotKnown v) olds zs old_values new_values
      (each_weaker (λ z v. Has (ButAll (λ a. ¬ (Contains S a)) fresh) v) (λ z v. Has NotKnown v) (λ z v h. has_weaker (ButAll (λ a. ¬ (Contains S a)) fresh) NotKnown (λ a q b. either q.0 q.1 b) v h) olds old_values
      (over_has sg x (λ a. ¬ (Contains S a)) fresh olds old_cells targets p.olds_over
      (each_map (λ k t. HasType sg [] t k.type) (Has (λ a. ¬ (Contains S a))) (λ y. image same_number s (own x y)) (λ y. image_by_has (λ a. ¬ (Contains S a)) (value_in same_number s) p.s_holds (own x y) (expansion_of_has (λ a. ¬ (Contains S a)) x y.type (variable y) no_terms tt tt)) old_cells V p.old_many)))
      (each_weaker (λ z v. Has (ButAll (λ a. ¬ (Contains ns a)) left) v) (λ z v. Has NotKnown v) (λ z v h. has_weaker (ButAll (λ a. ¬ (Contains ns a)) left) NotKnown (λ a q b. either (λ k. either q.0 q.1 (p.others a k)) (λ k. q.0 (p.fresh_chosen a k)) b) v h) zs new_values
      (over_has sg x (λ a. ¬ (Contains ns a)) left zs c.variables us (made_are_over sg x m left c.variables) p.us_hold))

  put_has : (y : Variable ℕ) (t : Term ℕ Hint) → value_in same_number put y ≡ Some t → Has Known t
  put_has y t e = found_has (Has Known) (clause_variables c) (made_terms x m left c.variables) (put_together (clause_names c) (map (name_term x) ns)) (made_have sg x Known 0 m left c.variables (λ a h. inl (p.left_in a h))) names y t e
    where
      names : (z : Variable ℕ) (v : Term ℕ Hint) → value_in same_number (put_together (clause_names c) (map (name_term x) ns)) z ≡ Some v → Has Known v
      names z v f = found_has (Has Known) (clause_names c) (map (name_term x) ns) [] (names_have sg x Known (clause_names c) ns p.chosen p.names_for) (nothing_found (Has Known)) z v (ap (λ q. value_in same_number q z) (append-none (put_together (clause_names c) (map (name_term x) ns))) ∙ f)

  sides_known : All (Has Known) (sides equations)
  sides_known = all_sides sg x (Has Known) 0 (image_all same_number raised ts) (image_all same_number put c.arguments)
      (have_each sg x Known (image_all same_number raised ts) (image_all_by_have Known (value_in same_number raised) (λ y t e. has_weaker (λ a. Contains fresh a) Known (λ a k. inr k) t (p.raised_hold y t e)) ts (support_all_have Known ts (λ a k. inl (p.atom_in a k)))))
      (have_each sg x Known (image_all same_number put c.arguments) (image_all_by_have Known (value_in same_number put) put_has c.arguments (support_all_have Known c.arguments (λ a k. absurd (Contains-none a (subst (λ l. Contains l a) p.is_clause.head_without_constants k))))))

  clean : IsClean unifier (sides equations)
  clean = together_all (λ v. All (λ t. All (λ a. ¬ (Contains (support t) a)) (support v)) (sides equations)) (olds ++ zs) (old_values ++ new_values)
      (each_weaker (λ z v. Has NotKnown v) (λ z v. All (λ t. All (λ a. ¬ (Contains (support t) a)) (support v)) (sides equations))
      (λ z v h. All-weaker (Has Known) (λ t. All (λ a. ¬ (Contains (support t) a)) (support v)) (λ t k. All-from_contains (λ a. ¬ (Contains (support t) a)) (support v) (λ a i j. has_support NotKnown v h a i (has_support Known t k a j))) (sides equations) sides_known)
      (olds ++ zs) (old_values ++ new_values) values_clean)

  pub is_unifier : IsUnifier sg (olds ++ zs) equations unifier
  is_unifier = record {
    within = λ y h. ap (λ l. holds l y) (sym (keys_put_together (olds ++ zs) (old_values ++ new_values) (each_any (λ z v. HasType sg [] v z.type) (olds ++ zs) (old_values ++ new_values) all_typed))) ∙ h;
    typed = unifier_typed;
    clean = clean;
    unifies = unifies;
  }

  -- the problem is one that the solver is told of
  abbrev all_cells : List (Cell Hint)
  all_cells = cells ++ cells_over x left c.variables

  abbrev InProblem : Variable ℕ → Type 0
  InProblem y = holds (olds ++ zs) y ≡ true

  cells_over_length : (cs : List (Cell Hint)) → length (cells_over x left cs) ≡ length cs
  cells_over_length [] = refl
  cells_over_length (k ∷ ks) = ap suc (cells_over_length ks)

  pub known : AreKnown all_cells (olds ++ zs)
  known y h = either
      (λ o. let low = p.olds_below y o in let long = length-append cells (cells_over x left c.variables) in omega (arith, low, long))
      (λ z. let within = (numbered_within m (cells_over x left c.variables) y z).1 in let long = length-append cells (cells_over x left c.variables) in omega (arith, within, long))
      (held_append olds zs y h)

  put_over : (y : Variable ℕ) (t : Term ℕ Hint) → value_in same_number put y ≡ Some t → OverVars InProblem t
  put_over y t e = found_has (OverVars InProblem) (clause_variables c) (made_terms x m left c.variables) (put_together (clause_names c) (map (name_term x) ns)) (made_over_vars sg x InProblem 0 m left c.variables (λ z h. holds_behind olds zs z h)) names y t e
    where
      names : (z : Variable ℕ) (v : Term ℕ Hint) → value_in same_number (put_together (clause_names c) (map (name_term x) ns)) z ≡ Some v → OverVars InProblem v
      names z v f = found_has (OverVars InProblem) (clause_names c) (map (name_term x) ns) [] (names_over_vars sg x InProblem (clause_names c) ns p.names_for) (nothing_found (OverVars InProblem)) z v (ap (λ q. value_in same_number q z) (append-none (put_together (clause_names c) (map (name_term x) ns))) ∙ f)

  -- nothing of the clause's own stays
  put_stays : (y : Variable ℕ) → value_in same_number put y ≡ None → holds (clause_variables c ++ clause_names c) y ≡ true → InProblem y
  put_stays y e h =
      let first = found_none (clause_variables c) (made_terms x m left c.variables) (put_together (clause_names c) (map (name_term x) ns)) (any_for (clause_variables c) (made_terms x m left c.variables) made_for) y e in
      let second = found_none (clause_names c) (map (name_term x) ns) [] (any_for (clause_names c) (map (name_term x) ns) p.names_for) y (ap (λ q. value_in same_number q y) (append-none (put_together (clause_names c) (map (name_term x) ns))) ∙ first.1) in
      absurd (either (λ g. false≢true (sym first.0 ∙ g)) (λ g. false≢true (sym second.0 ∙ g)) (held_append (clause_variables c) (clause_names c) y h))

  raised_over : (y : Variable ℕ) (t : Term ℕ Hint) → value_in same_number raised y ≡ Some t → OverVars InProblem t
  raised_over y t e = held_has InProblem t (λ z h. holds_front olds zs z (has_held (λ z. holds olds z ≡ true) t (p.raised_known y t e) z h))

  raised_stay : (y : Variable ℕ) → value_in same_number raised y ≡ None → holds V y ≡ true → InProblem y
  raised_stay y e h = holds_front olds zs y (p.raised_stays y e h)

  pub sides_of_cells : AreOver all_cells equations
  sides_of_cells = arguments_over sg x all_cells 0 (image_all same_number raised ts) (image_all same_number put c.arguments)
      (over_each sg x InProblem all_cells known (image_all same_number raised ts) (image_all_over (λ y. holds V y ≡ true) InProblem (value_in same_number raised) raised_over raised_stay ts (held_all_have (λ y. holds V y ≡ true) ts p.atom_variables)))
      (over_each sg x InProblem all_cells known (image_all same_number put c.arguments) (image_all_over (λ y. holds (clause_variables c ++ clause_names c) y ≡ true) InProblem (value_in same_number put) put_over put_stays c.arguments (held_all_have (λ y. holds (clause_variables c ++ clause_names c) y ≡ true) c.arguments p.is_clause.head_variables)))

  pub equations_typed : AreTyped sg equations
  equations_typed =
      let atom = arguments_of sg x (image_typed sg same_number raised p.raised_typed p.atom_typed) in
      let head = arguments_of sg x (image_typed sg same_number put put_typed p.is_clause.head) in
      let some : Some head.0 ≡ Some atom.0 = sym head.1 ∙ atom.1 in
      let one : head.0 ≡ atom.0 = cc in
      arguments_typed sg x 0 (image_all same_number raised ts) (image_all same_number put c.arguments) atom.2 (subst (λ D. TakeType sg [] (image_all same_number put c.arguments) D prop) one head.2)

  -- WHAT A MOST GENERAL SOLVER'S ANSWER GIVES
  abbrev pub Gives : Answer Hint → Type 0
  Gives apart = ⊥
  Gives (stuck i) = Unit {0}
  Gives (unified more q) = (r : Substitution ℕ Hint) × IsTyped sg r × IsTyped sg q × EqualPastHints (image same_number r (image same_number q (image same_number put c.body))) (image same_number (filled x c us ns) c.body)
      × ((t : Term ℕ Hint) (A : Ty) → HasType sg [] t A → ((y : Variable ℕ) → holds (variables t) y ≡ true → holds V y ≡ true)
      → EqualPastHints (image same_number r (image same_number q (image same_number raised t))) (image same_number s t))

  body_over : IsOver all_cells (image same_number put c.body)
  body_over y h = known y (has_held InProblem (image same_number put c.body)
      (image_over (λ y. holds (clause_variables c ++ clause_names c) y ≡ true) InProblem (value_in same_number put) put_over put_stays c.body
      (held_has (λ y. holds (clause_variables c ++ clause_names c) y ≡ true) c.body (λ z g. holds_front (clause_variables c) (clause_names c) z (p.is_clause.body_variables z g)))) y h)

  raised_is_over : (t : Term ℕ Hint) → ((y : Variable ℕ) → holds (variables t) y ≡ true → holds V y ≡ true) → IsOver all_cells (image same_number raised t)
  raised_is_over t v y h = known y (has_held InProblem (image same_number raised t)
      (image_over (λ y. holds V y ≡ true) InProblem (value_in same_number raised) raised_over raised_stay t (held_has (λ y. holds V y ≡ true) t v)) y h)

  pub gives : (a : Answer Hint) → Solves x (given equations all_cells (olds ++ zs)) a → Gives a
  gives apart e = apart_none sg x equations all_cells (olds ++ zs) equations_typed known sides_of_cells unifier is_unifier e
  gives (stuck i) e = tt
  gives (unified more q) e =
      let served = most_general sg x equations all_cells (olds ++ zs) equations_typed known sides_of_cells unifier is_unifier more q e in
      let q_typed : IsTyped sg q = answer_typed sg x equations all_cells (olds ++ zs) equations_typed known more q e in (
        served.0,
        served.1,
        q_typed,
        (let body_typed : HasType sg [] (image same_number put c.body) prop = image_typed sg same_number put put_typed p.is_clause.body in
            ap forget (sym (image-composition sg same_number q q_typed served.0 served.1 body_typed))
            ∙ sym (served.2 [] (image same_number put c.body) prop body_typed body_over)
            ∙ body_same),
        (λ t A d v.
            let t_typed : HasType sg [] (image same_number raised t) A = image_typed sg same_number raised p.raised_typed d in
            ap forget (sym (image-composition sg same_number q q_typed served.0 served.1 t_typed))
            ∙ sym (served.2 [] (image same_number raised t) A t_typed (raised_is_over t v))
            ∙ formulas_same d v),
      )
