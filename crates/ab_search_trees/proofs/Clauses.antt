-- THE WAY BY A CLAUSE, against guesses.
use Rattle.std.proofs.Common.{◌≡◌, inl, inr, ℕ, suc, ◌<◌, List, [], ◌∷◌, ◌++◌, map, length, codes, Bool, true, false, Option, Some, None, option_map, refl, sym, ◌∙◌, ap, subst, arith}
use Rattle.std.specs.Prelude.{Contains, All}
use Rattle.std.proofs.lemmas.Bool.{false≢true, false_from_ne_true}
use Rattle.std.proofs.lemmas.List.Elements.{All-head, All-tail, All-contains, Contains-append_left, Contains-append_right}
use Rattle.ab_term.specs.Types.{prop}
use Rattle.ab_term.specs.Terms.{Nominal, Variable, constant, Term, spine, Terms, no_terms, term, Read}
use Rattle.ab_term.specs.Typing.{Signature, HasType, TakeType}
use Rattle.ab_term.specs.Names.{support, support_of_all}
use Rattle.ab_term.specs.Abstraction.{Only}
use Rattle.ab_term.specs.Translation.{forget, forget_all, EqualPastHints}
use Rattle.ab_term.specs.Variables.{Substitution, variables, variables_of_all, value_in, image, image_all, image_by, image_all_by, IsTyped}
use Rattle.ab_term.specs.Sameness.{same_number}
use Rattle.ab_term.proofs.Lists.{Contains-none, Contains-cases}
use Rattle.ab_term.proofs.Depends.{image_agrees}
use Rattle.ab_term.proofs.Compositions.{image_typed}
use Rattle.ab_term.proofs.PastHints.{variables-forget}
use Rattle.ab_term.proofs.Stands.{support-image}
use Rattle.ab_term.proofs.Translations.{support-translate}
use Rattle.ab_unifiers.specs.Replacements.{Cell, holds}
use Rattle.ab_unifiers.specs.Unification.{Equation}
use Rattle.ab_unifiers.specs.Unifiers.{IsCell, AllHoldCells, AreTyped}
use Rattle.ab_unifiers.proofs.Ruling.{image_none}
use Rattle.ab_unifiers.proofs.Avoiding.{not_held}
use Rattle.ab_unifiers.proofs.Agreeing.{contains_holds, holds_front, holds_behind}
use Rattle.ab_unifiers.proofs.Cells.{cell_kept}
use Rattle.ab_unifiers.proofs.Following.{Put, plain, plain_typed, image_plain}
use Rattle.ab_unifiers.proofs.General.{AllAlike}
use Rattle.ab_unifiers.specs.Clauses.{Each, numbered, clause_variables, clause_names, put_together, name_term, filled, head_of, AreFor, HoldsNone}
use Rattle.ab_unifiers.specs.Choices.{in_order, outside, placed}
use Rattle.ab_unifiers.specs.Alternatives.{cells_over, made_over, made_terms, arguments_equal}
use Rattle.ab_unifiers.proofs.Choosing.{in_or_outside, outside_contains, ordered_contains, contains_ordered}
use Rattle.ab_unifiers.proofs.Constants as names
use Rattle.ab_unifiers.proofs.Variables as variable_in
use Rattle.ab_unifiers.proofs.Rows.{each_any, each_held, found_each, found_has, found_none, nothing_found, keys_put_together, together_typed, numbered_within, numbered_different, held_append}
use Rattle.ab_unifiers.proofs.Lifting.{lifted, OfCells, lifted_typed, made_terms_typed}
use Rattle.ab_unifiers.proofs.Core.{made_are_over, over_has, heads_same, bodies_same}
use Rattle.ab_unifiers.proofs.Unifier.{to_cells, from_cells, filled_typed, made_have, names_have, made_over_vars, names_over_vars, arguments_of, append-none}
use Rattle.ab_unifiers.proofs.Sides.{arguments_typed}
use Rattle.ab_unifiers.proofs.Covered.{names_typed}
use Rattle.ab_formulas.specs.Declarations.{Declarations, signature_in, IsDefining}
use Rattle.ab_theory.specs.Atoms.{Defined, Choice}
use Rattle.ab_search_trees.proofs.Guessed.{support_only, contained}
use Rattle.ab_search_trees.specs.Goals.{Now}
use Rattle.ab_search_trees.specs.Ways.{with_constants}
use Rattle.ab_search_trees.specs.Guesses.{HoldsOf, IsGuessedFor}
use Rattle.ab_search_trees.proofs.Lifts.{at_behind, numbered_cell, no_value}
use Rattle.ab_search_trees.proofs.Forms.{Makes, MakesAll}
use Rattle.ab_search_trees.proofs.Facts.{Facts}
use Rattle.ab_search_trees.proofs.Against.{IsState}
use Rattle.ab_search_trees.proofs.ByForm.{placed_itself, placed_others}
use Rattle.ab_search_trees.proofs.Growing.{IsGrown, makes_grown}
use Rattle.ab_search_trees.proofs.Hypotheses.{made_names}

-- one value or else another
abbrev pub or_else : Option (Term ℕ (Unit {0})) → Option (Term ℕ (Unit {0})) → Option (Term ℕ (Unit {0}))
or_else None o = o
or_else (Some v) o = Some v

-- equations of arguments
arguments_alike : (f : Put) (p : ℕ) (ts us : Terms ℕ (List ℕ)) → image_all_by f (forget_all ts) ≡ image_all_by f (forget_all us) → AllAlike f (arguments_equal (codes "x") p ts us)
arguments_alike f p no_terms us e = tt
arguments_alike f p (term t ts) no_terms e = tt
arguments_alike f p (term t ts) (term u us) e =
    let one : image_by f (forget t) ≡ image_by f (forget u) = cc in
    let more : image_all_by f (forget_all ts) ≡ image_all_by f (forget_all us) = cc in
    (one, arguments_alike f (suc p) ts us more)

pub arguments_hold : (cells : List (Cell (List ℕ))) (p : ℕ) (ts us : Terms ℕ (List ℕ)) → ((y : Variable ℕ) → Contains (variables_of_all ts) y → IsCell cells y) → ((y : Variable ℕ) → Contains (variables_of_all us) y → IsCell cells y) → AllHoldCells cells (arguments_equal (codes "x") p ts us)
arguments_hold cells p no_terms us a b = tt
arguments_hold cells p (term t ts) no_terms a b = tt
arguments_hold cells p (term t ts) (term u us) a b = (
  (λ y m. a y (Contains-append_left (variables t) (variables_of_all ts) y m)),
  (λ y m. b y (Contains-append_left (variables u) (variables_of_all us) y m)),
  arguments_hold cells (suc p) ts us (λ y m. a y (Contains-append_right (variables t) (variables_of_all ts) y m)) (λ y m. b y (Contains-append_right (variables u) (variables_of_all us) y m)),
)

pub constants_more : (new branch : List Nominal) (a : Nominal) → Contains branch a → Contains (with_constants new branch) a
constants_more [] branch a m = m
constants_more (n ∷ new) branch a m = constants_more new (placed n branch) a (placed_others n branch a m)

pub constants_new : (new branch : List Nominal) (a : Nominal) → Contains new a → Contains (with_constants new branch) a
constants_new [] branch a m = absurd (Contains-none a m)
constants_new (n ∷ new) branch a m = elim (Contains-cases n new a m) [
  | inl e ↦ constants_more new (placed n branch) a (subst (Contains (placed n branch)) e (placed_itself n branch))
  | inr k ↦ constants_new new (placed n branch) a k
]

module _ (D : Declarations) (now : Now) (f : Put) (s : IsState (signature_in D) now f) (branch : List Nominal) (untouched : Bool) (e d : Defined) (made : MakesAll f e.arguments d.arguments) (same_predicate : e.predicate ≡ d.predicate)
    (typed : HasType (signature_in D) [] (spine (constant e.predicate) e.arguments) prop) (facts : Facts now branch untouched (spine (constant e.predicate) e.arguments))
    (c : Choice) (defining : IsDefining (signature_in D) c.clause) (types : map (λ a. a.type) c.names ≡ map (λ z. z.type) c.clause.names) (us : List Read) (guess : IsGuessedFor (signature_in D) d c us) where
  abbrev sg : Signature
  sg = signature_in D

  abbrev x : List ℕ
  x = codes "x"

  abbrev n : ℕ
  n = length now.cells

  abbrev vars : List (Cell (List ℕ))
  vars = c.clause.variables

  abbrev S : List Nominal
  S = in_order (support_of_all e.arguments)

  abbrev rest : List Nominal
  rest = outside S c.names

  abbrev own : List (Cell (List ℕ))
  own = cells_over x rest vars

  abbrev zs : List (Variable ℕ)
  zs = made_over x n rest vars

  abbrev terms : List Read
  terms = made_terms x n rest vars

  abbrev put : Substitution ℕ (List ℕ)
  put = filled x c.clause terms c.names

  abbrev filled_by : Substitution ℕ (List ℕ)
  filled_by = filled x c.clause us c.names

  abbrev values : List Read
  values = lifted sg x rest vars us

  abbrev sub : Substitution ℕ (List ℕ)
  sub = put_together zs values

  us_cells : OfCells sg x vars us
  us_cells = to_cells sg x 0 vars us guess.terms

  values_typed : Each (λ z v. HasType sg [] v z.type) zs values
  values_typed = lifted_typed sg x n rest vars us us_cells

  sub_typed : IsTyped sg sub
  sub_typed = together_typed sg zs values values_typed

  found : Each (λ z v. value_in same_number sub z ≡ Some v) zs values
  found = found_each sub zs values (numbered_different n own) (λ y h t e. e) (each_any (λ z v. HasType sg [] v z.type) zs values values_typed)

  made_for : AreFor sg (clause_variables c.clause) terms
  made_for = from_cells sg x 0 vars terms (made_terms_typed sg x n rest vars)

  names_for : AreFor sg (clause_names c.clause) (map (name_term x) c.names)
  names_for = names_typed sg x (length vars) c.clause.names c.names types

  pub put_typed : IsTyped sg put
  put_typed = filled_typed sg x c.clause terms c.names made_for names_for

  any_for : (ys : List (Variable ℕ)) (ts : List Read) → AreFor sg ys ts → Each (λ y t. Unit {0}) ys ts
  any_for = each_any (λ y t. HasType sg [] t y.type)

  head_same : EqualPastHints (image same_number sub (image same_number put (head_of c.clause))) (image same_number filled_by (head_of c.clause))
  head_same = heads_same sg x c.clause us c.names rest n defining.clause us_cells (any_for (clause_variables c.clause) terms made_for) (any_for (clause_variables c.clause) us guess.terms) (any_for (clause_names c.clause) (map (name_term x) c.names) names_for) sub sub_typed put_typed (filled_typed sg x c.clause us c.names guess.terms names_for) found

  body_same : EqualPastHints (image same_number sub (image same_number put c.clause.body)) (image same_number filled_by c.clause.body)
  body_same = bodies_same sg x c.clause us c.names rest n defining.clause us_cells (any_for (clause_variables c.clause) terms made_for) (any_for (clause_variables c.clause) us guess.terms) (any_for (clause_names c.clause) (map (name_term x) c.names) names_for) sub sub_typed put_typed (filled_typed sg x c.clause us c.names guess.terms names_for) found

  -- THE GUESS, with what is guessed for the clause's variables
  abbrev pub with_clause : Put
  with_clause y = or_else (plain sub y) (f y)

  abbrev pub amid_clause : Now
  amid_clause = record now { cells = now.cells ++ own; flexible = now.flexible ++ zs }

  not_old : (y : Variable ℕ) → y.name < n → holds zs y ≡ false
  not_old y l = false_from_ne_true (holds zs y) (λ h. let low = (numbered_within n own y h).0 in absurd (omega (arith, low, l)))

  no_sub : (y : Variable ℕ) → holds zs y ≡ false → plain sub y ≡ None
  no_sub y h = ap (option_map forget) (no_value sub y (ap (λ l. holds l y) (keys_put_together zs values (each_any (λ z v. HasType sg [] v z.type) zs values values_typed)) ∙ h))

  is_sub : (y : Variable ℕ) → holds zs y ≡ true → (v : Read) × (value_in same_number sub y ≡ Some v)
  is_sub = each_held (λ z v. value_in same_number sub z ≡ Some v) (λ z. (v : Read) × (value_in same_number sub z ≡ Some v)) (λ z v e. (v, e)) zs values found

  at_old : (y : Variable ℕ) → holds zs y ≡ false → with_clause y ≡ f y
  at_old y h = ap (λ o. or_else o (f y)) (no_sub y h)

  at_new : (y : Variable ℕ) → holds zs y ≡ true → with_clause y ≡ plain sub y
  at_new y h = let v = is_sub y h in let there : plain sub y ≡ Some (forget v.0) = ap (option_map forget) v.1 in ap (λ o. or_else o (f y)) there ∙ sym there

  -- the second atom's constants are the first's
  atom_made : Makes f (spine (constant e.predicate) e.arguments) (spine (constant d.predicate) d.arguments)
  atom_made = ap (λ p. spine (constant p) (image_all_by f (forget_all e.arguments))) same_predicate ∙ ap (spine (constant d.predicate)) made

  pub of_first : (a : Nominal) → Contains (support_of_all d.arguments) a → Contains (support_of_all e.arguments) a
  of_first = made_names D now f s (spine (constant e.predicate) e.arguments) (spine (constant d.predicate) d.arguments) atom_made

  -- what is guessed holds no constant
  us_of : Each (λ k u. names.Has (Contains rest) u) vars us
  us_of = go 0 vars us guess.terms guess.without guess.of_atom
    where
      go : (m : ℕ) (cs : List (Cell (List ℕ))) (vs : List Read) → Each (λ y t. HasType sg [] t y.type) (numbered m cs) vs → All (HoldsNone sg c.names) vs → All (HoldsOf (support_of_all d.arguments)) vs → Each (λ k u. names.Has (Contains rest) u) cs vs
      go m [] [] q w o = tt
      go m [] (v ∷ vs) q w o = absurd q
      go m (k ∷ cs) [] q w o = absurd q
      go m (k ∷ cs) (v ∷ vs) r w o = (
        names.support_has (Contains rest) v (λ a q. elim (in_or_outside S c.names a (ordered_contains (support_of_all e.arguments) a (of_first a (All-head (HoldsOf (support_of_all d.arguments)) v vs o a q)))) [
          | inl i ↦ absurd (All-contains (λ b. ¬ (Contains (support v) b)) c.names a (All-head (HoldsNone sg c.names) v vs w) i q)
          | inr i ↦ i
        ]),
        go (suc m) cs vs r.1 (All-tail (HoldsNone sg c.names) v vs w) (All-tail (HoldsOf (support_of_all d.arguments)) v vs o),
      )

  sub_nameless : Each (λ z v. names.Has (names.ButAll (Contains rest) rest) v) zs values
  sub_nameless = over_has sg x (Contains rest) rest zs vars us (made_are_over sg x n rest vars) us_of

  value_only : (y : Variable ℕ) (v : Read) → value_in same_number sub y ≡ Some v → HasType sg [] (forget v) y.type → Only [] (forget v)
  value_only y v q typed_v =
      let h : names.Has (names.ButAll (Contains rest) rest) v = found_has (names.Has (names.ButAll (Contains rest) rest)) zs values [] sub_nameless (nothing_found (names.Has (names.ButAll (Contains rest) rest))) y v (ap (λ l. value_in same_number l y) (append-none sub) ∙ q) in
      support_only sg [] [] (forget v) typed_v (λ i l. absurd (omega (arith, l)))
      (λ a m. let there = subst (λ l. Contains l a) (support-translate (λ k. k) (λ k. tt) v) (contained (support (forget v)) a m) in let p = names.has_support (names.ButAll (Contains rest) rest) v h a there in absurd (p.1 p.0))

  pub clause_state : IsState sg amid_clause with_clause
  clause_state = record {
    cells = λ y h. elim (not_held now.flexible zs y h) [
      | inl a ↦ cell_kept now.cells amid_clause.cells (own, refl) y (s.cells y a)
      | inr a ↦ (let at = numbered_cell own n y a in at_behind now.cells own at.0 y.name y.type at.1 at.2)
    ];
    fits = record {
      typed = λ y v q. typed_at y v (plain sub y) refl q;
      has = λ y v q. only_at y v (value_in same_number sub y) refl q;
      some = λ y h. elim (not_held now.flexible zs y h) [
        | inl a ↦ some_old y a (holds zs y) refl
        | inr a ↦ (let v = is_sub y a in (forget v.0, at_new y a ∙ ap (option_map forget) v.1))
      ];
      none = λ y h. at_old y (false_from_ne_true (holds zs y) (λ m. false≢true (sym h ∙ holds_behind now.flexible zs y m))) ∙ s.fits.none y (false_from_ne_true (holds now.flexible y) (λ m. false≢true (sym h ∙ holds_front now.flexible zs y m)));
    };
  }
    where
      typed_at : (y : Variable ℕ) (v : Term ℕ (Unit {0})) (o : Option (Term ℕ (Unit {0}))) → plain sub y ≡ o → or_else o (f y) ≡ Some v → HasType sg [] v y.type
      typed_at y v None p q = s.fits.typed y v q
      typed_at y v (Some w) p q = plain_typed sg sub sub_typed y v (p ∙ q)

      only_at : (y : Variable ℕ) (v : Term ℕ (Unit {0})) (o : Option Read) → value_in same_number sub y ≡ o → or_else (option_map forget o) (f y) ≡ Some v → Only [] v
      only_at y v None p q = s.fits.has y v q
      only_at y v (Some w) p q = let same : forget w ≡ v = cc in subst (Only []) same (value_only y w p (plain_typed sg sub sub_typed y (forget w) (ap (option_map forget) p)))

      some_old : (y : Variable ℕ) → holds now.flexible y ≡ true → (b : Bool) → holds zs y ≡ b → (v : Term ℕ (Unit {0})) × (with_clause y ≡ Some v)
      some_old y a true h = let v = is_sub y h in (forget v.0, at_new y h ∙ ap (option_map forget) v.1)
      some_old y a false h = let r = s.fits.some y a in (r.0, at_old y h ∙ r.1)

  pub clause_grown : IsGrown now amid_clause f with_clause
  clause_grown = record {
    cells = (own, refl);
    fixed = λ y l m. false_from_ne_true (holds (now.flexible ++ zs) y) (λ h. elim (not_held now.flexible zs y h) [ inl a ↦ false≢true (sym m ∙ a) | inr a ↦ false≢true (sym (not_old y l) ∙ a) ]);
    same = λ y l. at_old y (not_old y l);
  }

  -- what is put in holds the new variables alone
  put_over : (y : Variable ℕ) (v : Read) → value_in same_number put y ≡ Some v → variable_in.Has (λ z. holds zs z ≡ true) v
  put_over y v q = found_has (variable_in.Has (λ z. holds zs z ≡ true)) (clause_variables c.clause) terms (put_together (clause_names c.clause) (map (name_term x) c.names)) (made_over_vars sg x (λ z. holds zs z ≡ true) 0 n rest vars (λ z h. h))
      (λ z w r. found_has (variable_in.Has (λ k. holds zs k ≡ true)) (clause_names c.clause) (map (name_term x) c.names) [] (names_over_vars sg x (λ k. holds zs k ≡ true) (clause_names c.clause) c.names names_for) (nothing_found (variable_in.Has (λ k. holds zs k ≡ true))) z w
      (ap (λ l. value_in same_number l z) (append-none (put_together (clause_names c.clause) (map (name_term x) c.names))) ∙ r)) y v q

  put_all : (y : Variable ℕ) → value_in same_number put y ≡ None → holds (clause_variables c.clause ++ clause_names c.clause) y ≡ true → ⊥
  put_all y q h =
      let one = found_none (clause_variables c.clause) terms (put_together (clause_names c.clause) (map (name_term x) c.names)) (any_for (clause_variables c.clause) terms made_for) y q in
      let two = found_none (clause_names c.clause) (map (name_term x) c.names) [] (any_for (clause_names c.clause) (map (name_term x) c.names) names_for) y (ap (λ l. value_in same_number l y) (append-none (put_together (clause_names c.clause) (map (name_term x) c.names))) ∙ one.1) in
      elim (held_append (clause_variables c.clause) (clause_names c.clause) y h) [ inl a ↦ false≢true (sym one.0 ∙ a) | inr a ↦ false≢true (sym two.0 ∙ a) ]

  pub put_variables : (t : Read) → ((y : Variable ℕ) → holds (variables t) y ≡ true → holds (clause_variables c.clause ++ clause_names c.clause) y ≡ true) → (y : Variable ℕ) → Contains (variables (image same_number put t)) y → holds zs y ≡ true
  put_variables t w y m = variable_in.has_held (λ z. holds zs z ≡ true) (image same_number put t)
      (variable_in.image_by_has (λ z. holds (clause_variables c.clause ++ clause_names c.clause) z ≡ true) (λ z. holds zs z ≡ true) (value_in same_number put) put_over (λ z q h. absurd (put_all z q h)) t (variable_in.held_has (λ z. holds (clause_variables c.clause ++ clause_names c.clause) z ≡ true) t w))
      y (contains_holds (variables (image same_number put t)) y m)

  -- on such a term the guess is that for the clause
  on_put : (t : Read) → ((y : Variable ℕ) → holds (variables t) y ≡ true → holds (clause_variables c.clause ++ clause_names c.clause) y ≡ true) → image_by with_clause (forget (image same_number put t)) ≡ forget (image same_number sub (image same_number put t))
  on_put t w = image_agrees with_clause (plain sub) (forget (image same_number put t)) (λ y m. at_new y (put_variables t w y (subst (λ l. Contains l y) (variables-forget (image same_number put t)) m))) ∙ sym (image_plain sub (image same_number put t))

  pub clause_body : Makes with_clause (image same_number put c.clause.body) (image same_number filled_by c.clause.body)
  clause_body = on_put c.clause.body (λ y h. holds_front (clause_variables c.clause) (clause_names c.clause) y (defining.clause.body_variables y h)) ∙ body_same

  clause_head : Makes with_clause (image same_number put (head_of c.clause)) (spine (constant d.predicate) d.arguments)
  clause_head = on_put (head_of c.clause) defining.clause.head_variables ∙ head_same ∙ guess.head

  abbrev pub clause_equations : List (Equation (List ℕ))
  clause_equations = arguments_equal x 0 (image_all same_number [] e.arguments) (image_all same_number put c.clause.arguments)

  atom_itself : image_all same_number [] e.arguments ≡ e.arguments
  atom_itself = let whole : image same_number [] (spine (constant e.predicate) e.arguments) ≡ spine (constant e.predicate) e.arguments = image_none (spine (constant e.predicate) e.arguments) in cc

  pub clause_alike : AllAlike with_clause clause_equations
  clause_alike =
      let left : Makes with_clause (spine (constant e.predicate) e.arguments) (spine (constant d.predicate) d.arguments) = makes_grown sg now amid_clause f with_clause clause_grown (spine (constant e.predicate) e.arguments) (spine (constant d.predicate) d.arguments) facts atom_made in
      let one : image_all_by with_clause (forget_all e.arguments) ≡ forget_all d.arguments = cc in
      let right = clause_head in
      let two : image_all_by with_clause (forget_all (image_all same_number put c.clause.arguments)) ≡ forget_all d.arguments = cc in
      arguments_alike with_clause 0 (image_all same_number [] e.arguments) (image_all same_number put c.clause.arguments) (ap (λ ts. image_all_by with_clause (forget_all ts)) atom_itself ∙ one ∙ sym two)

  predicates_same : e.predicate ≡ c.clause.predicate
  predicates_same =
      let atom : Read = spine (constant d.predicate) d.arguments in
      let heads : forget (image same_number filled_by (head_of c.clause)) ≡ forget atom = guess.head in
      let one : c.clause.predicate ≡ d.predicate = cc in
      same_predicate ∙ sym one

  pub clause_typed : AreTyped sg clause_equations
  clause_typed =
      let one = arguments_of sg x typed in
      let two = arguments_of sg x (image_typed sg same_number put put_typed defining.clause.head) in
      let same : one.0 ≡ two.0 = (let both : Some one.0 ≡ Some two.0 = sym one.1 ∙ ap sg predicates_same ∙ two.1 in cc) in
      arguments_typed sg x 0 (image_all same_number [] e.arguments) (image_all same_number put c.clause.arguments) (subst (λ ts. TakeType sg [] ts one.0 prop) (sym atom_itself) one.2) (subst (λ A. TakeType sg [] (image_all same_number put c.clause.arguments) A prop) (sym same) two.2)

  new_cell_at : (y : Variable ℕ) → holds zs y ≡ true → IsCell amid_clause.cells y
  new_cell_at y h = let at = numbered_cell own n y h in at_behind now.cells own at.0 y.name y.type at.1 at.2

  pub clause_over : AllHoldCells amid_clause.cells clause_equations
  clause_over = arguments_hold amid_clause.cells 0 (image_all same_number [] e.arguments) (image_all same_number put c.clause.arguments)
      (λ y m. cell_kept now.cells amid_clause.cells (own, refl) y (facts.over y (subst (λ ts. Contains (variables_of_all ts) y) atom_itself m)))
      (λ y m. new_cell_at y (put_variables (head_of c.clause) defining.clause.head_variables y m))

  -- the body's variables and constants
  abbrev pub fresh : List Nominal
  fresh = outside c.names S

  pub body_facts : Facts amid_clause (with_constants fresh branch) false (image same_number put c.clause.body)
  body_facts = record {
    over = λ y m. new_cell_at y (put_variables c.clause.body (λ z h. holds_front (clause_variables c.clause) (clause_names c.clause) z (defining.clause.body_variables z h)) y m);
    constants = λ a m. elim (support-image (value_in same_number put) c.clause.body a m) [
      | inl k ↦ absurd (Contains-none a (subst (λ l. Contains l a) defining.clause.body_without_constants k))
      | inr k ↦ names.has_support (Contains (with_constants fresh branch)) k.1 (put_names k.0 k.1 (k.2).1) a k.3
    ];
    fixed = λ q. absurd (false≢true q);
  }
    where
      of_names : (a : Nominal) → Contains c.names a → Contains (with_constants fresh branch) a
      of_names a m = elim (in_or_outside c.names S a m) [
        | inl i ↦ constants_more fresh branch a (facts.constants a (contains_ordered (support_of_all e.arguments) a i))
        | inr i ↦ constants_new fresh branch a i
      ]

      of_rest : (a : Nominal) → Contains rest a → Contains (with_constants fresh branch) a
      of_rest a m = constants_more fresh branch a (facts.constants a (contains_ordered (support_of_all e.arguments) a (outside_contains S c.names a m).0))

      put_names : (y : Variable ℕ) (v : Read) → value_in same_number put y ≡ Some v → names.Has (Contains (with_constants fresh branch)) v
      put_names y v q = found_has (names.Has (Contains (with_constants fresh branch))) (clause_variables c.clause) terms (put_together (clause_names c.clause) (map (name_term x) c.names)) (made_have sg x (Contains (with_constants fresh branch)) 0 n rest vars of_rest)
          (λ z w r. found_has (names.Has (Contains (with_constants fresh branch))) (clause_names c.clause) (map (name_term x) c.names) [] (names_have sg x (Contains (with_constants fresh branch)) (clause_names c.clause) c.names of_names names_for) (nothing_found (names.Has (Contains (with_constants fresh branch)))) z w
          (ap (λ l. value_in same_number l z) (append-none (put_together (clause_names c.clause) (map (name_term x) c.names))) ∙ r)) y v q
