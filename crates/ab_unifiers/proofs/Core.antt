-- The unifier of an alternative: what an instance's guess, and a substitution of the sequent, make of its variables.
use Rattle.std.proofs.Common.{◌≡◌, ◌⊎◌, ℕ, suc, ◌<◌, List, [], ◌∷◌, map, length, true, Some, None, refl, sym, ◌∙◌, ap, subst, arith}
use Rattle.std.specs.Prelude.{Contains}
use Rattle.std.proofs.lemmas.Bool.{false_from_ne_true}
use Rattle.ab_term.specs.Types.{prop}
use Rattle.ab_term.specs.Terms.{Nominal, Variable, constant, nominal, Term, spine, Terms}
use Rattle.ab_term.specs.Typing.{Signature, HasType}
use Rattle.ab_term.specs.Translation.{forget, EqualPastHints}
use Rattle.ab_term.specs.Names.{support_of_all}
use Rattle.ab_term.specs.Variables.{Substitution, variables_of_all, value_in, image, image_by, IsTyped}
use Rattle.ab_term.specs.Sameness.{same_number}
use Rattle.ab_term.specs.Abstraction.{abstracted, over}
use Rattle.ab_unifiers.specs.Replacements.{Cell, holds}
use Rattle.ab_unifiers.specs.Unifiers.{AreDifferent}
use Rattle.ab_unifiers.specs.Clauses.{Clause, Each, clause_variables, clause_names, put_together, name_term, filled, head_of, IsClause, AreFor}
use Rattle.ab_unifiers.specs.Alternatives.{made_over, made_terms}
use Rattle.ab_unifiers.proofs.Past.{bare_own, own, bare}
use Rattle.ab_unifiers.proofs.Constants.{either, Has, abstracted_has, ButAll}
use Rattle.ab_unifiers.proofs.Variables.{Has as OverVars}
use Rattle.ab_term.proofs.Hinted.{named_over}
use Rattle.ab_unifiers.proofs.Rows.{each_both, each_held, held_append, value_front, value_behind, found_each, numbered_within, numbered_different}
use Rattle.ab_unifiers.proofs.Lifting.{Same, two_agree, own_value, lifted, OfCells, lifted_each, name_stays}
use Rattle.ab_term.proofs.Closing.{abstracted_typed}

module _ (sg : Signature) {Hint : Type 0} (x : Hint) where
  -- new variables over the constants, for these cells
  abbrev pub AreOver : List Nominal → List (Variable ℕ) → List (Cell Hint) → Type 0
  AreOver ns = Each (λ z c. z.type ≡ over ns c.type)

  pub made_are_over : (n : ℕ) (ns : List Nominal) (cs : List (Cell Hint)) → AreOver ns (made_over x n ns cs) cs
  made_are_over n ns [] = tt
  made_are_over n ns (c ∷ cs) = (refl, made_are_over (suc n) ns cs)

  pub over_typed : (ns : List Nominal) (zs : List (Variable ℕ)) (cs : List (Cell Hint)) (us : List (Term ℕ Hint)) → AreOver ns zs cs → OfCells sg x cs us → Each (λ z v. HasType sg [] v z.type) zs (lifted sg x ns cs us)
  over_typed ns [] [] [] o e = tt
  over_typed ns [] [] (u ∷ us) o e = absurd e
  over_typed ns [] (c ∷ cs) us o e = absurd o
  over_typed ns (z ∷ zs) [] us o e = absurd o
  over_typed ns (z ∷ zs) (c ∷ cs) [] o e = absurd e
  over_typed ns (z ∷ zs) (c ∷ cs) (u ∷ us) o e = (subst (λ A. HasType sg [] (abstracted x (over ns c.type) (map nominal ns) u) A) (sym o.0) (abstracted_typed sg x (named_over sg [] ns c.type) e.0), over_typed ns zs cs us o.1 e.1)

  pub over_has : (P : Nominal → Type 0) (ns : List Nominal) (zs : List (Variable ℕ)) (cs : List (Cell Hint)) (us : List (Term ℕ Hint)) → AreOver ns zs cs → Each (λ c u. Has P u) cs us → Each (λ z v. Has (ButAll P ns) v) zs (lifted sg x ns cs us)
  over_has P ns [] [] [] o e = tt
  over_has P ns [] [] (u ∷ us) o e = absurd e
  over_has P ns [] (c ∷ cs) us o e = absurd o
  over_has P ns (z ∷ zs) [] us o e = absurd o
  over_has P ns (z ∷ zs) (c ∷ cs) [] o e = absurd e
  over_has P ns (z ∷ zs) (c ∷ cs) (u ∷ us) o e = (abstracted_has P x ns c.type u e.0, over_has P ns zs cs us o.1 e.1)

  -- a clause's variables and names are found
  module _ (c : Clause Hint) (ts : List (Term ℕ Hint)) (ns : List Nominal) (as_many : Each (λ y t. Unit {0}) (clause_variables c) ts) (names : Each (λ y t. Unit {0}) (clause_names c) (map (name_term x) ns)) where
    pub variables_found : Each (λ y t. value_in same_number (filled x c ts ns) y ≡ Some t) (clause_variables c) ts
    variables_found = found_each (filled x c ts ns) (clause_variables c) ts (numbered_different 0 c.variables) (λ y h t e. value_front (put_together (clause_variables c) ts) (put_together (clause_names c) (map (name_term x) ns)) y t e) as_many

    pub names_found : Each (λ y t. value_in same_number (filled x c ts ns) y ≡ Some t) (clause_names c) (map (name_term x) ns)
    names_found = found_each (filled x c ts ns) (clause_names c) (map (name_term x) ns) (numbered_different (length c.variables) c.names)
        (λ y h t e. value_behind (clause_variables c) ts (put_together (clause_names c) (map (name_term x) ns)) y
        (false_from_ne_true (holds (clause_variables c) y) (λ g. let low = (numbered_within (length c.variables) c.names y h).0 in let high = (numbered_within 0 c.variables y g).1 in omega (arith, low, high)))
        ∙ e) names

  -- the clause under an alternative's put, and that under the guess
  module _ (c : Clause Hint) (us : List (Term ℕ Hint)) (ns left : List Nominal) (m : ℕ) (is_clause : IsClause sg c) (us_for : OfCells sg x c.variables us)
      (made_many : Each (λ y t. Unit {0}) (clause_variables c) (made_terms x m left c.variables)) (us_many : Each (λ y t. Unit {0}) (clause_variables c) us) (names : Each (λ y t. Unit {0}) (clause_names c) (map (name_term x) ns))
      (u : Substitution ℕ Hint) (u_typed : IsTyped sg u) (put_typed : IsTyped sg (filled x c (made_terms x m left c.variables) ns)) (guess_typed : IsTyped sg (filled x c us ns))
      (u_found : Each (λ z v. value_in same_number u z ≡ Some v) (made_over x m left c.variables) (lifted sg x left c.variables us)) where
    abbrev as_put : Substitution ℕ Hint
    as_put = filled x c (made_terms x m left c.variables) ns

    abbrev as_guessed : Substitution ℕ Hint
    as_guessed = filled x c us ns

    same_variables : (y : Variable ℕ) → holds (clause_variables c) y ≡ true → Same (bare as_put) (bare u) (bare as_guessed) y
    same_variables = each_held (λ y t. (image_by (bare u) (image_by (bare as_put) (bare_own y)) ≡ forget t) × (value_in same_number as_guessed y ≡ Some t)) (Same (bare as_put) (bare u) (bare as_guessed))
        (λ y t r. r.0 ∙ sym (own_value sg as_guessed guess_typed y t r.1)) (clause_variables c) us
        (each_both (λ y t. image_by (bare u) (image_by (bare as_put) (bare_own y)) ≡ forget t) (λ y t. value_in same_number as_guessed y ≡ Some t) (clause_variables c) us
        (lifted_each sg x as_put u put_typed u_typed left m c.variables (clause_variables c) us us_for (variables_found c (made_terms x m left c.variables) ns made_many names) u_found)
        (variables_found c us ns us_many names))

    stays : Each (λ z t. image_by (bare u) (forget t) ≡ forget t) (clause_names c) (map (name_term x) ns)
    stays = go (clause_names c) ns names
      where
        go : (zs : List (Variable ℕ)) (as_ : List Nominal) → Each (λ y t. Unit {0}) zs (map (name_term x) as_) → Each (λ z t. image_by (bare u) (forget t) ≡ forget t) zs (map (name_term x) as_)
        go [] [] e = tt
        go [] (a ∷ bs) e = absurd e
        go (z ∷ zs) [] e = absurd e
        go (z ∷ zs) (a ∷ bs) e = (name_stays sg x u u_typed a, go zs bs e.1)

    same_names : (y : Variable ℕ) → holds (clause_names c) y ≡ true → Same (bare as_put) (bare u) (bare as_guessed) y
    same_names = each_held (λ y t. (image_by (bare u) (forget t) ≡ forget t) × ((value_in same_number as_put y ≡ Some t) × (value_in same_number as_guessed y ≡ Some t))) (Same (bare as_put) (bare u) (bare as_guessed))
        (λ y t r. ap (image_by (bare u)) (own_value sg as_put put_typed y t r.1.0) ∙ r.0 ∙ sym (own_value sg as_guessed guess_typed y t r.1.1)) (clause_names c) (map (name_term x) ns)
        (each_both (λ y t. image_by (bare u) (forget t) ≡ forget t) (λ y t. (value_in same_number as_put y ≡ Some t) × (value_in same_number as_guessed y ≡ Some t)) (clause_names c) (map (name_term x) ns) stays
        (each_both (λ y t. value_in same_number as_put y ≡ Some t) (λ y t. value_in same_number as_guessed y ≡ Some t) (clause_names c) (map (name_term x) ns)
        (names_found c (made_terms x m left c.variables) ns made_many names) (names_found c us ns us_many names)))

    pub heads_same : EqualPastHints (image same_number u (image same_number as_put (head_of c))) (image same_number as_guessed (head_of c))
    heads_same = two_agree sg as_put u as_guessed put_typed u_typed guess_typed is_clause.head (λ y h. either (same_variables y) (same_names y) (held_append (clause_variables c) (clause_names c) y (is_clause.head_variables y h)))

    pub bodies_same : EqualPastHints (image same_number u (image same_number as_put c.body)) (image same_number as_guessed c.body)
    bodies_same = two_agree sg as_put u as_guessed put_typed u_typed guess_typed is_clause.body (λ y h. same_variables y (is_clause.body_variables y h))

-- WHAT IS KNOWN of an alternative's parts and of what it is compared with
pub record Parts (sg : Signature) (Hint : Type 0) (x : Hint) (V : List (Variable ℕ)) (old_cells : List (Cell Hint)) (ts : Terms ℕ Hint) (c : Clause Hint) (us : List (Term ℕ Hint)) (ns S fresh left : List Nominal)
    (m : ℕ) (olds : List (Variable ℕ)) (raised s : Substitution ℕ Hint) : Type 0 where
  pub is_clause : IsClause sg c
  pub atom_typed : HasType sg [] (spine (constant c.predicate) ts) prop
  pub atom_variables : (y : Variable ℕ) → holds (variables_of_all ts) y ≡ true → holds V y ≡ true
  pub us_for : AreFor sg (clause_variables c) us
  pub us_hold : Each (λ k u. Has (λ a. ¬ (Contains ns a)) u) c.variables us
  pub names_for : Each (λ z t. HasType sg [] t z.type) (clause_names c) (map (name_term x) ns)
  pub s_typed : IsTyped sg s
  pub s_holds : (y : Variable ℕ) (t : Term ℕ Hint) → value_in same_number s y ≡ Some t → Has (λ a. ¬ (Contains S a)) t
  pub guessed : EqualPastHints (image same_number (filled x c us ns) (head_of c)) (image same_number s (spine (constant c.predicate) ts))
  -- the constants
  pub chosen : (a : Nominal) → Contains ns a → Contains S a ⊎ Contains fresh a
  pub fresh_chosen : (a : Nominal) → Contains fresh a → Contains ns a
  pub others : (a : Nominal) → Contains S a → Contains ns a ⊎ Contains left a
  pub left_in : (a : Nominal) → Contains left a → Contains S a
  pub atom_in : (a : Nominal) → Contains (support_of_all ts) a → Contains S a
  -- the sequent's variables, as they were and as they are raised
  pub olds_over : AreOver sg x fresh olds old_cells
  pub old_many : OfCells sg x old_cells (map (λ y. image same_number s (own x y)) V)
  pub olds_different : AreDifferent olds
  pub olds_below : (y : Variable ℕ) → holds olds y ≡ true → y.name < m
  pub raised_typed : IsTyped sg raised
  pub raised_hold : (y : Variable ℕ) (t : Term ℕ Hint) → value_in same_number raised y ≡ Some t → Has (λ a. Contains fresh a) t
  pub raised_known : (y : Variable ℕ) (t : Term ℕ Hint) → value_in same_number raised y ≡ Some t → OverVars (λ z. holds olds z ≡ true) t
  pub raised_stays : (y : Variable ℕ) → value_in same_number raised y ≡ None → holds V y ≡ true → holds olds y ≡ true
  pub raised_same : (u : Substitution ℕ Hint) → IsTyped sg u → Each (λ z v. value_in same_number u z ≡ Some v) olds (lifted sg x fresh old_cells (map (λ y. image same_number s (own x y)) V))
      → (y : Variable ℕ) → holds V y ≡ true → Same (bare raised) (bare u) (bare s) y
