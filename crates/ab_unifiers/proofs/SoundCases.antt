-- An alternative whose equations are solved gives an instance.
use Rattle.std.proofs.Common.{◌≡◌, ◌≢◌, ℕ, suc, List, [], ◌∷◌, ◌++◌, map, length, Bool, true, false, cond, Some, refl, sym, ◌∙◌, ap, subst}
use Rattle.std.specs.Prelude.{All, AllPairs, Contains, bytes_eq, codes}
use Rattle.std.proofs.lemmas.Slice.Eq.{bytes_eq-Decides}
use Rattle.std.proofs.lemmas.List.Elements.{All-cons, All-nil, All-contains}
use Rattle.ab_term.specs.Types.{Ty, kind, arrow, prop}
use Rattle.ab_term.specs.Terms.{Nominal, Variable, constant, Term, spine, Terms, no_terms, term}
use Rattle.ab_term.specs.Typing.{Signature, HasType, TakeType, take_none, take_term}
use Rattle.ab_term.specs.Translation.{forget, forget_all, EqualPastHints}
use Rattle.ab_term.specs.Names.{support, support_of_all}
use Rattle.ab_term.specs.Variables.{Substitution, value_in, image, image_all, image_by, IsTyped}
use Rattle.ab_term.proofs.Compositions.{image_typed}
use Rattle.ab_term.proofs.Lists.{All-from_contains, Contains-none, Contains-from_map}
use Rattle.ab_term.specs.Sameness.{same_number}
use Rattle.ab_unifiers.specs.Replacements.{holds}
use Rattle.ab_unifiers.specs.Unifiers.{Unifies}
use Rattle.ab_unifiers.proofs.Agreeing.{holds_front}
use Rattle.ab_unifiers.specs.Clauses.{Clause, Each, clause_variables, clause_names, put_together, name_term, filled, head_of, IsClause, AreFor, HoldsNone, Instance, instance_by}
use Rattle.ab_unifiers.specs.Choices.{in_order, outside, choices}
use Rattle.ab_unifiers.specs.Alternatives.{Scope, Alternative, Side, on_left, on_right, cells_over, made_terms, cells_of, arguments_equal, alternative, analysed, clause_alternatives, alternatives}
use Rattle.ab_unifiers.proofs.Atoms.{IsAtomOf}
use Rattle.ab_unifiers.proofs.Past.{bare, forget-image}
use Rattle.ab_unifiers.proofs.Constants.{either, Has, has_support, support_has, image_by_has}
use Rattle.ab_unifiers.proofs.Rows.{each_any, each_held, held_append, together_typed}
use Rattle.ab_unifiers.proofs.Lifting.{Same, two_agree, own_value, made_terms_typed, name_stays}
use Rattle.ab_unifiers.proofs.Core.{variables_found, names_found}
use Rattle.ab_unifiers.proofs.Unifier.{from_cells, filled_typed, made_have, arguments_of}
use Rattle.ab_unifiers.proofs.Choosing.{outside_contains, contains_ordered, gathered_from}
use Rattle.ab_unifiers.proofs.Matching.{choice_right}
use Rattle.ab_unifiers.proofs.Left.{own_typed}
use Rattle.ab_unifiers.proofs.Covered.{names_typed}

module _ (sg : Signature) {Hint : Type 0} (x : Hint) where
  at_a_kind : (k : List ℕ) {A : Ty} → TakeType sg {Var = ℕ} {Hint = Hint} [] no_terms A (kind k) → A ≡ kind k
  at_a_kind k take_none = refl

  at_an_arrow : {A C : Ty} {v : Term ℕ Hint} {us : Terms ℕ Hint} → TakeType sg [] (term v us) A C → (B : Ty) × (D : Ty) × (A ≡ arrow B D)
  at_an_arrow (take_term {A = B} {B = D} d ds) = (B, D, refl)

  not_both : (k : List ℕ) {A C : Ty} {v : Term ℕ Hint} {us : Terms ℕ Hint} → TakeType sg {Var = ℕ} {Hint = Hint} [] no_terms A (kind k) → TakeType sg [] (term v us) A C → ⊥
  not_both k d e = let r = at_an_arrow e in let bad : kind k ≡ arrow r.0 r.1 = sym (at_a_kind k d) ∙ r.2 in cc

  unified_arguments : (q : Substitution ℕ Hint) (p : ℕ) {A : Ty} (k l : List ℕ) (ts us : Terms ℕ Hint) → TakeType sg [] ts A (kind k) → TakeType sg [] us A (kind l) → Unifies q (arguments_equal x p ts us)
      → forget_all (image_all same_number q ts) ≡ forget_all (image_all same_number q us)
  unified_arguments q p k l no_terms no_terms d e u = refl
  unified_arguments q p k l no_terms (term v us) d e u = absurd (not_both k d e)
  unified_arguments q p k l (term t ts) no_terms d e u = absurd (not_both l e d)
  unified_arguments q p k l (term t ts) (term v us) (take_term d ds) (take_term e es) u =
      ap (λ w. term w (forget_all (image_all same_number q ts))) u.0 ∙ ap (term (forget (image same_number q v))) (unified_arguments q (suc p) k l ts us ds es u.1)

  chosen_is : (sequent : Scope Hint) (ts : Terms ℕ Hint) (c : Clause Hint) (ns : List Nominal) (side : Side) → (alternative x sequent ts c ns side).chosen ≡ ns
  chosen_is sequent ts c ns on_right = refl
  chosen_is sequent ts c ns on_left = by_fresh (outside ns (in_order (support_of_all ts)))
    where
      by_fresh : (fresh : List Nominal) → (analysed x sequent ts c ns fresh).chosen ≡ ns
      by_fresh [] = refl
      by_fresh (b ∷ bs) = refl

  images_for : (q : Substitution ℕ Hint) → IsTyped sg q → (ys : List (Variable ℕ)) (ts : List (Term ℕ Hint)) → AreFor sg ys ts → AreFor sg ys (map (image same_number q) ts)
  images_for q p [] [] e = tt
  images_for q p [] (t ∷ ts) e = absurd e
  images_for q p (y ∷ ys) [] e = absurd e
  images_for q p (y ∷ ys) (t ∷ ts) e = (image_typed sg same_number q p e.0, images_for q p ys ts e.1)

  images_all : (q : Substitution ℕ Hint) (Q : Term ℕ Hint → Type 0) (R : Term ℕ Hint → Type 0) → ((t : Term ℕ Hint) → R t → Q (image same_number q t)) → (ys : List (Variable ℕ)) (ts : List (Term ℕ Hint)) → Each (λ y t. R t) ys ts → All Q (map (image same_number q) ts)
  images_all q Q R w [] [] e = All-nil Q
  images_all q Q R w [] (t ∷ ts) e = absurd e
  images_all q Q R w (y ∷ ys) [] e = absurd e
  images_all q Q R w (y ∷ ys) (t ∷ ts) e = All-cons Q (image same_number q t) (map (image same_number q) ts) (w t e.0) (images_all q Q R w ys ts e.1)

  -- found before, and found after as its image
  images_same : (a q s : Substitution ℕ Hint) → IsTyped sg a → IsTyped sg s → (ys : List (Variable ℕ)) (ts : List (Term ℕ Hint)) → Each (λ y t. value_in same_number a y ≡ Some t) ys ts → Each (λ y t. value_in same_number s y ≡ Some t) ys (map (image same_number q) ts)
      → Each (λ y t. Same (bare a) (bare q) (bare s) y) ys ts
  images_same a q s p r [] [] e f = tt
  images_same a q s p r [] (t ∷ ts) e f = absurd e
  images_same a q s p r (y ∷ ys) [] e f = absurd e
  images_same a q s p r (y ∷ ys) (t ∷ ts) e f = (
    ap (image_by (bare q)) (own_value sg a p y t e.0) ∙ sym (forget-image q t) ∙ sym (own_value sg s r y (image same_number q t) f.0),
    images_same a q s p r ys ts e.1 f.1,
  )

  names_same : (a q s : Substitution ℕ Hint) → IsTyped sg a → IsTyped sg q → IsTyped sg s → (ys : List (Variable ℕ)) (ns : List Nominal) → Each (λ y t. value_in same_number a y ≡ Some t) ys (map (name_term x) ns) → Each (λ y t. value_in same_number s y ≡ Some t) ys (map (name_term x) ns)
      → Each (λ y t. Same (bare a) (bare q) (bare s) y) ys (map (name_term x) ns)
  names_same a q s p u r [] [] e f = tt
  names_same a q s p u r [] (n ∷ ns) e f = absurd e
  names_same a q s p u r (y ∷ ys) [] e f = absurd e
  names_same a q s p u r (y ∷ ys) (n ∷ ns) e f = (
    ap (image_by (bare q)) (own_value sg a p y (name_term x n) e.0) ∙ name_stays sg x q u n ∙ sym (own_value sg s r y (name_term x n) f.0),
    names_same a q s p u r ys ns e.1 f.1,
  )

  module _ (clauses : List (Clause Hint)) (c : Clause Hint) (listed : Contains clauses c) (well : IsClause sg c) (ts : Terms ℕ Hint) (atom_typed : HasType sg [] (spine (constant c.predicate) ts) prop)
      (cs : List Nominal) (types : map (λ a. a.type) cs ≡ map (λ z. z.type) c.names) (different : AllPairs (λ a b. a ≢ b) cs)
      (q : Substitution ℕ Hint) (q_typed : IsTyped sg q) (q_free : (y : Variable ℕ) (t : Term ℕ Hint) → value_in same_number q y ≡ Some t → All (λ a. ¬ (Contains (support t) a)) cs) where
    abbrev left : List Nominal
    left = outside (in_order (support_of_all ts)) cs

    module _ (m : ℕ) (raised : Substitution ℕ Hint) (raised_typed : IsTyped sg raised) where
      abbrev made : List (Term ℕ Hint)
      made = made_terms x m left c.variables

      abbrev guess : List (Term ℕ Hint)
      guess = map (image same_number q) made

      abbrev put : Substitution ℕ Hint
      put = filled x c made cs

      made_for : AreFor sg (clause_variables c) made
      made_for = from_cells sg x 0 c.variables made (made_terms_typed sg x m left c.variables)

      guess_for : AreFor sg (clause_variables c) guess
      guess_for = images_for q q_typed (clause_variables c) made made_for

      names_for : AreFor sg (clause_names c) (map (name_term x) cs)
      names_for = names_typed sg x (length c.variables) c.names cs types

      put_typed : IsTyped sg put
      put_typed = filled_typed sg x c made cs made_for names_for

      guess_typed : IsTyped sg (filled x c guess cs)
      guess_typed = filled_typed sg x c guess cs guess_for names_for

      any_for : (ys : List (Variable ℕ)) (vs : List (Term ℕ Hint)) → AreFor sg ys vs → Each (λ y t. Unit {0}) ys vs
      any_for = each_any (λ y t. HasType sg [] t y.type)

      guess_holds : All (HoldsNone sg cs) guess
      guess_holds = images_all q (HoldsNone sg cs) (Has (λ a. ¬ (Contains cs a)))
          (λ t h. All-from_contains (λ a. ¬ (Contains (support (image same_number q t)) a)) cs (λ a k i. has_support (λ a. ¬ (Contains cs a)) (image same_number q t)
          (image_by_has (λ a. ¬ (Contains cs a)) (value_in same_number q) (λ y v e. support_has (λ a. ¬ (Contains cs a)) v (λ b j l. All-contains (λ a. ¬ (Contains (support v) a)) cs b (q_free y v e) l j)) t h) a i k))
          (clause_variables c) made (made_have sg x (λ a. ¬ (Contains cs a)) 0 m left c.variables (λ a k. (outside_contains (in_order (support_of_all ts)) cs a k).1))

      same : (y : Variable ℕ) → holds (clause_variables c ++ clause_names c) y ≡ true → Same (bare put) (bare q) (bare (filled x c guess cs)) y
      same y h = either
          (each_held (λ y t. Same (bare put) (bare q) (bare (filled x c guess cs)) y) (Same (bare put) (bare q) (bare (filled x c guess cs))) (λ z t r. r) (clause_variables c) made
          (images_same put q (filled x c guess cs) put_typed guess_typed (clause_variables c) made
          (variables_found sg x c made cs (any_for (clause_variables c) made made_for) (any_for (clause_names c) (map (name_term x) cs) names_for))
          (variables_found sg x c guess cs (any_for (clause_variables c) guess guess_for) (any_for (clause_names c) (map (name_term x) cs) names_for))) y)
          (each_held (λ y t. Same (bare put) (bare q) (bare (filled x c guess cs)) y) (Same (bare put) (bare q) (bare (filled x c guess cs))) (λ z t r. r) (clause_names c) (map (name_term x) cs)
          (names_same put q (filled x c guess cs) put_typed q_typed guess_typed (clause_names c) cs
          (names_found sg x c made cs (any_for (clause_variables c) made made_for) (any_for (clause_names c) (map (name_term x) cs) names_for))
          (names_found sg x c guess cs (any_for (clause_variables c) guess guess_for) (any_for (clause_names c) (map (name_term x) cs) names_for))) y)
          (held_append (clause_variables c) (clause_names c) y h)

      heads_met : EqualPastHints (image same_number q (image same_number put (head_of c))) (image same_number (filled x c guess cs) (head_of c))
      heads_met = two_agree sg put q (filled x c guess cs) put_typed q_typed guess_typed well.head (λ y h. same y (well.head_variables y h))

      bodies_met : EqualPastHints (image same_number q (image same_number put c.body)) (image same_number (filled x c guess cs) c.body)
      bodies_met = two_agree sg put q (filled x c guess cs) put_typed q_typed guess_typed well.body (λ y h. same y (holds_front (clause_variables c) (clause_names c) y (well.body_variables y h)))

      atoms_met : Unifies q (arguments_equal x 0 (image_all same_number raised ts) (image_all same_number put c.arguments)) → EqualPastHints (image same_number q (image same_number raised (spine (constant c.predicate) ts))) (image same_number q (image same_number put (head_of c)))
      atoms_met u =
          let atom = arguments_of sg x (image_typed sg same_number raised raised_typed atom_typed) in
          let head = arguments_of sg x (image_typed sg same_number put put_typed well.head) in
          let some : Some head.0 ≡ Some atom.0 = sym head.1 ∙ atom.1 in
          let one : head.0 ≡ atom.0 = cc in
          ap (spine (constant c.predicate)) (unified_arguments q 0 (codes "prop") (codes "prop") (image_all same_number raised ts) (image_all same_number put c.arguments) atom.2 (subst (λ D. TakeType sg [] (image_all same_number put c.arguments) D prop) one head.2) u)

      pub solved_by : Unifies q (arguments_equal x 0 (image_all same_number raised ts) (image_all same_number put c.arguments)) → Instance sg x clauses (image same_number q (image same_number raised (spine (constant c.predicate) ts))) (image same_number q (image same_number put c.body))
      solved_by u = instance_by c guess cs listed guess_for types different guess_holds (sym heads_met ∙ sym (atoms_met u)) (sym bodies_met)

    -- each alternative is such a one
    pub alternative_solved : (side : Side) (sequent : Scope Hint) → Unifies q (alternative x sequent ts c cs side).equations
        → Instance sg x clauses (image same_number q (image same_number (alternative x sequent ts c cs side).raised (spine (constant c.predicate) ts))) (image same_number q (alternative x sequent ts c cs side).body)
    alternative_solved on_right sequent u = solved_by (length sequent.cells) [] (All-nil (λ p. HasType sg [] p.1 p.0.type)) u
    alternative_solved on_left sequent u = by_fresh (outside cs (in_order (support_of_all ts))) u
      where
        by_fresh : (fresh : List Nominal) → Unifies q (analysed x sequent ts c cs fresh).equations
            → Instance sg x clauses (image same_number q (image same_number (analysed x sequent ts c cs fresh).raised (spine (constant c.predicate) ts))) (image same_number q (analysed x sequent ts c cs fresh).body)
        by_fresh [] v = solved_by (length sequent.cells) [] (All-nil (λ p. HasType sg [] p.1 p.0.type)) v
        by_fresh (b ∷ bs) v = solved_by (length (sequent.cells ++ cells_over x (b ∷ bs) (cells_of x sequent.cells sequent.variables))) (put_together sequent.variables (made_terms x (length sequent.cells) (b ∷ bs) (cells_of x sequent.cells sequent.variables)))
            (together_typed sg sequent.variables (made_terms x (length sequent.cells) (b ∷ bs) (cells_of x sequent.cells sequent.variables)) (own_typed sg x sequent.cells sequent.variables (made_terms x (length sequent.cells) (b ∷ bs) (cells_of x sequent.cells sequent.variables)) (made_terms_typed sg x (length sequent.cells) (b ∷ bs) (cells_of x sequent.cells sequent.variables)))) v

  -- AN ALTERNATIVE OF THE LIST WHOSE EQUATIONS ARE UNIFIED GIVES AN INSTANCE
  pub listed_solved : (side : Side) (sequent : Scope Hint) (clauses : List (Clause Hint)) → All (IsClause sg) clauses → (p : List ℕ) (ts : Terms ℕ Hint) → IsAtomOf sg sequent (spine (constant p) ts)
      → (alt : Alternative Hint) → Contains (alternatives x side sequent clauses (spine (constant p) ts)) alt
      → (q : Substitution ℕ Hint) → IsTyped sg q → ((y : Variable ℕ) (t : Term ℕ Hint) → value_in same_number q y ≡ Some t → All (λ a. ¬ (Contains (support t) a)) alt.chosen) → Unifies q alt.equations
      → Instance sg x clauses (image same_number q (image same_number alt.raised (spine (constant p) ts))) (image same_number q alt.body)
  listed_solved side sequent clauses well p ts atom alt m q q_typed q_free u =
      let c_of = gathered_from (clause_alternatives x side sequent p ts) clauses alt m in
      by_test c_of.0 c_of.1 (bytes_eq c_of.0.predicate p) refl c_of.2
    where
      by_test : (c : Clause Hint) → Contains clauses c → (b : Bool) → bytes_eq c.predicate p ≡ b → Contains (cond b (map (λ ns. alternative x sequent ts c ns side) (choices (map (λ z. z.type) c.names) (in_order (support_of_all ts)) sequent.constants)) []) alt
          → Instance sg x clauses (image same_number q (image same_number alt.raised (spine (constant p) ts))) (image same_number q alt.body)
      by_test c k false e n = absurd (Contains-none alt n)
      by_test c k true e n =
          let one : c.predicate ≡ p = (bytes_eq-Decides c.predicate p).0 e in
          let ns = Contains-from_map (λ ns. alternative x sequent ts c ns side) (choices (map (λ z. z.type) c.names) (in_order (support_of_all ts)) sequent.constants) alt n in
          let right = choice_right (map (λ z. z.type) c.names) (in_order (support_of_all ts)) sequent.constants (λ a i. atom.constants_held a (contains_ordered (support_of_all ts) a i)) ns.0 ns.1 in
          subst (λ b. Instance sg x clauses (image same_number q (image same_number alt.raised (spine (constant b) ts))) (image same_number q alt.body)) one
          (subst (λ a. Instance sg x clauses (image same_number q (image same_number a.raised (spine (constant c.predicate) ts))) (image same_number q a.body)) ns.2
          (alternative_solved clauses c k (All-contains (IsClause sg) clauses c well k) ts (subst (λ b. HasType sg [] (spine (constant b) ts) prop) (sym one) atom.typed) ns.0 right.0 right.1 q q_typed (λ y t f. subst (All (λ a. ¬ (Contains (support t) a))) (sym (ap (λ a. a.chosen) ns.2) ∙ chosen_is sequent ts c ns.0 side) (q_free y t f)) side sequent (subst (λ a. Unifies q a.equations) (sym ns.2) u)))
