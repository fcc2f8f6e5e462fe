-- WHAT A CONCLUSION UNFOLDS TO IS AN INSTANCE of its definition, whatever terms without the chosen constants are put for the variables
-- that are left open.
use Rattle.std.specs.Prelude.{All, AllPairs, Contains, Option, Some, None, slice_get}
use Rattle.std.proofs.Common.{◌≡◌, ◌≢◌, inl, inr, ℕ, ◌<◌, ◌≤◌, Bool, true, false, cond, ◌||◌, List, [], ◌∷◌, ◌++◌, map, length, codes, refl, sym, ◌∙◌, ap, subst, arith, length-append}
use Rattle.std.proofs.lemmas.List.Elements.{All-contains, All-weaker}
use Rattle.std.proofs.lemmas.Option.{slice_get_within}
use Rattle.std.proofs.Math.Seq.{drop-append_seam}
use Rattle.ab_term.specs.Types.{prop}
use Rattle.ab_term.specs.Terms as tree
use Rattle.ab_term.specs.Terms.{Nominal, constant, spine, Terms, Read}
use Rattle.ab_term.specs.Typing.{Signature, HasType}
use Rattle.ab_term.specs.Names.{support, support_of_all}
use Rattle.ab_term.specs.Translation.{forget}
use Rattle.ab_term.specs.Variables.{Substitution, variables, value_in, image, image_by, composition, IsTyped}
use Rattle.ab_term.specs.Sameness.{same_numbered, same_number}
use Rattle.ab_term.proofs.Compositions.{then_by, value_in-composition, image_typed, image-composition, composition_typed}
use Rattle.ab_term.proofs.Depends.{image_unmoved}
use Rattle.ab_term.proofs.Lists.{Contains-none, Contains-from_map, All-from_contains}
use Rattle.ab_unifiers.specs.Replacements.{Cell, holds}
use Rattle.ab_unifiers.specs.Unification.{Equation, unified, Solves}
use Rattle.ab_unifiers.specs.Unifiers.{given, keys, AreTyped, AreKnown, Unifies, Comes}
use Rattle.ab_unifiers.specs.Clauses.{Clause, filled, IsClause, HoldsNone, Instance}
use Rattle.ab_unifiers.specs.Choices.{in_order, outside, choices}
use Rattle.ab_unifiers.specs.Alternatives.{Alternative, Scope, alternative, on_right, cells_over, made_over, made_terms}
use Rattle.ab_unifiers.proofs.Answered.{is_problem}
use Rattle.ab_unifiers.proofs.Choosing.{contains_ordered}
use Rattle.ab_unifiers.proofs.Constants.{has_support, support_has, image_by_has}
use Rattle.ab_unifiers.proofs.Covered.{names_typed}
use Rattle.ab_unifiers.proofs.Lifting.{made_terms_typed}
use Rattle.ab_unifiers.proofs.Matching.{choice_right}
use Rattle.ab_unifiers.proofs.Once.{answer_once}
use Rattle.ab_unifiers.proofs.Past.{bare, forget-image}
use Rattle.ab_unifiers.proofs.Problems.{answer_typed, answer_clean, answer_unifies}
use Rattle.ab_unifiers.proofs.Rows.{numbered_within}
use Rattle.ab_unifiers.proofs.Ruling.{image_none}
use Rattle.ab_unifiers.proofs.SoundCases.{alternative_solved}
use Rattle.ab_unifiers.proofs.Unifier.{from_cells, filled_typed}
use Rattle.ab_formulas.specs.Declarations.{Declarations, IsDefining, HaveDefinitions, signature_in}
use Rattle.ab_formulas.specs.Sequents.{Variable, Sequent, IsSequent, goal_names, in_terms}
use Rattle.ab_theory.specs.Equations.{AreCells}
use Rattle.ab_theory.specs.Splits.{problem_of, cell_for}
use Rattle.ab_theory.specs.Atoms.{Defined, Choice, defined_atom, choices_of}
use Rattle.ab_theory.specs.Analysis.{scope_of}
use Rattle.ab_theory.specs.Unfolding.{unfolding_case}
use Rattle.ab_theory.proofs.Analysed.{chosen_from}
use Rattle.ab_theory.proofs.Raised.{known_there}
use Rattle.ab_theory.proofs.Sequents.{goal_of}
use Rattle.ab_theory.proofs.Sized.{IsAtomOver, atom_of, atom_over}

-- what has a value is a key
some_key : (s : Substitution ℕ (List ℕ)) (y : tree.Variable ℕ) (u : Read) → value_in same_number s y ≡ Some u → holds (keys s) y ≡ true
some_key [] y u e = absurd (cc)
some_key (p ∷ s) y u e = by_test (some_key s y u) (same_numbered p.0 y) refl e
  where
    by_test : (value_in same_number s y ≡ Some u → holds (keys s) y ≡ true) → (b : Bool) → same_numbered p.0 y ≡ b → cond b (Some p.1) (value_in same_number s y) ≡ Some u → (b || holds (keys s) y) ≡ true
    by_test rest true t e = refl
    by_test rest false t e = rest e

module _ (D : Declarations) (definitions : HaveDefinitions D) (s : Sequent) (is : IsSequent D s) (d : Defined) (is_atom : defined_atom D s.conclusion ≡ Some d) (cells : List (Cell (List ℕ))) (are : AreCells cells s) where
  abbrev sg : Signature
  sg = signature_in D

  abbrev ts : Terms ℕ (List ℕ)
  ts = d.arguments

  abbrev scope : Scope (List ℕ)
  scope = scope_of cells s

  atom : IsAtomOver (signature_in D) s.variables (goal_names s) d
  atom = atom_over D s.variables (goal_names s) s.conclusion d (goal_of D s is).conclusion is_atom

  clauses_well : All (IsClause (signature_in D)) d.block.clauses
  clauses_well = All-weaker (IsDefining (signature_in D)) (IsClause (signature_in D)) (λ c w. w.clause) d.block.clauses (definitions d.predicate d.block (atom_of D s.conclusion d is_atom).block)

  module _ (c : Clause (List ℕ)) (listed : Contains d.block.clauses c) (of_it : c.predicate ≡ d.predicate) (ns : List Nominal) (choice : Contains (choices (map (λ z. z.type) c.names) (in_order (support_of_all d.arguments)) (goal_names s)) ns)
      (more : List (Cell (List ℕ))) (answer : Substitution ℕ (List ℕ)) (solves : Solves (codes "x") (problem_of (unfolding_case cells s d (record { clause = c; names = ns }))) (unified more answer))
      (r : Substitution ℕ (List ℕ)) (r_typed : IsTyped (signature_in D) r) (r_free : (y : tree.Variable ℕ) (t : Read) → value_in same_number r y ≡ Some t → HoldsNone (signature_in D) ns t)
      (r_away : (x : Variable) → Contains s.variables x → value_in same_number r (in_terms x) ≡ None) where
    abbrev left : List Nominal
    left = outside (in_order (support_of_all ts)) ns

    abbrev own : List (Cell (List ℕ))
    own = cells_over (codes "x") left c.variables

    abbrev alt : Alternative (List ℕ)
    alt = alternative (codes "x") scope ts c ns on_right

    abbrev q : Substitution ℕ (List ℕ)
    q = composition same_number answer r

    well : IsClause sg c
    well = All-contains (IsClause sg) d.block.clauses c clauses_well listed

    right : (map (λ a. a.type) ns ≡ map (λ z. z.type) c.names) × AllPairs (λ a b. a ≢ b) ns
    right = let is_right = choice_right (map (λ z. z.type) c.names) (in_order (support_of_all ts)) (goal_names s) (λ a i. atom.held a (contains_ordered (support_of_all ts) a i)) ns choice in (is_right.0, is_right.1)

    typed_atom : HasType sg [] (spine (constant c.predicate) ts) prop
    typed_atom = subst (λ p. HasType sg [] (spine (constant p) ts) prop) (sym of_it) atom.typed

    problem : AreTyped sg alt.equations × AreKnown alt.cells alt.flexible
    problem = is_problem sg (codes "x") c well ts typed_atom ns right.0 scope (known_there cells s.variables are) on_right

    solves_so : Solves (codes "x") (given alt.equations alt.cells alt.flexible) (unified more answer)
    solves_so = subst (λ (l : List (Cell (List ℕ))). Solves (codes "x") (given alt.equations (cells ++ l) alt.flexible) (unified more answer)) (drop-append_seam cells own) solves

    a_typed : IsTyped sg answer
    a_typed = answer_typed sg (codes "x") alt.equations alt.cells alt.flexible problem.0 problem.1 more answer solves_so

    q_typed : IsTyped sg q
    q_typed = composition_typed sg same_number answer a_typed r r_typed

    through : (es : List (Equation (List ℕ))) → AreTyped sg es → Unifies answer es → Unifies q es
    through [] typed u = tt
    through (e ∷ es) typed u = (
      ap forget (image-composition sg same_number answer a_typed r r_typed typed.0.2)
          ∙ forget-image r (image same_number answer e.left)
          ∙ ap (image_by (bare r)) u.0
          ∙ sym (forget-image r (image same_number answer e.right))
          ∙ sym (ap forget (image-composition sg same_number answer a_typed r r_typed typed.0.3)),
      through es typed.1 u.1,
    )

    abbrev Other : Nominal → Type 0
    Other a = Contains ns a → ⊥

    q_free : (y : tree.Variable ℕ) (t : Read) → value_in same_number q y ≡ Some t → All (λ a. ¬ (Contains (support t) a)) ns
    q_free y t e = by_value (value_in same_number answer y) refl (sym (value_in-composition same_number answer r y) ∙ e)
      where
        by_value : (o : Option Read) → value_in same_number answer y ≡ o → then_by (value_in same_number r) y o ≡ Some t → All (λ a. ¬ (Contains (support t) a)) ns
        by_value None is f = r_free y t f
        by_value (Some u) is f =
            let same : image_by (value_in same_number r) u ≡ t = cc in
            let clean : support u ≡ [] = answer_clean sg (codes "x") alt.equations alt.cells alt.flexible problem.0 problem.1 more answer solves_so y u is in
            let has = image_by_has Other (value_in same_number r) (λ z v g. support_has Other v (λ a m k. All-contains (λ b. ¬ (Contains (support v) b)) ns a (r_free z v g) k m)) u
            (support_has Other u (λ a m. absurd (Contains-none a (subst (λ l. Contains l a) clean m)))) in
            All-from_contains (λ a. ¬ (Contains (support t) a)) ns (λ a k m. has_support Other (image_by (value_in same_number r) u) has a (subst (λ v. Contains (support v) a) (sym same) m) k)

    -- the atom stays as it is
    no_value : (x : Variable) → Contains s.variables x → value_in same_number answer (in_terms x) ≡ None
    no_value x there = by_value (value_in same_number answer (in_terms x)) refl
      where
        low : x.number < length cells
        low = slice_get_within cells x.number (cell_for x) (All-contains (λ (z : Variable). slice_get cells z.number ≡ Some (cell_for z)) s.variables x are there)

        high : Comes (length (cells ++ own)) (made_over (codes "x") (length cells) left c.variables) (length more) (in_terms x) → length cells ≤ x.number
        high (inl flexible) = (numbered_within (length cells) own (in_terms x) flexible).0
        high (inr made) = let long = length-append cells own in let m = made.0 in omega (arith, long, m)

        by_value : (o : Option Read) → value_in same_number answer (in_terms x) ≡ o → value_in same_number answer (in_terms x) ≡ None
        by_value None e = e
        by_value (Some u) e =
            let comes = (answer_once (codes "x") alt.equations alt.cells alt.flexible problem.1 more answer solves_so).1 (in_terms x) (some_key answer (in_terms x) u e) in
            let h = high comes in
            let l = low in
            absurd (omega (arith, h, l))

    atom_stays : image same_number q (image same_number [] (spine (constant c.predicate) ts)) ≡ spine (constant d.predicate) ts
    atom_stays =
        ap (image same_number q) (image_none (spine (constant c.predicate) ts) ∙ ap (λ p. spine (constant p) ts) of_it)
        ∙ image_unmoved (value_in same_number q) (spine (constant d.predicate) ts)
        (λ y there.
        let x = Contains-from_map in_terms s.variables y (All-contains (Contains (map in_terms s.variables)) (variables (spine (constant d.predicate) ts)) y atom.closed there) in
        subst (λ v. value_in same_number q v ≡ None) x.2
        (value_in-composition same_number answer r (in_terms x.0) ∙ ap (then_by (value_in same_number r) (in_terms x.0)) (no_value x.0 x.1) ∙ r_away x.0 x.1))

    put_typed : IsTyped sg (filled (codes "x") c (made_terms (codes "x") (length cells) left c.variables) ns)
    put_typed =
        filled_typed sg (codes "x") c (made_terms (codes "x") (length cells) left c.variables) ns
        (from_cells sg (codes "x") 0 c.variables (made_terms (codes "x") (length cells) left c.variables) (made_terms_typed sg (codes "x") (length cells) left c.variables))
        (names_typed sg (codes "x") (length c.variables) c.names ns right.0)

    pub instance_given : Instance sg (codes "x") d.block.clauses (spine (constant d.predicate) ts) (image same_number r (image same_number answer alt.body))
    instance_given =
        let raw = alternative_solved sg (codes "x") d.block.clauses c listed well ts typed_atom ns right.0 right.1 q q_typed q_free on_right scope
        (through alt.equations problem.0 (answer_unifies sg (codes "x") alt.equations alt.cells alt.flexible problem.0 problem.1 more answer solves_so)) in
        subst (λ A. Instance sg (codes "x") d.block.clauses A (image same_number r (image same_number answer alt.body))) atom_stays
        (subst (Instance sg (codes "x") d.block.clauses (image same_number q (image same_number [] (spine (constant c.predicate) ts))))
        (image-composition sg same_number answer a_typed r r_typed (image_typed sg same_number (filled (codes "x") c (made_terms (codes "x") (length cells) left c.variables) ns) put_typed well.body)) raw)

  -- by a choice
  pub unfolded_instance : (c : Choice) → Contains (choices_of (goal_names s) d) c → (more : List (Cell (List ℕ))) (answer : Substitution ℕ (List ℕ)) → Solves (codes "x") (problem_of (unfolding_case cells s d c)) (unified more answer)
      → (r : Substitution ℕ (List ℕ)) → IsTyped (signature_in D) r → ((y : tree.Variable ℕ) (t : Read) → value_in same_number r y ≡ Some t → HoldsNone (signature_in D) c.names t)
      → ((x : Variable) → Contains s.variables x → value_in same_number r (in_terms x) ≡ None)
      → Instance (signature_in D) (codes "x") d.block.clauses (spine (constant d.predicate) d.arguments) (image same_number r (image same_number answer (alternative (codes "x") (scope_of cells s) d.arguments c.clause c.names on_right).body))
  unfolded_instance c there more answer solves r r_typed r_free r_away =
      let chosen = chosen_from (goal_names s) d c there in
      let h : Choice = record { clause = chosen.clause; names = chosen.names } in
      subst (λ (k : Choice). Instance (signature_in D) (codes "x") d.block.clauses (spine (constant d.predicate) d.arguments) (image same_number r (image same_number answer (alternative (codes "x") (scope_of cells s) d.arguments k.clause k.names on_right).body))) chosen.is
      (instance_given chosen.clause chosen.listed chosen.of_it chosen.names chosen.choice more answer
      (subst (λ (k : Choice). Solves (codes "x") (problem_of (unfolding_case cells s d k)) (unified more answer)) (sym chosen.is) solves) r r_typed
      (λ y t e. subst (λ (k : Choice). HoldsNone (signature_in D) k.names t) (sym chosen.is) (r_free y t e)) r_away)
