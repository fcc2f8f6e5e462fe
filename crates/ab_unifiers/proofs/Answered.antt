-- An alternative is a problem for the solver, and what it answers gives an instance.
use Rattle.std.proofs.Common.{◌≡◌, ℕ, suc, ◌+◌, ◌<◌, List, [], ◌∷◌, ◌++◌, map, length, Bool, true, false, cond, Some, refl, sym, ◌∙◌, ap, subst, arith, length-append}
use Rattle.std.specs.Prelude.{All, Contains, bytes_eq}
use Rattle.std.proofs.lemmas.Slice.Eq.{bytes_eq-Decides}
use Rattle.std.proofs.lemmas.Bool.{false≢true}
use Rattle.std.proofs.lemmas.List.Elements.{All-nil, All-contains}
use Rattle.ab_term.specs.Types.{prop}
use Rattle.ab_term.specs.Terms.{Nominal, Variable, constant, spine, Terms}
use Rattle.ab_term.specs.Typing.{Signature, HasType, TakeType}
use Rattle.ab_term.specs.Names.{support, support_of_all}
use Rattle.ab_term.specs.Variables.{Substitution, image, image_all, IsTyped}
use Rattle.ab_term.proofs.Compositions.{image_typed}
use Rattle.ab_term.proofs.Lists.{All-from_contains, Contains-none, Contains-from_map}
use Rattle.ab_term.specs.Sameness.{same_number}
use Rattle.ab_unifiers.specs.Replacements.{Cell}
use Rattle.ab_unifiers.specs.Unification.{unified, Solves}
use Rattle.ab_unifiers.specs.Unifiers.{AreTyped, AreKnown, given}
use Rattle.ab_unifiers.proofs.Problems.{answer_typed, answer_clean, answer_unifies}
use Rattle.ab_unifiers.specs.Clauses.{Clause, put_together, filled, IsClause, Instance}
use Rattle.ab_unifiers.specs.Choices.{in_order, outside, choices}
use Rattle.ab_unifiers.specs.Alternatives.{Scope, Alternative, Side, on_left, on_right, cells_over, cells_of, made_over, made_terms, arguments_equal, alternative, analysed, clause_alternatives, alternatives}
use Rattle.ab_unifiers.proofs.Atoms.{IsAtomOf}
use Rattle.ab_unifiers.proofs.Constants.{either}
use Rattle.ab_unifiers.proofs.Rows.{held_append, numbered_within, together_typed}
use Rattle.ab_unifiers.proofs.Lifting.{made_terms_typed}
use Rattle.ab_unifiers.proofs.Sides.{arguments_typed}
use Rattle.ab_unifiers.proofs.Unifier.{from_cells, filled_typed, arguments_of}
use Rattle.ab_unifiers.proofs.Choosing.{contains_ordered, gathered_from}
use Rattle.ab_unifiers.proofs.Matching.{choice_right}
use Rattle.ab_unifiers.proofs.Left.{own_typed}
use Rattle.ab_unifiers.proofs.Covered.{names_typed}
use Rattle.ab_unifiers.proofs.SoundCases.{listed_solved}

module _ (sg : Signature) {Hint : Type 0} (x : Hint) where
  cells_over_length : (ns : List Nominal) (cs : List (Cell Hint)) → length (cells_over x ns cs) ≡ length cs
  cells_over_length ns [] = refl
  cells_over_length ns (k ∷ ks) = ap suc (cells_over_length ns ks)

  known_by : (cells : List (Cell Hint)) (olds : List (Variable ℕ)) (ns : List Nominal) (cs : List (Cell Hint)) → AreKnown cells olds → AreKnown (cells ++ cells_over x ns cs) (olds ++ made_over x (length cells) ns cs)
  known_by cells olds ns cs k y h =
      let long : length (cells ++ cells_over x ns cs) ≡ length cells + length (cells_over x ns cs) = length-append cells (cells_over x ns cs) in
      either
      (λ o. let low : y.name < length cells = k y o in omega (arith, low, long))
      (λ z. let within : y.name < length cells + length (cells_over x ns cs) = (numbered_within (length cells) (cells_over x ns cs) y z).1 in omega (arith, within, long))
      (held_append olds (made_over x (length cells) ns cs) y h)

  raised_known : (cells : List (Cell Hint)) (ns : List Nominal) (cs : List (Cell Hint)) → AreKnown (cells ++ cells_over x ns cs) (made_over x (length cells) ns cs)
  raised_known cells ns cs y h =
      let long : length (cells ++ cells_over x ns cs) ≡ length cells + length (cells_over x ns cs) = length-append cells (cells_over x ns cs) in
      let within : y.name < length cells + length (cells_over x ns cs) = (numbered_within (length cells) (cells_over x ns cs) y h).1 in omega (arith, within, long)

  module _ (c : Clause Hint) (well : IsClause sg c) (ts : Terms ℕ Hint) (atom_typed : HasType sg [] (spine (constant c.predicate) ts) prop) (cs : List Nominal) (types : map (λ a. a.type) cs ≡ map (λ z. z.type) c.names) where
    equations_by : (m : ℕ) (ns : List Nominal) (raised : Substitution ℕ Hint) → IsTyped sg raised → AreTyped sg (arguments_equal x 0 (image_all same_number raised ts) (image_all same_number (filled x c (made_terms x m ns c.variables) cs) c.arguments))
    equations_by m ns raised raised_typed =
        let put_typed : IsTyped sg (filled x c (made_terms x m ns c.variables) cs) = filled_typed sg x c (made_terms x m ns c.variables) cs (from_cells sg x 0 c.variables (made_terms x m ns c.variables) (made_terms_typed sg x m ns c.variables)) (names_typed sg x (length c.variables) c.names cs types) in
        let atom = arguments_of sg x (image_typed sg same_number raised raised_typed atom_typed) in
        let head = arguments_of sg x (image_typed sg same_number (filled x c (made_terms x m ns c.variables) cs) put_typed well.head) in
        let some : Some head.0 ≡ Some atom.0 = sym head.1 ∙ atom.1 in
        let one : head.0 ≡ atom.0 = cc in
        arguments_typed sg x 0 (image_all same_number raised ts) (image_all same_number (filled x c (made_terms x m ns c.variables) cs) c.arguments) atom.2
        (subst (λ D. TakeType sg [] (image_all same_number (filled x c (made_terms x m ns c.variables) cs) c.arguments) D prop) one head.2)

    abbrev IsProblem : Alternative Hint → Type 0
    IsProblem a = AreTyped sg a.equations × AreKnown a.cells a.flexible

    module _ (sequent : Scope Hint) (known : AreKnown sequent.cells sequent.variables) where
      abbrev left : List Nominal
      left = outside (in_order (support_of_all ts)) cs

      by_fresh : (fresh : List Nominal) → IsProblem (analysed x sequent ts c cs fresh)
      by_fresh [] = (equations_by (length sequent.cells) left [] (All-nil (λ p. HasType sg [] p.1 p.0.type)), known_by sequent.cells sequent.variables left c.variables known)
      by_fresh (b ∷ bs) =
          let old : List (Cell Hint) = cells_of x sequent.cells sequent.variables in
          let cells : List (Cell Hint) = sequent.cells ++ cells_over x (b ∷ bs) old in (
            equations_by (length cells) left (put_together sequent.variables (made_terms x (length sequent.cells) (b ∷ bs) old))
                (together_typed sg sequent.variables (made_terms x (length sequent.cells) (b ∷ bs) old) (own_typed sg x sequent.cells sequent.variables (made_terms x (length sequent.cells) (b ∷ bs) old) (made_terms_typed sg x (length sequent.cells) (b ∷ bs) old))),
            known_by cells (made_over x (length sequent.cells) (b ∷ bs) old) left c.variables (raised_known sequent.cells (b ∷ bs) old),
          )

      pub is_problem : (side : Side) → IsProblem (alternative x sequent ts c cs side)
      is_problem on_left = by_fresh (outside cs (in_order (support_of_all ts)))
      is_problem on_right = (equations_by (length sequent.cells) left [] (All-nil (λ p. HasType sg [] p.1 p.0.type)), known_by sequent.cells [] left c.variables (λ y h. absurd (false≢true h)))

  pub listed_problem : (side : Side) (sequent : Scope Hint) (clauses : List (Clause Hint)) → All (IsClause sg) clauses → (p : List ℕ) (ts : Terms ℕ Hint) → IsAtomOf sg sequent (spine (constant p) ts)
      → (alt : Alternative Hint) → Contains (alternatives x side sequent clauses (spine (constant p) ts)) alt → AreTyped sg alt.equations × AreKnown alt.cells alt.flexible
  listed_problem side sequent clauses well p ts atom alt m =
      let c_of = gathered_from (clause_alternatives x side sequent p ts) clauses alt m in
      by_test c_of.0 c_of.1 (bytes_eq c_of.0.predicate p) refl c_of.2
    where
      by_test : (c : Clause Hint) → Contains clauses c → (b : Bool) → bytes_eq c.predicate p ≡ b → Contains (cond b (map (λ ns. alternative x sequent ts c ns side) (choices (map (λ z. z.type) c.names) (in_order (support_of_all ts)) sequent.constants)) []) alt
          → AreTyped sg alt.equations × AreKnown alt.cells alt.flexible
      by_test c k false e n = absurd (Contains-none alt n)
      by_test c k true e n =
          let one : c.predicate ≡ p = (bytes_eq-Decides c.predicate p).0 e in
          let ns = Contains-from_map (λ ns. alternative x sequent ts c ns side) (choices (map (λ z. z.type) c.names) (in_order (support_of_all ts)) sequent.constants) alt n in
          let right = choice_right (map (λ z. z.type) c.names) (in_order (support_of_all ts)) sequent.constants (λ a i. atom.constants_held a (contains_ordered (support_of_all ts) a i)) ns.0 ns.1 in
          subst (λ a. AreTyped sg a.equations × AreKnown a.cells a.flexible) ns.2
          (is_problem c (All-contains (IsClause sg) clauses c well k) ts (subst (λ b. HasType sg [] (spine (constant b) ts) prop) (sym one) atom.typed) ns.0 right.0 sequent atom.numbered side)

  pub answered_instance : (side : Side) (sequent : Scope Hint) (clauses : List (Clause Hint)) → All (IsClause sg) clauses → (p : List ℕ) (ts : Terms ℕ Hint) → IsAtomOf sg sequent (spine (constant p) ts)
      → (alt : Alternative Hint) → Contains (alternatives x side sequent clauses (spine (constant p) ts)) alt → (more : List (Cell Hint)) (q : Substitution ℕ Hint) → Solves x (given alt.equations alt.cells alt.flexible) (unified more q)
      → Instance sg x clauses (image same_number q (image same_number alt.raised (spine (constant p) ts))) (image same_number q alt.body)
  answered_instance side sequent clauses well p ts atom alt m more q s =
      let problem = listed_problem side sequent clauses well p ts atom alt m in
      listed_solved sg x side sequent clauses well p ts atom alt m q (answer_typed sg x alt.equations alt.cells alt.flexible problem.0 problem.1 more q s) (λ y t f. All-from_contains (λ a. ¬ (Contains (support t) a)) alt.chosen (λ a k i. Contains-none a (subst (λ l. Contains l a) (answer_clean sg x alt.equations alt.cells alt.flexible problem.0 problem.1 more q s y t f) i))) (answer_unifies sg x alt.equations alt.cells alt.flexible problem.0 problem.1 more q s)
