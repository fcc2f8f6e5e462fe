-- ON THE PATH OF AN ANSWER: what is put in at last is the answer of the way's equations, what is put in from there on, and the fillings of the answer.
use Rattle.std.proofs.Common.{◌≡◌, ◌⊎◌, inl, inr, ℕ, ◌≤◌, List, [], map, length, codes, true, Some, sym, ◌∙◌, ap, subst}
use Rattle.std.specs.Prelude.{Contains}
use Rattle.ab_term.specs.Types.{Ty, prop}
use Rattle.ab_term.specs.Terms.{Nominal, Variable, constant, spine, Read}
use Rattle.ab_term.specs.Typing.{Signature, HasType}
use Rattle.ab_term.specs.Names.{support_of_all}
use Rattle.ab_term.specs.Variables.{Substitution, variables, image, image_all, composition}
use Rattle.ab_term.specs.Sameness.{same_number}
use Rattle.ab_term.proofs.Lists.{Contains-none, Contains-cases}
use Rattle.ab_unifiers.specs.Replacements.{Cell, holds}
use Rattle.ab_unifiers.specs.Unification.{unified, Solves}
use Rattle.ab_unifiers.specs.Alternatives.{made_terms}
use Rattle.ab_unifiers.specs.Choices.{in_order, outside}
use Rattle.ab_unifiers.proofs.Choosing.{contains_ordered, in_or_outside}
use Rattle.ab_formulas.specs.Declarations.{Declarations, HaveDefinitions, signature_in}
use Rattle.ab_formulas.specs.GoalTerms.{HoldsOnly}
use Rattle.ab_theory.specs.Atoms.{Defined, Choice, defined_atom, choices_of}
use Rattle.ab_search_trees.specs.Goals.{Goal, Now}
use Rattle.ab_search_trees.specs.Outcomes.{filling}
use Rattle.ab_search_trees.specs.Tree.{problem_of, now_after}
use Rattle.ab_search_trees.specs.Ways.{Way, unfolds, by_choice}
use Rattle.ab_search_trees.proofs.Carried.{AreFlexible}
use Rattle.ab_search_trees.proofs.Clauses.{constants_more, constants_new}
use Rattle.ab_search_trees.proofs.Facts.{IsTask}
use Rattle.ab_search_trees.proofs.Own.{atom_known}
use Rattle.ab_search_trees.proofs.Shows.{IsLater}
use Rattle.ab_search_proofs.specs.Proved.{IsByClause, body_by}
use Rattle.ab_search_clauses.specs.Paths.{at_last, atom_at_last, terms_at_last, IsAtLast}
use Rattle.ab_search_clauses.proofs.Evidence as evidence
use Rattle.ab_search_clauses.proofs.Evidence.{is_by_clause, left_is}
use Rattle.ab_search_clauses.proofs.Taken as taken
use Rattle.ab_search_clauses.proofs.Path as path

module _ (D : Declarations) (defs : HaveDefinitions D) (now last : Now) (g : Goal) (depth : ℕ) (d : Defined) (c : Choice) (ys : List (Variable ℕ)) (more : List (Cell (List ℕ))) (q n : Substitution ℕ (List ℕ))
    (flexible : AreFlexible now) (t : IsTask (signature_in D) now g) (branch : (a : Nominal) → Contains g.constants a → Contains now.held a)
    (is : defined_atom D g.conclusion ≡ Some d) (there : Contains (choices_of g.constants d) c) (solves : Solves (codes "x") (problem_of (by_choice D now g depth d c)) (unified more q))
    (later : IsLater (signature_in D) (now_after now (by_choice D now g depth d c) more q) n) (held : (a : Nominal) → Contains (now_after now (by_choice D now g depth d c) more q).held a → Contains last.held a) where
  abbrev sg : Signature
  sg = signature_in D

  abbrev x : List ℕ
  x = codes "x"

  abbrev w : Way
  w = by_choice D now g depth d c

  abbrev fill : Substitution ℕ (List ℕ)
  fill = filling last.held last.flexible

  abbrev put_in : Substitution ℕ (List ℕ)
  put_in = composition same_number q n

  -- all that is put in from here on
  abbrev pub in_the_end : Substitution ℕ (List ℕ)
  in_the_end = composition same_number q (composition same_number n (filling last.held last.flexible))

  -- in one step or in three
  steps : {G : List Ty} {u : Read} {A : Ty} → HasType sg G u A → image same_number in_the_end u ≡ at_last put_in fill u
  steps = path.steps D now last g w (taken.typed D defs now flexible g t depth d is c there) (taken.holds_cells D defs now flexible g t depth d is c there) (taken.are_cells D defs now flexible g t depth d is c there) t more q n solves later

  -- the constants that were chosen are held
  chosen_held : (a : Nominal) → Contains c.names a → Contains last.held a
  chosen_held a m = held a (elim (in_or_outside c.names (in_order (support_of_all d.arguments)) a m) [
    | inl i ↦ constants_more w.taken now.held a (branch a ((atom_known D now flexible g.constants g.untouched g.conclusion t.conclusion d is).1.constants a (contains_ordered (support_of_all d.arguments) a i)))
    | inr i ↦ constants_new w.taken now.held a i
  ])

  module _ (known : (u : Read) → ((y : Variable ℕ) → Contains (variables u) y → Contains (variables g.conclusion) y ⊎ ((holds w.flexible y ≡ true) × (length now.cells ≤ y.name))) → HoldsOnly ys (image same_number in_the_end u)) where
    is_last : IsAtLast sg now g w c.names ys put_in fill
    is_last = path.is_last D now last g w (taken.typed D defs now flexible g t depth d is c there) (taken.holds_cells D defs now flexible g t depth d is c there) (taken.are_cells D defs now flexible g t depth d is c there) t more q n solves later c.names chosen_held ys known

    -- what becomes of the variables that the way brings
    abbrev pub terms : List Read
    terms = map (image same_number in_the_end) (made_terms (codes "x") (length now.cells) (outside (in_order (support_of_all d.arguments)) c.names) c.clause.variables)

    terms_are : terms ≡ terms_at_last put_in fill now d c
    terms_are = path.made_steps D now last g w (taken.typed D defs now flexible g t depth d is c there) (taken.holds_cells D defs now flexible g t depth d is c there) (taken.are_cells D defs now flexible g t depth d is c there) t more q n solves later
        (length now.cells) (outside (in_order (support_of_all d.arguments)) c.names) c.clause.variables

    -- THE CLAUSE GIVES THE ATOM in the end
    pub gives : unfolds d.sign ≡ true → IsByClause D ys (image same_number in_the_end g.conclusion) (record d { arguments = image_all same_number in_the_end d.arguments }) c.clause terms c.names
    gives may =
        let whole = (atom_known D now flexible g.constants g.untouched g.conclusion t.conclusion d is).0 in
        let both : image same_number in_the_end (spine (constant d.predicate) d.arguments) ≡ at_last put_in fill (spine (constant d.predicate) d.arguments) = steps whole in
        let arguments : image_all same_number in_the_end d.arguments ≡ image_all same_number fill (image_all same_number put_in d.arguments) = cc in
        let us = terms_at_last put_in fill now d c in
        subst (λ l. IsByClause D ys (image same_number in_the_end g.conclusion) (record d { arguments = image_all same_number in_the_end d.arguments }) c.clause l c.names) (sym terms_are)
        (subst (λ l. IsByClause D ys (image same_number in_the_end g.conclusion) (record d { arguments = l }) c.clause us c.names) (sym arguments)
        (subst (λ C. IsByClause D ys C (atom_at_last put_in fill d) c.clause us c.names) (sym (steps t.conclusion.formula.typed))
        (is_by_clause D defs now flexible g t depth d is c there ys put_in fill is_last more q solves may)))

    -- and its body is what is left
    pub leaves : (h : Goal) → Contains w.goals h → image same_number in_the_end h.conclusion ≡ body_by (record d { arguments = image_all same_number in_the_end d.arguments }) c.clause terms c.names
    leaves h m = steps (left_typed h m) ∙ left_is D defs now flexible g t depth d is c there ys put_in fill is_last more q solves h m
        ∙ ap (λ l. body_by (record d { arguments = image_all same_number in_the_end d.arguments }) c.clause l c.names) (sym terms_are)
      where
        left_typed : (h : Goal) → Contains w.goals h → HasType sg [] h.conclusion prop
        left_typed h m =
            let next = evidence.next D defs now flexible g t depth d is c there ys put_in fill is_last more q solves in
            elim (Contains-cases next [] h m) [
              | inl e ↦ subst (λ (k : Goal). HasType sg [] k.conclusion prop) e (taken.left_formula D defs now flexible g t depth d is c there).typed
              | inr i ↦ absurd (Contains-none h i)
            ]
