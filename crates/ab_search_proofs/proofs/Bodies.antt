-- What a clause leaves to be shown is a formula over the goal's variables.
use Rattle.std.proofs.Common.{◌≡◌, inl, inr, ℕ, List, [], ◌∷◌, map, length, codes, Some, sym, ◌∙◌, ap, subst}
use Rattle.std.specs.Prelude.{All, Contains}
use Rattle.std.proofs.lemmas.Bool.{false≢true}
use Rattle.std.proofs.lemmas.List.Elements.{All-nil, All-contains, All-head, All-tail}
use Rattle.ab_term.specs.Terms as tree
use Rattle.ab_term.specs.Terms.{Nominal, nominal, no_terms, Read}
use Rattle.ab_term.specs.Typing.{HasType}
use Rattle.ab_term.specs.Variables.{Substitution, variables, value_in, image, IsTyped}
use Rattle.ab_term.specs.Sameness.{same_number}
use Rattle.ab_term.proofs.Lists.{All-from_contains}
use Rattle.ab_term.proofs.Stands.{variables-image, variables-expansion_of}
use Rattle.ab_unifiers.specs.Clauses.{Clause, clause_variables, clause_names, put_together, filled, name_term, Each, AreFor}
use Rattle.ab_unifiers.proofs.Agreeing.{contains_holds}
use Rattle.ab_unifiers.proofs.Covered.{names_typed}
use Rattle.ab_unifiers.proofs.Rows.{each_any, found_has, found_none, nothing_found}
use Rattle.ab_unifiers.proofs.Unifier.{filled_typed, append-none}
use Rattle.ab_formulas.specs.Declarations.{Declarations, signature_in, IsDefining}
use Rattle.ab_formulas.specs.BodyMarks.{mark_above}
use Rattle.ab_formulas.specs.GoalTerms.{HoldsOnly}
use Rattle.ab_formulas.proofs.Images.{image_formula}
use Rattle.ab_formulas.proofs.MarkedFormulas.{marked_formula, marked_variables}
use Rattle.ab_theory.specs.Atoms.{Defined}
use Rattle.ab_search_proofs.specs.Proved.{IsByClause, body_by}
use Rattle.ab_search_proofs.proofs.Parts.{IsPart}

each_all : {X : Type 0} (Q : Read → Type 0) (R : X → Read → Type 0) (ys : List X) (us : List Read) → Each R ys us → All Q us → Each (λ y t. Q t) ys us
each_all Q R [] [] e all = tt
each_all Q R [] (u ∷ us) e all = absurd e
each_all Q R (y ∷ ys) [] e all = absurd e
each_all Q R (y ∷ ys) (u ∷ us) e all = (All-head Q u us all, each_all Q R ys us e.1 (All-tail Q u us all))

module _ (D : Declarations) (ys : List (tree.Variable ℕ)) (C : Read) (d : Defined) (c : Clause (List ℕ)) (us : List Read) (ns : List Nominal) (i : IsByClause D ys C d c us ns) (defining : IsDefining (signature_in D) c) where
  abbrev put : Substitution ℕ (List ℕ)
  put = filled (codes "x") c us ns

  pub names_for : AreFor (signature_in D) (clause_names c) (map (name_term (codes "x")) ns)
  names_for = names_typed (signature_in D) (codes "x") (length c.variables) c.names ns i.types

  pub put_typed : IsTyped (signature_in D) put
  put_typed = filled_typed (signature_in D) (codes "x") c us ns i.terms names_for

  name_known : (a : Nominal) → HoldsOnly ys (name_term (codes "x") a)
  name_known a = subst (All (Contains ys)) (sym (variables-expansion_of (codes "x") a.type (nominal a) no_terms)) (All-nil (Contains ys))

  names_known : (zs : List (tree.Variable ℕ)) (as_ : List Nominal) → AreFor (signature_in D) zs (map (name_term (codes "x")) as_) → Each (λ y t. HoldsOnly ys t) zs (map (name_term (codes "x")) as_)
  names_known [] [] e = tt
  names_known [] (a ∷ as_) e = absurd e
  names_known (z ∷ zs) [] e = absurd e
  names_known (z ∷ zs) (a ∷ as_) e = (name_known a, names_known zs as_ e.1)

  put_known : (y : tree.Variable ℕ) (t : Read) → value_in same_number put y ≡ Some t → HoldsOnly ys t
  put_known = found_has (HoldsOnly ys) (clause_variables c) us (put_together (clause_names c) (map (name_term (codes "x")) ns)) (each_all (HoldsOnly ys) (λ y t. HasType (signature_in D) [] t y.type) (clause_variables c) us i.terms i.known)
      (λ y t e. found_has (HoldsOnly ys) (clause_names c) (map (name_term (codes "x")) ns) [] (names_known (clause_names c) ns names_for) (nothing_found (HoldsOnly ys)) y t (ap (λ l. value_in same_number l y) (append-none (put_together (clause_names c) (map (name_term (codes "x")) ns))) ∙ e))

  pub body_part : IsPart (signature_in D) ys (body_by d c us ns)
  body_part = record {
    formula = marked_formula (signature_in D) d.block.predicates (mark_above d.sign) (image same_number put c.body) (image_formula (signature_in D) put put_typed c.body defining.body);
    known = subst (All (Contains ys)) (sym (marked_variables d.block.predicates (mark_above d.sign) (image same_number put c.body)))
        (All-from_contains (Contains ys) (variables (image same_number put c.body)) (λ z m. elim (variables-image (value_in same_number put) c.body z m) [
          | inl a ↦ absurd (false≢true (sym (found_none (clause_variables c) us (put_together (clause_names c) (map (name_term (codes "x")) ns)) (each_any (λ y t. HasType (signature_in D) [] t y.type) (clause_variables c) us i.terms) z a.1).0
              ∙ defining.clause.body_variables z (contains_holds (variables c.body) z a.0)))
          | inr b ↦ All-contains (Contains ys) (variables b.1) z (put_known b.0 b.1 (b.2).1) b.3
        ]));
  }
