-- THE WAY BY A CLAUSE of a definition, where a guess makes the conclusion an instance of it.
use Rattle.std.proofs.Common.{◌≡◌, ◌⊎◌, inl, inr, ℕ, suc, List, [], ◌∷◌, map, length, codes, Bool, true, false, cond, not, Some, refl, sym, ◌∙◌, ap, subst}
use Rattle.std.specs.Prelude.{Contains}
use Rattle.ab_term.specs.Terms.{Nominal, constant, spine, Read}
use Rattle.ab_term.specs.Names.{support_of_all}
use Rattle.ab_term.specs.Translation.{forget, forget_all}
use Rattle.ab_term.specs.Variables.{image, image_all_by}
use Rattle.ab_term.specs.Sameness.{same_number}
use Rattle.ab_term.proofs.Lists.{Contains-here, Contains-there, Contains-map}
use Rattle.ab_unifiers.proofs.Following.{Put}
use Rattle.ab_unifiers.specs.Clauses.{filled}
use Rattle.ab_unifiers.specs.Alternatives.{made_terms}
use Rattle.ab_unifiers.specs.Choices.{is_in, in_order, outside}
use Rattle.ab_unifiers.proofs.Choosing.{in_contains, contains_in, ordered_contains, contains_ordered}
use Rattle.ab_formulas.specs.Declarations.{Declarations, signature_in, HaveDefinitions}
use Rattle.ab_formulas.specs.Formulas.{IsFormula}
use Rattle.ab_formulas.proofs.Images.{image_formula}
use Rattle.ab_formulas.specs.BodyMarks.{mark_above, marked_in}
use Rattle.ab_theory.specs.Atoms.{Defined, Choice, defined_atom, choices_of}
use Rattle.ab_search_trees.specs.Goals.{Goal, Now}
use Rattle.ab_search_trees.specs.Ways.{unfolds, with_constants, by_choice, by_definition}
use Rattle.ab_search_trees.specs.Guesses.{IsGuessedFor, unfolded_to}
use Rattle.ab_search_trees.proofs.Forms.{MakesAll, form_made}
use Rattle.ab_search_trees.proofs.Facts.{IsTask, form_facts}
use Rattle.ab_search_trees.proofs.Against.{IsState, IsGuess}
use Rattle.ab_search_trees.proofs.ByForm.{none_serve}
use Rattle.ab_search_trees.proofs.ByClause.{choice_names}
use Rattle.ab_search_trees.proofs.Growing.{each_grown}
use Rattle.ab_search_trees.proofs.Hypotheses.{made_names}
use Rattle.ab_search_trees.proofs.Smaller.{choice_defining}
use Rattle.ab_search_trees.proofs.Atoms.{atom_lifts, choice_lifts}
use Rattle.ab_search_trees.proofs.Bodies.{makes_marked}
use Rattle.ab_search_trees.proofs.Clauses.{with_clause, amid_clause, clause_state, clause_grown, clause_alike, clause_body, put_typed}
use Rattle.ab_search_completeness.proofs.Going.{Goes}
use Rattle.ab_search_completeness.proofs.Connectives.{in_definition}

-- those outside of two lists are the same where no element tells them apart
outside_same : (xs ys zs : List Nominal) → ((a : Nominal) → Contains xs a → is_in ys a ≡ is_in zs a) → outside xs ys ≡ outside xs zs
outside_same [] ys zs f = refl
outside_same (x ∷ xs) ys zs f =
    ap (λ b. cond (not b) (x ∷ outside xs ys) (outside xs ys)) (f x (Contains-here x xs))
    ∙ ap (λ l. cond (not (is_in zs x)) (x ∷ l) l) (outside_same xs ys zs (λ a m. f a (Contains-there x xs a m)))

is_or_not : (xs : List Nominal) (a : Nominal) → (Contains xs a → ⊥) → is_in xs a ≡ false
is_or_not xs a n = go (is_in xs a) refl
  where
    go : (b : Bool) → is_in xs a ≡ b → b ≡ false
    go true e = absurd (n (in_contains xs a e))
    go false e = refl

-- a chosen constant is told to be of one list as of the other
told : (held few many : List Nominal) → ((a : Nominal) → Contains few a → Contains many a) → ((a : Nominal) → Contains many a → Contains held a) → (a : Nominal) → Contains few a ⊎ ¬ (Contains held a) → is_in few a ≡ is_in many a
told held few many up in_held a (inl m) = contains_in few a m ∙ sym (contains_in many a (up a m))
told held few many up in_held a (inr n) = is_or_not few a (λ m. n (in_held a (up a m))) ∙ sym (is_or_not many a (λ m. n (in_held a m)))

module _ (D : Declarations) (defs : HaveDefinitions D) (now : Now) (f : Put) (s : IsState (signature_in D) now f) (g h : Goal) (t : IsTask (signature_in D) now g) (a : IsGuess f g h) where
  atom_names : (e d : Defined) → MakesAll f e.arguments d.arguments → e.predicate ≡ d.predicate → (b : Nominal) → Contains (support_of_all d.arguments) b → Contains (support_of_all e.arguments) b
  atom_names e d m p = made_names D now f s (spine (constant e.predicate) e.arguments) (spine (constant d.predicate) d.arguments) (ap (λ k. spine (constant k) (image_all_by f (forget_all e.arguments))) p ∙ ap (spine (constant d.predicate)) m)

  pub goes_clause : (depth : ℕ) (d : Defined) (c : Choice) (us : List Read) → h.depth ≡ suc depth → defined_atom D h.conclusion ≡ Some d → unfolds d.sign ≡ true → Contains (choices_of h.constants d) c → IsGuessedFor (signature_in D) d c us
      → Goes D now f g (unfolded_to depth h d c us ∷ [])
  goes_clause depth d c us deep is may there guess =
      let sg = signature_in D in
      let known = atom_lifts f D sg now g.constants g.untouched g.conclusion h.conclusion d t.conclusion a.conclusion (form_made f g.conclusion h.conclusion t.conclusion.formula.stands a.conclusion) (form_facts sg now g.constants g.untouched g.conclusion t.conclusion) is in
      let e = known.atom in
      let held : Contains (choices_of g.constants d) c = subst (λ ns. Contains (choices_of ns d) c) a.constants there in
      let defining = choice_defining D defs h.conclusion d is h.constants c there in
      let more : (b : Nominal) → Contains (support_of_all d.arguments) b → Contains (support_of_all e.arguments) b = atom_names e d known.arguments known.predicate in
      let few = in_order (support_of_all d.arguments) in
      let many = in_order (support_of_all e.arguments) in
      let chosen = choice_names g.constants d (λ b q. known.facts.constants b (more b q)) c held in
      let mine : Contains (choices_of g.constants e) c = choice_lifts g.constants e d known.predicate known.block more c held in
      let w = by_choice D now g depth e c in
      let m1 = amid_clause D now f s g.constants g.untouched e d known.arguments known.predicate known.typed known.facts c defining chosen.0 us guess in
      let f1 = with_clause D now f s g.constants g.untouched e d known.arguments known.predicate known.typed known.facts c defining chosen.0 us guess in
      let state = clause_state D now f s g.constants g.untouched e d known.arguments known.predicate known.typed known.facts c defining chosen.0 us guess in
      let grown = clause_grown D now f s g.constants g.untouched e d known.arguments known.predicate known.typed known.facts c defining chosen.0 us guess in
      let into = filled (codes "x") c.clause (made_terms (codes "x") (length now.cells) (outside many c.names) c.clause.variables) c.names in
      let body = image same_number into c.clause.body in
      let result = image same_number (filled (codes "x") c.clause us c.names) c.clause.body in
      let is_formula : IsFormula sg body = image_formula sg into (put_typed D now f s g.constants g.untouched e d known.arguments known.predicate known.typed known.facts c defining chosen.0 us guess) c.clause.body defining.body in
      let ps = e.block.predicates in
      let sign = mark_above e.sign in
      let apart_same : outside c.names few ≡ outside c.names many = outside_same c.names few many (λ b m. told g.constants few many (λ q r. ordered_contains (support_of_all e.arguments) q (more q (contains_ordered (support_of_all d.arguments) q r))) (λ q r. known.facts.constants q (contains_ordered (support_of_all e.arguments) q r)) b (chosen.1 b m)) in
      let ways_here : Contains (cond (unfolds e.sign) (map (by_choice D now g depth e) (choices_of g.constants e)) []) w = subst (λ b. Contains (cond b (map (by_choice D now g depth e) (choices_of g.constants e)) []) w) (sym (ap unfolds known.sign ∙ may)) (Contains-map (by_choice D now g depth e) (choices_of g.constants e) c mine) in
      record {
        way = w;
        there = in_definition D now g w (subst (λ n. Contains (by_definition D now g n (defined_atom D g.conclusion)) w) (sym deep ∙ a.depth) (subst (λ o. Contains (by_definition D now g (suc depth) o) w) (sym known.is) ways_here));
        put = f1;
        fits = state.fits;
        same = grown.same;
        alike = clause_alike D now f s g.constants g.untouched e d known.arguments known.predicate known.typed known.facts c defining chosen.0 us guess;
        serve = none_serve D;
        goals = (
          record {
            conclusion = makes_marked f1 ps sign body result is_formula.stands (clause_body D now f s g.constants g.untouched e d known.arguments known.predicate known.typed known.facts c defining chosen.0 us guess) ∙ (λ i. forget (marked_in (known.block i).predicates (mark_above (known.sign i)) result));
            hypotheses = each_grown sg now m1 f f1 grown g.constants g.untouched g.hypotheses h.hypotheses t.hypotheses a.hypotheses;
            depth = refl;
            constants = λ i. with_constants (apart_same i) (a.constants i);
            untouched = refl;
            layers = a.layers;
          },
          tt,
        );
      }
