-- THE WAY BY A CLAUSE has a leaf, where a guess makes the conclusion an instance of the clause.
use Rattle.std.proofs.Common.{◌≡◌, ◌⊎◌, inl, inr, ℕ, suc, List, [], ◌∷◌, ◌++◌, map, filter, length, codes, Bool, true, false, cond, not, bytes_eq, Some, refl, sym, ◌∙◌, ap, subst}
use Rattle.std.specs.Prelude.{Contains}
use Rattle.ab_term.specs.Terms.{Nominal, constant, spine, Read}
use Rattle.ab_term.specs.Names.{support_of_all}
use Rattle.ab_term.specs.Translation.{forget, forget_all}
use Rattle.ab_term.specs.Variables.{image, image_all_by}
use Rattle.ab_term.specs.Sameness.{same_number}
use Rattle.ab_term.proofs.Lists.{Contains-here, Contains-there, Contains-map, Contains-from_map}
use Rattle.ab_unifiers.proofs.Following.{Put}
use Rattle.ab_unifiers.specs.Clauses.{filled}
use Rattle.ab_unifiers.specs.Alternatives.{made_terms}
use Rattle.ab_unifiers.specs.Choices.{is_in, in_order, outside, choices}
use Rattle.ab_unifiers.proofs.Choosing.{in_contains, contains_in, ordered_contains, contains_ordered, gathered_from}
use Rattle.ab_unifiers.proofs.Matching.{choice_right}
use Rattle.ab_formulas.specs.Declarations.{Declarations, signature_in, HaveDefinitions}
use Rattle.ab_formulas.specs.Formulas.{IsFormula}
use Rattle.ab_formulas.specs.Forms.{form_of}
use Rattle.ab_formulas.proofs.Images.{image_formula}
use Rattle.ab_formulas.specs.BodyMarks.{mark_above, marked_in}
use Rattle.ab_theory.specs.Atoms.{Defined, Choice, defined_atom, choices_of}
use Rattle.ab_theory.specs.Judgements.{as_judgement}
use Rattle.ab_formulas.proofs.MarkedFormulas.{marked_formula, marked_variables, marked_support}
use Rattle.std.proofs.lemmas.List.Elements.{Contains-append_left, Contains-append_right}
use Rattle.ab_search_trees.specs.Goals.{Goal, Now}
use Rattle.ab_search_trees.specs.Ways.{unfolds, with_constants, by_form, by_choice, by_definition, by_judgement}
use Rattle.ab_search_trees.specs.Guesses.{IsGuessedFor, unfolded_to}
use Rattle.ab_search_trees.proofs.Forms.{MakesAll, form_made}
use Rattle.ab_search_trees.proofs.Hypotheses.{made_names}
use Rattle.ab_search_trees.proofs.Facts.{IsTask, all_touched, all_more, form_facts}
use Rattle.ab_search_trees.proofs.Against.{IsState, IsGuess, Finds, on_way}
use Rattle.ab_search_trees.proofs.ByForm.{none_serve, on_goal}
use Rattle.ab_search_trees.proofs.Growing.{parts_grown, tasks_grown, each_grown, guesses_grown}
use Rattle.ab_search_trees.proofs.Smaller.{choice_defining}
use Rattle.ab_search_trees.proofs.Atoms.{atom_lifts, choice_lifts}
use Rattle.ab_search_trees.proofs.Bodies.{makes_marked}
use Rattle.ab_search_trees.proofs.Clauses.{with_clause, amid_clause, clause_state, clause_grown, clause_alike, clause_typed, clause_over, clause_body, body_facts, put_typed, constants_more}

-- the constants of a choice, of those that its goal holds: of the atom, or new
pub choice_names : (held : List Nominal) (d : Defined) → ((a : Nominal) → Contains (support_of_all d.arguments) a → Contains held a) → (c : Choice) → Contains (choices_of held d) c
    → (map (λ a. a.type) c.names ≡ map (λ z. z.type) c.clause.names) × ((a : Nominal) → Contains c.names a → Contains (in_order (support_of_all d.arguments)) a ⊎ ¬ (Contains held a))
choice_names held d sub c m =
    let S = in_order (support_of_all d.arguments) in
    let from = gathered_from (λ k. map (λ ns. record { clause = k; names = ns }) (choices (map (λ z. z.type) k.names) S held)) (filter (λ k. bytes_eq k.predicate d.predicate) d.block.clauses) c m in
    let k = from.0 in
    let made = Contains-from_map (λ ns. record { clause = k; names = ns }) (choices (map (λ z. z.type) k.names) S held) c from.2 in
    let right = choice_right (map (λ z. z.type) k.names) S held (λ b q. sub b (contains_ordered (support_of_all d.arguments) b q)) made.0 made.1 in
    subst (λ c. (map (λ a. a.type) c.names ≡ map (λ z. z.type) c.clause.names) × ((a : Nominal) → Contains c.names a → Contains S a ⊎ ¬ (Contains held a))) made.2 (right.0, right.2)

-- those outside of two lists are the same where no element tells them apart
outside_same : (xs ys zs : List Nominal) → ((a : Nominal) → Contains xs a → is_in ys a ≡ is_in zs a) → outside xs ys ≡ outside xs zs
outside_same [] ys zs f = refl
outside_same (x ∷ xs) ys zs f =
    ap (λ b. cond (not b) (x ∷ outside xs ys) (outside xs ys)) (f x (Contains-here x xs))
    ∙ ap (λ l. cond (not (is_in zs x)) (x ∷ l) l) (outside_same xs ys zs (λ a m. f a (Contains-there x xs a m)))

is_or_not : (xs : List Nominal) (a : Nominal) → (Contains xs a → ⊥) → is_in xs a ≡ false
is_or_not xs a n = go (is_in xs a) refl
  where
    go : (b : Bool) → is_in xs a ≡ b → b ≡ false
    go true e = absurd (n (in_contains xs a e))
    go false e = refl

-- a chosen constant is told to be of one list as of the other
told : (held few many : List Nominal) → ((a : Nominal) → Contains few a → Contains many a) → ((a : Nominal) → Contains many a → Contains held a) → (a : Nominal) → Contains few a ⊎ ¬ (Contains held a) → is_in few a ≡ is_in many a
told held few many up in_held a (inl m) = contains_in few a m ∙ sym (contains_in many a (up a m))
told held few many up in_held a (inr n) = is_or_not few a (λ m. n (in_held a (up a m))) ∙ sym (is_or_not many a (λ m. n (in_held a m)))

atom_names : (D : Declarations) (now : Now) (f : Put) → IsState (signature_in D) now f → (e d : Defined) → MakesAll f e.arguments d.arguments → e.predicate ≡ d.predicate → (b : Nominal) → Contains (support_of_all d.arguments) b → Contains (support_of_all e.arguments) b
atom_names D now f s e d m p = made_names D now f s (spine (constant e.predicate) e.arguments) (spine (constant d.predicate) d.arguments) (ap (λ k. spine (constant k) (image_all_by f (forget_all e.arguments))) p ∙ ap (spine (constant d.predicate)) m)

module _ (D : Declarations) (defs : HaveDefinitions D) where
  pub finds_clause : (h : Goal) (depth : ℕ) (d : Defined) (c : Choice) (us : List Read) → h.depth ≡ suc depth → defined_atom D h.conclusion ≡ Some d → unfolds d.sign ≡ true → Contains (choices_of h.constants d) c → IsGuessedFor (signature_in D) d c us
      → (hs : List Goal) → Finds D (unfolded_to depth h d c us ∷ hs) → Finds D (h ∷ hs)
  finds_clause h depth d c us deep is may there guess hs k now f [] s t a ls l = absurd a
  finds_clause h depth d c us deep is may there guess hs k now f (g ∷ gs) s t a ls l =
      let sg = signature_in D in
      let concluded = (t.0).conclusion in
      let known = atom_lifts f D sg now g.constants g.untouched g.conclusion h.conclusion d concluded (a.0).conclusion (form_made f g.conclusion h.conclusion concluded.formula.stands (a.0).conclusion) (form_facts sg now g.constants g.untouched g.conclusion concluded) is in
      let e = known.atom in
      let held : Contains (choices_of g.constants d) c = subst (λ ns. Contains (choices_of ns d) c) (a.0).constants there in
      let defining = choice_defining D defs h.conclusion d is h.constants c there in
      let more : (b : Nominal) → Contains (support_of_all d.arguments) b → Contains (support_of_all e.arguments) b = atom_names D now f s e d known.arguments known.predicate in
      let few = in_order (support_of_all d.arguments) in
      let many = in_order (support_of_all e.arguments) in
      let chosen = choice_names g.constants d (λ b q. known.facts.constants b (more b q)) c held in
      let mine : Contains (choices_of g.constants e) c = choice_lifts g.constants e d known.predicate known.block more c held in
      let w = by_choice D now g depth e c in
      let m1 = amid_clause D now f s g.constants g.untouched e d known.arguments known.predicate known.typed known.facts c defining chosen.0 us guess in
      let f1 = with_clause D now f s g.constants g.untouched e d known.arguments known.predicate known.typed known.facts c defining chosen.0 us guess in
      let state = clause_state D now f s g.constants g.untouched e d known.arguments known.predicate known.typed known.facts c defining chosen.0 us guess in
      let grown = clause_grown D now f s g.constants g.untouched e d known.arguments known.predicate known.typed known.facts c defining chosen.0 us guess in
      let branch = with_constants (outside c.names many) g.constants in
      let into = filled (codes "x") c.clause (made_terms (codes "x") (length now.cells) (outside many c.names) c.clause.variables) c.names in
      let facts = body_facts D now f s g.constants g.untouched e d known.arguments known.predicate known.typed known.facts c defining chosen.0 us guess in
      let body = image same_number into c.clause.body in
      let result = image same_number (filled (codes "x") c.clause us c.names) c.clause.body in
      let is_formula : IsFormula sg body = image_formula sg into (put_typed D now f s g.constants g.untouched e d known.arguments known.predicate known.typed known.facts c defining chosen.0 us guess) c.clause.body defining.body in
      let ps = e.block.predicates in
      let sign = mark_above e.sign in
      let next : Goal = record { hypotheses = g.hypotheses; conclusion = marked_in ps sign body; depth = depth; constants = branch; untouched = false; layers = g.layers; member_first = false } in
      let task : IsTask sg m1 next = record {
        conclusion = record {
          formula = marked_formula sg ps sign body is_formula;
          facts = record {
            over = λ y m. facts.over y (subst (λ l. Contains l y) (marked_variables ps sign body) m);
            constants = λ y m. facts.constants y (subst (λ l. Contains l y) (marked_support ps sign body) m);
            fixed = λ q y m. facts.fixed q y (subst (λ l. Contains l y) (marked_variables ps sign body) m);
          };
        };
        hypotheses = all_more sg m1 g.constants branch false (constants_more (outside c.names many) g.constants) g.hypotheses (all_touched sg m1 g.constants g.untouched g.hypotheses (parts_grown sg now m1 f f1 grown g.constants g.untouched g.hypotheses (t.0).hypotheses));
      } in
      let apart_same : outside c.names few ≡ outside c.names many = outside_same c.names few many (λ b m. told g.constants few many (λ q r. ordered_contains (support_of_all e.arguments) q (more q (contains_ordered (support_of_all d.arguments) q r))) (λ q r. known.facts.constants q (contains_ordered (support_of_all e.arguments) q r)) b (chosen.1 b m)) in
      let guessed : IsGuess f1 next (unfolded_to depth h d c us) = record {
        conclusion = makes_marked f1 ps sign body result is_formula.stands (clause_body D now f s g.constants g.untouched e d known.arguments known.predicate known.typed known.facts c defining chosen.0 us guess) ∙ (λ i. forget (marked_in (known.block i).predicates (mark_above (known.sign i)) result));
        hypotheses = each_grown sg now m1 f f1 grown g.constants g.untouched g.hypotheses h.hypotheses (t.0).hypotheses (a.0).hypotheses;
        depth = refl;
        constants = λ i. with_constants (apart_same i) ((a.0).constants i);
        untouched = refl;
        layers = (a.0).layers;
      } in
      let ways_here : Contains (cond (unfolds e.sign) (map (by_choice D now g depth e) (choices_of g.constants e)) []) w = subst (λ b. Contains (cond b (map (by_choice D now g depth e) (choices_of g.constants e)) []) w) (sym (ap unfolds known.sign ∙ may)) (Contains-map (by_choice D now g depth e) (choices_of g.constants e) c mine) in
      let way_there : Contains (by_definition D now g g.depth (defined_atom D g.conclusion)) w = subst (λ n. Contains (by_definition D now g n (defined_atom D g.conclusion)) w) (sym deep ∙ (a.0).depth) (subst (λ o. Contains (by_definition D now g (suc depth) o) w) (sym known.is) ways_here) in
      on_goal D now g gs w (Contains-append_left (by_form D now g (form_of g.conclusion) ++ by_definition D now g g.depth (defined_atom D g.conclusion)) (by_judgement D now g g.depth (as_judgement g.conclusion)) w (Contains-append_right (by_form D now g (form_of g.conclusion)) (by_definition D now g g.depth (defined_atom D g.conclusion)) w way_there))
      (on_way D now w gs (unfolded_to depth h d c us ∷ hs) f1 state (clause_typed D now f s g.constants g.untouched e d known.arguments known.predicate known.typed known.facts c defining chosen.0 us guess) (clause_over D now f s g.constants g.untouched e d known.arguments known.predicate known.typed known.facts c defining chosen.0 us guess) (clause_alike D now f s g.constants g.untouched e d known.arguments known.predicate known.typed known.facts c defining chosen.0 us guess) (none_serve D) (task, tasks_grown sg now m1 f f1 grown gs t.1) (guessed, guesses_grown sg now m1 f f1 grown gs hs t.1 a.1) k)
      ls l
