-- AN ANSWER OF A QUERY, FILLED, IS A PROOF of the query's formula, the quantifiers in front opened by the variables that the search made for them.
use Rattle.std.proofs.Common.{◌≡◌, inl, inr, ℕ, zero, suc, ◌≤◌, List, [], ◌∷◌, ◌++◌, map, length, codes, Bool, true, false, refl, sym, ◌∙◌, ap, subst, arith, length-append}
use Rattle.std.specs.Prelude.{Contains}
use Rattle.std.proofs.lemmas.Bool.{false≢true}
use Rattle.std.proofs.lemmas.List.Elements.{All-head}
use Rattle.ab_term.specs.Types.{Ty}
use Rattle.ab_term.specs.Logical as plain
use Rattle.ab_term.specs.Terms.{Nominal, Variable, logical, spine, no_terms, term, Read}
use Rattle.ab_term.specs.Typing.{Signature}
use Rattle.ab_term.specs.Substitution.{instance}
use Rattle.ab_term.specs.Variables.{Substitution, value_in, image}
use Rattle.ab_term.specs.Names.{support}
use Rattle.ab_term.proofs.Compositions.{image-composition}
use Rattle.ab_term.proofs.Stands.{support-image}
use Rattle.ab_term.specs.Sameness.{same_number}
use Rattle.ab_term.proofs.Lists.{Contains-none, Contains-cases}
use Rattle.ab_unifiers.specs.Choices.{in_order}
use Rattle.ab_unifiers.specs.Member.{HasMember}
use Rattle.ab_unifiers.specs.Replacements.{Cell}
use Rattle.ab_unifiers.specs.Unification.{unified, Solves, by_step, at_end}
use Rattle.ab_unifiers.specs.Unifiers.{given}
use Rattle.ab_unifiers.proofs.Ruling.{image_none}
use Rattle.ab_formulas.specs.Declarations.{Declarations, signature_in, HaveDefinitions}
use Rattle.ab_formulas.specs.Forms as forms
use Rattle.ab_formulas.specs.Formulas.{IsFormula}
use Rattle.ab_formulas.specs.GoalTerms.{HoldsOnly}
use Rattle.ab_formulas.proofs.Images.{image_formula}
use Rattle.ab_formulas.specs.Programs.{HavePrograms}
use Rattle.ab_formulas.specs.Sequents.{Sequent, in_terms, formulas, goal_names, IsSequent}
use Rattle.ab_theory.specs.Equations.{AreCells}
use Rattle.ab_search_trees.specs.Goals.{Goal, Now, goal_under, most_layers, beginning}
use Rattle.ab_search_trees.specs.Guesses.{a_variable}
use Rattle.ab_search_trees.specs.Outcomes.{Searched, Asks, asks_all, asks_for, filling, whole_answer}
use Rattle.ab_search_trees.specs.Tree.{Leaf, found, stuck_at, now_after, Leaves, LeavesBy, LeavesOn, a_goal, no_way, a_way, are_apart, are_stuck, dont_serve, go_on}
use Rattle.ab_search_trees.specs.Ways.{Way, new_cell, new_term, ways}
use Rattle.ab_search_trees.proofs.Against.{amid}
use Rattle.ab_search_trees.proofs.Answered.{contains_split}
use Rattle.ab_search_trees.proofs.Carried.{AreFlexible, after_flexible, tasks_under}
use Rattle.ab_search_trees.proofs.Facts.{IsTask, AllTasks, FormFacts, form_facts}
use Rattle.ab_search_trees.proofs.Root.{task}
use Rattle.ab_search_trees.proofs.Shows.{IsFine}
use Rattle.ab_search_trees.proofs.ShowsMore.{term_fine}
use Rattle.ab_search_trees.proofs.ShowsRest.{ways_fine}
use Rattle.ab_search_layers.specs.Layered.{Layered}
use Rattle.ab_search_layers.specs.Closed.{to_show, IsShown}
use Rattle.ab_search_layers.specs.Taken.{Taking}
use Rattle.ab_search_layers.proofs.Closing.{all_shown}
use Rattle.ab_search_answers.specs.Followed.{and_filled}
use Rattle.ab_search_answers.specs.Unmarked.{HasNoHash, HaveNoHash}
use Rattle.ab_search_answers.proofs.Filled.{filling_typed, filled_constants, filled_listed}
use Rattle.ab_search_answers.proofs.Final.{Scopes, from_on, scope_from, final_scope}
use Rattle.ab_search_answers.proofs.AllSafe.{all_safe}
use Rattle.ab_search_answers.proofs.Going.{reached}
use Rattle.ab_search_answers.proofs.Reached.{Leads, followed}
use Rattle.ab_search_answers.proofs.Rooted.{root_scoped}
use Rattle.ab_search_answers.proofs.SafeMore.{term_way, term_scoped}
use Rattle.ab_search_answers.proofs.Scoped.{IsScoped, scoped_under}

-- WHAT IS PRINTED: a formula over these variables, whose constants are fillings, and which is proved
pub record IsTold (D : Declarations) (own : List (Variable ℕ)) (last : Now) (F : Read) : Type 0 where
  pub formula : IsFormula (signature_in D) F
  pub closed : HoldsOnly own F
  pub fillings : (a : Nominal) → Contains (support F) a → Contains (filled_constants last.held last.flexible) a
  pub proved : Layered D own [] F

module _ (D : Declarations) (defs : HaveDefinitions D) (program : HavePrograms D) (has : HasMember (signature_in D)) (none : HaveNoHash D) (own : List (Variable ℕ)) where
  abbrev sg : Signature
  sg = signature_in D

  -- a goal without hypotheses and constants
  abbrev alone : Read → ℕ → Bool → ℕ → Goal
  alone C depth u layers = record { hypotheses = []; conclusion = C; depth = depth; constants = []; untouched = u; layers = layers; member_first = false }

  abbrev at : List (Cell (List ℕ)) → List (Variable ℕ) → List Nominal → Now
  at cells ys held = record { cells = cells; flexible = ys; answer = []; held = held }

  -- without equations nothing is put in
  nothing_solved : (cells : List (Cell (List ℕ))) (ys : List (Variable ℕ)) (more : List (Cell (List ℕ))) (q : Substitution ℕ (List ℕ)) → Solves (codes "x") (given [] cells ys) (unified more q) → (more ≡ cells) × (q ≡ [])
  nothing_solved cells ys more q (at_end e) = (cc, cc)
  nothing_solved cells ys more q (by_step e p) = absurd (cc)

  abbrev Told : Read → Now → Type 0
  Told E last = IsTold D own last (image same_number (whole_answer last) E)

  -- at the place of a goal without constants
  told_at : (now last : Now) (S : Scopes) (C : Read) (depth : ℕ) (u : Bool) (layers : ℕ) → IsTask sg now (alone C depth u layers) → IsScoped now S (alone C depth u layers) own → (n : Substitution ℕ (List ℕ)) (es : List (Read × Taking)) → Leads D now last S (alone C depth u layers ∷ []) (own ∷ []) n es → IsTold D own last (image same_number (and_filled last n) C)
  told_at now last S C depth u layers t k n es leads =
      let r = and_filled last n in
      let typed = t.conclusion.formula.typed in
      record {
        formula = image_formula sg r leads.final.typed C t.conclusion.formula;
        closed = final_scope sg now S r leads.final own C t.conclusion.facts.over k.conclusion;
        fillings = λ a m. elim (support-image (value_in same_number (filling last.held last.flexible)) (image same_number n C) a (subst (λ F. Contains (support F) a) (image-composition sg same_number n leads.below.later.typed (filling last.held last.flexible) (filling_typed sg last.held last.flexible) typed) m)) [
          | inl b ↦ elim (support-image (value_in same_number n) C a b) [
            | inl c ↦ absurd (Contains-none a (t.conclusion.facts.constants a c))
            | inr c ↦ absurd (Contains-none a (subst (λ l. Contains l a) (leads.below.later.nameless c.0 c.1 (c.2).1) c.3))
          ]
          | inr b ↦ filled_listed last.held last.flexible b.0 b.1 (b.2).1 a b.3
        ];
        proved = All-head (IsShown D) (to_show own [] (image same_number r C)) [] (all_shown D leads.closed);
      }

  abbrev some : Ty → Read → Read
  some A F = spine (logical (plain.existential A)) (term F no_terms)

  abbrev Next : ℕ → Read → Read → Type 0
  Next n C E = (cells : List (Cell (List ℕ))) → n ≡ length cells → (ys : List (Variable ℕ)) (held : List Nominal) (depth : ℕ) (u : Bool) (layers : ℕ) (S : Scopes)
      → AreFlexible (at cells ys held) → IsTask sg (at cells ys held) (alone C depth u layers) → IsScoped (at cells ys held) S (alone C depth u layers) own → (ls : List Leaf) → Leaves D (at cells ys held) (alone C depth u layers ∷ []) ls → (last : Now) → Contains ls (found last) → Told E last

  module _ (A : Ty) (F E : Read) (n : ℕ) (next : Next (suc n) (instance F (a_variable n [] A)) E) (cells : List (Cell (List ℕ))) (long : n ≡ length cells) (ys : List (Variable ℕ)) (held : List Nominal) (u : Bool) (layers : ℕ) (S : Scopes) (f : AreFlexible (at cells ys held)) where
    abbrev now : Now
    now = at cells ys held

    module _ (depth : ℕ) (t : IsTask sg now (alone (some A F) depth u layers)) (k : IsScoped now S (alone (some A F) depth u layers) own) where
      abbrev g : Goal
      g = alone (some A F) depth u layers

      facts : FormFacts sg now [] u (forms.exists A F)
      facts = form_facts sg now [] u (some A F) t.conclusion

      abbrev w : Way
      w = term_way D now S f g own t k A F refl facts

      fine : IsFine D now g w
      fine = term_fine D now f g t A F refl facts

      opened_same : image same_number [] (instance F (new_term D now g A [])) ≡ instance F (a_variable n [] A)
      opened_same = image_none (instance F (new_term D now g A [])) ∙ ap (λ m. instance F (a_variable m [] A)) (sym long)

      longer : suc n ≡ length w.cells
      longer = ap suc long ∙ (let sum = length-append cells (new_cell D now g F A [] ∷ []) in omega (arith, sum))

      newer : (y : Variable ℕ) → length w.cells ≤ y.name → from_on (length cells) own S y ≡ own
      newer y l = scope_from (length cells) own S y (let one = longer in let two = long in omega (arith, l, one, two))

      onward : Solves (codes "x") (given [] w.cells w.flexible) (unified w.cells []) → (ls : List Leaf) → Leaves D (now_after now w w.cells []) (map (goal_under []) (w.goals ++ [])) ls → (last : Now) → Contains ls (found last) → Told E last
      onward p ls l last m =
          let mid = amid D now w in
          let after = now_after now w w.cells [] in
          let many : AllTasks sg after (map (goal_under []) w.goals) = tasks_under sg mid fine.flexible [] tt tt w.cells [] p after.answer after.held w.goals fine.tasks in
          let scoped = scoped_under sg mid fine.flexible [] tt tt w.cells [] p after.answer (omega arith) (from_on (length cells) own S) own newer tt (alone (instance F (new_term D now g A [])) depth false layers) own (fine.tasks).0 (term_scoped D now S f g own t k A F refl facts fine) in
          next w.cells longer after.flexible after.held depth false layers (from_on (length cells) own S)
          (after_flexible sg mid fine.flexible [] tt tt w.cells [] p after.answer after.held)
          (subst (λ c. IsTask sg after (alone c depth false layers)) opened_same many.0)
          (subst (λ c. IsScoped after (from_on (length cells) own S) (alone c depth false layers) own) opened_same scoped)
          ls (subst (λ c. Leaves D after (alone c depth false layers ∷ []) ls) opened_same l) last m

      one_way : (ls : List Leaf) → LeavesOn D now w [] ls → (last : Now) → Contains ls (found last) → Told E last
      one_way ls (are_apart p) last m = absurd (Contains-none (found last) m)
      one_way ls (are_stuck {i = i} p) last m = elim (Contains-cases (stuck_at i) [] (found last) m) [ inl e ↦ absurd (cc) | inr k ↦ absurd (Contains-none (found last) k) ]
      one_way ls (dont_serve more q p k) last m = absurd (Contains-none (found last) m)
      one_way ls (go_on more q p k l) last m =
          let e = nothing_solved w.cells w.flexible more q p in
          let p2 : Solves (codes "x") (given [] w.cells w.flexible) (unified w.cells []) = subst (λ c. Solves (codes "x") (given [] w.cells w.flexible) (unified c [])) e.0 (subst (λ r. Solves (codes "x") (given [] w.cells w.flexible) (unified more r)) e.1 p) in
          let l2 = subst (λ c. Leaves D (now_after now w c []) (map (goal_under []) (w.goals ++ [])) ls) e.0 (subst (λ r. Leaves D (now_after now w more r) (map (goal_under r) (w.goals ++ [])) ls) e.1 l) in
          onward p2 ls l2 last m

      ways_one : (ls : List Leaf) → LeavesBy D now (w ∷ []) [] ls → (last : Now) → Contains ls (found last) → Told E last
      ways_one ls (a_way {ls = as_} p no_way) last m = elim (contains_split as_ [] (found last) m) [ inl c ↦ one_way as_ p last c | inr c ↦ absurd (Contains-none (found last) c) ]

    by_depth : (depth : ℕ) → IsTask sg now (alone (some A F) depth u layers) → IsScoped now S (alone (some A F) depth u layers) own → (ls : List Leaf) → LeavesBy D now (ways D now (alone (some A F) depth u layers)) [] ls → (last : Now) → Contains ls (found last) → Told E last
    by_depth zero t k ls p last m = ways_one zero t k ls p last m
    by_depth (suc depth) t k ls p last m = ways_one (suc depth) t k ls p last m

  pub query_layered : (n : ℕ) (C E : Read) → Asks n C E → Next n C E
  query_layered n C E asks_all cells long ys held depth u layers S f t k ls l last m =
      let way = reached D l last m in
      let leads = followed D (λ now g f t. ways_fine D defs program now f g t has) (all_safe D defs program has none) S (own ∷ []) way.2 f (λ k d l. absurd (omega (arith, l))) (t, tt) (k, tt) in
      subst (IsTold D own last) (ap (image same_number (and_filled last way.0)) (sym (image_none C)) ∙ sym (leads.whole [] C _ t.conclusion.formula.typed)) (told_at (at cells ys held) last S C depth u layers t k way.0 way.1 leads)
  query_layered n C E (asks_for {A = A} {F = F} asks) cells long ys held depth u layers S f t k ls (a_goal {ls = ms} p) last m = elim (contains_split ms [] (found last) m) [
    | inl c ↦ by_depth A F E n (λ cells long ys held depth u layers S f t k ls l last m. query_layered (suc n) (instance F (a_variable n [] A)) E asks cells long ys held depth u layers S f t k ls l last m) cells long ys held u layers S f depth t k ms p last c
    | inr c ↦ absurd (Contains-none (found last) c)
  ]

-- of a sequent without hypotheses and constants
pub query_answer : (D : Declarations) (defs : HaveDefinitions D) (program : HavePrograms D) (has : HasMember (signature_in D)) (none : HaveNoHash D) (cells : List (Cell (List ℕ))) (depth : ℕ) (s : Sequent) → IsSequent D s → AreCells cells s → HasNoHash s.conclusion → formulas s.hypotheses ≡ [] → goal_names s ≡ []
    → (E : Read) → Asks (length cells) s.conclusion E → (ls : List Leaf) → Searched D cells depth s ls → (last : Now) → Contains ls (found last) → IsTold D (map in_terms s.variables) last (image same_number (whole_answer last) E)
query_answer D defs program has none cells depth s is are unmarked none_given none_named E asks ls l last m =
    let own = map in_terms s.variables in
    let now = beginning cells s in
    let no_names : in_order (goal_names s) ≡ [] = ap in_order none_named in
    let S : Scopes = λ y. [] in
    query_layered D defs program has none own (length cells) s.conclusion E asks cells refl [] (in_order (goal_names s)) depth true most_layers S (λ y h. absurd (false≢true h))
    (subst (λ ns. IsTask (signature_in D) now (goal [] ns)) no_names (subst (λ Hs. IsTask (signature_in D) now (goal Hs (in_order (goal_names s)))) none_given (task D cells depth s is are)))
    (subst (λ ns. IsScoped now S (goal [] ns) own) no_names (subst (λ Hs. IsScoped now S (goal Hs (in_order (goal_names s))) own) none_given (root_scoped D cells depth s is are unmarked)))
    ls (subst (λ ns. Leaves D now (goal [] ns ∷ []) ls) no_names (subst (λ Hs. Leaves D now (goal Hs (in_order (goal_names s)) ∷ []) ls) none_given l)) last m
  where
    goal : List Read → List Nominal → Goal
    goal Hs ns = record { hypotheses = Hs; conclusion = s.conclusion; depth = depth; constants = ns; untouched = true; layers = most_layers; member_first = false }
