-- AN ANSWER SHOWS THE GOAL OF A QUERY, the quantifiers in front opened by the variables that the search made for them.
use Rattle.std.proofs.Common.{◌≡◌, inl, inr, ℕ, zero, suc, List, [], ◌∷◌, ◌++◌, map, length, codes, Bool, true, false, refl, sym, ◌∙◌, ap, subst, arith, length-append}
use Rattle.std.specs.Prelude.{Contains}
use Rattle.std.proofs.lemmas.Bool.{false≢true}
use Rattle.ab_term.specs.Types.{Ty}
use Rattle.ab_term.specs.Logical as plain
use Rattle.ab_term.specs.Terms.{Nominal, Variable, logical, spine, no_terms, term, Read}
use Rattle.ab_term.specs.Substitution.{instance}
use Rattle.ab_term.specs.Variables.{Substitution, image}
use Rattle.ab_term.specs.Sameness.{same_number}
use Rattle.ab_term.proofs.Lists.{Contains-none, Contains-cases}
use Rattle.ab_unifiers.specs.Replacements.{Cell}
use Rattle.ab_unifiers.specs.Unification.{unified, Solves, by_step, at_end}
use Rattle.ab_unifiers.specs.Unifiers.{given}
use Rattle.ab_unifiers.proofs.Ruling.{image_none}
use Rattle.ab_unifiers.specs.Member.{HasMember}
use Rattle.ab_formulas.specs.Declarations.{Declarations, signature_in, HaveDefinitions}
use Rattle.ab_formulas.specs.Programs.{HavePrograms}
use Rattle.ab_formulas.specs.Sequents.{Sequent, formulas, goal_names, IsSequent}
use Rattle.ab_theory.specs.Equations.{AreCells}
use Rattle.ab_unifiers.specs.Choices.{in_order}
use Rattle.ab_search_trees.specs.Guesses.{a_variable}
use Rattle.ab_search_trees.specs.Goals.{Goal, Now, goal_under, most_layers, beginning}
use Rattle.ab_search_trees.specs.Ways.{Way, new_cell, new_variable, new_term, ways}
use Rattle.ab_search_trees.specs.Tree.{Leaf, found, stuck_at, now_after, Leaves, LeavesBy, LeavesOn, a_goal, no_way, a_way, are_apart, are_stuck, dont_serve, go_on}
use Rattle.ab_search_trees.specs.Outcomes.{Searched, Asks, asks_all, asks_for}
use Rattle.ab_search_trees.specs.Shown.{Shown}
use Rattle.ab_search_trees.proofs.Facts.{IsTask, form_facts}
use Rattle.ab_search_trees.proofs.Against.{amid}
use Rattle.ab_search_trees.proofs.Carried.{AreFlexible, after_flexible, tasks_under}
use Rattle.ab_search_trees.proofs.Shows.{IsFine}
use Rattle.ab_search_trees.proofs.ShowsMore.{term_fine}
use Rattle.ab_search_trees.proofs.ShowsRest.{ways_fine}
use Rattle.ab_search_trees.proofs.Answered.{contains_split, answers_show}
use Rattle.ab_search_trees.proofs.Root.{task}

module _ (D : Declarations) (defs : HaveDefinitions D) (program : HavePrograms D) (has_list : HasMember (signature_in D)) where
  -- a goal without hypotheses and constants
  abbrev alone : Read → ℕ → Bool → ℕ → Goal
  alone C depth u layers = record { hypotheses = []; conclusion = C; depth = depth; constants = []; untouched = u; layers = layers; member_first = false }

  abbrev at : List (Cell (List ℕ)) → List (Variable ℕ) → List Nominal → Now
  at cells ys held = record { cells = cells; flexible = ys; answer = []; held = held }

  -- without equations nothing is put in
  nothing_solved : (cells : List (Cell (List ℕ))) (ys : List (Variable ℕ)) (more : List (Cell (List ℕ))) (q : Substitution ℕ (List ℕ)) → Solves (codes "x") (given [] cells ys) (unified more q) → (more ≡ cells) × (q ≡ [])
  nothing_solved cells ys more q (at_end e) = (cc, cc)
  nothing_solved cells ys more q (by_step e p) = absurd (cc)

  abbrev Told : Read → Now → Type 0
  Told E last = Shown D [] (image same_number last.answer E)

  abbrev some : Ty → Read → Read
  some A F = spine (logical (plain.existential A)) (term F no_terms)

  abbrev Next : ℕ → Read → Read → Type 0
  Next n C E = (cells : List (Cell (List ℕ))) → n ≡ length cells → (ys : List (Variable ℕ)) (held : List Nominal) (depth : ℕ) (u : Bool) (layers : ℕ)
      → AreFlexible (at cells ys held) → IsTask (signature_in D) (at cells ys held) (alone C depth u layers) → (ls : List Leaf) → Leaves D (at cells ys held) (alone C depth u layers ∷ []) ls → (last : Now) → Contains ls (found last) → Told E last

  module _ (A : Ty) (F E : Read) (n : ℕ) (next : Next (suc n) (instance F (a_variable n [] A)) E) (cells : List (Cell (List ℕ))) (long : n ≡ length cells) (ys : List (Variable ℕ)) (held : List Nominal) (u : Bool) (layers : ℕ) (f : AreFlexible (at cells ys held)) where
    abbrev now : Now
    now = at cells ys held

    module _ (depth : ℕ) (t : IsTask (signature_in D) now (alone (some A F) depth u layers)) where
      abbrev g : Goal
      g = alone (some A F) depth u layers

      abbrev w : Way
      w = record {
        cells = cells ++ new_cell D now g F A [] ∷ [];
        flexible = ys ++ new_variable D now g A [] ∷ [];
        equations = [];
        serving = [];
        taken = [];
        goals = alone (instance F (new_term D now g A [])) depth false layers ∷ [];
      }

      fine : IsFine D now g w
      fine = term_fine D now f g t A F refl (form_facts (signature_in D) now [] u (some A F) t.conclusion)

      opened_same : image same_number [] (instance F (new_term D now g A [])) ≡ instance F (a_variable n [] A)
      opened_same = image_none (instance F (new_term D now g A [])) ∙ ap (λ m. instance F (a_variable m [] A)) (sym long)

      onward : Solves (codes "x") (given [] w.cells w.flexible) (unified w.cells []) → (ls : List Leaf) → Leaves D (now_after now w w.cells []) (map (goal_under []) (w.goals ++ [])) ls → (last : Now) → Contains ls (found last) → Told E last
      onward p ls l last m =
          let mid = amid D now w in
          let after = now_after now w w.cells [] in
          let many = tasks_under (signature_in D) mid fine.flexible [] tt tt w.cells [] p after.answer after.held w.goals fine.tasks in
          next w.cells (ap suc long ∙ (let sum = length-append cells (new_cell D now g F A [] ∷ []) in omega (arith, sum))) after.flexible after.held depth false layers
          (after_flexible (signature_in D) mid fine.flexible [] tt tt w.cells [] p after.answer after.held)
          (subst (λ c. IsTask (signature_in D) after (alone c depth false layers)) opened_same many.0)
          ls (subst (λ c. Leaves D after (alone c depth false layers ∷ []) ls) opened_same l) last m

      one_way : (ls : List Leaf) → LeavesOn D now w [] ls → (last : Now) → Contains ls (found last) → Told E last
      one_way ls (are_apart p) last m = absurd (Contains-none (found last) m)
      one_way ls (are_stuck {i = i} p) last m = elim (Contains-cases (stuck_at i) [] (found last) m) [ inl e ↦ absurd (cc) | inr k ↦ absurd (Contains-none (found last) k) ]
      one_way ls (dont_serve more q p k) last m = absurd (Contains-none (found last) m)
      one_way ls (go_on more q p k l) last m =
          let e = nothing_solved w.cells w.flexible more q p in
          let p2 : Solves (codes "x") (given [] w.cells w.flexible) (unified w.cells []) = subst (λ c. Solves (codes "x") (given [] w.cells w.flexible) (unified c [])) e.0 (subst (λ r. Solves (codes "x") (given [] w.cells w.flexible) (unified more r)) e.1 p) in
          let l2 = subst (λ c. Leaves D (now_after now w c []) (map (goal_under []) (w.goals ++ [])) ls) e.0 (subst (λ r. Leaves D (now_after now w more r) (map (goal_under r) (w.goals ++ [])) ls) e.1 l) in
          onward p2 ls l2 last m

      ways_one : (ls : List Leaf) → LeavesBy D now (w ∷ []) [] ls → (last : Now) → Contains ls (found last) → Told E last
      ways_one ls (a_way {ls = as_} p no_way) last m = elim (contains_split as_ [] (found last) m) [ inl c ↦ one_way as_ p last c | inr c ↦ absurd (Contains-none (found last) c) ]

    by_depth : (depth : ℕ) → IsTask (signature_in D) now (alone (some A F) depth u layers) → (ls : List Leaf) → LeavesBy D now (ways D now (alone (some A F) depth u layers)) [] ls → (last : Now) → Contains ls (found last) → Told E last
    by_depth zero t ls p last m = ways_one zero t ls p last m
    by_depth (suc depth) t ls p last m = ways_one (suc depth) t ls p last m

  pub query_shown : (n : ℕ) (C E : Read) → Asks n C E → Next n C E
  query_shown n C E asks_all cells long ys held depth u layers f t ls l last m =
      let told = answers_show D (λ now g f t. ways_fine D defs program now f g t has_list) l f (λ k d l. absurd (omega (arith, l))) (t, tt) last m in
      subst (Shown D []) (ap (image same_number told.0) (sym (image_none C)) ∙ sym ((told.1).answer [] C _ t.conclusion.formula.typed)) (told.2).0
  query_shown n C E (asks_for {A = A} {F = F} k) cells long ys held depth u layers f t ls (a_goal {ls = ms} p) last m = elim (contains_split ms [] (found last) m) [
    | inl c ↦ by_depth A F E n (λ cells long ys held depth u layers f t ls l last m. query_shown (suc n) (instance F (a_variable n [] A)) E k cells long ys held depth u layers f t ls l last m) cells long ys held u layers f depth t ms p last c
    | inr c ↦ absurd (Contains-none (found last) c)
  ]

  -- of a sequent without hypotheses and constants
  pub answers_show_query : (cells : List (Cell (List ℕ))) (depth : ℕ) (s : Sequent) → IsSequent D s → AreCells cells s → formulas s.hypotheses ≡ [] → goal_names s ≡ [] → (E : Read) → Asks (length cells) s.conclusion E
      → (ls : List Leaf) → Searched D cells depth s ls → (last : Now) → Contains ls (found last) → Told E last
  answers_show_query cells depth s is are none_given none_named E asks ls l last m =
      let now = beginning cells s in
      let no_names : in_order (goal_names s) ≡ [] = ap in_order none_named in
      query_shown (length cells) s.conclusion E asks cells refl [] (in_order (goal_names s)) depth true most_layers (λ y h. absurd (false≢true h))
      (subst (λ ns. IsTask (signature_in D) now (goal [] ns)) no_names (subst (λ Hs. IsTask (signature_in D) now (goal Hs (in_order (goal_names s)))) none_given (task D cells depth s is are)))
      ls (subst (λ ns. Leaves D now (goal [] ns ∷ []) ls) no_names (subst (λ Hs. Leaves D now (goal Hs (in_order (goal_names s)) ∷ []) ls) none_given l)) last m
    where
      goal : List Read → List Nominal → Goal
      goal Hs ns = record { hypotheses = Hs; conclusion = s.conclusion; depth = depth; constants = ns; untouched = true; layers = most_layers; member_first = false }
