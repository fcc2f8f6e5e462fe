-- FROM A WAY TO AN ANSWER TO STEPS that close the goal, at the root: the sequent itself, over its own variables. So an answer is a proof.
use Rattle.std.proofs.Common.{◌≡◌, inl, inr, ℕ, ◌<◌, List, [], ◌∷◌, map, Some, option_map, refl, ◌∙◌, ap, subst, arith, length}
use Rattle.std.specs.Prelude.{Contains, slice_get}
use Rattle.std.proofs.lemmas.Bool.{false≢true, false_from_ne_true}
use Rattle.std.proofs.lemmas.List.Elements.{All-head, All-contains}
use Rattle.ab_term.specs.Terms as tree
use Rattle.ab_term.specs.Terms.{Read}
use Rattle.ab_term.specs.Variables.{Substitution, variables, value_in, image}
use Rattle.ab_term.specs.Sameness.{same_number}
use Rattle.ab_term.proofs.Depends.{image_agrees}
use Rattle.ab_term.proofs.Lists.{Contains-here, Contains-there, Contains-from_map}
use Rattle.ab_unifiers.specs.Replacements.{Cell, holds}
use Rattle.ab_unifiers.specs.Unifiers.{HoldsCells, keys}
use Rattle.ab_unifiers.specs.Member.{HasMember}
use Rattle.ab_unifiers.proofs.Ruling.{image_none}
use Rattle.ab_formulas.specs.Declarations.{Declarations, signature_in, HaveDefinitions}
use Rattle.ab_formulas.specs.Programs.{HavePrograms}
use Rattle.ab_formulas.specs.Sequents.{Variable, Sequent, in_terms, formulas, formulas_of, HoldsOnly, IsSequent}
use Rattle.ab_theory.specs.Equations.{AreCells}
use Rattle.ab_search_trees.specs.Goals.{Goal, Now, beginning, first_goal}
use Rattle.ab_search_trees.specs.Tree.{Leaf, found}
use Rattle.ab_search_trees.specs.Outcomes.{Searched}
use Rattle.ab_search_trees.proofs.Lifts.{known_cell, no_value}
use Rattle.ab_search_trees.proofs.Facts.{IsTask}
use Rattle.ab_search_trees.proofs.Root.{task}
use Rattle.ab_search_trees.proofs.ShowsRest.{ways_fine}
use Rattle.ab_search_layers.specs.Layered.{Layered}
use Rattle.ab_search_layers.specs.Closed.{to_show, Closes, IsShown}
use Rattle.ab_search_layers.specs.Taken.{Taking}
use Rattle.ab_search_layers.proofs.Closing.{all_shown}
use Rattle.ab_search_answers.proofs.Final.{Scopes, InScope, IsFinal}
use Rattle.ab_search_answers.proofs.Scoped.{IsScoped, part_there}
use Rattle.ab_search_answers.specs.Unmarked.{HasNoHash, HaveNoHash}
use Rattle.ab_search_answers.specs.Followed.{and_filled, Follows}
use Rattle.ab_search_answers.proofs.Going.{reached}
use Rattle.ab_search_answers.proofs.AllSafe.{all_safe}
use Rattle.ab_search_answers.proofs.Reached.{followed}

module _ (D : Declarations) (cells : List (Cell (List ℕ))) (depth : ℕ) (s : Sequent) (is : IsSequent D s) (are : AreCells cells s) (unmarked : HasNoHash s.conclusion) where
  abbrev now : Now
  now = beginning cells s

  abbrev g : Goal
  g = first_goal depth s

  abbrev own : List (tree.Variable ℕ)
  own = map in_terms s.variables

  -- nothing may be replaced yet
  abbrev none : Scopes
  none y = []

  formula_in : (F : Read) → Contains (formulas_of s) F → InScope now none own F
  formula_in F m y c = inr (refl, All-contains (Contains own) (variables F) y (All-contains (HoldsOnly s.variables) (formulas_of s) F is.closed m) c)

  pub root_scoped : IsScoped now none g own
  root_scoped = record {
    conclusion = formula_in s.conclusion (Contains-here s.conclusion (formulas s.hypotheses));
    hypotheses = λ H m. formula_in H (Contains-there s.conclusion (formulas s.hypotheses) H m);
    branch = λ a m. m;
    low = λ y m. (
        let from = Contains-from_map in_terms s.variables y m in
        let there : slice_get cells (from.0).number ≡ Some (record { hint = (from.0).name; type = (from.0).type }) = All-contains (λ (x : Variable). slice_get cells x.number ≡ Some (record { hint = x.name; type = x.type })) s.variables from.0 are from.1 in
        subst (λ (v : tree.Variable ℕ). v.name < length cells) from.2 (known_cell cells (from.0).number (from.0).type (ap (option_map (λ (k : Cell (List ℕ)). k.type)) there)));
    unmarked = unmarked;
  }

  -- the sequent's own variables stay
  stays : (r : Substitution ℕ (List ℕ)) → IsFinal (signature_in D) now none r → (t : Read) → HoldsCells cells t → image same_number r t ≡ t
  stays r final t over = image_agrees (value_in same_number r) (value_in same_number []) t (λ y m. no_value r y (false_from_ne_true (holds (keys r) y) (λ k. elim (final.within y k) [ inl a ↦ false≢true a | inr b ↦ (let low = known_cell cells y.name y.type (over y m) in absurd (omega (arith, low, b))) ]))) ∙ image_none t

  all_stay : (r : Substitution ℕ (List ℕ)) → IsFinal (signature_in D) now none r → (ts : List Read) → ((t : Read) → Contains ts t → HoldsCells cells t) → map (image same_number r) ts ≡ ts
  all_stay r final [] over = refl
  all_stay r final (t ∷ ts) over = ap (λ k. k ∷ map (image same_number r) ts) (stays r final t (over t (Contains-here t ts))) ∙ ap (λ k. t ∷ k) (all_stay r final ts (λ v m. over v (Contains-there t ts v m)))

  -- THE SEQUENT IS CLOSED by the steps of whatever way to an answer
  pub way_closes : HaveDefinitions D → HavePrograms D → HasMember (signature_in D) → HaveNoHash D → (last : Now) (n : Substitution ℕ (List ℕ)) (es : List (Read × Taking)) → Follows D last now (g ∷ []) n es → Closes D (to_show own (formulas s.hypotheses) s.conclusion ∷ []) es
  way_closes defs program has none_there last n es l =
      let t : IsTask (signature_in D) now g = task D cells depth s is are in
      let leads = followed D (λ now g f t. ways_fine D defs program now f g t has) (all_safe D defs program has none_there) none (own ∷ []) l
      (λ y h. absurd (false≢true h)) (λ k d l. absurd (omega (arith, l))) (t, tt) (root_scoped, tt) in
      let r = and_filled last n in
      subst (λ Hs. Closes D (to_show own Hs s.conclusion ∷ []) es) (all_stay r leads.final (formulas s.hypotheses) (λ H i. (part_there (signature_in D) now g.constants g.untouched g.hypotheses t.hypotheses H i).facts.over))
      (subst (λ C. Closes D (to_show own (map (image same_number r) (formulas s.hypotheses)) C ∷ []) es) (stays r leads.final s.conclusion t.conclusion.facts.over) leads.closed)

  -- and so it is proved by whatever answer is among the leaves
  pub answer_layered : HaveDefinitions D → HavePrograms D → HasMember (signature_in D) → HaveNoHash D → (ls : List Leaf) → Searched D cells depth s ls → (last : Now) → Contains ls (found last) → Layered D own (formulas s.hypotheses) s.conclusion
  answer_layered defs program has none_there ls l last m =
      let way = reached D l last m in
      All-head (IsShown D) (to_show own (formulas s.hypotheses) s.conclusion) [] (all_shown D (way_closes defs program has none_there last way.0 way.1 way.2))
