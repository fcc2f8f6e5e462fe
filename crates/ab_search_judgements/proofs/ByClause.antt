-- A JUDGEMENT BY A CLAUSE OF THE PROGRAM, on the way of a search: the rule is there and is solved wherever the judgement comes to stand.
use Rattle.std.proofs.Common.{◌≡◌, ◌⊎◌, inl, inr, ℕ, ◌+◌, ◌<◌, ◌≤◌, List, [], ◌∷◌, ◌++◌, map, length, codes, true, false, Some, None, option_map, refl, sym, ◌∙◌, ap, subst, arith, append-nil, length-append}
use Rattle.std.specs.Prelude.{All, Contains}
use Rattle.std.proofs.lemmas.Bool.{false_from_ne_true}
use Rattle.std.proofs.lemmas.List.Elements.{All-contains, Contains-append_left}
use Rattle.ab_term.specs.Types.{Ty, olist}
use Rattle.ab_term.specs.Terms as tree
use Rattle.ab_term.specs.Terms.{Nominal, constant, spine, Terms, Read}
use Rattle.ab_term.specs.Typing.{Signature, HasType}
use Rattle.ab_term.specs.Names.{support, rename, rename_all, permute, moved_by, IsPermutationTable, HasOneTypeEach}
use Rattle.ab_term.specs.Translation.{forget, forget_all, EqualPastHints}
use Rattle.ab_term.specs.Variables.{Substitution, variables, image, image_all, image_by, one_by_one, IsTyped}
use Rattle.ab_term.specs.Sameness.{same_number}
use Rattle.ab_term.proofs.Compositions.{image_typed}
use Rattle.ab_term.proofs.Lists.{Contains-none, Contains-map, All-from_contains}
use Rattle.ab_term.proofs.PastHints.{variables_past_hints}
use Rattle.ab_term.proofs.Permutations.{one_to_one}
use Rattle.ab_term.proofs.Renamings.{rename_typed}
use Rattle.ab_term.proofs.Standing as standing
use Rattle.ab_term.proofs.Stands as stands
use Rattle.ab_term.proofs.Stands.{Either, has_variables, variables-image}
use Rattle.ab_term.proofs.Translations.{translate-rename}
use Rattle.ab_unifiers.specs.Replacements.{Cell, holds}
use Rattle.ab_unifiers.specs.Unification.{unified, Solves}
use Rattle.ab_unifiers.specs.Unifiers.{given, keys, sides, IsCell, AreKnown, AllHoldCells, IsUnifier, Unifies}
use Rattle.ab_unifiers.specs.Clauses.{Clause, Each, HoldsNone, numbered, put_together}
use Rattle.ab_unifiers.specs.Alternatives.{made_over, made_terms, arguments_equal}
use Rattle.ab_unifiers.specs.Member.{HasMember}
use Rattle.ab_unifiers.specs.Prefixes.{arguments_of}
use Rattle.ab_unifiers.proofs.Agreeing.{contains_holds, holds_behind}
use Rattle.ab_unifiers.proofs.Avoiding.{not_held}
use Rattle.ab_unifiers.proofs.Cells.{cell_kept}
use Rattle.ab_unifiers.proofs.Choosing.{ordered_pairs}
use Rattle.ab_unifiers.proofs.Following.{plain, plain_typed}
use Rattle.ab_unifiers.proofs.Lifting.{OfCells}
use Rattle.ab_unifiers.proofs.Constants as names_in
use Rattle.ab_unifiers.proofs.Rows.{numbered_within}
use Rattle.ab_unifiers.proofs.Ruling.{image_past_hints}
use Rattle.ab_unifiers.proofs.Sides.{arguments_unify}
use Rattle.ab_unifiers.proofs.Variables.{holds_contains}
use Rattle.ab_formulas.specs.BodyMarks.{MayBeUnfolded, mark_above}
use Rattle.ab_formulas.specs.Declarations.{Declarations, signature_in}
use Rattle.ab_formulas.specs.Formulas.{IsFormula}
use Rattle.ab_formulas.specs.GoalTerms.{HoldsOnly}
use Rattle.ab_formulas.specs.Marks.{plain as unmarked}
use Rattle.ab_formulas.specs.Programs.{HavePrograms, program_in}
use Rattle.ab_formulas.specs.Sequents as sequents
use Rattle.ab_formulas.specs.Sequents.{Sequent, IsSequent, goal_names, names_of, in_terms, proving}
use Rattle.ab_formulas.proofs.Images.{image_formula}
use Rattle.ab_theory.specs.Equations.{AreCells, made as made_variables}
use Rattle.ab_theory.specs.JudgementCases.{judgement_unfolding}
use Rattle.ab_theory.specs.Judgements.{Judgement, as_judgement, constants_of, support_of_focus}
use Rattle.ab_theory.specs.Opening.{kind_of}
use Rattle.ab_theory.specs.SpecRules.{SpecRule, Demand, by_clause, clauses_for, list_rules, rules_unfocused, rules_for, rules_of, demand_of}
use Rattle.ab_theory.specs.Splits as splits
use Rattle.ab_theory.specs.Splits.{Case}
use Rattle.ab_theory.proofs.JudgementRules.{judgement_known}
use Rattle.ab_theory.proofs.Raised.{known_there}
use Rattle.ab_theory.proofs.RuleDemands.{JudgementKnown, IsRuleOf}
use Rattle.ab_theory.proofs.Sequents.{goal_of}
use Rattle.ab_search_trees.specs.Goals.{Goal, Now, asking}
use Rattle.ab_search_trees.specs.Judgements.{search_rules}
use Rattle.ab_search_trees.specs.Lifting.{MakesEqual}
use Rattle.ab_search_trees.specs.Tree.{problem_of}
use Rattle.ab_search_trees.specs.Ways.{Way, demanded, by_rule}
use Rattle.ab_search_trees.proofs.Carried.{AreFlexible}
use Rattle.ab_search_trees.proofs.Facts.{IsTask}
use Rattle.ab_search_trees.proofs.Forms.{begins_constant}
use Rattle.ab_search_trees.proofs.Lifts.{known_cell}
use Rattle.ab_search_trees.proofs.RuleWays.{is_rule_of}
use Rattle.ab_pattern_matching.specs.Raising.{AreRaised}
use Rattle.ab_pattern_matching.specs.Reading.{LeftsWithout}
use Rattle.ab_pattern_matching.proofs.OfClauses.{from_to}
use Rattle.ab_search_proofs.specs.Likeness.{StandIn, replaced, replacing, AreStandIns, IsLike}
use Rattle.ab_search_proofs.specs.Proved.{IsRuleSolved, HasSolvedRule, IsByRule}
use Rattle.ab_search_proofs.proofs.JudgementsAlike.{JudgementLike, judgement_like}
use Rattle.ab_search_proofs.proofs.StandIns.{stand_ins_typed}
use Rattle.ab_search_proofs.proofs.Unfolds.{place_of}
use Rattle.ab_search_clauses.specs.Paths.{at_last, IsAtLast}
use Rattle.ab_search_clauses.proofs.Atoms.{arguments_met}
use Rattle.ab_search_clauses.proofs.ByList.{judgement_image, judged_under}
use Rattle.ab_search_clauses.proofs.Guessing as guessing
use Rattle.ab_search_clauses.proofs.Standing.{unified_alone}
use Rattle.ab_search_clauses.proofs.Along as along
use Rattle.ab_search_clauses.proofs.Along.{each_unmapped, images_are}
use Rattle.ab_search_judgements.proofs.Demands as demands
use Rattle.ab_search_judgements.proofs.Demands.{fresh_arguments, fresh_takes, fresh_variables, fresh_nameless, atom_raised}
use Rattle.ab_search_clauses.proofs.Lifted as lifting
use Rattle.ab_search_clauses.proofs.Opens as opens
use Rattle.ab_search_judgements.proofs.Raising.{listed, lefts_old}
use Rattle.ab_search_judgements.proofs.Shapes as shapes
use Rattle.ab_search_judgements.proofs.Shapes.{Become, images_become, renamed_are}
use Rattle.ab_search_judgements.proofs.Listed.{listed_so}
use Rattle.ab_search_judgements.proofs.Fresh.{fresh_right, fresh_moved, between}
use Rattle.ab_search_clauses.proofs.AtPlace.{cell_here, stood_known, names_from, kept_behind}

two_maps : (f g : Read → Read) (ts : List Read) → map g (map f ts) ≡ map (λ t. g (f t)) ts
two_maps f g [] = refl
two_maps f g (t ∷ ts) = ap (λ l. g (f t) ∷ l) (two_maps f g ts)

module _ (D : Declarations) (program : HavePrograms D) (has : HasMember (signature_in D)) (now : Now) (flexible : AreFlexible now) (g : Goal) (t : IsTask (signature_in D) now g) (depth : ℕ) (j : Judgement) (is : as_judgement g.conclusion ≡ Some j) (bare : j.sign ≡ unmarked)
    (c : Clause (List ℕ)) (there : Contains (search_rules D j) (by_clause c)) (ys : List (tree.Variable ℕ)) (later fill : Substitution ℕ (List ℕ)) (at : IsAtLast (signature_in D) now g (by_rule D now g depth j (by_clause c)) [] ys later fill)
    (more : List (Cell (List ℕ))) (q : Substitution ℕ (List ℕ)) (solves : Solves (codes "x") (problem_of (by_rule D now g depth j (by_clause c))) (unified more q)) where
  abbrev sg : Signature
  sg = signature_in D

  abbrev x : List ℕ
  x = codes "x"

  pub parts : JudgementKnown sg (IsCell now.cells) g.constants j
  parts = judgement_known sg (IsCell now.cells) g.constants g.conclusion j is t.conclusion.formula.typed (record { over = t.conclusion.facts.over; names = t.conclusion.facts.constants })

  pub rule : IsRuleOf sg j (by_clause c)
  rule = is_rule_of D program j (by_clause c) there

  abbrev own : List (Cell (List ℕ))
  own = shapes.own sg has.cons c rule.0

  abbrev n : ℕ
  n = length now.cells

  abbrev S : List Nominal
  S = constants_of j

  abbrev brings : List (Cell (List ℕ))
  brings = demands.brings sg has c now.cells g.constants j parts rule

  abbrev news : List (tree.Variable ℕ)
  news = demands.news sg has c now.cells g.constants j parts rule

  abbrev made : List Read
  made = demands.made sg has c now.cells g.constants j parts rule

  abbrev first : Demand
  first = demand_of (length now.cells) unmarked j (by_clause c)

  -- THE WAY
  abbrev way_with : List (Cell (List ℕ)) → List (Cell (List ℕ)) → Demand → Way
  way_with front own d = record {
    cells = front ++ own;
    flexible = now.flexible ++ numbered (length front) own;
    equations = d.equations;
    serving = [];
    taken = [];
    goals = record (asking d.body g) { depth = depth; untouched = false; member_first = false } ∷ [];
  }

  marks : demand_of (length now.cells) unmarked j (by_clause c) ≡ demanded (length now.cells) j (by_clause c)
  marks = ap (λ m. demand_of (length now.cells) (mark_above m) j (by_clause c)) (sym bare)

  way_is : way_with now.cells brings first ≡ by_rule D now g depth j (by_clause c)
  way_is =
      ap (λ l. way_with now.cells l first) (sym (demands.own_is sg has c now.cells g.constants j parts rule))
      ∙ ap (λ f. way_with f first.own first) (sym (append-nil now.cells))
      ∙ ap (λ (d : Demand). way_with (now.cells ++ d.passing) d.own d) marks

  pub last : IsAtLast sg now g (way_with now.cells brings first) [] ys later fill
  last = subst (λ w. IsAtLast sg now g w [] ys later fill) (sym way_is) at

  solved_here : Solves (codes "x") (given first.equations (now.cells ++ brings) (now.flexible ++ news)) (unified more q)
  solved_here = subst (λ w. Solves (codes "x") (problem_of w) (unified more q)) (sym way_is) solves

  longer : length now.cells ≤ length (now.cells ++ brings)
  longer = let sum = length-append now.cells brings in omega (arith, sum)

  abbrev C : Read
  C = at_last later fill g.conclusion

  C_formula : IsFormula sg C
  C_formula = image_formula sg fill last.filled (image same_number later g.conclusion) (image_formula sg later last.typed g.conclusion t.conclusion.formula)

  -- THE JUDGEMENT at last
  abbrev judged : Judgement
  judged = judged_under fill (judged_under later j)

  judged_is : as_judgement C ≡ Some judged
  judged_is = judgement_image fill (image same_number later g.conclusion) (judged_under later j) (image_formula sg later last.typed g.conclusion t.conclusion.formula).stands (judgement_image later g.conclusion j t.conclusion.formula.stands is)

  abbrev L : Read
  L = at_last later fill j.context

  last_typed : (u : Read) {A : Ty} → HasType sg [] u A → HasType sg [] (at_last later fill u) A
  last_typed u k = image_typed sg same_number fill last.filled (image_typed sg same_number later last.typed k)

  L_typed : HasType sg [] L olist
  L_typed = last_typed j.context parts.context.typed

  abbrev us : List Read
  us = along.us sg (length now.cells) (constants_of j) own now.flexible ys later fill last.typed last.filled [] last.constants last.own

  us_are : OfCells sg (codes "x") own us
  us_are = along.us_are sg (length now.cells) (constants_of j) own now.flexible ys later fill last.typed last.filled [] last.constants last.own

  us_known : All (HoldsOnly ys) us
  us_known = along.us_known sg (length now.cells) (constants_of j) own now.flexible ys later fill last.typed last.filled [] last.constants last.own

  made_own : OfCells sg (codes "x") own made
  made_own = demands.made_own sg has c now.cells g.constants j parts rule

  middle_own : OfCells sg (codes "x") own (map (image same_number later) made)
  middle_own = images_are sg later last.typed own made made_own

  -- the atom and the body at last
  atom_last : forget (at_last later fill (shapes.atom_of sg has.cons c rule.0 made)) ≡ forget (shapes.atom_of sg has.cons c rule.0 us)
  atom_last =
      let ms = map (image same_number later) made in
      let ends = map (image same_number fill) ms in
      image_past_hints fill (image same_number later (shapes.atom_of sg has.cons c rule.0 made)) (shapes.atom_of sg has.cons c rule.0 ms) (shapes.atoms_become sg has.cons c rule.0 later last.typed made ms made_own middle_own (images_become later made))
      ∙ shapes.atoms_become sg has.cons c rule.0 fill last.filled ms ends middle_own (images_are sg fill last.filled own ms middle_own) (images_become fill ms)
      ∙ ap (λ l. forget (shapes.atom_of sg has.cons c rule.0 l)) (two_maps (image same_number later) (image same_number fill) made)

  body_last : forget (at_last later fill first.body) ≡ forget (shapes.body_of sg has.cons c rule.0 L us)
  body_last =
      let ms = map (image same_number later) made in
      let ends = map (image same_number fill) ms in
      let K = image same_number later j.context in
      let start = shapes.body_of sg has.cons c rule.0 j.context made in
      image_past_hints fill (image same_number later first.body) (image same_number later start) (image_past_hints later first.body start (demands.body_is sg has c now.cells g.constants j parts rule))
      ∙ image_past_hints fill (image same_number later start) (shapes.body_of sg has.cons c rule.0 K ms) (shapes.bodies_become sg has.cons c rule.0 later last.typed made ms made_own middle_own (images_become later made) j.context parts.context.typed)
      ∙ shapes.bodies_become sg has.cons c rule.0 fill last.filled ms ends middle_own (images_are sg fill last.filled own ms middle_own) (images_become fill ms) K (image_typed sg same_number later last.typed parts.context.typed)
      ∙ ap (λ l. forget (shapes.body_of sg has.cons c rule.0 L l)) (two_maps (image same_number later) (image same_number fill) made)

  abbrev lefts : Terms ℕ (List ℕ)
  lefts = arguments_of j.goal

  abbrev rights : Terms ℕ (List ℕ)
  rights = demands.rights sg has c now.cells g.constants j parts rule

  unifies_last : Unifies later (arguments_equal (codes "x") 0 lefts rights)
  unifies_last = subst (Unifies later) (demands.equations_are sg has c now.cells g.constants j parts rule) last.unifies

  goal_last : forget (at_last later fill j.goal) ≡ forget (shapes.atom_of sg has.cons c rule.0 us)
  goal_last =
      let A : Read = spine (constant c.predicate) rights in
      let met : forget (image same_number later (spine (constant c.predicate) lefts)) ≡ forget (image same_number later A) =
      ap (spine (constant c.predicate)) (arguments_met sg later 0 lefts rights (demands.lefts_take sg has c now.cells g.constants j parts rule) (demands.rights_take sg has c now.cells g.constants j parts rule) unifies_last) in
      ap (λ t. forget (at_last later fill t)) (demands.goal_is sg has c now.cells g.constants j parts rule)
      ∙ image_past_hints fill (image same_number later (spine (constant c.predicate) lefts)) (image same_number later A) met
      ∙ image_past_hints fill (image same_number later A) (image same_number later (shapes.atom_of sg has.cons c rule.0 made)) (image_past_hints later A (shapes.atom_of sg has.cons c rule.0 made) (demands.atom_is sg has c now.cells g.constants j parts rule))
      ∙ atom_last

  -- WHAT IS LEFT
  abbrev B : Read
  B = at_last later fill (demanded (length now.cells) j (by_clause c)).body

  B_is : at_last later fill first.body ≡ B
  B_is = ap (λ (d : Demand). at_last later fill d.body) marks

  B_formula : IsFormula sg B
  B_formula = subst (IsFormula sg) B_is (image_formula sg fill last.filled (image same_number later first.body) (image_formula sg later last.typed first.body (demands.body_formula sg has c now.cells g.constants j parts rule)))

  C_parts : JudgementKnown sg (Contains ys) (support C) judged
  C_parts = judgement_known sg (Contains ys) (support C) C judged judged_is C_formula.typed (record { over = λ y m. All-contains (Contains ys) (variables C) y last.conclusion m; names = λ a m. m })

  B_known : HoldsOnly ys B
  B_known = subst (HoldsOnly ys) B_is (All-from_contains (Contains ys) (variables (at_last later fill first.body)) (λ y m.
      holds_contains ys y (has_variables (λ (a : Nominal). Unit {0}) (λ y. holds ys y ≡ true) (shapes.body_of sg has.cons c rule.0 L us)
      (shapes.body_over sg has.cons c rule.0 (λ a. Unit {0}) (λ y. holds ys y ≡ true) L us
      (stands.has (λ (a : Nominal). Unit {0}) (λ y. holds ys y ≡ true) L (λ a k. tt) (λ y k. contains_holds ys y (C_parts.context.known.over y k)))
      (All-from_contains (standing.Has (Either (λ (a : Nominal). Unit {0}) (λ (y : tree.Variable ℕ). holds ys y ≡ true))) us (λ u i. stands.has (λ (a : Nominal). Unit {0}) (λ y. holds ys y ≡ true) u (λ a k. tt) (λ y k. contains_holds ys y (All-contains (Contains ys) (variables u) y (All-contains (HoldsOnly ys) us u us_known i) k)))))
      y (subst (λ l. Contains l y) (variables_past_hints (at_last later fill first.body) (shapes.body_of sg has.cons c rule.0 L us) body_last) m))))

  -- WHERE THE CONCLUSION HAS COME TO STAND
  module _ (vs : List StandIn) (s : Sequent) (ps : List (Nominal × Nominal)) (place : Judgement) (same_variables : map replaced vs ≡ ys) (are : AreStandIns s vs) (sequent : IsSequent D s) (permutation : IsPermutationTable ps)
      (same : EqualPastHints (permute ps (image same_number (replacing vs) C)) s.conclusion) (place_is : as_judgement s.conclusion ≡ Some place) (one_type : HasOneTypeEach (goal_names s ++ names_of (map (λ u. permute ps (image same_number (replacing vs) u)) us))) where
    abbrev m : Nominal → Nominal
    m = moved_by ps

    abbrev here : Read → Read
    here u = permute ps (image same_number (replacing vs) u)

    keeps : (a : Nominal) → (moved_by ps a).type ≡ a.type
    keeps = (one_to_one ps permutation).keeps

    stood_typed : IsTyped sg (replacing vs)
    stood_typed = stand_ins_typed s vs are sg

    like : IsLike D vs C s.conclusion
    like = record { formula = C_formula; known = subst (λ l. HoldsOnly l C) (sym same_variables) last.conclusion; same = (ps, permutation, same) }

    alike : JudgementLike D vs ps judged s.conclusion
    unfolding like
    alike = judgement_like D vs C s.conclusion like judged judged_is

    place_same : alike.judged ≡ place
    place_same = let both : Some alike.judged ≡ Some place = sym alike.is ∙ place_is in cc

    context_there : forget (here L) ≡ forget place.context
    context_there = alike.context ∙ ap (λ (k : Judgement). forget k.context) place_same

    goal_there : forget (here (at_last later fill j.goal)) ≡ forget place.goal
    goal_there = alike.goal ∙ ap (λ (k : Judgement). forget k.goal) place_same

    sign_there : place.sign ≡ unmarked
    sign_there = ap (λ (k : Judgement). k.sign) (sym place_same) ∙ alike.sign ∙ bare

    focus_there : place.focus ≡ None
    focus_there = ap (λ (k : Judgement). k.focus) (sym place_same) ∙ alike.unfocused (ap (λ f. option_map (image same_number fill) (option_map (image same_number later) f)) (listed_so D j c there).0)

    moved_twice : (ts : List Read) → map (rename m) (map (image same_number (replacing vs)) ts) ≡ map (λ u. permute ps (image same_number (replacing vs) u)) ts
    moved_twice = two_maps (image same_number (replacing vs)) (rename m)

    terms_are : OfCells sg (codes "x") own (map (λ u. permute ps (image same_number (replacing vs) u)) us)
    terms_are = subst (OfCells sg (codes "x") own) (moved_twice us) (renamed_are sg m keeps own (map (image same_number (replacing vs)) us) (images_are sg (replacing vs) stood_typed own us us_are))

    here_past_hints : (u w : Read) → forget u ≡ forget w → forget (here u) ≡ forget (here w)
    here_past_hints u w e =
        translate-rename (λ k. k) (λ h. tt) m (image same_number (replacing vs) u)
        ∙ ap (rename m) (image_past_hints (replacing vs) u w e)
        ∙ sym (translate-rename (λ k. k) (λ h. tt) m (image same_number (replacing vs) w))

    renamed_past_hints : (u w : Read) → forget u ≡ forget w → forget (rename m u) ≡ forget (rename m w)
    renamed_past_hints u w e = translate-rename (λ k. k) (λ h. tt) m u ∙ ap (rename m) e ∙ sym (translate-rename (λ k. k) (λ h. tt) m w)

    stood_are : OfCells sg (codes "x") own (map (image same_number (replacing vs)) us)
    stood_are = images_are sg (replacing vs) stood_typed own us us_are

    atom_here : forget (here (shapes.atom_of sg has.cons c rule.0 us)) ≡ forget (shapes.atom_of sg has.cons c rule.0 (map (λ u. permute ps (image same_number (replacing vs) u)) us))
    atom_here =
        let ws = map (image same_number (replacing vs)) us in
        renamed_past_hints (image same_number (replacing vs) (shapes.atom_of sg has.cons c rule.0 us)) (shapes.atom_of sg has.cons c rule.0 ws) (shapes.atoms_become sg has.cons c rule.0 (replacing vs) stood_typed us ws us_are stood_are (images_become (replacing vs) us))
        ∙ ap forget (shapes.atom_renamed sg has.cons c rule.0 m keeps ws)
        ∙ ap (λ l. forget (shapes.atom_of sg has.cons c rule.0 l)) (moved_twice us)

    body_here : forget (here (shapes.body_of sg has.cons c rule.0 L us)) ≡ forget (shapes.body_of sg has.cons c rule.0 (here L) (map (λ u. permute ps (image same_number (replacing vs) u)) us))
    body_here =
        let ws = map (image same_number (replacing vs)) us in
        let K = image same_number (replacing vs) L in
        renamed_past_hints (image same_number (replacing vs) (shapes.body_of sg has.cons c rule.0 L us)) (shapes.body_of sg has.cons c rule.0 K ws) (shapes.bodies_become sg has.cons c rule.0 (replacing vs) stood_typed us ws us_are stood_are (images_become (replacing vs) us) L L_typed)
        ∙ ap forget (shapes.body_renamed sg has.cons c rule.0 m keeps ws K (image_typed sg same_number (replacing vs) stood_typed L_typed))
        ∙ ap (λ l. forget (shapes.body_of sg has.cons c rule.0 (here L) l)) (moved_twice us)

    goal_atom : forget place.goal ≡ forget (shapes.atom_of sg has.cons c rule.0 (map (λ u. permute ps (image same_number (replacing vs) u)) us))
    goal_atom = sym goal_there ∙ here_past_hints (at_last later fill j.goal) (shapes.atom_of sg has.cons c rule.0 us) goal_last ∙ atom_here

    -- THE RULE is there
    place_goal : (args : Terms ℕ (List ℕ)) × (place.goal ≡ spine (constant c.predicate) args)
    place_goal =
        let moved : Terms ℕ (Unit {0}) = forget_all (rename_all m (image_all same_number (replacing vs) (image_all same_number fill (image_all same_number later lefts)))) in
        let r = begins_constant c.predicate moved place.goal (ap (λ t. forget (here (at_last later fill t))) (sym (demands.goal_is sg has c now.cells g.constants j parts rule)) ∙ goal_there) in
        (r.0, r.1)

    abbrev place_rule : IsRuleOf sg place (by_clause c)
    place_rule = (rule.0, place_goal.0, place_goal.1)

    abbrev listed_here : List SpecRule
    listed_here = map by_clause (clauses_for place.goal (program_in D)) ++ list_rules place.context

    rules_here : rules_of (program_in D) place ≡ Some listed_here
    rules_here =
        ap (λ f. rules_for (program_in D) f place.context place.goal) focus_there
        ∙ ap (rules_unfocused (program_in D) place.context place.goal) (ap kind_of place_goal.1)

    clause_here : Contains listed_here (by_clause c)
    clause_here =
        let in_search = (listed_so D j c there).1 in
        let goals : clauses_for j.goal (program_in D) ≡ clauses_for place.goal (program_in D) =
        ap (λ t. clauses_for t (program_in D)) (demands.goal_is sg has c now.cells g.constants j parts rule) ∙ sym (ap (λ t. clauses_for t (program_in D)) place_goal.1) in
        Contains-append_left (map by_clause (clauses_for place.goal (program_in D))) (list_rules place.context) (by_clause c)
        (Contains-map by_clause (clauses_for place.goal (program_in D)) c (subst (λ l. Contains l c) goals in_search))

    -- OVER THESE CELLS
    module _ (cells : List (Cell (List ℕ))) (cells_are : AreCells cells s) where
      place_parts : JudgementKnown sg (IsCell cells) (goal_names s) place
      place_parts =
          let may = (goal_of D s sequent).conclusion in
          judgement_known sg (IsCell cells) (goal_names s) s.conclusion place place_is may.formula.typed
          (record { over = λ y i. cell_here s cells cells_are y (All-contains (Contains (map in_terms s.variables)) (variables s.conclusion) y may.closed i); names = may.names })

      abbrev k : ℕ
      k = length cells

      abbrev brings2 : List (Cell (List ℕ))
      brings2 = demands.brings sg has c cells (goal_names s) place place_parts place_rule

      abbrev zs : List (tree.Variable ℕ)
      zs = made_over (codes "x") (length cells) (constants_of place) own

      abbrev made2 : List Read
      made2 = made_terms (codes "x") (length cells) (constants_of place) own

      abbrev second : Demand
      second = demand_of (length cells) unmarked place (by_clause c)

      abbrev rights2 : Terms ℕ (List ℕ)
      rights2 = demands.rights sg has c cells (goal_names s) place place_parts place_rule

      abbrev U : Substitution ℕ (List ℕ)
      U = lifting.unifier sg (length cells) (constants_of place) own (map (λ u. permute ps (image same_number (replacing vs) u)) us) terms_are

      abbrev values : List Read
      values = lifting.values sg (length cells) (constants_of place) own (map (λ u. permute ps (image same_number (replacing vs) u)) us) terms_are

      U_typed : IsTyped sg U
      U_typed = lifting.unifier_typed sg (length cells) (constants_of place) own (map (λ u. permute ps (image same_number (replacing vs) u)) us) terms_are

      made2_own : OfCells sg (codes "x") own made2
      made2_own = along.made_are sg (length cells) (constants_of place) own []

      become : Become U made2 (map (λ u. permute ps (image same_number (replacing vs) u)) us)
      become = lifting.become sg (length cells) (constants_of place) own (map (λ u. permute ps (image same_number (replacing vs) u)) us) terms_are

      low_goal : (y : tree.Variable ℕ) → Contains (variables place.goal) y → y.name < length cells
      low_goal y i = known_cell cells y.name y.type (place_parts.goal.known.over y i)

      unifies_there : Unifies U second.equations
      unifies_there =
          let A : Read = spine (constant c.predicate) rights2 in
          let G : Read = spine (constant c.predicate) (arguments_of place.goal) in
          let G_is = demands.goal_is sg has c cells (goal_names s) place place_parts place_rule in
          let left : forget (image same_number U G) ≡ forget (shapes.atom_of sg has.cons c rule.0 (map (λ u. permute ps (image same_number (replacing vs) u)) us)) =
          ap (λ t. forget (image same_number U t)) (sym G_is)
          ∙ ap forget (lifting.old_stays sg (length cells) (constants_of place) own (map (λ u. permute ps (image same_number (replacing vs) u)) us) terms_are place.goal low_goal)
          ∙ goal_atom in
          let next : forget (image same_number U A) ≡ forget (shapes.atom_of sg has.cons c rule.0 (map (λ u. permute ps (image same_number (replacing vs) u)) us)) =
          image_past_hints U A (shapes.atom_of sg has.cons c rule.0 made2) (demands.atom_is sg has c cells (goal_names s) place place_parts place_rule)
          ∙ shapes.atoms_become sg has.cons c rule.0 U U_typed made2 (map (λ u. permute ps (image same_number (replacing vs) u)) us) made2_own terms_are become in
          let both : forget (image same_number U G) ≡ forget (image same_number U A) = left ∙ sym next in
          let arguments : forget_all (image_all same_number U (arguments_of place.goal)) ≡ forget_all (image_all same_number U rights2) = cc in
          subst (Unifies U) (sym (demands.equations_are sg has c cells (goal_names s) place place_parts place_rule)) (arguments_unify sg (codes "x") U 0 (arguments_of place.goal) rights2 arguments)

      none_without : All (HoldsNone sg []) (map (λ u. permute ps (image same_number (replacing vs) u)) us)
      none_without = All-from_contains (HoldsNone sg []) (map (λ u. permute ps (image same_number (replacing vs) u)) us) (λ u i. All-from_contains (λ a. ¬ (Contains (support u) a)) [] (λ a l. absurd (Contains-none a l)))

      held : All (names_in.Has (λ a. Contains (constants_of place) a ⊎ Contains [] a)) (sides second.equations)
      held = demands.held sg has c cells (goal_names s) place place_parts place_rule

      -- MATCHING
      abbrev N : ℕ
      N = length now.cells + (length now.cells + length own)

      others : (v : sequents.Variable) → Contains s.variables v → holds zs (in_terms v) ≡ false
      others v i = false_from_ne_true (holds zs (in_terms v)) (λ h.
          let high = (numbered_within (length cells) brings2 (in_terms v) h).0 in
          let low = known_there cells s.variables cells_are (in_terms v) (contains_holds (map in_terms s.variables) (in_terms v) (Contains-map in_terms s.variables v i)) in
          absurd (omega (arith, high, low)))

      within : (y : tree.Variable ℕ) → holds (keys later) y ≡ true → (holds (now.flexible ++ made_over (codes "x") (length now.cells) (constants_of j) own) y ≡ true) ⊎ (length (now.cells ++ brings) ≤ y.name)
      within = last.within

      met : Each (λ w v. image_by (plain U) (forget w) ≡ forget (permute ps (image same_number (replacing vs) (at_last later fill v)))) made2 made
      met =
          let R : Read → Read → Type 0 = λ w v. image_by (plain U) (forget w) ≡ forget v in
          each_unmapped (λ w v. R w (here v)) (at_last later fill) made2 made (each_unmapped R here made2 us become)

      replaceable_known : AreKnown (now.cells ++ brings) (now.flexible ++ made_over (codes "x") (length now.cells) (constants_of j) own)
      replaceable_known y h = elim (not_held now.flexible news y h) [
        | inl a ↦ known_cell (now.cells ++ brings) y.name y.type (cell_kept now.cells (now.cells ++ brings) (brings, refl) y (flexible y a))
        | inr a ↦ known_cell (now.cells ++ brings) y.name y.type (demands.new_cell sg has c now.cells g.constants j parts rule y a)
      ]

      higher : length now.cells ≤ N + length own
      higher = omega arith

      equal_first : MakesEqual (along.guess sg (length now.cells) (constants_of j) own now.flexible ys later fill last.typed last.filled [] last.constants last.own (length (now.cells ++ brings)) longer last.nameless within ps permutation s vs are same_variables (length cells) (constants_of place) others U met) first.equations
      equal_first = subst (MakesEqual (along.guess sg (length now.cells) (constants_of j) own now.flexible ys later fill last.typed last.filled [] last.constants last.own (length (now.cells ++ brings)) longer last.nameless within ps permutation s vs are same_variables (length cells) (constants_of place) others U met))
          (sym (demands.equations_are sg has c now.cells g.constants j parts rule))
          (guessing.makes_equal sg (now.flexible ++ made_over (codes "x") (length now.cells) (constants_of j) own) (length now.cells) (length (now.cells ++ brings)) (N + length own) longer higher later last.typed last.nameless within 0 lefts rights
          (demands.lefts_take sg has c now.cells g.constants j parts rule) (demands.rights_take sg has c now.cells g.constants j parts rule)
          (λ y h. inr (demands.lefts_low sg has c now.cells g.constants j parts rule y h))
          (λ y h. inl (holds_behind now.flexible news y (demands.rights_new sg has c now.cells g.constants j parts rule y h))) unifies_last)

      is_unified : (p : Substitution ℕ (List ℕ)) × Solves (codes "x") (given second.equations (cells ++ brings2) zs) (unified (cells ++ brings2) p)
      is_unified =
          let flex = now.flexible ++ made_over (codes "x") (length now.cells) (constants_of j) own in
          let most = length (now.cells ++ brings) in
          let ts = listed (fresh_arguments sg has c rule.0 N) in
          let mid = between sg has c rule.0 N (length now.cells + length own) (constants_of place) in
          let stays = fresh_moved sg has c rule.0 N ps in
          unified_alone sg own ts ps permutation (length now.cells) (length cells) (constants_of j) (constants_of place)
          (fresh_right sg has c rule.0 N (constants_of j) (constants_of place) ps)
          (ordered_pairs (support place.context ++ (support_of_focus place.focus ++ support place.goal)))
          (along.guess sg (length now.cells) (constants_of j) own now.flexible ys later fill last.typed last.filled [] last.constants last.own (length (now.cells ++ brings)) longer last.nameless within ps permutation s vs are same_variables (length cells) (constants_of place) others U met)
          (guessing.guess_typed sg flex (length now.cells) most (N + length own) longer higher later last.typed last.nameless within)
          (guessing.guess_outside sg flex (length now.cells) most (N + length own) longer higher later last.typed last.nameless within)
          first.equations (demands.raised sg has c now.cells g.constants j parts rule N)
          (subst (LeftsWithout (made_over (codes "x") (length now.cells) (constants_of j) own)) (sym (demands.equations_are sg has c now.cells g.constants j parts rule))
          (lefts_old news (length now.cells) (λ y h. (numbered_within (length now.cells) brings y h).0) 0 lefts rights (demands.lefts_low sg has c now.cells g.constants j parts rule)))
          (now.cells ++ brings) more now.flexible q (demands.typed sg has c now.cells g.constants j parts rule) replaceable_known (demands.over_cells sg has c now.cells g.constants j parts rule)
          (guessing.is_guess sg flex (length now.cells) most (N + length own) longer higher later last.typed last.nameless within) equal_first solved_here
          mid.0 (subst (λ l. AreRaised (from_to N (length now.cells + length own) (constants_of place)) (numbered N own) l mid.0) (sym stays) mid.1)
          (plain U)
          (along.at_end sg (length now.cells) (constants_of j) own now.flexible ys later fill last.typed last.filled [] last.constants last.own (length (now.cells ++ brings)) longer last.nameless within ps permutation s vs are same_variables (length cells) (constants_of place) others U met)
          (plain_typed sg U U_typed)
          (along.at_end_typed sg (length now.cells) (constants_of j) own now.flexible ys later fill last.typed last.filled [] last.constants last.own (length (now.cells ++ brings)) longer last.nameless within ps permutation s vs are same_variables (length cells) (constants_of place) others U met)
          second.equations
          (subst (λ l. AreRaised (from_to N (length cells) (constants_of place)) (numbered N own) l second.equations) (sym stays) (demands.raised sg has c cells (goal_names s) place place_parts place_rule N))
          (subst (LeftsWithout zs) (sym (demands.equations_are sg has c cells (goal_names s) place place_parts place_rule))
          (lefts_old zs (length cells) (λ y h. (numbered_within (length cells) brings2 y h).0) 0 (arguments_of place.goal) rights2 (demands.lefts_low sg has c cells (goal_names s) place place_parts place_rule)))
          (cells ++ brings2) (demands.typed sg has c cells (goal_names s) place place_parts place_rule) (demands.known sg has c cells (goal_names s) place place_parts place_rule) (demands.over_cells sg has c cells (goal_names s) place place_parts place_rule)
          (along.agree sg (length now.cells) (constants_of j) own now.flexible ys later fill last.typed last.filled [] last.constants last.own (length (now.cells ++ brings)) longer last.nameless within ps permutation s vs are same_variables (length cells) (constants_of place) others U met)
          (along.passing sg (length now.cells) (constants_of j) own now.flexible ys later fill last.typed last.filled [] last.constants last.own (length (now.cells ++ brings)) longer last.nameless within ps permutation s vs are same_variables (length cells) (constants_of place) others U met)
          (lifting.foreign sg (length cells) (constants_of place) own (map (λ u. permute ps (image same_number (replacing vs) u)) us) terms_are)
          (lifting.guess_over sg (length cells) (constants_of place) own (map (λ u. permute ps (image same_number (replacing vs) u)) us) terms_are)
          (lifting.hold_none_there sg (length cells) (constants_of place) own (map (λ u. permute ps (image same_number (replacing vs) u)) us) terms_are [] none_without second.equations held unifies_there)
          (lifting.equal sg (length cells) (constants_of place) own (map (λ u. permute ps (image same_number (replacing vs) u)) us) terms_are [] none_without second.equations held unifies_there)

      -- THE RULE IS SOLVED
      terms_known : All (HoldsOnly (map in_terms s.variables)) (map (λ u. permute ps (image same_number (replacing vs) u)) us)
      terms_known = stood_known sg s vs are ps ys same_variables us us_known

      values_known : (v : Read) → Contains values v → (y : tree.Variable ℕ) → Contains (variables v) y → Contains (map in_terms s.variables) y
      values_known = lifting.values_known sg (length cells) (constants_of place) own (map (λ u. permute ps (image same_number (replacing vs) u)) us) terms_are (map in_terms s.variables) terms_known

      values_low : (v : Read) → Contains values v → (y : tree.Variable ℕ) → Contains (variables v) y → y.name < length cells
      values_low v i y l = known_there cells s.variables cells_are y (contains_holds (map in_terms s.variables) y (values_known v i y l))

      values_typed : Each (λ (z : tree.Variable ℕ) v. HasType sg [] v z.type) zs values
      values_typed = lifting.values_typed sg (length cells) (constants_of place) own (map (λ u. permute ps (image same_number (replacing vs) u)) us) terms_are

      second_hold : AllHoldCells (cells ++ brings2) second.equations
      second_hold = demands.hold sg has c cells (goal_names s) place place_parts place_rule

      unifier_there : IsUnifier sg zs second.equations U
      unifier_there = lifting.is_unifier sg (length cells) (constants_of place) own (map (λ u. permute ps (image same_number (replacing vs) u)) us) terms_are [] none_without second.equations held unifies_there

      abbrev p : Substitution ℕ (List ℕ)
      p = is_unified.0

      abbrev open_terms : List Read
      open_terms = opens.terms sg cells brings2 second.equations values values_typed values_low (demands.typed sg has c cells (goal_names s) place place_parts place_rule) (demands.known sg has c cells (goal_names s) place place_parts place_rule) (demands.over_cells sg has c cells (goal_names s) place place_parts place_rule) second_hold (demands.new_cell sg has c cells (goal_names s) place place_parts place_rule) unifier_there is_unified.0 is_unified.1

      abbrev left_open : List sequents.Variable
      left_open = opens.left_open sg cells brings2 second.equations values values_typed values_low (demands.typed sg has c cells (goal_names s) place place_parts place_rule) (demands.known sg has c cells (goal_names s) place place_parts place_rule) (demands.over_cells sg has c cells (goal_names s) place place_parts place_rule) second_hold (demands.new_cell sg has c cells (goal_names s) place place_parts place_rule) unifier_there is_unified.0 is_unified.1

      made_so : made_variables cells (cells ++ brings2) is_unified.0 ≡ left_open
      made_so = opens.made_so sg cells brings2 second.equations values values_typed values_low (demands.typed sg has c cells (goal_names s) place place_parts place_rule) (demands.known sg has c cells (goal_names s) place place_parts place_rule) (demands.over_cells sg has c cells (goal_names s) place place_parts place_rule) second_hold (demands.new_cell sg has c cells (goal_names s) place place_parts place_rule) unifier_there is_unified.0 is_unified.1

      terms_in : (t : Read) → Contains open_terms t → Contains values t
      terms_in = opens.terms_in sg cells brings2 second.equations values values_typed values_low (demands.typed sg has c cells (goal_names s) place place_parts place_rule) (demands.known sg has c cells (goal_names s) place place_parts place_rule) (demands.over_cells sg has c cells (goal_names s) place place_parts place_rule) second_hold (demands.new_cell sg has c cells (goal_names s) place place_parts place_rule) unifier_there is_unified.0 is_unified.1

      open_typed : Each (λ (y : sequents.Variable) t. HasType sg [] t y.type) left_open open_terms
      open_typed = opens.open_typed sg cells brings2 second.equations values values_typed values_low (demands.typed sg has c cells (goal_names s) place place_parts place_rule) (demands.known sg has c cells (goal_names s) place place_parts place_rule) (demands.over_cells sg has c cells (goal_names s) place place_parts place_rule) second_hold (demands.new_cell sg has c cells (goal_names s) place place_parts place_rule) unifier_there is_unified.0 is_unified.1

      body_opens : EqualPastHints (one_by_one same_number (put_together (map in_terms left_open) open_terms) (image same_number is_unified.0 second.body)) (image same_number U second.body)
      body_opens = opens.body_opens sg cells brings2 second.equations values values_typed values_low (demands.typed sg has c cells (goal_names s) place place_parts place_rule) (demands.known sg has c cells (goal_names s) place place_parts place_rule) (demands.over_cells sg has c cells (goal_names s) place place_parts place_rule) second_hold (demands.new_cell sg has c cells (goal_names s) place place_parts place_rule) unifier_there is_unified.0 is_unified.1
          second.body (demands.body_formula sg has c cells (goal_names s) place place_parts place_rule).typed (demands.body_cells sg has c cells (goal_names s) place place_parts place_rule)

      body_there : EqualPastHints (one_by_one same_number (put_together (map in_terms left_open) open_terms) (image same_number is_unified.0 second.body)) (here B)
      body_there =
          let ws = map (λ u. permute ps (image same_number (replacing vs) u)) us in
          let start = shapes.body_of sg has.cons c rule.0 place.context made2 in
          body_opens
          ∙ image_past_hints U second.body start (demands.body_is sg has c cells (goal_names s) place place_parts place_rule)
          ∙ shapes.bodies_become sg has.cons c rule.0 U U_typed made2 ws made2_own terms_are become place.context place_parts.context.typed
          ∙ ap (λ K. forget (shapes.body_of sg has.cons c rule.0 K ws)) (lifting.old_stays sg (length cells) (constants_of place) own ws terms_are place.context (demands.list_low sg has c cells (goal_names s) place place_parts place_rule))
          ∙ shapes.lists_same sg has.cons c rule.0 place.context (here L) place_parts.context.typed (rename_typed sg m keeps (image_typed sg same_number (replacing vs) stood_typed L_typed)) (sym context_there) ws
          ∙ sym body_here
          ∙ sym (here_past_hints (at_last later fill first.body) (shapes.body_of sg has.cons c rule.0 L us) body_last)
          ∙ ap (λ t. forget (here t)) B_is

      still_one : HasOneTypeEach (goal_names s ++ names_of open_terms)
      still_one a b i l e =
          let ws = map (λ u. permute ps (image same_number (replacing vs) u)) us in
          let wider = kept_behind (goal_names s) (names_of open_terms) (names_of ws) (names_from values ws (lifting.values_names sg (length cells) (constants_of place) own ws terms_are) open_terms terms_in) in
          one_type a b (wider a i) (wider b l) e

      -- as the case of the rule
      abbrev case_with : List (Cell (List ℕ)) → List (Cell (List ℕ)) → Demand → Case
      case_with front new d = record { before = front; own = new; equations = d.equations; flexible = numbered (length front) new; goal = proving d.body s }

      case_is : case_with cells brings2 second ≡ judgement_unfolding s place (by_clause c) cells
      case_is =
          ap (λ l. case_with cells l second) (sym (demands.own_is sg has c cells (goal_names s) place place_parts place_rule))
          ∙ ap (λ f. case_with f second.own second) (sym (append-nil cells))
          ∙ ap (λ z. let d = demand_of (length cells) (mark_above z) place (by_clause c) in case_with (cells ++ d.passing) d.own d) (sym sign_there)

      rule_solved : IsRuleSolved D s place (by_clause c) cells (here B)
      rule_solved = record {
        more = cells ++ brings2;
        answer = is_unified.0;
        solved = subst (λ (u : Case). Solves (codes "x") (splits.problem_of u) (unified (cells ++ brings2) is_unified.0)) case_is is_unified.1;
        terms = open_terms;
        typed = subst (λ (u : Case). Each (λ (y : sequents.Variable) t. HasType sg [] t y.type) (made_variables u.before (cells ++ brings2) is_unified.0) open_terms) case_is
            (subst (λ l. Each (λ (y : sequents.Variable) t. HasType sg [] t y.type) l open_terms) (sym made_so) open_typed);
        known = All-from_contains (HoldsOnly (map in_terms s.variables)) open_terms (λ t i. All-from_contains (Contains (map in_terms s.variables)) (variables t) (values_known t (terms_in t i)));
        one_type = still_one;
        body = ap (λ (u : Case). forget (one_by_one same_number (put_together (map in_terms (made_variables u.before (cells ++ brings2) is_unified.0)) open_terms) (image same_number is_unified.0 u.goal.conclusion))) (sym case_is)
            ∙ ap (λ l. forget (one_by_one same_number (put_together (map in_terms l) open_terms) (image same_number is_unified.0 second.body))) made_so
            ∙ body_there;
      }

    has_rule : HasSolvedRule D s place (here B)
    has_rule =
        let at_place = place_of listed_here (by_clause c) clause_here in
        record { rules = listed_here; known = rules_here; place = at_place.0; rule = by_clause c; there = at_place.1; solved = rule_solved }

  -- EVIDENCE
  abbrev pub clause_terms : List Read
  clause_terms = us

  pub clause_evidence : IsByRule D ys C us B
  clause_evidence = record {
    judgement = judged;
    is = judged_is;
    may = may_be;
    formula = B_formula;
    known = B_known;
    solved = λ vs s ps place e are sequent table same place_is one. has_rule vs s ps place e are sequent table same place_is one;
  }
    where
      may_be : MayBeUnfolded j.sign
      may_be = subst MayBeUnfolded (sym bare) tt
