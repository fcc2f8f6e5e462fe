-- A PART IN FOCUS IS SOLVED WHEREVER ITS JUDGEMENT COMES TO STAND, with names or without: by what the search has for the names that are open in the end.
use Rattle.std.proofs.Common.{◌≡◌, ◌≢◌, ℕ, zero, ◌<◌, ◌≤◌, List, [], ◌∷◌, ◌++◌, map, length, codes, Bool, true, false, Option, Some, None, option_map, refl, sym, ◌∙◌, ap, subst, arith, length-append}
use Rattle.std.specs.Prelude.{All, AllPairs, Contains}
use Rattle.std.proofs.lemmas.Bool.{false_from_ne_true}
use Rattle.std.proofs.lemmas.List.Elements.{All-contains}
use Rattle.ab_term.specs.Types.{Ty, o, olist, prop}
use Rattle.ab_term.specs.Terms as tree
use Rattle.ab_term.specs.Terms.{Nominal, Head, Read}
use Rattle.ab_term.specs.Typing.{Signature, HasType}
use Rattle.ab_term.specs.Names.{support, rename, permute, moved_by, IsPermutationTable, HasOneTypeEach}
use Rattle.ab_term.specs.Reach.{raise}
use Rattle.ab_term.specs.Translation.{forget, EqualPastHints}
use Rattle.ab_term.specs.Variables.{Substitution, variables, value_in, image, image_by, one_by_one, IsTyped}
use Rattle.ab_term.specs.Sameness.{same_number}
use Rattle.ab_term.proofs.ClosedMaps.{IsClosedMap}
use Rattle.ab_term.proofs.Compositions.{image_typed, map_typed}
use Rattle.ab_term.proofs.Images.{closed_map}
use Rattle.ab_term.proofs.Lists.{Contains-none, Contains-here, Contains-there, Contains-map, All-from_contains}
use Rattle.ab_term.proofs.PastHints.{variables-forget}
use Rattle.ab_term.proofs.Permutations.{one_to_one}
use Rattle.ab_term.proofs.Renamings.{rename_typed}
use Rattle.ab_term.proofs.Standing.{Has}
use Rattle.ab_term.proofs.Stands.{Either}
use Rattle.ab_term.proofs.Translations.{translate-rename, support-translate}
use Rattle.ab_unifiers.specs.Replacements.{Cell, holds}
use Rattle.ab_unifiers.specs.Unification.{Equation, unified, Solves}
use Rattle.ab_unifiers.specs.Unifiers.{given, IsCell, IsUnifier, Unifies}
use Rattle.ab_unifiers.specs.Clauses.{Each, HoldsNone, numbered, put_together}
use Rattle.ab_unifiers.specs.Alternatives.{cells_over, made_over, made_terms}
use Rattle.ab_unifiers.specs.Member.{HasMember}
use Rattle.ab_unifiers.proofs.Agreeing.{contains_holds}
use Rattle.ab_unifiers.proofs.Choosing.{ordered_pairs}
use Rattle.ab_unifiers.proofs.Following.{plain, plain_typed, image_plain}
use Rattle.ab_unifiers.proofs.Lifting.{OfCells}
use Rattle.ab_unifiers.proofs.Past.{forget-image}
use Rattle.ab_unifiers.proofs.Rows.{numbered_within}
use Rattle.ab_unifiers.proofs.Ruling.{image_past_hints}
use Rattle.ab_unifiers.proofs.Variables as over
use Rattle.ab_unifiers.proofs.Variables.{holds_contains}
use Rattle.ab_formulas.specs.BodyMarks.{MayBeUnfolded, mark_above}
use Rattle.ab_formulas.specs.Declarations.{Declarations, signature_in}
use Rattle.ab_formulas.specs.GoalTerms.{HoldsOnly}
use Rattle.ab_formulas.specs.Marks.{plain as unmarked}
use Rattle.ab_formulas.specs.Programs.{HavePrograms, program_in}
use Rattle.ab_formulas.specs.Sequents as sequents
use Rattle.ab_formulas.specs.Sequents.{Sequent, IsSequent, goal_names, names_of, in_terms, proving}
use Rattle.ab_theory.specs.Equations.{AreCells, made as made_variables}
use Rattle.ab_theory.specs.JudgementCases.{judgement_unfolding}
use Rattle.ab_theory.specs.Judgements.{Judgement, as_judgement, constants_of, support_of_focus}
use Rattle.ab_theory.specs.Parts.{Part, parts_of}
use Rattle.ab_theory.specs.SpecRules.{SpecRule, Demand, by_part, rules_of, demand_of}
use Rattle.ab_theory.specs.Splits as splits
use Rattle.ab_theory.specs.Splits.{Case}
use Rattle.ab_theory.proofs.JudgementRules.{judgement_known}
use Rattle.ab_theory.proofs.Raised.{known_there}
use Rattle.ab_theory.proofs.RuleDemands.{JudgementKnown, IsRuleOf}
use Rattle.ab_theory.proofs.Sequents.{goal_of}
use Rattle.ab_coverage.proofs.Cases.{OptionsHave, closed_has}
use Rattle.ab_coverage.proofs.Clausal.{Free, closed_free, MetBy, atoms_met, bodies_met}
use Rattle.ab_coverage.proofs.Conjoined.{asked, asked_has, asked_typed}
use Rattle.ab_coverage.proofs.Demands.{part_clause, parts_same}
use Rattle.ab_coverage.proofs.Filling.{closed_with, dropped_with}
use Rattle.ab_coverage.proofs.IndexForms.{asked_same}
use Rattle.ab_coverage.proofs.IndexedGoals.{stands, lower}
use Rattle.ab_coverage.proofs.IndexedInstances.{IsGuess}
use Rattle.ab_coverage.proofs.IndexedSpecClauses.{taken_apart, clause_image, closed_in, left_open, spread, context_of}
use Rattle.ab_coverage.proofs.Lowered.{lowered, stands-shift}
use Rattle.ab_coverage.proofs.Parts.{IsPart, parts_right, raise-closed, raise_has, raise_typed}
use Rattle.ab_coverage.proofs.Taking.{Rows, merged}
use Rattle.ab_search_trees.specs.Goals.{Goal, Now}
use Rattle.ab_search_trees.specs.Judgements.{search_rules}
use Rattle.ab_search_trees.specs.Lifting.{MakesEqual}
use Rattle.ab_search_trees.specs.Ways.{by_rule}
use Rattle.ab_pattern_matching.specs.Reading.{ReadInTurn, HoldNoneOf}
use Rattle.ab_pattern_matching.specs.Raising.{Bare, raised}
use Rattle.ab_pattern_matching.proofs.Turning.{sides_turned}
use Rattle.ab_pattern_matching.proofs.TwoWays.{map_held}
use Rattle.ab_search_proofs.specs.Likeness.{StandIn, replaced, replacing, AreStandIns}
use Rattle.ab_search_proofs.specs.Proved.{IsRuleSolved, IsByRule}
use Rattle.ab_search_proofs.proofs.OpenedAlike.{Like}
use Rattle.ab_search_proofs.proofs.PartAlone.{conjunction_like}
use Rattle.ab_search_proofs.proofs.PartThere as part_place
use Rattle.ab_search_proofs.proofs.PartsUnder.{part_under}
use Rattle.ab_search_proofs.proofs.StandIns.{stand_ins_typed}
use Rattle.ab_search_clauses.proofs.Along.{each_unmapped}
use Rattle.ab_search_clauses.proofs.ByList.{judged_under}
use Rattle.ab_search_clauses.proofs.Lifted as lifting
use Rattle.ab_search_clauses.proofs.Opens as opens
use Rattle.ab_search_answers.proofs.ByParts as parts
use Rattle.ab_search_answers.proofs.Given.{kernel_typed}
use Rattle.ab_search_answers.proofs.NamedParts as named
use Rattle.ab_search_answers.proofs.NamesThere.{none_comes, stands_like, bits_like}
use Rattle.ab_search_answers.proofs.OpenRows.{some_terms, some_from, rows_over, some_are, spread_some, rows_guess, spread_map, made_same, made_over_same}
use Rattle.ab_search_answers.proofs.PartDemand as demands
use Rattle.ab_search_answers.proofs.PartEnd as path_end
use Rattle.ab_search_answers.proofs.PartMatched as matching
use Rattle.ab_search_answers.proofs.Through.{GoesThrough, AreMet, image_through, rename_through, then_through, closed_through, atoms_through, types_in, same_dropped, same_closed, same_context, same_length, same_free}
use Rattle.ab_search_answers.specs.Followed.{in_the_end}
use Rattle.ab_search_answers.proofs.Below.{IsTaken}
use Rattle.ab_search_clauses.proofs.AtPlace.{cell_here, stood_known, names_from, kept_behind}

-- typed terms are typed where they come to stand
pub mapped_are : (sg : Signature) (f : Read → Read) → ((A : Ty) (t : Read) → HasType sg [] t A → HasType sg [] (f t) A) → (cs : List (Cell (List ℕ))) (us : List Read) → OfCells sg (codes "x") cs us → OfCells sg (codes "x") cs (map f us)
mapped_are sg f keeps [] [] e = tt
mapped_are sg f keeps [] (u ∷ us) e = absurd e
mapped_are sg f keeps (c ∷ cs) [] e = absurd e
mapped_are sg f keeps (c ∷ cs) (u ∷ us) e = (keeps c.type u e.0, mapped_are sg f keeps cs us e.1)

-- terms there are met by the unifier
pub all_met : (sg : Signature) (u : Substitution ℕ (List ℕ)) (typed : IsTyped sg u) (fs : List Bool) (ms ws : List Read) → Each (λ m w. image_by (plain u) (forget m) ≡ forget w) ms ws → MetBy sg u typed (spread fs ms) (spread fs ws)
all_met sg u typed [] ms ws e = tt
all_met sg u typed (true ∷ fs) ms ws e = (tt, all_met sg u typed fs ms ws e)
all_met sg u typed (false ∷ fs) [] [] e = (tt, all_met sg u typed fs [] [] e)
all_met sg u typed (false ∷ fs) [] (w ∷ ws) e = absurd e
all_met sg u typed (false ∷ fs) (m ∷ ms) [] e = absurd e
all_met sg u typed (false ∷ fs) (m ∷ ms) (w ∷ ws) e = (e.0, all_met sg u typed fs ms ws e.1)

-- what comes of each term
pub each_comes : (sg : Signature) (O : Bare → Bare) (through : GoesThrough sg O) (f : Read → Read) → ((t : Read) → O (forget t) ≡ forget (f t)) → (vs : List (Option Read)) → AreMet sg O through vs (map (option_map f) vs)
each_comes sg O through f k [] = tt
each_comes sg O through f k (None ∷ vs) = (tt, each_comes sg O through f k vs)
each_comes sg O through f k (Some v ∷ vs) = (k v, each_comes sg O through f k vs)

-- names that don't stand here don't stand there
pub free_from : (f : Read) (t : Read) → ((k : ℕ) → stands k t ≡ false → stands k f ≡ false) → (fs : List Bool) (bs : List (Cell (List ℕ))) → Free fs bs t → Free fs bs f
free_from f t k [] [] e = tt
free_from f t k (true ∷ fs) (b ∷ bs) e =
    let no = k (length bs) (ap (stands (length bs)) e.0.1 ∙ stands-shift (length bs) e.0.0) in
    ((lower (length bs) f, lowered (length bs) f no), free_from f t k fs bs e.1)
free_from f t k (false ∷ fs) (b ∷ bs) e = free_from f t k fs bs e
free_from f t k fs bs e = absurd e

module _ (D : Declarations) (program : HavePrograms D) (has : HasMember (signature_in D)) (p : Part) (now last : Now) (g : Goal) (depth : ℕ) (j : Judgement) (ys : List (tree.Variable ℕ)) (more : List (Cell (List ℕ))) (q n : Substitution ℕ (List ℕ))
    (is : as_judgement g.conclusion ≡ Some j) (plainly : j.sign ≡ unmarked) (there : Contains (search_rules D j) (by_part p)) (taken : IsTaken D now g ys (by_rule D now g depth j (by_part p)) last more q n) where
  abbrev sg : Signature
  sg = signature_in D

  abbrev x : List ℕ
  x = codes "x"

  abbrev r : Substitution ℕ (List ℕ)
  r = in_the_end last q n

  abbrev rule : IsRuleOf sg j (by_part p)
  rule = path_end.rule D program has p now last g depth j ys more q n is plainly there taken

  known : JudgementKnown sg (IsCell now.cells) g.constants j
  known = path_end.known D program has p now last g depth j ys more q n is plainly there taken

  abbrev S : List Nominal
  S = constants_of j

  abbrev front : List (Cell (List ℕ))
  front = now.cells ++ p.names

  abbrev ds : List Bool
  ds = closed_in (part_clause p)

  abbrev es : List Bool
  es = closed_in (clause_image (in_the_end last q n) (part_clause p))

  abbrev split : named.Split sg ys ds es p.names (named.av D program has p now last g depth j ys more q n is plainly there taken)
  split = named.rows D program has p now last g depth j ys more q n is plainly there taken

  abbrev terms : List (Option Read)
  terms = (named.rows D program has p now last g depth j ys more q n is plainly there taken).terms

  -- THE TERMS of the kernel
  abbrev pub us : List Read
  us = some_terms (named.rows D program has p now last g depth j ys more q n is plainly there taken).terms

  abbrev left : Read
  left = named.left D program has p now last g depth j ys more q n is plainly there taken

  abbrev C : Read
  C = image same_number (in_the_end last q n) g.conclusion

  abbrev F_end : Read
  F_end = image same_number (in_the_end last q n) rule.0

  may : MayBeUnfolded (judged_under r j).sign
  may = subst MayBeUnfolded (sym plainly) tt

  focused : (judged_under r j).focus ≡ Some F_end
  focused = ap (option_map (image same_number r)) rule.1

  abbrev listed : List SpecRule
  listed = map by_part (parts_of F_end)

  rules : rules_of (program_in D) (judged_under r j) ≡ Some listed
  rules = parts.rules_then D program has p now last g depth j ys more q n is plainly there taken

  part_in : Contains (parts_of F_end) (part_under r p)
  part_in = subst (λ l. Contains l (part_under r p)) (sym (parts.parts_then D program has p now last g depth j ys more q n is plainly there taken)) (Contains-map (part_under r) (parts_of rule.0) p rule.2)

  -- the part in the end is typed, and over the variables in scope
  abbrev Scope : Head ℕ → Type 0
  Scope = Either over.Any (λ (y : tree.Variable ℕ). holds ys y ≡ true)

  part_end : IsPart sg Scope [] (part_clause (part_under r p))
  part_end =
      let F = path_end.focus_end D program has p now last g depth j ys more q n is plainly there taken in
      All-contains (IsPart sg Scope []) (taken_apart F_end) (part_clause (part_under r p))
      (parts_right sg Scope [] F_end F.typed (over.held_has (λ (y : tree.Variable ℕ). holds ys y ≡ true) F_end (λ y h. contains_holds ys y (F.known.over y (holds_contains (variables F_end) y h)))))
      (subst (λ l. Contains l (part_clause (part_under r p))) (sym (parts_same F_end)) (Contains-map part_clause (parts_of F_end) (part_under r p) part_in))

  in_scope : (t : Read) → Has Scope t → HoldsOnly ys t
  in_scope t h = All-from_contains (Contains ys) (variables t) (λ y m. holds_contains ys y (over.has_held (λ (y : tree.Variable ℕ). holds ys y ≡ true) t h y (contains_holds (variables t) y m)))

  us_known : All (HoldsOnly ys) us
  us_known = All-from_contains (HoldsOnly ys) us (λ u m. split.known u (some_from terms u m))

  -- WHAT IS LEFT holds variables in scope
  pub left_known : HoldsOnly ys left
  left_known =
      let L = image same_number r j.context in
      let end = path_end.end_known D program has p now last g depth j ys more q n is plainly there taken in
      let L_has : Has Scope L = over.held_has (λ (y : tree.Variable ℕ). holds ys y ≡ true) L (λ y h. contains_holds ys y (end.context.known.over y (holds_contains (variables L) y h))) in
      in_scope left (closed_has Scope (λ l. tt) p.names terms (asked (raise (length p.names) zero L) (map (image same_number r) p.goals)) (terms_have terms split.known)
      (asked_has Scope (λ l. tt) (λ c. tt) (raise (length p.names) zero L) (raise_has Scope (length p.names) L L_has) (map (image same_number r) p.goals) part_end.goals_have))
    where
      terms_have : (vs : List (Option Read)) → ((u : Read) → Contains vs (Some u) → HoldsOnly ys u) → OptionsHave (Either over.Any (λ (y : tree.Variable ℕ). holds ys y ≡ true)) (λ l. tt) vs
      terms_have [] k = tt
      terms_have (None ∷ vs) k = (tt, terms_have vs (λ u m. k u (Contains-there None vs (Some u) m)))
      terms_have (Some v ∷ vs) k = (
        over.held_has (λ (y : tree.Variable ℕ). holds ys y ≡ true) v (λ y h. contains_holds ys y (All-contains (Contains ys) (variables v) y (k v (Contains-here (Some v) vs)) (holds_contains (variables v) y h))),
        terms_have vs (λ u m. k u (Contains-there (Some v) vs (Some u) m)),
      )

  -- WHERE THE JUDGEMENT HAS COME TO STAND
  module _ (vs : List StandIn) (s : Sequent) (ps : List (Nominal × Nominal)) (same_variables : map replaced vs ≡ ys) (are : AreStandIns s vs) (sequent : IsSequent D s) (table : IsPermutationTable ps)
      (same : EqualPastHints (permute ps (image same_number (replacing vs) C)) s.conclusion) (one_type : HasOneTypeEach (goal_names s ++ names_of (map (λ u. permute ps (image same_number (replacing vs) u)) us)))
      (cells : List (Cell (List ℕ))) (cells_are : AreCells cells s) where
    abbrev here : Read → Read
    here t = permute ps (image same_number (replacing vs) t)

    keeps : (a : Nominal) → (moved_by ps a).type ≡ a.type
    keeps = (one_to_one ps table).keeps

    stood_typed : IsTyped sg (replacing vs)
    stood_typed = stand_ins_typed s vs are sg

    here_typed : (G : List Ty) (A : Ty) (t : Read) → HasType sg G t A → HasType sg G (here t) A
    here_typed G A t d = rename_typed sg (moved_by ps) keeps (image_typed sg same_number (replacing vs) stood_typed d)

    abbrev O4 : Bare → Bare
    O4 t = rename (moved_by ps) (image_by (plain (replacing vs)) t)

    O4_through : GoesThrough sg O4
    O4_through = then_through sg (image_by (plain (replacing vs))) (rename (moved_by ps)) (image_through sg (plain (replacing vs)) (plain_typed sg (replacing vs) stood_typed)) (rename_through sg (moved_by ps) keeps)

    here_bare : (t : Read) → O4 (forget t) ≡ forget (here t)
    here_bare t = ap (rename (moved_by ps)) (sym (image_plain (replacing vs) t)) ∙ sym (translate-rename (λ k. k) (λ h. tt) (moved_by ps) (image same_number (replacing vs) t))

    here_past_hints : (t u : Read) → forget t ≡ forget u → forget (here t) ≡ forget (here u)
    here_past_hints t u e = sym (here_bare t) ∙ ap O4 e ∙ here_bare u

    -- there it has the rule of a part like this one
    module _ (place : Judgement) (place_is : as_judgement s.conclusion ≡ Some place) (sign_there : place.sign ≡ unmarked) (context_there : forget (here (image same_number r j.context)) ≡ forget place.context) (goal_there : forget (here (image same_number r j.goal)) ≡ forget place.goal)
        (other : Part) (rule_there : IsRuleOf sg place (by_part other)) (names_same : types_in p.names ≡ types_in other.names) (goals_like : Each (Like sg vs stood_typed ps) (map (image same_number r) p.goals) other.goals)
        (atom_like : forget (here (image same_number r p.atom)) ≡ forget other.atom) where
      place_known : JudgementKnown sg (IsCell cells) (goal_names s) place
      place_known =
          let may = (goal_of D s sequent).conclusion in
          judgement_known sg (IsCell cells) (goal_names s) s.conclusion place place_is may.formula.typed
          (record { over = λ y i. cell_here s cells cells_are y (All-contains (Contains (map in_terms s.variables)) (variables s.conclusion) y may.closed i); names = may.names })

      abbrev T : List Nominal
      T = constants_of place

      abbrev cs : List (Cell (List ℕ))
      cs = other.names

      abbrev bits : List Bool
      bits = closed_in (part_clause other)

      abbrev first : ℕ
      first = length (now.cells ++ p.names)

      abbrev k : ℕ
      k = length (cells ++ other.names)

      abbrev low : ℕ
      low = length cells

      low_there : low ≤ k
      low_there = let sum = length-append cells other.names in omega (arith, sum)

      different : AllPairs (λ a b. a ≢ b) T
      different = ordered_pairs (support place.context ++ (support_of_focus place.focus ++ support place.goal))

      -- THE SAME NAMES are closed
      scope_known : (t : Read) → HoldsOnly ys t → HoldsOnly (map replaced vs) t
      scope_known t h = subst (λ l. HoldsOnly l t) (sym same_variables) h

      bits_same : es ≡ bits
      bits_same =
          bits_like sg s vs are ps p.names cs (map (image same_number r) p.goals) other.goals (image same_number r p.atom) other.atom (same_length p.names cs names_same)
          (λ t m. (All-contains (λ G. HasType sg (context_of p.names []) G o) (map (image same_number r) p.goals) t part_end.goals m, scope_known t (in_scope t (All-contains (Has Scope) (map (image same_number r) p.goals) t part_end.goals_have m))))
          goals_like part_end.atom (scope_known (image same_number r p.atom) (in_scope (image same_number r p.atom) part_end.atom_has)) atom_like

      rows : Rows sg ds bits cs terms split.taken
      rows = subst (λ l. Rows sg ds l cs terms split.taken) bits_same (rows_over sg split.rows cs names_same)

      same_end : merged sg ds terms split.taken ≡ spread ds (map (image same_number r) (made_terms (codes "x") first S (left_open ds cs)))
      same_end =
          subst (λ i. merged sg ds terms split.taken ≡ spread ds (map (image same_number r) (made_terms x i S (left_open ds p.names)))) (sym (length-append now.cells p.names)) split.same
          ∙ ap (λ l. spread ds (map (image same_number r) l)) (made_same first S ds p.names cs names_same)

      -- THE UNIFIER there
      abbrev own : List (Cell (List ℕ))
      own = left_open bits cs

      us_are : OfCells sg x own us
      us_are = some_are sg rows

      there_are : OfCells sg x own (map here us)
      there_are = mapped_are sg here (λ A t d. here_typed [] A t d) own us us_are

      abbrev U : Substitution ℕ (List ℕ)
      U = lifting.unifier sg k T own (map here us) there_are

      U_typed : IsTyped sg U
      U_typed = lifting.unifier_typed sg k T own (map here us) there_are

      abbrev values : List Read
      values = lifting.values sg k T own (map here us) there_are

      abbrev made_there : List Read
      made_there = made_terms (codes "x") k T own

      become : Each (λ m u. image_by (plain U) (forget m) ≡ forget (here u)) made_there us
      become = each_unmapped (λ m w. image_by (plain U) (forget m) ≡ forget w) here made_there us (lifting.become sg k T own (map here us) there_are)

      abbrev straight : Equation (List ℕ)
      straight = demands.straight sg has cells (goal_names s) place place_known other rule_there

      abbrev turned_one : Equation (List ℕ)
      turned_one = demands.turned_one sg has cells (goal_names s) place place_known other rule_there

      abbrev news : List (tree.Variable ℕ)
      news = demands.news sg has cells (goal_names s) place place_known other rule_there

      abbrev brings : List (Cell (List ℕ))
      brings = demands.brings sg has cells (goal_names s) place place_known other rule_there

      abbrev all_cells : List (Cell (List ℕ))
      all_cells = (cells ++ other.names) ++ brings

      -- older terms stay
      older : (y : tree.Variable ℕ) → y.name < length cells → y.name < k
      older y l = omega (arith, l, low_there)

      -- THE ATOM THERE, with the kernel's terms
      abbrev terms_there : List (Option Read)
      terms_there = map (option_map here) terms

      spread_there : spread bits (map here us) ≡ terms_there
      spread_there = spread_map here bits us ∙ ap (map (option_map here)) (spread_some sg rows)

      there_guess : IsGuess sg bits cs (spread bits (map here us))
      there_guess = named.any_guess sg other.goals other.atom cs (map here us) there_are

      atom_free : Free bits cs other.atom
      atom_free = closed_free cs other.goals other.atom

      atom_there : forget (image same_number U straight.left) ≡ forget (dropped_with cs terms_there other.atom)
      atom_there =
          let stays : forget (image same_number U other.atom) ≡ forget other.atom = ap forget (lifting.old_stays sg k T own (map here us) there_are other.atom (λ y m. older y (demands.part_low sg has cells (goal_names s) place place_known other rule_there y m))) in
          image_past_hints U straight.left (dropped_with cs (spread bits made_there) other.atom) (demands.atom_is sg has cells (goal_names s) place place_known other rule_there)
          ∙ atoms_met sg U U_typed bits cs (spread bits made_there) (spread bits (map here us)) (demands.made_guess sg has cells (goal_names s) place place_known other rule_there) there_guess
          (all_met sg U U_typed bits made_there (map here us) (lifting.become sg k T own (map here us) there_are))
          other.atom other.atom (demands.atom_typed sg has cells (goal_names s) place place_known other rule_there) atom_free atom_free (sym (forget-image U other.atom) ∙ stays)
          ∙ ap (λ l. forget (dropped_with cs l other.atom)) spread_there

      -- the goal there is that
      goal_is : forget place.goal ≡ forget (dropped_with cs terms_there other.atom)
      goal_is =
          let X = dropped_with p.names terms (image same_number r p.atom) in
          let free_there : Free es p.names other.atom = same_free es cs p.names (sym names_same) other.atom (subst (λ l. Free l cs other.atom) (sym bits_same) atom_free) in
          sym goal_there
          ∙ here_past_hints (image same_number r j.goal) X (named.goal_then D program has p now last g depth j ys more q n is plainly there taken)
          ∙ sym (here_bare X)
          ∙ atoms_through sg O4 O4_through es p.names terms terms_there (rows_guess sg split.rows) (subst (IsGuess sg es p.names) (spread_map here es us ∙ ap (map (option_map here)) (spread_some sg split.rows)) (named.any_guess sg (map (image same_number r) p.goals) (image same_number r p.atom) p.names (map here us) (mapped_are sg here (λ A t d. here_typed [] A t d) (left_open es p.names) us (some_are sg split.rows))))
          (each_comes sg O4 O4_through here here_bare terms) (image same_number r p.atom) other.atom part_end.atom (closed_free p.names (map (image same_number r) p.goals) (image same_number r p.atom)) free_there
          (here_bare (image same_number r p.atom) ∙ atom_like)
          ∙ ap forget (same_dropped p.names cs names_same terms_there other.atom)

      unifies_there : Unifies U (straight ∷ [])
      unifies_there = (
        atom_there ∙ sym (ap forget (lifting.old_stays sg k T own (map here us) there_are place.goal (λ y m. older y (demands.goal_low sg has cells (goal_names s) place place_known other rule_there y m))) ∙ goal_is),
        tt,
      )

      none_without : All (HoldsNone sg []) (map here us)
      none_without = All-from_contains (HoldsNone sg []) (map here us) (λ u i. All-from_contains (λ a. ¬ (Contains (support u) a)) [] (λ a l. absurd (Contains-none a l)))

      abbrev clean : List Nominal
      clean = lifting.foreign sg k T own (map here us) there_are

      hold_none : HoldNoneOf clean (turned_one ∷ [])
      hold_none =
          let h = lifting.hold_none_there sg k T own (map here us) there_are [] none_without (straight ∷ []) (demands.held sg has cells (goal_names s) place place_known other rule_there) unifies_there in
          ((λ a m. let b = h.0 a m in (b.1, b.0)), tt)

      equal_there : MakesEqual (plain U) (turned_one ∷ [])
      equal_there =
          let h = lifting.equal sg k T own (map here us) there_are [] none_without (straight ∷ []) (demands.held sg has cells (goal_names s) place place_known other rule_there) unifies_there in
          (sym h.0, tt)

      -- what is put in there holds variables of the sequent alone
      terms_known : All (HoldsOnly (map in_terms s.variables)) (map here us)
      terms_known = stood_known sg s vs are ps ys same_variables us us_known

      values_known : (v : Read) → Contains values v → (y : tree.Variable ℕ) → Contains (variables v) y → Contains (map in_terms s.variables) y
      values_known = lifting.values_known sg k T own (map here us) there_are (map in_terms s.variables) terms_known

      old_number : (y : tree.Variable ℕ) → Contains (map in_terms s.variables) y → y.name < low
      old_number y m = known_there cells s.variables cells_are y (contains_holds (map in_terms s.variables) y m)

      few : (y : tree.Variable ℕ) (v : Bare) → plain U y ≡ Some v → (z : tree.Variable ℕ) → holds (variables v) z ≡ true → holds news z ≡ false
      few y v e z h = go (value_in same_number U y) refl e
        where
          go : (b : Option Read) → value_in same_number U y ≡ b → option_map forget b ≡ Some v → holds news z ≡ false
          go None f e = absurd (cc)
          go (Some u) f e =
              let same : forget u ≡ v = cc in
              let there_z : Contains (variables u) z = holds_contains (variables u) z (ap (λ l. holds l z) (sym (variables-forget u)) ∙ subst (λ t. holds (variables t) z ≡ true) (sym same) h) in
              let small = old_number z (values_known u (lifting.value_listed sg k T own (map here us) there_are y u f) z there_z) in
              false_from_ne_true (holds news z) (λ i. let high = (numbered_within k (cells_over x T own) z i).0 in absurd (omega (arith, small, high, low_there)))

      -- MATCHING
      abbrev highest : ℕ
      highest = matching.high sg rows first k low low_there S T different ps table

      higher : length front ≤ highest
      higher = omega arith

      abbrev lasts : List (tree.Variable ℕ)
      lasts = matching.lasts sg rows first k low low_there S T different ps table

      others : (v : sequents.Variable) → Contains s.variables v → holds lasts (in_terms v) ≡ false
      others v i = false_from_ne_true (holds lasts (in_terms v)) (λ h.
          let w = map_held (raised (matching.last sg rows first k low low_there S T different ps table)) (matching.ws sg rows first k low low_there S T different ps table) (in_terms v) h in
          let number : matching.after sg rows first k low low_there S T different ps table (w.0).name ≡ v.number = ap (λ (z : tree.Variable ℕ). z.name) w.2 in
          let small = old_number (in_terms v) (Contains-map in_terms s.variables v i) in
          absurd (omega (arith, number, small, low_there)))

      made_here : made_terms (codes "x") first S (left_open ds p.names) ≡ made_terms (codes "x") first S (left_open ds cs)
      made_here = made_same first S ds p.names cs names_same

      news_here : made_over (codes "x") first S (left_open ds p.names) ≡ made_over (codes "x") first S (left_open ds cs)
      news_here = made_over_same first S ds p.names cs names_same

      abbrev search_side : Equation (List ℕ)
      search_side = path_end.turned_one D program has p now last g depth j ys more q n is plainly there taken

      is_unified : (a : Substitution ℕ (List ℕ)) × Solves x (given (turned_one ∷ []) all_cells news) (unified all_cells a)
      is_unified =
          let guess = path_end.guess D program has p now last g depth j ys more q n is plainly there taken highest higher in
          let at_end = path_end.at_end D program has p now last g depth j ys more q n is plainly there taken highest higher vs s ps same_variables are table in
          let old_names = demands.part_names sg has now.cells g.constants j known p rule in
          let closed : IsClosedMap (value_in same_number r) = closed_map sg ℕ (List ℕ) (value_in same_number r) (map_typed sg same_number r taken.typed) in
          let A_free : Free ds cs p.atom = same_free ds p.names cs names_same p.atom (closed_free p.names p.goals p.atom) in
          let B_free : Free ds cs other.atom = free_from other.atom p.atom (λ i e.
          sym (stands_like sg s vs are ps i (image same_number r p.atom) other.atom part_end.atom (scope_known (image same_number r p.atom) (in_scope (image same_number r p.atom) part_end.atom_has)) atom_like) ∙ none_comes sg r taken.typed i p.atom e) ds cs A_free in
          matching.matched sg rows first k low low_there S T different ps table (image same_number r) here (λ A t d. image_typed sg same_number r taken.typed d) (λ A t d. here_typed [] A t d) same_end U become
          p.atom other.atom (subst (λ G. HasType sg G p.atom o) (same_context p.names cs names_same []) (demands.atom_typed sg has now.cells g.constants j known p rule)) A_free B_free atom_free
          (λ y h.
          let small = demands.part_low sg has now.cells g.constants j known p rule y (subst (λ l. Contains l y) (variables-forget p.atom) (holds_contains (variables (forget p.atom)) y h)) in
          let sum = length-append now.cells p.names in omega (arith, small, sum))
          (λ a m. old_names a (subst (λ l. Contains l a) (support-translate (λ v. v) (λ h. tt) p.atom) m))
          guess at_end (path_end.guess_typed D program has p now last g depth j ys more q n is plainly there taken highest higher)
          (path_end.is_guess D program has p now last g depth j ys more q n is plainly there taken highest higher).nameless
          (path_end.at_end_typed D program has p now last g depth j ys more q n is plainly there taken highest higher vs s ps same_variables are table)
          (path_end.guess_outside D program has p now last g depth j ys more q n is plainly there taken highest higher)
          (λ y h. path_end.guess_new D program has p now last g depth j ys more q n is plainly there taken highest higher y (subst (λ l. holds l y ≡ true) (sym news_here) h))
          (λ y v e z h. old_number z (path_end.end_old D program has p now last g depth j ys more q n is plainly there taken highest higher vs s ps same_variables are table y v e z h))
          (path_end.end_atom D program has p now last g depth j ys more q n is plainly there taken highest higher vs s ps same_variables are table lasts others ∙ atom_like)
          (λ u m. path_end.end_made D program has p now last g depth j ys more q n is plainly there taken highest higher vs s ps same_variables are table lasts others u (subst (λ l. Contains l u) (sym made_here) m))
          (path_end.good_atom D program has p now last g depth j ys more q n is plainly there taken highest higher vs s ps same_variables are table lasts others)
          (λ u m. path_end.good_made D program has p now last g depth j ys more q n is plainly there taken highest higher vs s ps same_variables are table lasts others u (subst (λ l. Contains l u) (sym made_here) m))
          search_side
          (demands.atom_is sg has now.cells g.constants j known p rule ∙ ap forget (same_dropped p.names cs names_same (spread ds (made_terms x first S (left_open ds p.names))) p.atom) ∙ ap (λ l. forget (dropped_with cs (spread ds l) p.atom)) made_here)
          (demands.turned_typed sg has now.cells g.constants j known p rule)
          (subst (λ l. ReadInTurn l guess (search_side ∷ [])) news_here (path_end.turn D program has p now last g depth j ys more q n is plainly there taken highest higher))
          turned_one (demands.atom_is sg has cells (goal_names s) place place_known other rule_there) (demands.lefts sg has cells (goal_names s) place place_known other rule_there)
          all_cells (demands.turned_typed sg has cells (goal_names s) place place_known other rule_there) (demands.known sg has cells (goal_names s) place place_known other rule_there) (demands.turned_over sg has cells (goal_names s) place place_known other rule_there)
          clean (lifting.guess_over sg k T own (map here us) there_are) few hold_none equal_there

      abbrev answer : Substitution ℕ (List ℕ)
      answer = is_unified.0

      solves_there : Solves x (given (straight ∷ []) all_cells news) (unified all_cells answer)
      solves_there = sides_turned sg x (turned_one ∷ []) all_cells news (unified all_cells answer) (demands.turned_typed sg has cells (goal_names s) place place_known other rule_there) (demands.known sg has cells (goal_names s) place place_known other rule_there) is_unified.1

      -- WHAT IS LEFT THERE
      values_typed : Each (λ (z : tree.Variable ℕ) v. HasType sg [] v z.type) news values
      values_typed = lifting.values_typed sg k T own (map here us) there_are

      values_low : (v : Read) → Contains values v → (y : tree.Variable ℕ) → Contains (variables v) y → y.name < length (cells ++ other.names)
      values_low v i y l = older y (old_number y (values_known v i y l))

      unifier_there : IsUnifier sg news (straight ∷ []) U
      unifier_there = lifting.is_unifier sg k T own (map here us) there_are [] none_without (straight ∷ []) (demands.held sg has cells (goal_names s) place place_known other rule_there) unifies_there

      abbrev second : Demand
      second = demand_of (length cells) unmarked place (by_part other)

      abbrev open_terms : List Read
      open_terms = opens.terms sg (cells ++ other.names) brings (straight ∷ []) values values_typed values_low (demands.straight_typed sg has cells (goal_names s) place place_known other rule_there) (demands.known sg has cells (goal_names s) place place_known other rule_there) (demands.straight_over sg has cells (goal_names s) place place_known other rule_there) (demands.hold sg has cells (goal_names s) place place_known other rule_there) (demands.new_cell sg has cells (goal_names s) place place_known other rule_there) unifier_there answer solves_there

      abbrev still_open : List sequents.Variable
      still_open = opens.left_open sg (cells ++ other.names) brings (straight ∷ []) values values_typed values_low (demands.straight_typed sg has cells (goal_names s) place place_known other rule_there) (demands.known sg has cells (goal_names s) place place_known other rule_there) (demands.straight_over sg has cells (goal_names s) place place_known other rule_there) (demands.hold sg has cells (goal_names s) place place_known other rule_there) (demands.new_cell sg has cells (goal_names s) place place_known other rule_there) unifier_there answer solves_there

      made_so : made_variables (cells ++ other.names) all_cells answer ≡ still_open
      made_so = opens.made_so sg (cells ++ other.names) brings (straight ∷ []) values values_typed values_low (demands.straight_typed sg has cells (goal_names s) place place_known other rule_there) (demands.known sg has cells (goal_names s) place place_known other rule_there) (demands.straight_over sg has cells (goal_names s) place place_known other rule_there) (demands.hold sg has cells (goal_names s) place place_known other rule_there) (demands.new_cell sg has cells (goal_names s) place place_known other rule_there) unifier_there answer solves_there

      terms_in : (t : Read) → Contains open_terms t → Contains values t
      terms_in = opens.terms_in sg (cells ++ other.names) brings (straight ∷ []) values values_typed values_low (demands.straight_typed sg has cells (goal_names s) place place_known other rule_there) (demands.known sg has cells (goal_names s) place place_known other rule_there) (demands.straight_over sg has cells (goal_names s) place place_known other rule_there) (demands.hold sg has cells (goal_names s) place place_known other rule_there) (demands.new_cell sg has cells (goal_names s) place place_known other rule_there) unifier_there answer solves_there

      open_typed : Each (λ (y : sequents.Variable) t. HasType sg [] t y.type) still_open open_terms
      open_typed = opens.open_typed sg (cells ++ other.names) brings (straight ∷ []) values values_typed values_low (demands.straight_typed sg has cells (goal_names s) place place_known other rule_there) (demands.known sg has cells (goal_names s) place place_known other rule_there) (demands.straight_over sg has cells (goal_names s) place place_known other rule_there) (demands.hold sg has cells (goal_names s) place place_known other rule_there) (demands.new_cell sg has cells (goal_names s) place place_known other rule_there) unifier_there answer solves_there

      body_opens : EqualPastHints (one_by_one same_number (put_together (map in_terms still_open) open_terms) (image same_number answer second.body)) (image same_number U second.body)
      body_opens = opens.body_opens sg (cells ++ other.names) brings (straight ∷ []) values values_typed values_low (demands.straight_typed sg has cells (goal_names s) place place_known other rule_there) (demands.known sg has cells (goal_names s) place place_known other rule_there) (demands.straight_over sg has cells (goal_names s) place place_known other rule_there) (demands.hold sg has cells (goal_names s) place place_known other rule_there) (demands.new_cell sg has cells (goal_names s) place place_known other rule_there) unifier_there answer solves_there
          second.body (demands.body_formula sg has cells (goal_names s) place place_known other rule_there).typed (demands.body_cells sg has cells (goal_names s) place place_known other rule_there)

      -- the goals, asked
      abbrev list_end : Read
      list_end = raise (length p.names) zero (image same_number (in_the_end last q n) j.context)

      abbrev list_there : Read
      list_there = raise (length other.names) zero place.context

      abbrev asked_end : Read
      asked_end = asked list_end (map (image same_number (in_the_end last q n)) p.goals)

      abbrev asked_there : Read
      asked_there = asked list_there other.goals

      lists_like : forget (here list_end) ≡ forget list_there
      lists_like =
          ap (λ t. forget (here t)) (raise-closed sg olist (length p.names) (image same_number r j.context) (image_typed sg same_number r taken.typed known.context.typed))
          ∙ context_there
          ∙ ap forget (sym (raise-closed sg olist (length other.names) place.context place_known.context.typed))

      asked_like : forget (here asked_end) ≡ forget asked_there
      asked_like =
          ap (λ t. forget (here t)) (sym (asked_same list_end (map (image same_number r) p.goals)))
          ∙ conjunction_like sg vs stood_typed ps unmarked (context_of p.names []) list_end list_there lists_like (map (image same_number r) p.goals) other.goals
          (λ G m. All-contains (λ G. HasType sg (context_of p.names []) G o) (map (image same_number r) p.goals) G part_end.goals m) goals_like
          ∙ ap forget (asked_same list_there other.goals)

      part_there : IsPart sg (Either (Contains T) (λ (y : tree.Variable ℕ). y.name < length cells)) [] (part_clause other)
      part_there = demands.part_old sg has cells (goal_names s) place place_known other rule_there

      there_typed : HasType sg (context_of cs []) asked_there prop
      there_typed = asked_typed sg has.cons list_there (raise_typed sg olist cs [] place.context place_known.context.typed) other.goals part_there.goals

      there_stays : image same_number U asked_there ≡ asked_there
      there_stays =
          let Low : Head ℕ → Type 0 = Either over.Any (λ (y : tree.Variable ℕ). y.name < length cells) in
          let part = demands.part sg has cells (goal_names s) place place_known other rule_there in
          lifting.old_stays sg k T own (map here us) there_are asked_there (λ y m. older y (over.has_held (λ (y : tree.Variable ℕ). y.name < length cells) asked_there
          (asked_has Low (λ l. tt) (λ c. tt) list_there (raise_has Low (length cs) place.context (demands.below sg has cells (goal_names s) place place_known other rule_there place.context place_known.context.known.over)) other.goals part.goals_have)
          y (contains_holds (variables asked_there) y m)))

      left_there : forget (here left) ≡ forget (closed_with cs terms_there asked_there)
      left_there =
          sym (here_bare left)
          ∙ closed_through sg O4 O4_through prop [] p.names terms terms_there asked_end asked_there (kernel_typed sg split.rows) (each_comes sg O4 O4_through here here_bare terms) (named.N_typed D program has p now last g depth j ys more q n is plainly there taken) (here_bare asked_end ∙ asked_like)
          ∙ same_closed p.names cs names_same terms_there asked_there

      body_there : EqualPastHints (one_by_one same_number (put_together (map in_terms still_open) open_terms) (image same_number answer second.body)) (here left)
      body_there =
          body_opens
          ∙ image_past_hints U second.body (closed_with cs (spread bits made_there) asked_there) (demands.body_is sg has cells (goal_names s) place place_known other rule_there)
          ∙ bodies_met sg U U_typed bits cs (spread bits made_there) (spread bits (map here us)) (demands.made_guess sg has cells (goal_names s) place place_known other rule_there) there_guess
          (all_met sg U U_typed bits made_there (map here us) (lifting.become sg k T own (map here us) there_are)) asked_there there_typed
          ∙ ap (λ t. forget (closed_with cs (spread bits (map here us)) t)) there_stays
          ∙ ap (λ l. forget (closed_with cs l asked_there)) spread_there
          ∙ sym left_there

      still_one : HasOneTypeEach (goal_names s ++ names_of open_terms)
      still_one a b i l e =
          let wider = kept_behind (goal_names s) (names_of open_terms) (names_of (map here us)) (names_from values (map here us) (lifting.values_names sg k T own (map here us) there_are) open_terms terms_in) in
          one_type a b (wider a i) (wider b l) e

      -- as the case of the rule
      abbrev case_with : List (Cell (List ℕ)) → Demand → Case
      case_with new d = record { before = cells ++ d.passing; own = new; equations = d.equations; flexible = numbered (length (cells ++ d.passing)) new; goal = proving d.body s }

      case_is : case_with brings second ≡ judgement_unfolding s place (by_part other) cells
      case_is =
          ap (λ l. case_with l second) (sym (demands.own_is sg has cells (goal_names s) place place_known other rule_there))
          ∙ ap (λ z. let d = demand_of (length cells) (mark_above z) place (by_part other) in case_with d.own d) (sym sign_there)

      -- THE RULE IS SOLVED
      rule_solved : IsRuleSolved D s place (by_part other) cells (here left)
      rule_solved = record {
        more = all_cells;
        answer = is_unified.0;
        solved = subst (λ (u : Case). Solves (codes "x") (splits.problem_of u) (unified all_cells is_unified.0)) case_is solves_there;
        terms = open_terms;
        typed = subst (λ (u : Case). Each (λ (y : sequents.Variable) t. HasType sg [] t y.type) (made_variables u.before all_cells is_unified.0) open_terms) case_is
            (subst (λ l. Each (λ (y : sequents.Variable) t. HasType sg [] t y.type) l open_terms) (sym made_so) open_typed);
        known = All-from_contains (HoldsOnly (map in_terms s.variables)) open_terms (λ t i. All-from_contains (Contains (map in_terms s.variables)) (variables t) (values_known t (terms_in t i)));
        one_type = still_one;
        body = ap (λ (u : Case). forget (one_by_one same_number (put_together (map in_terms (made_variables u.before all_cells is_unified.0)) open_terms) (image same_number is_unified.0 u.goal.conclusion))) (sym case_is)
            ∙ ap (λ l. forget (one_by_one same_number (put_together (map in_terms l) open_terms) (image same_number is_unified.0 second.body))) made_so
            ∙ body_there;
      }

  -- SO IT IS A RULE of the judgement in the end
  pub part_rule : IsByRule D ys C us left
  part_rule =
      let formula = path_end.C_formula D program has p now last g depth j ys more q n is plainly there taken in
      let scoped = path_end.C_known D program has p now last g depth j ys more q n is plainly there taken in
      let judged = path_end.judged_is D program has p now last g depth j ys more q n is plainly there taken in
      part_place.by_this_part D ys C formula scoped (judged_under r j) judged may F_end focused listed rules (part_under r p) part_in us left
      (named.left_formula D program has p now last g depth j ys more q n is plainly there taken) left_known
      (λ vs s ps e are sequent table same one cells cells_are.
      let found = part_place.found D ys C formula scoped (judged_under r j) judged may F_end focused listed rules (part_under r p) part_in vs s ps e are sequent table same in
      let focus = part_place.focus_there D ys C formula scoped (judged_under r j) judged may F_end focused listed rules (part_under r p) part_in vs s ps e are sequent table same in
      let other = part_place.part_there D ys C formula scoped (judged_under r j) judged may F_end focused listed rules (part_under r p) part_in vs s ps e are sequent table same in
      rule_solved vs s ps e are sequent table same one cells cells_are found.judged found.is (found.sign ∙ plainly) found.context found.goal other.0 (focus.0, focus.1, other.1) other.2.names other.2.goals other.2.atom)
