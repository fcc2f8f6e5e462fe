-- A PART OF A FORMULA IN FOCUS, with names: in the end each name is closed by `exists` or not, and before it was or wasn't; what was shown gives what the part
-- leaves in the end, with the search's terms for what stands open in both, and with any terms for what stands nowhere.
use Rattle.std.proofs.Common.{◌≡◌, inl, inr, ℕ, zero, ◌+◌, ◌<◌, ◌≤◌, List, [], ◌∷◌, ◌++◌, map, length, codes, Bool, true, false, ◌&&◌, not, Option, Some, None, refl, sym, ◌∙◌, ap, subst, arith, length-append}
use Rattle.std.specs.Prelude.{Contains, All}
use Rattle.std.specs.List.{list_any}
use Rattle.std.proofs.lemmas.List.Elements.{All-contains}
use Rattle.ab_term.specs.Types.{o, olist, prop}
use Rattle.ab_term.specs.Terms.{Variable, lam, Read}
use Rattle.ab_term.specs.Typing.{Signature, HasType}
use Rattle.ab_term.specs.Reach.{raise}
use Rattle.ab_term.specs.Substitution.{shift}
use Rattle.ab_term.specs.Translation.{forget}
use Rattle.ab_term.specs.Variables.{Substitution, variables, value_in, image, IsTyped}
use Rattle.ab_term.specs.Sameness.{same_number}
use Rattle.ab_term.proofs.Closed.{closed_reach}
use Rattle.ab_term.proofs.ClosedMaps.{IsClosedMap, raise-image}
use Rattle.ab_term.proofs.Compositions.{image_typed, map_typed}
use Rattle.ab_term.proofs.Images.{closed_map}
use Rattle.ab_term.proofs.Lists.{Contains-none, Contains-here, Contains-there, Contains-cases, Contains-map, Contains-from_map, All-from_contains}
use Rattle.ab_term.proofs.Reaching.{shift-short}
use Rattle.ab_unifiers.specs.Replacements.{Cell, holds}
use Rattle.ab_unifiers.specs.Unifiers.{IsCell}
use Rattle.ab_unifiers.specs.Alternatives.{cells_over, made_over, made_terms}
use Rattle.ab_unifiers.specs.Clauses.{numbered, name_term}
use Rattle.ab_unifiers.specs.Member.{HasMember}
use Rattle.ab_unifiers.proofs.Agreeing.{holds_behind}
use Rattle.ab_unifiers.proofs.Lifting.{OfCells}
use Rattle.ab_unifiers.proofs.Past.{bare, bare_typed, forget-image}
use Rattle.ab_unifiers.proofs.Ruling.{image_past_hints}
use Rattle.ab_unifiers.proofs.Variables as over
use Rattle.ab_unifiers.proofs.Variables.{holds_contains}
use Rattle.ab_formulas.specs.BodyMarks.{mark_above}
use Rattle.ab_formulas.specs.Declarations.{Declarations, signature_in}
use Rattle.ab_formulas.specs.Formulas.{a_formula, StandsIn, IsFormula}
use Rattle.ab_formulas.specs.GoalTerms.{HoldsOnly}
use Rattle.ab_formulas.specs.Marks.{plain}
use Rattle.ab_formulas.specs.Programs.{HavePrograms}
use Rattle.ab_formulas.proofs.Images.{image_formula, image_stands}
use Rattle.ab_formulas.proofs.Scopes.{instance_stands}
use Rattle.ab_theory.specs.Judgements.{Judgement, as_judgement, constants_of}
use Rattle.ab_theory.specs.Opening.{open_goal, conjunction_of}
use Rattle.ab_theory.specs.Parts.{Part, parts_of}
use Rattle.ab_theory.specs.SpecRules.{by_part, demand_of}
use Rattle.ab_theory.proofs.Demanded.{IsKnown}
use Rattle.ab_theory.proofs.Demands.{conjunction_stands}
use Rattle.ab_theory.proofs.JudgementRules.{judgement_known}
use Rattle.ab_theory.proofs.Known.{Known}
use Rattle.ab_theory.proofs.RuleDemands.{JudgementKnown, FocusKnown}
use Rattle.ab_coverage.proofs.Clausal.{closed_free, free_image, guess_typed, atoms_met}
use Rattle.ab_coverage.proofs.Conjoined.{asked, asked_typed}
use Rattle.ab_coverage.proofs.Demands.{IsBelow, Low, part_clause, parts_same, part_atom, part_ties}
use Rattle.ab_coverage.proofs.Filling.{Met, closed_with, closed_with_typed, dropped_with, met-closed}
use Rattle.ab_coverage.proofs.IndexForms.{asked_same}
use Rattle.ab_coverage.proofs.IndexedGoals.{stands}
use Rattle.ab_coverage.proofs.IndexedInstances.{IsGuess}
use Rattle.ab_coverage.proofs.IndexedSpecClauses.{SpecClause, taken_apart, clause_image, in_goals_only, closed_in, left_open, spread, context_of}
use Rattle.ab_coverage.proofs.Parts.{IsPart, mapped_all, parts_right, raise_typed, raise-closed}
use Rattle.ab_coverage.proofs.Taking.{Rows, no_rows, closed_in_both, closed_before, open_in_both, closed_after, merged, rows_atoms, gone}
use Rattle.ab_search_trees.specs.Goals.{Goal, Now}
use Rattle.ab_search_trees.specs.Judgements.{search_rules}
use Rattle.ab_search_trees.specs.Ways.{demanded, by_rule}
use Rattle.ab_search_trees.proofs.Lifts.{known_cell}
use Rattle.ab_search_trees.proofs.Quantifiers.{given_variables}
use Rattle.ab_search_clauses.proofs.Along as along
use Rattle.ab_search_clauses.proofs.Along.{images_are}
use Rattle.ab_search_layers.specs.Layered.{OpensTo, Gives}
use Rattle.ab_search_layers.proofs.Early.{body_early}
use Rattle.ab_search_layers.proofs.PastHints.{gives_past_hints}
use Rattle.ab_search_answers.proofs.ByParts as parts
use Rattle.ab_search_answers.proofs.Filled.{name_typed, name_without}
use Rattle.ab_search_answers.proofs.Given.{AreTakenOver, kernel_typed, rows_give}
use Rattle.ab_search_answers.specs.Followed.{in_the_end}
use Rattle.ab_search_answers.proofs.Below.{IsTaken}

-- any term, for a name that stands nowhere
abbrev any_of : Cell (List ℕ) → Read
any_of b = name_term (codes "x") (record { number = 0; type = b.type })

-- THE SEARCH'S TERMS, row by row: some names that were open are closed in the end, and others the other way round
module _ (sg : Signature) (ys : List (Variable ℕ)) where
  abbrev IsOver : Option Read → Type 0
  IsOver None = Unit {0}
  IsOver (Some u) = HoldsOnly ys u

  pub record Split (ds es : List Bool) (bs : List (Cell (List ℕ))) (av : List (Option Read)) : Type 0 where
    pub terms : List (Option Read)
    pub taken : List (Option Read)
    pub rows : Rows sg ds es bs terms taken
    pub same : merged sg ds terms taken ≡ av
    pub over : AreTakenOver ys taken
    pub known : (u : Read) → Contains terms (Some u) → HoldsOnly ys u

  any_known : (b : Cell (List ℕ)) → HoldsOnly ys (any_of b)
  any_known b = All-from_contains (Contains ys) (variables (any_of b)) (λ y m. absurd (name_without (record { number = 0; type = b.type }) y m))

  pub split : (Gs : List Read) (A : Read) (ds : List Bool) (bs : List (Cell (List ℕ))) (av : List (Option Read)) → IsGuess sg ds bs av → ((u : Read) → Contains av (Some u) → HoldsOnly ys u) → Split ds (in_goals_only bs Gs A) bs av
  split Gs A [] [] [] g k = record { terms = []; taken = []; rows = no_rows; same = refl; over = tt; known = λ u m. absurd (Contains-none (Some u) m) }
  split Gs A (true ∷ ds) (b ∷ bs) (None ∷ av) g k = go (list_any (stands (length bs)) Gs && not (stands (length bs) A)) (split Gs A ds bs av g (λ u m. k u (Contains-there None av (Some u) m)))
    where
      go : (e : Bool) → Split ds (in_goals_only bs Gs A) bs av → Split (true ∷ ds) (e ∷ in_goals_only bs Gs A) (b ∷ bs) (None ∷ av)
      go true s = record { terms = None ∷ s.terms; taken = None ∷ s.taken; rows = closed_in_both s.rows; same = ap (λ l. None ∷ l) s.same; over = s.over; known = λ u m. elim (Contains-cases None s.terms (Some u) m) [ inl e ↦ absurd (cc) | inr i ↦ s.known u i ] }
      go false s = record {
        terms = Some (any_of b) ∷ s.terms;
        taken = None ∷ s.taken;
        rows = closed_before (name_typed sg (record { number = 0; type = b.type })) s.rows;
        same = ap (λ l. None ∷ l) s.same;
        over = s.over;
        known = λ u m. elim (Contains-cases (Some (any_of b)) s.terms (Some u) m) [ inl e ↦ (let one : any_of b ≡ u = cc in subst (HoldsOnly ys) one (any_known b)) | inr i ↦ s.known u i ];
      }
  split Gs A (false ∷ ds) (b ∷ bs) (Some t ∷ av) g k = go (list_any (stands (length bs)) Gs && not (stands (length bs) A)) (split Gs A ds bs av g.1 (λ u m. k u (Contains-there (Some t) av (Some u) m)))
    where
      go : (e : Bool) → Split ds (in_goals_only bs Gs A) bs av → Split (false ∷ ds) (e ∷ in_goals_only bs Gs A) (b ∷ bs) (Some t ∷ av)
      go true s = record {
        terms = None ∷ s.terms;
        taken = Some t ∷ s.taken;
        rows = closed_after g.0 s.rows;
        same = ap (λ l. Some t ∷ l) s.same;
        over = (k t (Contains-here (Some t) av), s.over);
        known = λ u m. elim (Contains-cases None s.terms (Some u) m) [ inl e ↦ absurd (cc) | inr i ↦ s.known u i ];
      }
      go false s = record {
        terms = Some t ∷ s.terms;
        taken = None ∷ s.taken;
        rows = open_in_both g.0 s.rows;
        same = ap (λ l. Some t ∷ l) s.same;
        over = s.over;
        known = λ u m. elim (Contains-cases (Some t) s.terms (Some u) m) [ inl e ↦ (let one : t ≡ u = cc in subst (HoldsOnly ys) one (k t (Contains-here (Some t) av))) | inr i ↦ s.known u i ];
      }
  split Gs A ds bs av g k = absurd g

-- a body with terms for some names stands as a formula
closed_stands : (bs : List (Cell (List ℕ))) (vs : List (Option Read)) (M : Read) → StandsIn a_formula M → StandsIn a_formula (closed_with bs vs M)
closed_stands [] vs M s = s
closed_stands (b ∷ bs) [] M s = s
closed_stands (b ∷ bs) (None ∷ vs) M s = (tt, (closed_stands bs vs M s, tt))
closed_stands (b ∷ bs) (Some u ∷ vs) M s = instance_stands (lam b.type b.hint (closed_with bs vs M)) u (closed_stands bs vs M s)

-- terms that are put in for the terms
spread_under : (sg : Signature) (r : Substitution ℕ (List ℕ)) (typed : IsTyped sg r) (fs : List Bool) (ms : List Read) → Met sg (bare r) (bare_typed sg r typed) (spread fs ms) (spread fs (map (image same_number r) ms))
spread_under sg r typed [] ms = tt
spread_under sg r typed (true ∷ fs) ms = (tt, spread_under sg r typed fs ms)
spread_under sg r typed (false ∷ fs) [] = (tt, spread_under sg r typed fs [])
spread_under sg r typed (false ∷ fs) (m ∷ ms) = (sym (forget-image r m), spread_under sg r typed fs ms)

spread_from : (fs : List Bool) (ms : List Read) (u : Read) → Contains (spread fs ms) (Some u) → Contains ms u
spread_from [] ms u m = absurd (Contains-none (Some u) m)
spread_from (true ∷ fs) ms u m = elim (Contains-cases None (spread fs ms) (Some u) m) [ inl e ↦ absurd (cc) | inr i ↦ spread_from fs ms u i ]
spread_from (false ∷ fs) [] u m = elim (Contains-cases None (spread fs []) (Some u) m) [ inl e ↦ absurd (cc) | inr i ↦ spread_from fs [] u i ]
spread_from (false ∷ fs) (t ∷ ms) u m = elim (Contains-cases (Some t) (spread fs ms) (Some u) m) [
  | inl e ↦ (let one : t ≡ u = cc in subst (Contains (t ∷ ms)) one (Contains-here t ms))
  | inr i ↦ Contains-there t ms u (spread_from fs ms u i)
]

-- terms for the names that stand open
pub any_guess : (sg : Signature) (Gs : List Read) (A : Read) (bs : List (Cell (List ℕ))) (ms : List Read) → OfCells sg (codes "x") (left_open (in_goals_only bs Gs A) bs) ms → IsGuess sg (in_goals_only bs Gs A) bs (spread (in_goals_only bs Gs A) ms)
any_guess sg Gs A [] ms e = tt
any_guess sg Gs A (b ∷ bs) ms e = go (λ us d. any_guess sg Gs A bs us d) (list_any (stands (length bs)) Gs && not (stands (length bs) A)) ms e
  where
    go : ((us : List Read) → OfCells sg (codes "x") (left_open (in_goals_only bs Gs A) bs) us → IsGuess sg (in_goals_only bs Gs A) bs (spread (in_goals_only bs Gs A) us))
        → (f : Bool) (ms : List Read) → OfCells sg (codes "x") (left_open (f ∷ in_goals_only bs Gs A) (b ∷ bs)) ms → IsGuess sg (f ∷ in_goals_only bs Gs A) (b ∷ bs) (spread (f ∷ in_goals_only bs Gs A) ms)
    go rest true ms e = rest ms e
    go rest false [] e = absurd e
    go rest false (m ∷ ms) e = (e.0, rest ms e.1)

module _ (D : Declarations) (program : HavePrograms D) (has : HasMember (signature_in D)) (p : Part) (now last : Now) (g : Goal) (depth : ℕ) (j : Judgement) (ys : List (Variable ℕ)) (more : List (Cell (List ℕ))) (q n : Substitution ℕ (List ℕ))
    (is : as_judgement g.conclusion ≡ Some j) (plainly : j.sign ≡ plain) (there : Contains (search_rules D j) (by_part p)) (taken : IsTaken D now g ys (by_rule D now g depth j (by_part p)) last more q n) where
  abbrev sg : Signature
  sg = signature_in D

  abbrev r : Substitution ℕ (List ℕ)
  r = in_the_end last q n

  abbrev pub c : SpecClause (List ℕ)
  c = part_clause p

  -- the part in the end
  abbrev pub c2 : SpecClause (List ℕ)
  c2 = clause_image (in_the_end last q n) (part_clause p)

  abbrev bs : List (Cell (List ℕ))
  bs = p.names

  abbrev ds : List Bool
  ds = closed_in (part_clause p)

  abbrev es : List Bool
  es = closed_in (clause_image (in_the_end last q n) (part_clause p))

  closed : IsClosedMap (value_in same_number r)
  closed = closed_map sg ℕ (List ℕ) (value_in same_number r) (map_typed sg same_number r taken.typed)

  pub known : JudgementKnown sg (IsCell now.cells) g.constants j
  known = judgement_known sg (IsCell now.cells) g.constants g.conclusion j is taken.place.task.conclusion.formula.typed (record { over = taken.place.task.conclusion.facts.over; names = taken.place.task.conclusion.facts.constants })

  focus : (F : Read) × (j.focus ≡ Some F) × Contains (parts_of F) p
  focus = parts.focus D program has p now last g depth j ys more q n is plainly there taken

  in_focus : IsKnown sg (IsCell now.cells) g.constants o focus.0
  in_focus = subst (FocusKnown sg (IsCell now.cells) g.constants) focus.1 known.focus

  below : (t : Read) → Known (IsCell now.cells) g.constants t → IsBelow (length now.cells) t
  below t k = over.held_has (λ y. y.name < length now.cells) t (λ y h. known_cell now.cells y.name y.type (k.over y (holds_contains (variables t) y h)))

  part : IsPart sg (Low (length now.cells)) [] (part_clause p)
  part = All-contains (IsPart sg (Low (length now.cells)) []) (taken_apart focus.0) (part_clause p) (parts_right sg (Low (length now.cells)) [] focus.0 in_focus.typed (below focus.0 in_focus.known))
      (subst (λ l. Contains l (part_clause p)) (sym (parts_same focus.0)) (Contains-map part_clause (parts_of focus.0) p focus.2))

  abbrev made : List Read
  made = made_terms (codes "x") (length now.cells + length p.names) (constants_of j) (left_open (closed_in (part_clause p)) p.names)

  made_are : OfCells sg (codes "x") (left_open ds bs) made
  made_are = along.made_are sg (length now.cells + length p.names) (constants_of j) (left_open ds bs) []

  -- what the search has for the names in the end
  abbrev pub av : List (Option Read)
  av = spread (closed_in (part_clause p)) (map (image same_number (in_the_end last q n)) (made_terms (codes "x") (length now.cells + length p.names) (constants_of j) (left_open (closed_in (part_clause p)) p.names)))

  made_known : (u : Read) → Contains (map (image same_number r) made) u → HoldsOnly ys u
  made_known u m =
      let own = left_open ds bs in
      let k = length now.cells + length p.names in
      let from = Contains-from_map (image same_number r) made u m in
      let one = along.made_is sg k (constants_of j) own [] from.0 from.1 in
      subst (HoldsOnly ys) from.2 (taken.known from.0 (λ y i.
      let same : y ≡ one.new = given_variables (codes "x") one.new (constants_of j) one.type y (subst (λ t. Contains (variables t) y) one.as_given i) in
      let high : length now.cells ≤ one.new.name = (let far = one.high_enough in omega (arith, far)) in
      inr (subst (λ (v : Variable ℕ). holds (by_rule D now g depth j (by_part p)).flexible v ≡ true) (sym same) (in_way one.new one.held), subst (λ (v : Variable ℕ). length now.cells ≤ v.name) (sym same) high)))
    where
      in_way : (y : Variable ℕ) → holds (made_over (codes "x") (length now.cells + length p.names) (constants_of j) (left_open (closed_in (part_clause p)) p.names)) y ≡ true → holds (by_rule D now g depth j (by_part p)).flexible y ≡ true
      in_way y h =
          let d = demanded (length now.cells) j (by_part p) in
          let ties = part_ties sg has.cons (length now.cells) j known.context.typed (below j.context known.context.known) p part in
          holds_behind now.flexible (numbered (length (now.cells ++ p.names)) d.own) y
          (subst (λ l. holds (numbered (length (now.cells ++ p.names)) l) y ≡ true) (sym ties.own)
          (subst (λ i. holds (numbered i (cells_over (codes "x") (constants_of j) (left_open ds bs))) y ≡ true) (sym (length-append now.cells p.names)) h))

  pub rows : Split sg ys ds es bs av
  rows = split sg ys c2.goals c2.atom ds bs av (any_guess sg p.goals p.atom bs (map (image same_number r) made) (images_are sg r taken.typed (left_open ds bs) made made_are))
      (λ u m. made_known u (spread_from ds (map (image same_number r) made) u m))

  -- THE MATRICES
  abbrev L2 : Read
  L2 = image same_number (in_the_end last q n) j.context

  L2_typed : HasType sg [] L2 olist
  L2_typed = image_typed sg same_number r taken.typed known.context.typed

  abbrev raised : Read
  raised = raise (length p.names) zero (image same_number (in_the_end last q n) j.context)

  raised_unmoved : (k : ℕ) → shift k raised ≡ raised
  raised_unmoved k =
      let e = raise-closed sg olist (length bs) L2 L2_typed in
      let short = closed_reach sg L2_typed in
      ap (shift k) e ∙ shift-short L2 k (omega (arith, short)) ∙ sym e

  abbrev first : Read
  first = asked (raise (length p.names) zero j.context) p.goals

  abbrev M : Read
  M = image same_number (in_the_end last q n) (asked (raise (length p.names) zero j.context) p.goals)

  abbrev N : Read
  N = asked (raise (length p.names) zero (image same_number (in_the_end last q n) j.context)) (map (image same_number (in_the_end last q n)) p.goals)

  goals_under : (Gs : List Read) → All (λ G. HasType sg (context_of bs []) G o) Gs → All (λ G. HasType sg (context_of bs []) G o) (map (image same_number r) Gs)
  goals_under Gs all = mapped_all (λ G. HasType sg (context_of bs []) G o) (image same_number r) Gs
      (All-from_contains (λ G. HasType sg (context_of bs []) (image same_number r G) o) Gs (λ G m. image_typed sg same_number r taken.typed (All-contains (λ G. HasType sg (context_of bs []) G o) Gs G all m)))

  first_typed : HasType sg (context_of bs []) first prop
  first_typed = asked_typed sg has.cons (raise (length bs) zero j.context) (raise_typed sg olist bs [] j.context known.context.typed) p.goals part.goals

  M_typed : HasType sg (context_of bs []) M prop
  M_typed = image_typed sg same_number r taken.typed first_typed

  pub N_typed : HasType sg (context_of bs []) N prop
  N_typed = asked_typed sg has.cons raised (raise_typed sg olist bs [] L2 L2_typed) (map (image same_number r) p.goals) (goals_under p.goals part.goals)

  opens : OpensTo M N
  opens =
      subst (λ t. OpensTo (image same_number r t) N) (asked_same (raise (length bs) zero j.context) p.goals)
      (subst (OpensTo (image same_number r (conjunction_of (map (open_goal plain (raise (length bs) zero j.context)) p.goals)))) (asked_same raised (map (image same_number r) p.goals))
      (subst (λ K. OpensTo (image same_number r (conjunction_of (map (open_goal plain (raise (length bs) zero j.context)) p.goals))) (conjunction_of (map (open_goal plain K) (map (image same_number r) p.goals)))) (sym (raise-image (value_in same_number r) closed j.context (length bs) zero))
      (body_early sg r taken.typed (raise (length bs) zero j.context) p.goals [] (λ y m. absurd (Contains-none y m)))))

  M_stands : StandsIn a_formula M
  M_stands = image_stands (value_in same_number r) a_formula first (subst (StandsIn a_formula) (asked_same (raise (length bs) zero j.context) p.goals) (conjunction_stands plain (raise (length bs) zero j.context) p.goals))

  -- WHAT WAS SHOWN, past hints
  shown_is : forget (image same_number r (demanded (length now.cells) j (by_part p)).body) ≡ forget (closed_with bs av M)
  shown_is =
      let vs = spread ds made in
      let ties = part_ties sg has.cons (length now.cells) j known.context.typed (below j.context known.context.known) p part in
      ap (λ m. forget (image same_number r (demand_of (length now.cells) (mark_above m) j (by_part p)).body)) plainly
      ∙ image_past_hints r (demand_of (length now.cells) plain j (by_part p)).body (closed_with bs vs first) ties.body
      ∙ forget-image r (closed_with bs vs first)
      ∙ met-closed sg (bare r) (bare_typed sg r taken.typed) prop [] bs vs av first M (guess_typed sg ds bs vs (any_guess sg p.goals p.atom bs made made_are)) (spread_under sg r taken.typed ds made) first_typed (sym (forget-image r first))

  shown_formula : IsFormula sg (image same_number r (demanded (length now.cells) j (by_part p)).body)
  shown_formula = image_formula sg r taken.typed (demanded (length now.cells) j (by_part p)).body ((parts.fine D program has p now last g depth j ys more q n is plainly there taken).tasks.0).conclusion.formula

  -- IT GIVES what the part leaves in the end
  abbrev pub left : Read
  left = closed_with p.names rows.terms (asked (raise (length p.names) zero (image same_number (in_the_end last q n) j.context)) (map (image same_number (in_the_end last q n)) p.goals))

  pub gives : Gives D ys (image same_number r (demanded (length now.cells) j (by_part p)).body) left
  gives =
      let row = subst (λ l. Gives D ys (closed_with bs l M) left) rows.same
      (rows_give D ys rows.rows rows.over M N opens M_typed N_typed (gone sg raised raised_unmoved c2.goals c2.atom ds bs (free_image (value_in same_number r) closed ds bs p.atom (closed_free bs p.goals p.atom)))
      (closed_stands bs (merged sg ds rows.terms rows.taken) M M_stands)) in
      gives_past_hints D has ys row (closed_stands bs av M M_stands) (image same_number r (demanded (length now.cells) j (by_part p)).body) shown_formula shown_is

  -- IN THE END THE GOAL IS THE PART'S ATOM, with the terms that the kernel has for the names
  pub goal_then : forget (image same_number r j.goal) ≡ forget (dropped_with p.names rows.terms (image same_number (in_the_end last q n) p.atom))
  goal_then =
      let vs = spread ds made in
      let A = part_atom sg has.cons (length now.cells) j known.context.typed (below j.context known.context.known) p part in
      let ties = part_ties sg has.cons (length now.cells) j known.context.typed (below j.context known.context.known) p part in
      let free = closed_free bs p.goals p.atom in
      let free_then = free_image (value_in same_number r) closed ds bs p.atom free in
      sym ((parts.unified_then D program has p now last g depth j ys more q n is plainly there taken).0)
      ∙ image_past_hints r A (dropped_with bs vs p.atom) ties.atom
      ∙ atoms_met sg r taken.typed ds bs vs av (any_guess sg p.goals p.atom bs made made_are) (any_guess sg p.goals p.atom bs (map (image same_number r) made) (images_are sg r taken.typed (left_open ds bs) made made_are)) (spread_under sg r taken.typed ds made)
      p.atom (image same_number r p.atom) part.atom free free_then (sym (forget-image r p.atom))
      ∙ ap (λ l. forget (dropped_with bs l (image same_number r p.atom))) (sym rows.same)
      ∙ ap forget (rows_atoms sg rows.rows (image same_number r p.atom) free_then (closed_free bs c2.goals c2.atom))

  -- WHAT IS LEFT is a formula
  pub left_formula : IsFormula sg left
  left_formula = record {
    typed = closed_with_typed sg {G = []} bs rows.terms N (kernel_typed sg rows.rows) N_typed;
    stands = closed_stands bs rows.terms N (subst (StandsIn a_formula) (asked_same raised (map (image same_number r) p.goals)) (conjunction_stands plain raised (map (image same_number r) p.goals)));
  }
