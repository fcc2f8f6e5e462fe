-- THE WAY BY A RULE of a judgement, where a guess makes of the judgement another that has the rule.
use Rattle.std.proofs.Common.{◌≡◌, ℕ, zero, suc, ◌+◌, ◌<◌, ◌≤◌, inl, inr, List, [], ◌∷◌, ◌++◌, map, length, codes, true, false, cond, Option, Some, None, refl, sym, ◌∙◌, ap, subst, arith, append-nil, length-append}
use Rattle.std.specs.Prelude.{All, Contains}
use Rattle.std.proofs.lemmas.List.Elements.{All-head, All-contains, Contains-append_left, Contains-append_right, Contains-append_cases}
use Rattle.ab_term.specs.Types.{Ty, prop, o}
use Rattle.ab_term.specs.Terms as tree
use Rattle.ab_term.specs.Terms.{Nominal, constant, spine, Terms, no_terms, term, Read}
use Rattle.ab_term.specs.Typing.{Signature, HasType, TakeType, typed_spine}
use Rattle.ab_term.specs.Names.{support}
use Rattle.ab_term.specs.Translation.{forget, forget_all}
use Rattle.ab_term.specs.Variables.{Substitution, variables, value_in, image, image_by, image_all_by}
use Rattle.ab_term.specs.Sameness.{same_number}
use Rattle.ab_term.proofs.ClosedMaps.{IsClosedMap}
use Rattle.ab_term.proofs.Depends.{image_nothing}
use Rattle.ab_term.proofs.Images.{closed_map, image_by_typed}
use Rattle.ab_term.proofs.Lists.{Contains-none, Contains-map}
use Rattle.ab_term.proofs.Translations.{translate_typed, typed_before}
use Rattle.ab_unifiers.specs.Unifiers.{IsCell}
use Rattle.ab_unifiers.specs.Clauses.{Clause, numbered, put_together}
use Rattle.ab_unifiers.specs.Alternatives.{arguments_equal}
use Rattle.ab_unifiers.specs.Member.{HasMember}
use Rattle.ab_unifiers.specs.Prefixes.{arguments_of}
use Rattle.ab_unifiers.proofs.Choosing.{contains_ordered, ordered_contains}
use Rattle.ab_unifiers.proofs.Constants as names
use Rattle.ab_unifiers.proofs.Following.{Put, Fits}
use Rattle.ab_unifiers.proofs.General.{AllAlike}
use Rattle.ab_unifiers.proofs.Variables as over
use Rattle.ab_unifiers.proofs.Variables.{holds_contains}
use Rattle.ab_formulas.specs.Declarations.{Declarations, signature_in}
use Rattle.ab_formulas.specs.Formulas.{a_formula}
use Rattle.ab_formulas.proofs.Images.{image_stands}
use Rattle.ab_formulas.specs.Programs as programs
use Rattle.ab_formulas.specs.Programs.{HavePrograms}
use Rattle.ab_formulas.specs.Marks.{plain}
use Rattle.ab_formulas.specs.BodyMarks.{mark_above}
use Rattle.ab_theory.specs.Judgements.{Judgement, as_judgement, constants_of, support_of_focus}
use Rattle.ab_theory.specs.Parts.{Part, parts_of}
use Rattle.ab_theory.specs.SpecInstances.{HoldsUnder, IsAbove}
use Rattle.ab_theory.specs.SpecRules.{SpecRule, by_clause, by_list, by_part, Demand, demand_of, some_item}
use Rattle.ab_theory.proofs.Demanded.{IsKnown}
use Rattle.ab_theory.proofs.Demands.{demand_stands}
use Rattle.ab_theory.proofs.JudgementRules.{judgement_known}
use Rattle.ab_theory.proofs.RuleDemands.{FocusKnown, JudgementKnown, IsRuleOf}
use Rattle.ab_coverage.proofs.IndexedSpecClauses.{taken_apart}
use Rattle.ab_coverage.proofs.Parts.{IsPart, parts_right}
use Rattle.ab_coverage.proofs.Demands.{IsBelow, Low, Ties, clause_index, clause_right, clause_part, clause_atom, clause_put, clause_ties, part_clause, parts_same, part_ties, part_atom}
use Rattle.ab_coverage.proofs.Guesses as guesses
use Rattle.ab_coverage.proofs.RuleCover.{all_unify}
use Rattle.ab_coverage.proofs.Sound.{unified_arguments}
use Rattle.ab_search_trees.specs.Goals.{Goal, Now, asking}
use Rattle.ab_search_trees.specs.Judgements.{is_blind, search_rules}
use Rattle.ab_search_trees.specs.Ways.{unfolds, demanded, by_rule, by_judgement}
use Rattle.ab_search_trees.specs.Guesses.{HoldsOf, MeetsDemand, ruled_to}
use Rattle.ab_search_trees.proofs.Lifts.{known_cell}
use Rattle.ab_search_trees.proofs.Facts.{IsTask}
use Rattle.ab_search_trees.proofs.Against.{IsState, IsGuess}
use Rattle.ab_search_trees.proofs.ByForm.{none_serve}
use Rattle.ab_search_trees.proofs.Hypotheses.{made_names}
use Rattle.ab_search_trees.proofs.RuleWays.{is_rule_of}
use Rattle.ab_search_completeness.specs.Firm.{StaysInGoals, PartIsFirm}
use Rattle.ab_search_completeness.specs.Places.{HasExistential, FocusIsFirm}
use Rattle.ab_search_completeness.proofs.Going.{Goes}
use Rattle.ab_search_completeness.proofs.Connectives.{in_judgement}
use Rattle.ab_search_completeness.proofs.Judged.{JudgementMade, FocusMade, judgement_lifts, judgement_seen}
use Rattle.ab_search_completeness.proofs.Parts.{PartMade}
use Rattle.ab_search_completeness.proofs.Marked.{with_judgements, clause_with_marks, part_with_marks, marks_made, marks_put, item_made}
use Rattle.ab_search_completeness.proofs.Listed.{RuleMade, FocusTyped, rule_from}
use Rattle.ab_search_completeness.proofs.Likenesses.{clause_stays, part_becomes, names_kept}
use Rattle.ab_search_completeness.proofs.Vacuous.{Fills, as_it_is, fills_with, fills_hints, fills_weaker}
use Rattle.ab_search_completeness.proofs.Instances as instance

-- two rows of arguments of one constant
both_take : {sg : Signature} {c : List ℕ} {ts us : Terms ℕ (List ℕ)} → HasType sg [] (spine (constant c) ts) o → HasType sg [] (spine (constant c) us) o → (A : Ty) × TakeType sg [] ts A o × TakeType sg [] us A o
both_take {sg = sg} {ts = ts} (typed_spine {A = A} e ds) (typed_spine {A = B} f es) = let same : A ≡ B = cc in (B, subst (λ C. TakeType sg [] ts C o) same ds, es)

arguments_alike : (f : Put) (p : ℕ) (ts us : Terms ℕ (List ℕ)) → image_all_by f (forget_all ts) ≡ image_all_by f (forget_all us) → AllAlike f (arguments_equal (codes "x") p ts us)
arguments_alike f p no_terms us e = tt
arguments_alike f p (term t ts) no_terms e = tt
arguments_alike f p (term t ts) (term u us) e =
    let one : image_by f (forget t) ≡ image_by f (forget u) = cc in
    let more : image_all_by f (forget_all ts) ≡ image_all_by f (forget_all us) = cc in
    (one, arguments_alike f (suc p) ts us more)

below_more : (n m : ℕ) → n ≤ m → (t : Read) → IsBelow n t → IsBelow m t
below_more n m l t b = over.held_has (λ (y : tree.Variable ℕ). y.name < m) t (λ y h. let low = over.has_held (λ (y : tree.Variable ℕ). y.name < n) t b y h in omega (arith, low, l))

known_below : {sg : Signature} {P : tree.Variable ℕ → Type 0} {M : List Nominal} {A : Ty} (n : ℕ) → ((y : tree.Variable ℕ) → P y → y.name < n) → (t : Read) → IsKnown sg P M A t → IsBelow n t
known_below n f t k = over.held_has (λ (y : tree.Variable ℕ). y.name < n) t (λ y h. f y (k.known.over y (holds_contains (variables t) y h)))

focus_typed : (sg : Signature) (P : tree.Variable ℕ → Type 0) (M : List Nominal) (F : Option Read) → FocusKnown sg P M F → FocusTyped sg F
focus_typed sg P M None k = tt
focus_typed sg P M (Some F) k = k.typed

-- a part of a typed formula
part_of : (sg : Signature) (n : ℕ) (F : Read) → HasType sg [] F o → IsBelow n F → (p : Part) → Contains (parts_of F) p → IsPart sg (Low n) [] (part_clause p)
part_of sg n F d b p i = All-contains (IsPart sg (Low n) []) (taken_apart F) (part_clause p) (parts_right sg (Low n) [] F d b) (subst (λ l. Contains l (part_clause p)) (sym (parts_same F)) (Contains-map part_clause (parts_of F) p i))

module _ (D : Declarations) (program : HavePrograms D) (has : HasMember (signature_in D)) (now : Now) (f : Put) (s : IsState (signature_in D) now f) (g h : Goal) (t : IsTask (signature_in D) now g) (a : IsGuess f g h) where
  abbrev sg : Signature
  sg = signature_in D

  -- A WAY TO WHAT A RULE LEAVES, but for `exists` in front whose names stand nowhere; there are none where this is known
  pub record GoesTo (K : Type 0) (depth : ℕ) (Y : Read) : Type 0 where
    pub shape : Read
    pub goes : Goes D now f g (record (asking shape h) { depth = depth; untouched = false } ∷ [])
    pub fills : Fills sg (HoldsOf h.constants) shape Y
    pub kept : K → forget shape ≡ forget Y

  abbrev n : ℕ
  n = length now.cells

  closed : IsClosedMap f
  closed = closed_map sg ℕ (Unit {0}) f s.fits.typed

  h_typed : HasType sg [] h.conclusion prop
  h_typed =
      let bare : HasType sg [] (forget h.conclusion) prop = subst (λ u. HasType sg [] u prop) a.conclusion (image_by_typed sg ℕ (Unit {0}) f s.fits.typed (translate_typed sg (λ v. v) (λ y. tt) t.conclusion.formula.typed)) in
      typed_before sg (λ v. v) (λ y. tt) h.conclusion bare

  module _ (depth : ℕ) (j j2 : Judgement) (is : as_judgement g.conclusion ≡ Some j) (is2 : as_judgement h.conclusion ≡ Some j2) (made : JudgementMade f j j2) (may : unfolds j.sign ≡ true) (deep : g.depth ≡ suc depth) (n2 : ℕ) (above : IsAbove n2 h.conclusion) where
    parts : JudgementKnown sg (IsCell now.cells) g.constants j
    parts = judgement_known sg (IsCell now.cells) g.constants g.conclusion j is t.conclusion.formula.typed (record { over = t.conclusion.facts.over; names = t.conclusion.facts.constants })

    parts2 : JudgementKnown sg (λ (y : tree.Variable ℕ). y.name < n2) (support h.conclusion) j2
    parts2 = judgement_known sg (λ (y : tree.Variable ℕ). y.name < n2) (support h.conclusion) h.conclusion j2 is2 h_typed (record { over = λ y m. All-contains (λ (y : tree.Variable ℕ). y.name < n2) (variables h.conclusion) y above m; names = λ a m. m })

    abbrev L : Read
    L = j.context

    abbrev L2 : Read
    L2 = j2.context

    cell_below : (y : tree.Variable ℕ) → IsCell now.cells y → y.name < n
    cell_below y c = known_cell now.cells y.name y.type c

    L_below : IsBelow n L
    L_below = known_below n cell_below L parts.context

    goal_below : IsBelow n j.goal
    goal_below = known_below n cell_below j.goal parts.goal

    L2_below : IsBelow n2 L2
    L2_below = known_below n2 (λ y l. l) L2 parts2.context

    goal2_below : IsBelow n2 j2.goal
    goal2_below = known_below n2 (λ y l. l) j2.goal parts2.goal

    -- no more constants
    within : (b : Nominal) → Contains (constants_of j2) b → Contains (constants_of j) b
    within b m =
        ordered_contains (support j.context ++ (support_of_focus j.focus ++ support j.goal)) b
        (elim (Contains-append_cases (support j2.context) (support_of_focus j2.focus ++ support j2.goal) b (contains_ordered (support j2.context ++ (support_of_focus j2.focus ++ support j2.goal)) b m)) [
          | inl k ↦ Contains-append_left (support j.context) (support_of_focus j.focus ++ support j.goal) b (made_names D now f s j.context j2.context made.context b k)
          | inr k ↦ Contains-append_right (support j.context) (support_of_focus j.focus ++ support j.goal) b (elim (Contains-append_cases (support_of_focus j2.focus) (support j2.goal) b k) [
            | inl l ↦ Contains-append_left (support_of_focus j.focus) (support j.goal) b (of_focus j.focus j2.focus made.focus l)
            | inr l ↦ Contains-append_right (support_of_focus j.focus) (support j.goal) b (made_names D now f s j.goal j2.goal made.goal b l)
          ])
        ])
      where
        of_focus : (F H : Option Read) → FocusMade f F H → Contains (support_of_focus H) b → Contains (support_of_focus F) b
        of_focus None None m l = l
        of_focus (Some F) (Some H) m l = made_names D now f s F H m b l
        of_focus None (Some H) m l = absurd m
        of_focus (Some F) None m l = absurd m

    -- the way stands among those of the goal
    listed : (r : SpecRule) → Contains (search_rules D j) r → Contains (by_judgement D now g g.depth (as_judgement g.conclusion)) (by_rule D now g depth j r)
    listed r m =
        let w = by_rule D now g depth j r in
        subst (λ k. Contains (by_judgement D now g k (as_judgement g.conclusion)) w) (sym deep)
        (subst (λ k. Contains (by_judgement D now g (suc depth) k) w) (sym is)
        (subst (λ b. Contains (cond b (map (by_rule D now g depth j) (search_rules D j)) []) w) (sym may) (Contains-map (by_rule D now g depth j) (search_rules D j) r m)))

    -- its constants are the branch's
    of_branch : (b : Nominal) → Contains (constants_of j) b → Contains g.constants b
    of_branch b m = elim (Contains-append_cases (support j.context) (support_of_focus j.focus ++ support j.goal) b (contains_ordered (support j.context ++ (support_of_focus j.focus ++ support j.goal)) b m)) [
      | inl k ↦ parts.context.known.names b k
      | inr k ↦ elim (Contains-append_cases (support_of_focus j.focus) (support j.goal) b k) [
        | inl l ↦ of_focus j.focus parts.focus l
        | inr l ↦ parts.goal.known.names b l
      ]
    ]
      where
        of_focus : (F : Option Read) → FocusKnown sg (IsCell now.cells) g.constants F → Contains (support_of_focus F) b → Contains g.constants b
        of_focus None k l = absurd (Contains-none b l)
        of_focus (Some F) k l = k.known.names b l

    held : (u : Read) → names.Has (Contains (constants_of j2)) u → HoldsOf h.constants u
    held u k b m = subst (λ l. Contains l b) (sym a.constants) (of_branch b (within b (names.has_support (Contains (constants_of j2)) u k b m)))

    marks_same : (t u : Read) → forget t ≡ forget (with_judgements (mark_above j2.sign) u) → forget t ≡ forget (with_judgements (mark_above j.sign) u)
    marks_same t u e = e ∙ ap (λ m. forget (with_judgements (mark_above m) u)) (sym made.sign)

    abbrev x : List ℕ
    x = codes "x"

    -- BY A CLAUSE OF THE PROGRAM
    module _ (c : Clause (List ℕ)) (m : Contains (search_rules D j) (by_clause c)) (m2 : Contains (search_rules D j2) (by_clause c)) (us : List Read) (meets : MeetsDemand sg n2 (demanded n2 j2 (by_clause c)) us) where
      rule : IsRuleOf sg j (by_clause c)
      rule = is_rule_of D program j (by_clause c) m

      rule2 : IsRuleOf sg j2 (by_clause c)
      rule2 = is_rule_of D program j2 (by_clause c) m2

      abbrev w : programs.IsProgramClause sg c
      w = rule.0

      abbrev d : Demand
      d = demand_of n plain j (by_clause c)

      abbrev d2 : Demand
      d2 = demand_of n2 plain j2 (by_clause c)

      abbrev A : Read
      A = image same_number (clause_put sg has.cons n j parts.context.typed L_below c w) (clause_atom sg has.cons n j parts.context.typed L_below c w)

      abbrev A2 : Read
      A2 = image same_number (clause_put sg has.cons n2 j2 parts2.context.typed L2_below c w) (clause_atom sg has.cons n2 j2 parts2.context.typed L2_below c w)

      abbrev first : ℕ
      first = length (now.cells ++ [])

      same_first : n ≡ first
      same_first = ap length (sym (append-nil now.cells))

      same_second : n2 ≡ n2 + 0
      same_second = omega arith

      ties : Ties (constants_of j) first L (clause_index c) A d
      ties = subst (λ k. Ties (constants_of j) k L (clause_index c) A d) same_first (clause_ties sg has.cons n j parts.context.typed L_below c w)

      ties2 : Ties (constants_of j2) (n2 + 0) L2 (clause_index c) A2 d2
      ties2 = subst (λ k. Ties (constants_of j2) k L2 (clause_index c) A2 d2) same_second (clause_ties sg has.cons n2 j2 parts2.context.typed L2_below c w)

      part2 : IsPart sg (Low (n2 + 0)) [] (clause_index c)
      part2 = clause_part sg (n2 + 0) (clause_index c) (clause_right sg c w)

      high2 : (u : Read) → IsBelow n2 u → IsBelow (n2 + 0) u
      high2 u b = below_more n2 (n2 + 0) (omega arith) u b

      abbrev P : Substitution ℕ (List ℕ)
      P = put_together (numbered (n2 + 0) d2.own) us

      A2_typed : HasType sg [] A2 o
      A2_typed = guesses.A_typed sg has.cons (constants_of j2) (n2 + 0) L2 parts2.context.typed (high2 L2 L2_below) (clause_index c) part2 A2 d2 ties2 us meets.terms

      equal : forget (image same_number P A2) ≡ forget (image same_number P j2.goal)
      equal =
          let ts2 = rule2.1 in
          let goal2 = rule2.2 in
          let take = both_take (subst (λ u. HasType sg [] u o) goal2 parts2.goal.typed) A2_typed in
          let es : All (HoldsUnder P) (arguments_equal x 0 ts2 (arguments_of A2)) = subst (λ l. All (HoldsUnder P) (arguments_equal x 0 l (arguments_of A2))) (ap arguments_of goal2) meets.equal in
          let arguments = unified_arguments sg x P 0 (codes "o") (codes "o") ts2 (arguments_of A2) take.1 take.2 (all_unify P (arguments_equal x 0 ts2 (arguments_of A2)) es) in
          ap (spine (constant c.predicate)) (sym arguments) ∙ ap (λ u. forget (image same_number P u)) (sym goal2)

      alike_part : IsPart sg (Low n) [] (clause_index c)
      alike_part = clause_part sg n (clause_index c) (clause_right sg c w)

      far : n ≤ first
      far = omega (arith, same_first)

      abbrev put : Put
      put = instance.put sg has.cons (constants_of j2) (n2 + 0) L2 parts2.context.typed (high2 L2 L2_below) (clause_index c) part2 A2 d2 ties2 us meets.terms meets.nameless
          now f s first far (constants_of j) within L parts.context.typed L_below made.context (clause_index c) alike_part (clause_stays f now.flexible sg c w) A d ties
          j.goal j2.goal goal_below (high2 j2.goal goal2_below) made.goal equal

      equations_alike : AllAlike put d.equations
      equations_alike =
          let atoms : image_by put (forget A) ≡ image_by put (forget j.goal) = instance.atoms_alike sg has.cons (constants_of j2) (n2 + 0) L2 parts2.context.typed (high2 L2 L2_below) (clause_index c) part2 A2 d2 ties2 us meets.terms meets.nameless
          now f s first far (constants_of j) within L parts.context.typed L_below made.context (clause_index c) alike_part (clause_stays f now.flexible sg c w) A d ties
          j.goal j2.goal goal_below (high2 j2.goal goal2_below) made.goal equal in
          let heads : spine (constant c.predicate) (image_all_by put (forget_all (arguments_of A))) ≡ spine (constant c.predicate) (image_all_by put (forget_all rule.1)) = atoms ∙ ap (λ u. image_by put (forget u)) rule.2 in
          let rows : image_all_by put (forget_all (arguments_of A)) ≡ image_all_by put (forget_all rule.1) = cc in
          subst (λ l. AllAlike put (arguments_equal x 0 l (arguments_of A))) (sym (ap arguments_of rule.2)) (arguments_alike put 0 rule.1 (arguments_of A) (sym rows))

      pub goes_by_clause : (K : Type 0) → GoesTo K depth (image same_number P (demanded n2 j2 (by_clause c)).body)
      goes_by_clause K =
          let body2 = image same_number P (demanded n2 j2 (by_clause c)).body in
          let m1 = mark_above j.sign in
          let shape = instance.shape sg has.cons (constants_of j2) (n2 + 0) L2 parts2.context.typed (high2 L2 L2_below) (clause_index c) part2 A2 d2 ties2 us meets.terms meets.nameless
          now f s first far (constants_of j) within L parts.context.typed L_below made.context (clause_index c) alike_part (clause_stays f now.flexible sg c w) A d ties
          j.goal j2.goal goal_below (high2 j2.goal goal2_below) made.goal equal in
          let whole = instance.whole sg has.cons (constants_of j2) (n2 + 0) L2 parts2.context.typed (high2 L2 L2_below) (clause_index c) part2 A2 d2 ties2 us meets.terms meets.nameless
          now f s first far (constants_of j) within L parts.context.typed L_below made.context (clause_index c) alike_part (clause_stays f now.flexible sg c w) A d ties
          j.goal j2.goal goal_below (high2 j2.goal goal2_below) made.goal equal in
          let whole_made : forget (with_judgements m1 whole) ≡ forget body2 =
          marks_put m1 P d2.body (demanded n2 j2 (by_clause c)).body whole (marks_same (demanded n2 j2 (by_clause c)).body d2.body (clause_with_marks (mark_above j2.sign) n2 j2 c)) (demand_stands n2 plain j2 (by_clause c))
          (image_stands (value_in same_number P) a_formula d2.body (demand_stands n2 plain j2 (by_clause c))) (instance.whole_is sg has.cons (constants_of j2) (n2 + 0) L2 parts2.context.typed (high2 L2 L2_below) (clause_index c) part2 A2 d2 ties2 us meets.terms meets.nameless
          now f s first far (constants_of j) within L parts.context.typed L_below made.context (clause_index c) alike_part (clause_stays f now.flexible sg c w) A d ties
          j.goal j2.goal goal_below (high2 j2.goal goal2_below) made.goal equal) in
          let k = fills_hints sg (λ u. names.Has (Contains (constants_of j2)) u) (fills_with sg (λ u. names.Has (Contains (constants_of j2)) u) m1 (instance.fills sg has.cons (constants_of j2) (n2 + 0) L2 parts2.context.typed (high2 L2 L2_below) (clause_index c) part2 A2 d2 ties2 us meets.terms meets.nameless
          now f s first far (constants_of j) within L parts.context.typed L_below made.context (clause_index c) alike_part (clause_stays f now.flexible sg c w) A d ties
          j.goal j2.goal goal_below (high2 j2.goal goal2_below) made.goal equal)) body2 whole_made in
          record {
            shape = k.0;
            goes = record {
              way = by_rule D now g depth j (by_clause c);
              there = in_judgement D now g (by_rule D now g depth j (by_clause c)) (listed (by_clause c) m);
              put = put;
              fits = instance.fits sg has.cons (constants_of j2) (n2 + 0) L2 parts2.context.typed (high2 L2 L2_below) (clause_index c) part2 A2 d2 ties2 us meets.terms meets.nameless
                  now f s first far (constants_of j) within L parts.context.typed L_below made.context (clause_index c) alike_part (clause_stays f now.flexible sg c w) A d ties
                  j.goal j2.goal goal_below (high2 j2.goal goal2_below) made.goal equal;
              same = instance.same sg has.cons (constants_of j2) (n2 + 0) L2 parts2.context.typed (high2 L2 L2_below) (clause_index c) part2 A2 d2 ties2 us meets.terms meets.nameless
                  now f s first far (constants_of j) within L parts.context.typed L_below made.context (clause_index c) alike_part (clause_stays f now.flexible sg c w) A d ties
                  j.goal j2.goal goal_below (high2 j2.goal goal2_below) made.goal equal;
              alike = equations_alike;
              serve = none_serve D;
              goals = (
                record {
                  conclusion = marks_made put m1 d.body shape (demanded n j (by_clause c)).body (clause_with_marks m1 n j c) (demand_stands n plain j (by_clause c)) (instance.bodies_made sg has.cons (constants_of j2) (n2 + 0) L2 parts2.context.typed (high2 L2 L2_below) (clause_index c) part2 A2 d2 ties2 us meets.terms meets.nameless
                      now f s first far (constants_of j) within L parts.context.typed L_below made.context (clause_index c) alike_part (clause_stays f now.flexible sg c w) A d ties
                      j.goal j2.goal goal_below (high2 j2.goal goal2_below) made.goal equal) ∙ sym k.2;
                  hypotheses = instance.hypotheses_made sg has.cons (constants_of j2) (n2 + 0) L2 parts2.context.typed (high2 L2 L2_below) (clause_index c) part2 A2 d2 ties2 us meets.terms meets.nameless
                      now f s first far (constants_of j) within L parts.context.typed L_below made.context (clause_index c) alike_part (clause_stays f now.flexible sg c w) A d ties
                      j.goal j2.goal goal_below (high2 j2.goal goal2_below) made.goal equal g.constants g.untouched g.hypotheses h.hypotheses t.hypotheses a.hypotheses;
                  depth = refl;
                  constants = a.constants;
                  untouched = refl;
                  layers = a.layers;
                },
                tt,
              );
            };
            fills = fills_weaker sg (λ u. names.Has (Contains (constants_of j2)) u) (HoldsOf h.constants) held k.1;
            kept = λ e. k.2 ∙ ap (λ u. forget (with_judgements m1 u)) (instance.shape_whole sg has.cons (constants_of j2) (n2 + 0) L2 parts2.context.typed (high2 L2 L2_below) (clause_index c) part2 A2 d2 ties2 us meets.terms meets.nameless
                now f s first far (constants_of j) within L parts.context.typed L_below made.context (clause_index c) alike_part (clause_stays f now.flexible sg c w) A d ties
                j.goal j2.goal goal_below (high2 j2.goal goal2_below) made.goal equal refl) ∙ whole_made;
          }

    -- BY A PART of the formula in focus
    module _ (F F2 : Read) (focus : j.focus ≡ Some F) (focus2 : j2.focus ≡ Some F2) (p q : Part) (in_first : Contains (parts_of F) p) (in_second : Contains (parts_of F2) q) (becomes : PartMade f p q) (firm : PartIsFirm now.flexible p)
        (m : Contains (search_rules D j) (by_part p)) (us : List Read) (meets : MeetsDemand sg n2 (demanded n2 j2 (by_part q)) us) where
      F_known : IsKnown sg (IsCell now.cells) g.constants o F
      F_known = subst (FocusKnown sg (IsCell now.cells) g.constants) focus parts.focus

      F2_known : IsKnown sg (λ (y : tree.Variable ℕ). y.name < n2) (support h.conclusion) o F2
      F2_known = subst (FocusKnown sg (λ (y : tree.Variable ℕ). y.name < n2) (support h.conclusion)) focus2 parts2.focus

      abbrev pd : Demand
      pd = demand_of n plain j (by_part p)

      abbrev pd2 : Demand
      pd2 = demand_of n2 plain j2 (by_part q)

      part_low : IsPart sg (Low n) [] (part_clause p)
      part_low = part_of sg n F F_known.typed (known_below n cell_below F F_known) p in_first

      F2_below : IsBelow n2 F2
      F2_below = known_below n2 (λ y l. l) F2 F2_known

      part2_low : IsPart sg (Low n2) [] (part_clause q)
      part2_low = part_of sg n2 F2 F2_known.typed F2_below q in_second

      abbrev first2 : ℕ
      first2 = n2 + length q.names

      high_up : (u : Read) → IsBelow n2 u → IsBelow first2 u
      high_up u b = below_more n2 first2 (omega arith) u b

      part2_high : IsPart sg (Low first2) [] (part_clause q)
      part2_high = part_of sg first2 F2 F2_known.typed (high_up F2 F2_below) q in_second

      abbrev B : Read
      B = part_atom sg has.cons n j parts.context.typed L_below p part_low

      abbrev B2 : Read
      B2 = part_atom sg has.cons n2 j2 parts2.context.typed L2_below q part2_low

      abbrev part_first : ℕ
      part_first = length (now.cells ++ p.names)

      part_same : n + length p.names ≡ part_first
      part_same = sym (length-append now.cells p.names)

      part_far : n ≤ part_first
      part_far = omega (arith, part_same)

      bound : Ties (constants_of j) part_first L (part_clause p) B pd
      bound = subst (λ k. Ties (constants_of j) k L (part_clause p) B pd) part_same (part_ties sg has.cons n j parts.context.typed L_below p part_low)

      bound2 : Ties (constants_of j2) first2 L2 (part_clause q) B2 pd2
      bound2 = part_ties sg has.cons n2 j2 parts2.context.typed L2_below q part2_low

      abbrev Q : Substitution ℕ (List ℕ)
      Q = put_together (numbered first2 pd2.own) us

      part_equal : forget (image same_number Q B2) ≡ forget (image same_number Q j2.goal)
      part_equal = All-head (HoldsUnder Q) (record { place = 0; left = B2; right = j2.goal }) [] meets.equal

      abbrev part_put : Put
      part_put = instance.put sg has.cons (constants_of j2) first2 L2 parts2.context.typed (high_up L2 L2_below) (part_clause q) part2_high B2 pd2 bound2 us meets.terms meets.nameless
          now f s part_first part_far (constants_of j) within L parts.context.typed L_below made.context (part_clause p) part_low (part_becomes f now.flexible closed s.fits.none p q becomes firm) B pd bound
          j.goal j2.goal goal_below (high_up j2.goal goal2_below) made.goal part_equal

      pub goes_by_part : (K : Type 0) → (K → (i : ℕ) → i < length p.names → StaysInGoals now.flexible p i) → GoesTo K depth (image same_number Q (demanded n2 j2 (by_part q)).body)
      goes_by_part K keeps =
          let body2 = image same_number Q (demanded n2 j2 (by_part q)).body in
          let m1 = mark_above j.sign in
          let shape = instance.shape sg has.cons (constants_of j2) first2 L2 parts2.context.typed (high_up L2 L2_below) (part_clause q) part2_high B2 pd2 bound2 us meets.terms meets.nameless
          now f s part_first part_far (constants_of j) within L parts.context.typed L_below made.context (part_clause p) part_low (part_becomes f now.flexible closed s.fits.none p q becomes firm) B pd bound
          j.goal j2.goal goal_below (high_up j2.goal goal2_below) made.goal part_equal in
          let whole = instance.whole sg has.cons (constants_of j2) first2 L2 parts2.context.typed (high_up L2 L2_below) (part_clause q) part2_high B2 pd2 bound2 us meets.terms meets.nameless
          now f s part_first part_far (constants_of j) within L parts.context.typed L_below made.context (part_clause p) part_low (part_becomes f now.flexible closed s.fits.none p q becomes firm) B pd bound
          j.goal j2.goal goal_below (high_up j2.goal goal2_below) made.goal part_equal in
          let whole_made : forget (with_judgements m1 whole) ≡ forget body2 =
          marks_put m1 Q pd2.body (demanded n2 j2 (by_part q)).body whole (marks_same (demanded n2 j2 (by_part q)).body pd2.body (part_with_marks (mark_above j2.sign) n2 j2 q)) (demand_stands n2 plain j2 (by_part q))
          (image_stands (value_in same_number Q) a_formula pd2.body (demand_stands n2 plain j2 (by_part q))) (instance.whole_is sg has.cons (constants_of j2) first2 L2 parts2.context.typed (high_up L2 L2_below) (part_clause q) part2_high B2 pd2 bound2 us meets.terms meets.nameless
          now f s part_first part_far (constants_of j) within L parts.context.typed L_below made.context (part_clause p) part_low (part_becomes f now.flexible closed s.fits.none p q becomes firm) B pd bound
          j.goal j2.goal goal_below (high_up j2.goal goal2_below) made.goal part_equal) in
          let k = fills_hints sg (λ u. names.Has (Contains (constants_of j2)) u) (fills_with sg (λ u. names.Has (Contains (constants_of j2)) u) m1 (instance.fills sg has.cons (constants_of j2) first2 L2 parts2.context.typed (high_up L2 L2_below) (part_clause q) part2_high B2 pd2 bound2 us meets.terms meets.nameless
          now f s part_first part_far (constants_of j) within L parts.context.typed L_below made.context (part_clause p) part_low (part_becomes f now.flexible closed s.fits.none p q becomes firm) B pd bound
          j.goal j2.goal goal_below (high_up j2.goal goal2_below) made.goal part_equal)) body2 whole_made in
          record {
            shape = k.0;
            goes = record {
              way = by_rule D now g depth j (by_part p);
              there = in_judgement D now g (by_rule D now g depth j (by_part p)) (listed (by_part p) m);
              put = part_put;
              fits = instance.fits sg has.cons (constants_of j2) first2 L2 parts2.context.typed (high_up L2 L2_below) (part_clause q) part2_high B2 pd2 bound2 us meets.terms meets.nameless
                  now f s part_first part_far (constants_of j) within L parts.context.typed L_below made.context (part_clause p) part_low (part_becomes f now.flexible closed s.fits.none p q becomes firm) B pd bound
                  j.goal j2.goal goal_below (high_up j2.goal goal2_below) made.goal part_equal;
              same = instance.same sg has.cons (constants_of j2) first2 L2 parts2.context.typed (high_up L2 L2_below) (part_clause q) part2_high B2 pd2 bound2 us meets.terms meets.nameless
                  now f s part_first part_far (constants_of j) within L parts.context.typed L_below made.context (part_clause p) part_low (part_becomes f now.flexible closed s.fits.none p q becomes firm) B pd bound
                  j.goal j2.goal goal_below (high_up j2.goal goal2_below) made.goal part_equal;
              alike = (
                instance.atoms_alike sg has.cons (constants_of j2) first2 L2 parts2.context.typed (high_up L2 L2_below) (part_clause q) part2_high B2 pd2 bound2 us meets.terms meets.nameless
                    now f s part_first part_far (constants_of j) within L parts.context.typed L_below made.context (part_clause p) part_low (part_becomes f now.flexible closed s.fits.none p q becomes firm) B pd bound
                    j.goal j2.goal goal_below (high_up j2.goal goal2_below) made.goal part_equal,
                tt,
              );
              serve = none_serve D;
              goals = (
                record {
                  conclusion = marks_made part_put m1 pd.body shape (demanded n j (by_part p)).body (part_with_marks m1 n j p) (demand_stands n plain j (by_part p)) (instance.bodies_made sg has.cons (constants_of j2) first2 L2 parts2.context.typed (high_up L2 L2_below) (part_clause q) part2_high B2 pd2 bound2 us meets.terms meets.nameless
                      now f s part_first part_far (constants_of j) within L parts.context.typed L_below made.context (part_clause p) part_low (part_becomes f now.flexible closed s.fits.none p q becomes firm) B pd bound
                      j.goal j2.goal goal_below (high_up j2.goal goal2_below) made.goal part_equal) ∙ sym k.2;
                  hypotheses = instance.hypotheses_made sg has.cons (constants_of j2) first2 L2 parts2.context.typed (high_up L2 L2_below) (part_clause q) part2_high B2 pd2 bound2 us meets.terms meets.nameless
                      now f s part_first part_far (constants_of j) within L parts.context.typed L_below made.context (part_clause p) part_low (part_becomes f now.flexible closed s.fits.none p q becomes firm) B pd bound
                      j.goal j2.goal goal_below (high_up j2.goal goal2_below) made.goal part_equal g.constants g.untouched g.hypotheses h.hypotheses t.hypotheses a.hypotheses;
                  depth = refl;
                  constants = a.constants;
                  untouched = refl;
                  layers = a.layers;
                },
                tt,
              );
            };
            fills = fills_weaker sg (λ u. names.Has (Contains (constants_of j2)) u) (HoldsOf h.constants) held k.1;
            kept = λ e. k.2 ∙ ap (λ u. forget (with_judgements m1 u)) (instance.shape_whole sg has.cons (constants_of j2) first2 L2 parts2.context.typed (high_up L2 L2_below) (part_clause q) part2_high B2 pd2 bound2 us meets.terms meets.nameless
                now f s part_first part_far (constants_of j) within L parts.context.typed L_below made.context (part_clause p) part_low (part_becomes f now.flexible closed s.fits.none p q becomes firm) B pd bound
                j.goal j2.goal goal_below (high_up j2.goal goal2_below) made.goal part_equal (names_kept f now.flexible closed s.fits.none p q becomes firm (keeps e))) ∙ whole_made;
          }

    -- BY THE LIST
    goes_by_list : (K : Type 0) → Contains (search_rules D j) by_list → (us : List Read) → GoesTo K depth (some_item (mark_above j2.sign) L2 j2.goal)
    goes_by_list K m us = record {
      shape = some_item (mark_above j2.sign) L2 j2.goal;
      goes = record {
        way = by_rule D now g depth j by_list;
        there = in_judgement D now g (by_rule D now g depth j by_list) (listed by_list m);
        put = f;
        fits = subst (λ l. Fits sg [] l f) (sym (append-nil now.flexible)) s.fits;
        same = λ y l. refl;
        alike = tt;
        serve = none_serve D;
        goals = (
          record {
            conclusion = ap (λ k. image_by f (forget (some_item (mark_above k) L j.goal))) made.sign ∙ item_made f closed (mark_above j2.sign) L j.goal L2 j2.goal made.context made.goal;
            hypotheses = a.hypotheses;
            depth = refl;
            constants = a.constants;
            untouched = refl;
            layers = a.layers;
          },
          tt,
        );
      };
      fills = as_it_is;
      kept = λ e. refl;
    }

    -- BY WHATEVER RULE, where the formula in focus is firm
    goes_by : (K : Type 0) → ((F : Read) → j.focus ≡ Some F → (p : Part) → Contains (parts_of F) p → PartIsFirm now.flexible p × (K → (i : ℕ) → i < length p.names → StaysInGoals now.flexible p i)) → (r r2 : SpecRule) → RuleMade f j j2 r r2 → Contains (search_rules D j) r
        → Contains (search_rules D j2) r2 → (us : List Read) → MeetsDemand sg n2 (demanded n2 j2 r2) us → GoesTo K depth (ruled_to depth h n2 (demanded n2 j2 r2) us).conclusion
    goes_by K firm (by_clause c) (by_clause c2) e m m2 us meets = goes_by_clause c2 (subst (λ k. Contains (search_rules D j) (by_clause k)) e m) m2 us meets K
    goes_by K firm by_list by_list e m m2 us meets = subst (GoesTo K depth) (sym (image_nothing (some_item (mark_above j2.sign) L2 j2.goal))) (goes_by_list K m us)
    goes_by K firm (by_part p) (by_part q) e m m2 us meets = goes_by_part e.0 e.1 e.2 e.3 p q e.4 e.5 e.6 (firm e.0 e.2 p e.4).0 m us meets K (firm e.0 e.2 p e.4).1
    goes_by K firm r r2 e m m2 us meets = absurd e

  -- THE WAY BY A RULE
  pub goes_rule : (depth : ℕ) (j2 : Judgement) (r : SpecRule) (n2 : ℕ) (us : List Read) → is_blind now.flexible g.conclusion ≡ false → FocusIsFirm now g → h.depth ≡ suc depth → as_judgement h.conclusion ≡ Some j2 → unfolds j2.sign ≡ true
      → Contains (search_rules D j2) r → IsAbove n2 h.conclusion → MeetsDemand sg n2 (demanded n2 j2 r) us → GoesTo (HasExistential g.hypotheses) depth (ruled_to depth h n2 (demanded n2 j2 r) us).conclusion
  goes_rule depth j2 r n2 us sight firm deep is2 may2 m2 above meets =
      let found = judgement_lifts f sg now g.constants g.untouched g.conclusion h.conclusion j2 t.conclusion a.conclusion is2 in
      let j = found.0 in
      let is = found.1 in
      let made = found.2 in
      let may : unfolds j.sign ≡ true = ap unfolds made.sign ∙ may2 in
      let here : g.depth ≡ suc depth = sym a.depth ∙ deep in
      let known = parts depth j j2 is is2 made may here n2 above in
      let known2 = parts2 depth j j2 is is2 made may here n2 above in
      let from = rule_from f closed now.flexible s.fits.none D sg j j2 made (judgement_seen now.flexible g.conclusion j is may sight) (focus_typed sg (IsCell now.cells) g.constants j.focus known.focus) (focus_typed sg (λ (y : tree.Variable ℕ). y.name < n2) (support h.conclusion) j2.focus known2.focus) r m2 in
      goes_by depth j j2 is is2 made may here n2 above (HasExistential g.hypotheses)
      (λ F e p i.
      let both = firm j F sight (λ z. absurd (let bad : zero ≡ suc depth = sym z ∙ here in cc)) is may e in (
        All-contains (PartIsFirm now.flexible) (parts_of F) p both.0 i,
        λ k. All-contains (λ p. (i : ℕ) → i < length p.names → StaysInGoals now.flexible p i) (parts_of F) p (both.1 k) i,
      ))
      from.rule r from.comes from.listed m2 us meets
