-- EACH INSTANCE OF A JUDGEMENT IS MET BY A RULE of it, whatever the answer to what the rule demands.
use Rattle.std.proofs.Common.{◌≡◌, ℕ, ◌+◌, ◌<◌, ◌⊎◌, inl, inr, List, [], ◌∷◌, ◌++◌, map, length, Bool, true, false, cond, codes, bytes_eq, Option, Some, None, refl, sym, ◌∙◌, ap, subst, arith, length-append, append-nil}
use Rattle.std.specs.Prelude.{All, Contains, filter}
use Rattle.std.proofs.lemmas.Bool.{false≢true, false_from_ne_true}
use Rattle.std.proofs.lemmas.List.Elements.{All-nil, All-head, All-tail, All-contains, Contains-append_left, Contains-append_right}
use Rattle.std.proofs.lemmas.Slice.Eq.{bytes_eq-Decides}
use Rattle.ab_term.specs.Types.{prop, o, olist}
use Rattle.ab_term.specs.Terms as tree
use Rattle.ab_term.specs.Terms.{Nominal, Head, constant, nominal, Term, spine, Terms, no_terms, term, Read}
use Rattle.ab_term.specs.Typing.{Signature, HasType, TakeType}
use Rattle.ab_term.specs.Translation.{forget, forget_all, EqualPastHints}
use Rattle.ab_term.specs.Names.{support}
use Rattle.ab_term.specs.Variables.{Substitution, variables, value_in, image, image_all, IsTyped}
use Rattle.ab_term.specs.Sameness.{same_number}
use Rattle.ab_term.proofs.ClosedMaps.{IsClosedMap}
use Rattle.ab_term.proofs.Compositions.{image_typed, map_typed}
use Rattle.ab_term.proofs.Depends.{image_nothing}
use Rattle.ab_term.proofs.Images.{closed_map}
use Rattle.ab_term.proofs.Lists.{Contains-none, Contains-here, Contains-there, Contains-cases, Contains-from_map, Contains-map}
use Rattle.ab_term.proofs.Stands.{either}
use Rattle.ab_unifiers.specs.Replacements.{Cell}
use Rattle.ab_unifiers.specs.Unification.{Equation, Answer, unified, apart, stuck, Solves}
use Rattle.ab_unifiers.specs.Unifiers.{AreKnown, AreDifferent, Unifies, given}
use Rattle.ab_unifiers.specs.Clauses.{Clause, AreFor, numbered, put_together}
use Rattle.ab_unifiers.specs.Choices.{in_order}
use Rattle.ab_unifiers.specs.Alternatives.{Scope}
use Rattle.ab_unifiers.specs.InstanceCover.{IsOf, IsScope}
use Rattle.ab_unifiers.specs.Member.{HasMember}
use Rattle.ab_unifiers.specs.Prefixes.{arguments_of}
use Rattle.ab_unifiers.proofs.Choosing.{contains_kept}
use Rattle.ab_unifiers.proofs.Unifier as cases
use Rattle.ab_unifiers.proofs.Variables as over
use Rattle.ab_formulas.specs.Marks.{Sign, plain}
use Rattle.ab_formulas.specs.Programs as programs
use Rattle.ab_formulas.specs.Programs.{Program}
use Rattle.ab_formulas.specs.Sequents.{Sequent, goal_names, in_terms}
use Rattle.ab_theory.specs.Analysis.{scope_of}
use Rattle.ab_theory.specs.Judgements.{Judgement, constants_of}
use Rattle.ab_theory.specs.Opening as theory
use Rattle.ab_theory.specs.Opening.{Kind, compound, atomic, undetermined, kind_of, is_undetermined}
use Rattle.ab_theory.specs.SpecInstances.{IsInstance, IsAbove, IsAboveFocus, HoldsUnder, first_own}
use Rattle.ab_theory.specs.SpecRules.{SpecRule, by_clause, by_list, by_opening, clauses_for, is_nil, list_rules, rules_unfocused, rules_of, demand_of, some_item}
use Rattle.ab_coverage.specs.OpenedFormulas as opened
use Rattle.ab_coverage.specs.JudgementCover.{judgement_under, AnswerMeets, RuleMeets}
use Rattle.ab_coverage.proofs.IndexedGoals.{judged, open_goal}
use Rattle.ab_coverage.proofs.IndexedSpecClauses.{SpecClause, clause_image, closed_in, atom_with, body_with}
use Rattle.ab_coverage.proofs.IndexedInstances.{IsGuess, IsProgramClause, from_context}
use Rattle.ab_coverage.proofs.IndexedCovering as covering
use Rattle.ab_coverage.proofs.IndexedCovering.{IsMetBy}
use Rattle.ab_coverage.proofs.Conjoined.{judged_typed}
use Rattle.ab_coverage.proofs.Cases.{full_past_hints, variables_held}
use Rattle.ab_coverage.proofs.Covered.{program_part, program_stays, nil_stays}
use Rattle.ab_coverage.proofs.Sound.{unified_arguments}
use Rattle.ab_coverage.proofs.Unfocused as unfocused
use Rattle.ab_coverage.proofs.IndexForms.{open_same, fully_equal}
use Rattle.ab_coverage.proofs.Demands.{x, IsBelow, Ties, clause_index, clause_right, clause_part, clause_atom, clause_put, clause_ties}
use Rattle.ab_coverage.proofs.GoalKinds.{kind_stays, AtomKind, of_constant, of_nominal, atom_kind}
use Rattle.ab_coverage.proofs.Guesses as guesses
use Rattle.ab_coverage.proofs.CaseAnswers as answers
use Rattle.ab_coverage.proofs.CaseAnswers.{problem_for}
use Rattle.ab_coverage.proofs.Written.{IsThere}

-- a program without clauses
abbrev indexed_program : (sg : Signature) → SpecClause (List ℕ) → Type 0
indexed_program sg = IsProgramClause sg

Contains-split : {X : Type 0} (xs ys : List X) (a : X) → Contains (xs ++ ys) a → Contains xs a ⊎ Contains ys a
Contains-split [] ys a n = inr n
Contains-split (b ∷ xs) ys a n = either (λ e. inl (subst (Contains (b ∷ xs)) e (Contains-here b xs))) (λ m. either (λ k. inl (Contains-there b xs a k)) (λ k. inr k) (Contains-split xs ys a m)) (Contains-cases b (xs ++ ys) a n)

-- an instance by one rule
pub record ByRule (sg : Signature) (j : Judgement) (B : Read) (number : ℕ) (r : SpecRule) : Type 0 where
  pub above_context : IsAbove number j.context
  pub above_focus : IsAboveFocus number j.focus
  pub above_goal : IsAbove number j.goal
  pub terms : List Read
  pub for_variables : AreFor sg (numbered (first_own number (demand_of number plain j r)) (demand_of number plain j r).own) terms
  pub equal : All (HoldsUnder (put_together (numbered (first_own number (demand_of number plain j r)) (demand_of number plain j r).own) terms)) (demand_of number plain j r).equations
  pub body : EqualPastHints (image same_number (put_together (numbered (first_own number (demand_of number plain j r)) (demand_of number plain j r).own) terms) (demand_of number plain j r).body) B

pub by_rule : (sg : Signature) (cs : Program) (j : Judgement) (B : Read) (i : IsInstance sg cs j B) → ByRule sg j B i.number i.rule
by_rule sg cs j B i = record { above_context = i.above_context; above_focus = i.above_focus; above_goal = i.above_goal; terms = i.terms; for_variables = i.for_variables; equal = i.equal; body = i.body }

pub above_below : (n k : ℕ) (t : Read) → IsAbove n t → IsBelow (n + k) t
above_below n k t a = over.held_has (λ (y : tree.Variable ℕ). y.name < n + k) t (λ y h.
    let low = All-contains (λ (y : tree.Variable ℕ). y.name < n) (variables t) y a (over.holds_contains (variables t) y h) in omega (arith, low))

pub all_unify : (P : Substitution ℕ (List ℕ)) (es : List (Equation (List ℕ))) → All (HoldsUnder P) es → Unifies P es
all_unify P [] all = tt
all_unify P (e ∷ es) all = (All-head (HoldsUnder P) e es all, all_unify P es (All-tail (HoldsUnder P) e es all))

module _ (sg : Signature) (has : HasMember sg) (s t : Sequent) (name : List ℕ) (different : AreDifferent (map in_terms s.variables)) (q : Substitution ℕ (List ℕ)) (q_typed : IsTyped sg q)
    (q_clean : All (λ p. All (λ a. ¬ (Contains (support p.1) a)) (goal_names s)) q) where
  abbrev pub V : List (tree.Variable ℕ)
  V = map in_terms s.variables

  abbrev pub sequent_at : List (Cell (List ℕ)) → List (Cell (List ℕ)) → Scope (List ℕ)
  sequent_at cells passing = record { cells = cells ++ passing; variables = V; constants = goal_names s }

  pub scope_at : (cells passing : List (Cell (List ℕ))) → AreKnown cells V → IsScope (sequent_at cells passing)
  scope_at cells passing known = record { different = different; numbered = λ y h. let low = known y h in let long = length-append cells passing in omega (arith, low, long) }

  pub of_goal : (cells passing : List (Cell (List ℕ))) (u : Read) → IsThere sg s u → IsOf sg (sequent_at cells passing) u prop
  of_goal cells passing u there = record { typed = there.typed; over_variables = there.over_variables; constants_held = there.constants_held }

  -- what is met by the alternative is met by the rule
  pub rule_met : (like other : Read → Read → Type 0) (B C : Read) → ((u : Read) → other u C → like u B) → (cells passing own : List (Cell (List ℕ))) (es : List (Equation (List ℕ))) (b : Read)
      → IsMetBy other sg x (sequent_at cells passing) (problem_for (sequent_at cells passing) own (numbered (length (cells ++ passing)) own) es b) q C
      → (a : Answer (List ℕ)) → Solves x (given es ((cells ++ passing) ++ own) (V ++ numbered (length (cells ++ passing)) own)) a → AnswerMeets like sg (scope_of cells s) b a q B
  rule_met like other B C f cells passing own es b m apart sol = m apart sol
  rule_met like other B C f cells passing own es b m (stuck i) sol = tt
  rule_met like other B C f cells passing own es b m (unified more r) sol =
      let k = m (unified more r) sol in (
        k.0,
        k.1,
        f (image same_number k.0 (image same_number r b)) k.2,
        λ F A is. ap (λ u. forget (image same_number k.0 (image same_number r u))) (sym (image_nothing F)) ∙ k.3 F A (record { typed = is.typed; over_variables = is.over_variables; constants_held = is.constants_held }),
      )

  q_closed : IsClosedMap (value_in same_number q)
  q_closed = closed_map sg ℕ (List ℕ) (value_in same_number q) (map_typed sg same_number q q_typed)

  -- NOTHING IN FOCUS
  module _ (m : Sign) (L : Read) where
    abbrev pub plainly : Read → Judgement
    plainly G = record { sign = m; context = L; focus = None; goal = G }

    abbrev L2 : Read
    L2 = image same_number q L

    -- the clause and the goal's head are one constant
    module _ (c : Clause (List ℕ)) (w : programs.IsProgramClause sg c) (p : List ℕ) (ts : Terms ℕ (List ℕ)) (of_it : c.predicate ≡ p) (there : IsThere sg s (judged L (spine (constant p) ts))) (B : Read) where
      abbrev G : Read
      G = spine (constant p) ts

      abbrev G2 : Read
      G2 = image same_number q G

      abbrev j : Judgement
      j = plainly G

      abbrev j2 : Judgement
      j2 = judgement_under q j

      abbrev k : SpecClause (List ℕ)
      k = clause_index c

      abbrev blank : Scope (List ℕ)
      blank = sequent_at [] []

      typed_parts : HasType sg [] L olist × HasType sg [] G o
      typed_parts = judged_typed sg L G there.typed

      L2_typed : HasType sg [] L2 olist
      L2_typed = image_typed sg same_number q q_typed typed_parts.0

      G2_typed : HasType sg [] G2 o
      G2_typed = image_typed sg same_number q q_typed typed_parts.1

      -- what the instance guesses
      record Guessed : Type 0 where
        pub values : List (Option Read)
        pub guess : IsGuess sg (closed_in k) k.binders values
        pub atom : EqualPastHints (atom_with k values) G2
        pub body : EqualPastHints (body_with L2 k values) B

      guessed : (n : ℕ) → ByRule sg j2 B n (by_clause c) → Guessed
      guessed n i =
          let d = demand_of n plain j2 (by_clause c) in
          let same : n + 0 ≡ n = omega arith in
          let all = subst (λ f. AreFor sg (numbered f d.own) i.terms × All (HoldsUnder (put_together (numbered f d.own) i.terms)) d.equations × EqualPastHints (image same_number (put_together (numbered f d.own) i.terms) d.body) B) same (i.for_variables, i.equal, i.body) in
          let L2_below : IsBelow n L2 = subst (λ f. IsBelow f L2) same (above_below n 0 L2 i.above_context) in
          let G2_below : IsBelow n G2 = subst (λ f. IsBelow f G2) same (above_below n 0 G2 i.above_goal) in
          let part = clause_part sg n k (clause_right sg c w) in
          let A = image same_number (clause_put sg has.cons n j2 L2_typed L2_below c w) (clause_atom sg has.cons n j2 L2_typed L2_below c w) in
          let ties = clause_ties sg has.cons n j2 L2_typed L2_below c w in
          let P = put_together (numbered n d.own) i.terms in
          let A_typed : HasType sg [] A o = guesses.A_typed sg has.cons (constants_of j2) n L2 L2_typed L2_below k part A d ties i.terms all.0 in
          let G2_spine : HasType sg [] (spine (constant p) (image_all same_number q ts)) o = G2_typed in
          let A_spine : HasType sg [] (spine (constant c.predicate) (arguments_of A)) o = A_typed in
          let one = cases.arguments_of sg x G2_spine in
          let two = cases.arguments_of sg x A_spine in
          let types : Some one.0 ≡ Some two.0 = sym one.1 ∙ ap sg (sym of_it) ∙ two.1 in
          let type : two.0 ≡ one.0 = cc in
          let arguments = unified_arguments sg x P 0 (codes "o") (codes "o") (image_all same_number q ts) (arguments_of A) one.2 (subst (λ D. TakeType sg [] (arguments_of A) D o) type two.2) (all_unify P d.equations all.1) in
          let heads : EqualPastHints (image same_number P G2) (image same_number P A) = ap (spine (constant p)) arguments ∙ ap (λ b. spine (constant b) (forget_all (image_all same_number P (arguments_of A)))) (sym of_it) in
          record {
            values = guesses.vs sg has.cons (constants_of j2) n L2 L2_typed L2_below k part A d ties i.terms all.0;
            guess = guesses.guess sg has.cons (constants_of j2) n L2 L2_typed L2_below k part A d ties i.terms all.0;
            atom = guesses.atom_guessed sg has.cons (constants_of j2) n L2 L2_typed L2_below k part A d ties i.terms all.0 ∙ sym heads
                ∙ ap forget (guesses.low_stays sg has.cons (constants_of j2) n L2 L2_typed L2_below k part A d ties i.terms all.0 G2 G2_below);
            body = guesses.body_guessed sg has.cons (constants_of j2) n L2 L2_typed L2_below k part A d ties i.terms all.0 ∙ all.2;
          }

      -- the rule by the clause meets it
      pub clause_met : (number : ℕ) → ByRule sg j2 B number (by_clause c) → RuleMeets opened.FullyEqual sg s t name q B j (by_clause c)
      clause_met number i cells known =
          let v = guessed number i in
          let sequent = sequent_at cells [] in
          let scope = scope_at cells [] known in
          let is = of_goal cells [] (judged L G) there in
          let n = length cells in
          let d = demand_of n plain j (by_clause c) in
          let S = in_order (support (judged L G)) in
          let L_over = unfocused.L_over sg has x x sequent scope q q_typed q_clean [] (All-nil (indexed_program sg)) L G is in
          let G_over = unfocused.G_over sg has x x sequent scope q q_typed q_clean [] (All-nil (indexed_program sg)) L G is in
          let held = unfocused.held sg has x x sequent scope q q_typed q_clean [] (All-nil (indexed_program sg)) L G is in
          let none = unfocused.brings_none sg has x x sequent scope q q_typed q_clean S held in
          let L_below : IsBelow n L = over.held_has (λ (y : tree.Variable ℕ). y.name < n) L (λ y h. known y (variables_held S V L L_over y h)) in
          let A = image same_number (clause_put sg has.cons n j typed_parts.0 L_below c w) (clause_atom sg has.cons n j typed_parts.0 L_below c w) in
          let long : n ≡ length (cells ++ []) = ap length (sym (append-nil cells)) in
          let constants : constants_of j ≡ S = ap (λ l. in_order (support L ++ l)) (sym (append-nil (support G))) in
          let ties : Ties S (length sequent.cells) L k A d = subst (λ T. Ties T (length sequent.cells) L k A d) constants (subst (λ f. Ties (constants_of j) f L k A d) long (clause_ties sg has.cons n j typed_parts.0 L_below c w)) in
          let part = program_part sg S V k (clause_right sg c w) in
          let stays = program_stays sg q k (clause_right sg c w) in
          let right = answers.arguments_are_right sg has.cons sequent scope S q q_typed none L typed_parts.0 L_over k part v.values v.guess A d.body ties.atom ties.body p ts (arguments_of A)
          (ap (λ b. spine (constant b) (arguments_of A)) of_it) typed_parts.1 G_over (ap (λ z. forget (atom_with z v.values)) stays ∙ v.atom) in
          let met = answers.answered sg has.cons sequent scope S q q_typed none L typed_parts.0 L_over k part v.values v.guess A d.body ties.atom ties.body d.equations right in
          let own_met = subst (λ l. IsMetBy covering.FullyEqual sg x sequent (problem_for sequent l (numbered (length sequent.cells) l) d.equations d.body) q (body_with L2 (clause_image q k) v.values)) (sym ties.own) met in
          rule_met opened.FullyEqual covering.FullyEqual B (body_with L2 (clause_image q k) v.values)
          (λ u e. fully_equal u B (e ∙ full_past_hints (body_with L2 (clause_image q k) v.values) B (ap (λ z. forget (body_with L2 z v.values)) stays ∙ v.body)))
          cells [] d.own d.equations d.body own_met

    -- without equations
    module _ (G : Read) (there : IsThere sg s (judged L G)) (B : Read) where
      pub opening_met : (number : ℕ) → ByRule sg (judgement_under q (plainly G)) B number by_opening → RuleMeets opened.FullyEqual sg s t name q B (plainly G) by_opening
      opening_met number i cells known =
          let sequent = sequent_at cells [] in
          let e : EqualPastHints (open_goal L2 (image same_number q G)) B = ap forget (sym (open_same L2 (image same_number q G)) ∙ sym (image_nothing (theory.open_goal plain L2 (image same_number q G)))) ∙ i.body in
          let met = unfocused.opened_met sg has x x sequent (scope_at cells [] known) q q_typed q_clean [] (All-nil (indexed_program sg)) L G (of_goal cells [] (judged L G) there) B e in
          rule_met opened.FullyEqual covering.FullyEqual B B (λ u f. fully_equal u B f) cells [] [] [] (theory.open_goal plain L G)
          (subst (λ b. IsMetBy covering.FullyEqual sg x sequent (problem_for sequent [] [] [] b) q B) (sym (open_same L G)) met)

      pub list_met : (number : ℕ) → ByRule sg (judgement_under q (plainly G)) B number by_list → RuleMeets opened.FullyEqual sg s t name q B (plainly G) by_list
      list_met number i cells known =
          let sequent = sequent_at cells [] in
          let e : EqualPastHints (from_context (codes "F") L2 (image same_number q G)) B = ap forget (sym (image_nothing (some_item plain L2 (image same_number q G)))) ∙ i.body in
          let met = unfocused.context_met sg has x (codes "F") sequent (scope_at cells [] known) q q_typed q_clean [] (All-nil (indexed_program sg)) L G (of_goal cells [] (judged L G) there) B e in
          rule_met opened.FullyEqual covering.FullyEqual B B (λ u f. fully_equal u B f) cells [] [] [] (some_item plain L G) met

    -- THE RULES
    module _ (cs : Program) (well : All (programs.IsProgramClause sg) cs) where
      abbrev Met : Read → List SpecRule → Read → Type 0
      Met G rs B = (r : SpecRule) × Contains rs r × RuleMeets opened.FullyEqual sg s t name q B (plainly G) r

      in_listed : (L : Read) (r : SpecRule) → Contains (list_rules L) r → (is_nil L ≡ false) × (r ≡ by_list)
      in_listed L r n = go (is_nil L) refl n
        where
          go : (b : Bool) → is_nil L ≡ b → Contains (cond b [] (by_list ∷ [])) r → (is_nil L ≡ false) × (r ≡ by_list)
          go true e n = absurd (Contains-none r n)
          go false e n = (e, either (λ same. sym same) (λ k. absurd (Contains-none r k)) (Contains-cases by_list [] r n))

      listed_in : (L : Read) → is_nil L ≡ false → Contains (list_rules L) by_list
      listed_in L e = subst (λ b. Contains (cond b [] (by_list ∷ [])) by_list) (sym e) (Contains-here by_list [])

      by_list_met : (G : Read) → IsThere sg s (judged L G) → (B : Read) (fore : List SpecRule) → is_nil L2 ≡ false → (number : ℕ) → ByRule sg (judgement_under q (plainly G)) B number by_list → Met G (fore ++ list_rules L) B
      by_list_met G there B fore not_nil number i =
          let was : is_nil L ≡ false = false_from_ne_true (is_nil L) (λ e. false≢true (sym not_nil ∙ nil_stays (value_in same_number q) L e)) in
          (by_list, Contains-append_right fore (list_rules L) by_list (listed_in L was), list_met G there B number i)

      pub atom_rule_met : (G : Read) → AtomKind G → IsThere sg s (judged L G) → (B : Read) (r : SpecRule) → Contains (map by_clause (clauses_for (image same_number q G) cs) ++ list_rules L2) r → (number : ℕ) → ByRule sg (judgement_under q (plainly G)) B number r
          → Met G (map by_clause (clauses_for G cs) ++ list_rules L) B
      atom_rule_met G (of_nominal a ts) there B r n number i =
          let k = in_listed L2 r n in by_list_met (spine (nominal a) ts) there B [] k.0 number (subst (ByRule sg (judgement_under q (plainly (spine (nominal a) ts))) B number) k.1 i)
      atom_rule_met G (of_constant p ts) there B r n number i = either by_one by_the_list (Contains-split (map by_clause (filter (λ c. bytes_eq c.predicate p) cs)) (list_rules L2) r n)
        where
          j2 : Judgement
          j2 = judgement_under q (plainly (spine (constant p) ts))

          by_one : Contains (map by_clause (filter (λ c. bytes_eq c.predicate p) cs)) r → Met (spine (constant p) ts) (map by_clause (filter (λ c. bytes_eq c.predicate p) cs) ++ list_rules L) B
          by_one n =
              let c = Contains-from_map by_clause (filter (λ c. bytes_eq c.predicate p) cs) r n in
              let kept = contains_kept (λ c. bytes_eq c.predicate p) cs c.0 c.1 in (
                by_clause c.0,
                Contains-append_left (map by_clause (filter (λ c. bytes_eq c.predicate p) cs)) (list_rules L) (by_clause c.0) (Contains-map by_clause (filter (λ c. bytes_eq c.predicate p) cs) c.0 c.1),
                clause_met c.0 (All-contains (programs.IsProgramClause sg) cs c.0 well kept.0) p ts ((bytes_eq-Decides c.0.predicate p).0 kept.1) there B number (subst (ByRule sg j2 B number) (sym c.2) i),
              )

          by_the_list : Contains (list_rules L2) r → Met (spine (constant p) ts) (map by_clause (filter (λ c. bytes_eq c.predicate p) cs) ++ list_rules L) B
          by_the_list n = let k = in_listed L2 r n in by_list_met (spine (constant p) ts) there B (map by_clause (filter (λ c. bytes_eq c.predicate p) cs)) k.0 number (subst (ByRule sg j2 B number) k.1 i)

      -- BY WHAT THE GOAL IS
      by_kind : (G : Read) → IsThere sg s (judged L G) → (B : Read) (kind kind2 : Kind) → kind_of G ≡ kind → kind_of (image same_number q G) ≡ kind2 → (rs rs2 : List SpecRule)
          → rules_unfocused cs L G kind ≡ Some rs → rules_unfocused cs L2 (image same_number q G) kind2 ≡ Some rs2 → (r : SpecRule) → Contains rs2 r → (number : ℕ) → ByRule sg (judgement_under q (plainly G)) B number r → Met G rs B
      by_kind G there B undetermined kind2 e e2 rs rs2 k k2 r n number i = absurd (let bad : None ≡ Some rs = k in cc)
      by_kind G there B compound kind2 e e2 rs rs2 k k2 r n number i =
          let here : Some (by_opening ∷ []) ≡ Some rs = k in
          let same : kind2 ≡ compound = sym e2 ∙ kind_stays (value_in same_number q) G (ap is_undetermined e) ∙ e in
          let rules : Some rs2 ≡ Some (by_opening ∷ []) = sym k2 ∙ ap (rules_unfocused cs L2 (image same_number q G)) same in
          let list : rs2 ≡ by_opening ∷ [] = cc in
          let one : by_opening ∷ [] ≡ rs = cc in
          let is : r ≡ by_opening = either (λ p. sym p) (λ m. absurd (Contains-none r m)) (Contains-cases by_opening [] r (subst (λ l. Contains l r) list n)) in
          (by_opening, subst (λ l. Contains l by_opening) one (Contains-here by_opening []), opening_met G there B number (subst (ByRule sg (judgement_under q (plainly G)) B number) is i))
      by_kind G there B atomic kind2 e e2 rs rs2 k k2 r n number i =
          let here : Some (map by_clause (clauses_for G cs) ++ list_rules L) ≡ Some rs = k in
          let same : kind2 ≡ atomic = sym e2 ∙ kind_stays (value_in same_number q) G (ap is_undetermined e) ∙ e in
          let rules : Some rs2 ≡ Some (map by_clause (clauses_for (image same_number q G) cs) ++ list_rules L2) = sym k2 ∙ ap (rules_unfocused cs L2 (image same_number q G)) same in
          let list : rs2 ≡ map by_clause (clauses_for (image same_number q G) cs) ++ list_rules L2 = cc in
          let one : map by_clause (clauses_for G cs) ++ list_rules L ≡ rs = cc in
          subst (λ l. Met G l B) one (atom_rule_met G (atom_kind G e) there B r (subst (λ l. Contains l r) list n) number i)

      pub unfocused_met : (G : Read) → IsThere sg s (judged L G) → (rs : List SpecRule) → rules_of cs (plainly G) ≡ Some rs → (B : Read) → IsInstance sg cs (judgement_under q (plainly G)) B → Met G rs B
      unfocused_met G there rs e B i = by_kind G there B (kind_of G) (kind_of (image same_number q G)) refl refl rs i.rules e i.known i.rule i.one i.number (by_rule sg cs (judgement_under q (plainly G)) B i)
