-- EACH INSTANCE OF A FOCUSED JUDGEMENT IS MET BY A PART of the formula in focus, whatever the answer to what the part demands. Names that
-- the instance's body closes and the part's doesn't are taken off.
use Rattle.std.proofs.Common.{◌≡◌, ℕ, ◌+◌, ◌<◌, List, [], ◌∷◌, ◌++◌, map, length, Bool, true, false, cond, Option, Some, None, refl, sym, ◌∙◌, ap, subst, arith, length-append, append-nil}
use Rattle.std.specs.List.{list_any}
use Rattle.std.specs.Prelude.{All, Contains}
use Rattle.std.proofs.lemmas.Bool.{or_parts}
use Rattle.std.proofs.lemmas.List.Elements.{All-nil, All-cons, All-head, All-tail, All-contains}
use Rattle.ab_term.specs.Types.{prop, o, olist}
use Rattle.ab_term.specs.Terms as tree
use Rattle.ab_term.specs.Terms.{Nominal, Head, constant, logical, nominal, variable, index, lam, spine, Terms, no_terms, term, Read}
use Rattle.ab_term.specs.Typing.{Signature, HasType}
use Rattle.ab_term.specs.Translation.{forget, EqualPastHints}
use Rattle.ab_term.specs.Names.{support}
use Rattle.ab_term.specs.Variables.{Substitution, value_in, image, IsTyped}
use Rattle.ab_term.specs.Sameness.{same_number}
use Rattle.ab_term.proofs.ClosedMaps.{IsClosedMap}
use Rattle.ab_term.proofs.Compositions.{image_typed, map_typed}
use Rattle.ab_term.proofs.Images.{closed_map}
use Rattle.ab_term.proofs.Lists.{Contains-from_map, Contains-map}
use Rattle.ab_term.proofs.Standing.{HeadHas, Has, AllHave}
use Rattle.ab_unifiers.specs.Replacements.{Cell}
use Rattle.ab_unifiers.specs.Unification.{Answer, Solves}
use Rattle.ab_unifiers.specs.Unifiers.{AreKnown, AreDifferent}
use Rattle.ab_unifiers.specs.Clauses.{numbered, put_together}
use Rattle.ab_unifiers.specs.Choices.{in_order}
use Rattle.ab_unifiers.specs.Alternatives.{Scope}
use Rattle.ab_unifiers.specs.InstanceCover.{IsOf, IsScope}
use Rattle.ab_unifiers.specs.Member.{HasMember}
use Rattle.ab_unifiers.proofs.Variables as over
use Rattle.ab_formulas.specs.Marks.{Sign, plain}
use Rattle.ab_formulas.specs.Programs.{Program}
use Rattle.ab_formulas.specs.Sequents.{Sequent, goal_names, in_terms}
use Rattle.ab_theory.specs.Analysis.{scope_of}
use Rattle.ab_theory.specs.JudgementCases.{judgement_case}
use Rattle.ab_theory.specs.Splits.{problem_of}
use Rattle.ab_theory.specs.Judgements.{Judgement, constants_of}
use Rattle.ab_theory.specs.Opening.{Kind, compound, atomic, undetermined, kind_of, is_undetermined}
use Rattle.ab_theory.specs.Parts.{Part, parts_of}
use Rattle.ab_theory.specs.SpecInstances.{IsInstance, IsAbove, HoldsUnder}
use Rattle.ab_theory.specs.SpecRules.{SpecRule, by_part, rules_in_focus, rules_of, demand_of}
use Rattle.ab_coverage.specs.OpenedFormulas as opened
use Rattle.ab_coverage.specs.TakenNames.{closes, part_under, IsTaken, taken_off}
use Rattle.ab_coverage.specs.JudgementCover.{judgement_under, AnswerMeets, RuleMeets}
use Rattle.ab_coverage.proofs.IndexedGoals as indexed
use Rattle.ab_coverage.proofs.IndexedGoals.{goal_form, focused}
use Rattle.ab_coverage.proofs.IndexedSpecClauses.{SpecClause, taken_apart, clause_image, closed_in, body_with}
use Rattle.ab_coverage.proofs.IndexedInstances.{IsGuess, IsRigid, ClauseGives}
use Rattle.ab_coverage.proofs.IndexedCovering as covering
use Rattle.ab_coverage.proofs.IndexedCovering.{IsMetBy}
use Rattle.ab_coverage.proofs.Conjoined.{focused_typed}
use Rattle.ab_coverage.proofs.Parts.{IsPart, parts_right, apart-image}
use Rattle.ab_coverage.proofs.Cases.{Over, variables_held}
use Rattle.ab_coverage.proofs.Focused as focus
use Rattle.ab_coverage.proofs.IndexForms.{nearly_equal}
use Rattle.ab_coverage.proofs.Demands.{x, IsBelow, Low, Ties, part_clause, parts_same, part_ties, part_bits, part_atom}
use Rattle.ab_coverage.proofs.GoalKinds.{atoms_simple, simple_atom}
use Rattle.ab_coverage.proofs.Guesses as guesses
use Rattle.ab_coverage.proofs.CaseAnswers as answers
use Rattle.ab_coverage.proofs.CaseAnswers.{problem_for}
use Rattle.ab_coverage.proofs.RuleCover as rules
use Rattle.ab_coverage.proofs.RuleCover.{ByRule, by_rule, above_below}
use Rattle.ab_coverage.proofs.Written.{IsThere}

abbrev as_part : SpecClause (List ℕ) → Part
as_part c = record { names = c.binders; goals = c.goals; atom = c.atom }

head_anything : (h : Head ℕ) → HeadHas (λ h. Unit {0}) h
head_anything (constant c) = tt
head_anything (logical l) = tt
head_anything (nominal a) = tt
head_anything (variable y) = tt
head_anything (index i) = tt

mutual
  has_anything : (u : Read) → Has (λ h. Unit {0}) u
  has_anything (lam A x u) = has_anything u
  has_anything (spine h us) = (head_anything h, all_anything us)

  all_anything : (us : Terms ℕ (List ℕ)) → AllHave (λ h. Unit {0}) us
  all_anything no_terms = tt
  all_anything (term u us) = (has_anything u, all_anything us)

module _ (sg : Signature) (has : HasMember sg) (s t : Sequent) (name : List ℕ) (different : AreDifferent (map in_terms s.variables)) (q : Substitution ℕ (List ℕ)) (q_typed : IsTyped sg q)
    (q_clean : All (λ p. All (λ a. ¬ (Contains (support p.1) a)) (goal_names s)) q) (m : Sign) (L F A : Read) (there : IsThere sg s (focused L F A)) (B : Read) where
  abbrev V : List (tree.Variable ℕ)
  V = map in_terms s.variables

  abbrev pub j : Judgement
  j = record { sign = m; context = L; focus = Some F; goal = A }

  abbrev pub j2 : Judgement
  j2 = judgement_under q j

  abbrev L2 : Read
  L2 = image same_number q L

  abbrev F2 : Read
  F2 = image same_number q F

  abbrev A2 : Read
  A2 = image same_number q A

  types : HasType sg [] L olist × HasType sg [] F o × HasType sg [] A o
  types = focused_typed sg L F A there.typed

  L2_typed : HasType sg [] L2 olist
  L2_typed = image_typed sg same_number q q_typed types.0

  F2_typed : HasType sg [] F2 o
  F2_typed = image_typed sg same_number q q_typed types.1

  q_closed : IsClosedMap (value_in same_number q)
  q_closed = closed_map sg ℕ (List ℕ) (value_in same_number q) (map_typed sg same_number q q_typed)

  low : (n : ℕ) (u : Read) → IsAbove n u → IsBelow n u
  low n u a = subst (λ f. IsBelow f u) (let e : n + 0 ≡ n = omega arith in e) (above_below n 0 u a)

  -- what the instance guesses
  record Guessed (p : Part) : Type 0 where
    pub values : List (Option Read)
    pub gives : ClauseGives sg L2 (part_clause p) values A2 B

  part_of : (n : ℕ) (K : Read) → HasType sg [] K o → IsBelow n K → (p : Part) → Contains (parts_of K) p → IsPart sg (Low n) [] (part_clause p)
  part_of n K d b p i = All-contains (IsPart sg (Low n) []) (taken_apart K) (part_clause p) (parts_right sg (Low n) [] K d b) (subst (λ l. Contains l (part_clause p)) (sym (parts_same K)) (Contains-map part_clause (parts_of K) p i))

  guessed : (n : ℕ) (p : Part) → Contains (parts_of F2) p → ByRule sg j2 B n (by_part p) → Guessed p
  guessed n p there2 i =
      let first = n + length p.names in
      let d = demand_of n plain j2 (by_part p) in
      let part = part_of n F2 F2_typed (low n F2 i.above_focus) p there2 in
      let high = part_of first F2 F2_typed (above_below n (length p.names) F2 i.above_focus) p there2 in
      let L2_below : IsBelow n L2 = low n L2 i.above_context in
      let L2_high : IsBelow first L2 = above_below n (length p.names) L2 i.above_context in
      let A2_high : IsBelow first A2 = above_below n (length p.names) A2 i.above_goal in
      let ties = part_ties sg has.cons n j2 L2_typed L2_below p part in
      let K = part_atom sg has.cons n j2 L2_typed L2_below p part in
      let P = put_together (numbered first d.own) i.terms in
      let one : EqualPastHints (image same_number P K) (image same_number P A2) = All-head (HoldsUnder P) (record { place = 0; left = K; right = A2 }) [] i.equal in
      record {
        values = guesses.vs sg has.cons (constants_of j2) first L2 L2_typed L2_high (part_clause p) high K d ties i.terms i.for_variables;
        gives = record {
          guess = guesses.guess sg has.cons (constants_of j2) first L2 L2_typed L2_high (part_clause p) high K d ties i.terms i.for_variables;
          atom = guesses.atom_guessed sg has.cons (constants_of j2) first L2 L2_typed L2_high (part_clause p) high K d ties i.terms i.for_variables ∙ one
              ∙ ap forget (guesses.low_stays sg has.cons (constants_of j2) first L2 L2_typed L2_high (part_clause p) high K d ties i.terms i.for_variables A2 A2_high);
          body = guesses.body_guessed sg has.cons (constants_of j2) first L2 L2_typed L2_high (part_clause p) high K d ties i.terms i.for_variables ∙ i.body;
        };
      }

  -- THE PART MEETS IT
  module _ (p : Part) (in_focus : Contains (parts_of F) p) (in_instance : Contains (parts_of F2) (part_under q p)) (number : ℕ) (i : ByRule sg j2 B number (by_part (part_under q p))) where
    abbrev c : SpecClause (List ℕ)
    c = part_clause p

    in_taken : Contains (taken_apart F) c
    in_taken = subst (λ l. Contains l c) (sym (parts_same F)) (Contains-map part_clause (parts_of F) p in_focus)

    after_bits : closes number (part_under q p) ≡ closed_in (clause_image q c)
    after_bits = part_bits sg has.cons number j2 L2_typed (low number L2 i.above_context) (part_under q p) (part_of number F2 F2_typed (low number F2 i.above_focus) (part_under q p) in_instance)

    v : Guessed (part_under q p)
    v = guessed number (part_under q p) in_instance i

    module _ (cells : List (Cell (List ℕ))) (known : AreKnown cells V) where
      abbrev sequent : Scope (List ℕ)
      sequent = rules.sequent_at sg has s t name different q q_typed q_clean cells p.names

      abbrev scope : IsScope sequent
      scope = rules.scope_at sg has s t name different q q_typed q_clean cells p.names known

      abbrev is : IsOf sg sequent (focused L F A) prop
      is = rules.of_goal sg has s t name different q q_typed q_clean cells p.names (focused L F A) there

      abbrev n : ℕ
      n = length cells

      abbrev S : List Nominal
      S = in_order (support (focused L F A))

      low_here : (u : Read) → Has (Over S V) u → IsBelow n u
      low_here u h = over.held_has (λ (y : tree.Variable ℕ). y.name < n) u (λ y k. known y (variables_held S V u h y k))

      abbrev L_below : IsBelow n L
      L_below = low_here L (focus.L_over sg has x x sequent scope q q_typed q_clean L F A is)

      abbrev low_part : IsPart sg (Low n) [] c
      low_part = part_of n F types.1 (low_here F (focus.F_over sg has x x sequent scope q q_typed q_clean L F A is)) p in_focus

      pub before_bits : closes n p ≡ closed_in c
      before_bits = part_bits sg has.cons n j types.0 L_below p low_part

      abbrev K : Read
      K = part_atom sg has.cons n j types.0 L_below p low_part

      ties : Ties S (length sequent.cells) L c K (demand_of n plain j (by_part p))
      ties =
          subst (λ T. Ties T (length sequent.cells) L c K (demand_of n plain j (by_part p))) (ap (λ l. in_order (support L ++ (support F ++ l))) (sym (append-nil (support A))))
          (subst (λ f. Ties (constants_of j) f L c K (demand_of n plain j (by_part p))) (sym (length-append cells p.names)) (part_ties sg has.cons n j types.0 L_below p low_part))

      module _ (ks : List (Option Read)) (taking : IsTaken sg (closed_in c) (closed_in (clause_image q c)) p.names ks) where
        abbrev av : List (Option Read)
        av = focus.av sg has x x sequent scope q q_typed q_clean L F A is c in_taken v.values B v.gives ks taking

        abbrev guess : IsGuess sg (closed_in c) p.names av
        guess = focus.av_guess sg has x x sequent scope q q_typed q_clean L F A is c in_taken v.values B v.gives ks taking

        pub met_by_part : (a : Answer (List ℕ)) → Solves x (problem_of (judgement_case s t name j (by_part p) cells)) a
            → AnswerMeets (λ u w. opened.NearlyEqual u (taken_off (closed_in (clause_image q c)) ks w)) sg (scope_of cells s) (demand_of n plain j (by_part p)).body a q B
        met_by_part =
            let d = demand_of n plain j (by_part p) in
            let none = focus.none sg has x x sequent scope q q_typed q_clean L F A is in
            let L_over = focus.L_over sg has x x sequent scope q q_typed q_clean L F A is in
            let part = focus.part sg has x x sequent scope q q_typed q_clean L F A is c in_taken in
            let right = answers.pair_right sg has.cons sequent scope S q q_typed none L types.0 L_over c part av guess K d.body ties.atom ties.body A types.2 (focus.A_over sg has x x sequent scope q q_typed q_clean L F A is)
            (focus.atoms_same sg has x x sequent scope q q_typed q_clean L F A is c in_taken v.values B v.gives ks taking) in
            let met = answers.answered sg has.cons sequent scope S q q_typed none L types.0 L_over c part av guess K d.body ties.atom ties.body d.equations right in
            let own_met = subst (λ l. IsMetBy covering.FullyEqual sg x sequent (problem_for sequent l (numbered (length sequent.cells) l) d.equations d.body) q (body_with L2 (clause_image q c) av)) (sym ties.own) met in
            rules.rule_met sg has s t name different q q_typed q_clean (λ u w. opened.NearlyEqual u (taken_off (closed_in (clause_image q c)) ks w)) covering.FullyEqual B (body_with L2 (clause_image q c) av)
            (λ u e. nearly_equal u (taken_off (closed_in (clause_image q c)) ks B) (focus.nearly_equal sg has x x sequent scope q q_typed q_clean L F A is c in_taken v.values B v.gives ks taking u e))
            cells p.names d.own d.equations d.body own_met

  -- THE PART BY WHICH THE INSTANCE COMES
  pub record Found (cells : List (Cell (List ℕ))) (rs : List SpecRule) (r : SpecRule) (number : ℕ) : Type 0 where
    pub part : Part
    pub among : Contains (parts_of F) part
    pub listed : Contains rs (by_part part)
    pub comes : r ≡ by_part (part_under q part)
    pub met : (ks : List (Option Read)) → IsTaken sg (closes (length cells) part) (closes number (part_under q part)) part.names ks
        → RuleMeets (λ u w. opened.NearlyEqual u (taken_off (closes number (part_under q part)) ks w)) sg s t name q B j (by_part part)

  -- where the rules are known each atom is one
  rigid : list_any (λ (p : Part). is_undetermined (kind_of p.atom)) (parts_of F) ≡ false → IsRigid sg F
  rigid e = go (taken_apart F) (parts_of F) (parts_same F) (atoms_simple sg F types.1) (parts_right sg (λ h. Unit {0}) [] F types.1 (anything F)) e
    where
      anything : (u : Read) → Has (λ h. Unit {0}) u
      anything u = has_anything u

      go : (cs : List (SpecClause (List ℕ))) (ps : List Part) → cs ≡ map part_clause ps → All (λ c. goal_form c.atom ≡ indexed.compound → ⊥) cs → All (IsPart sg (λ h. Unit {0}) []) cs
          → list_any (λ (p : Part). is_undetermined (kind_of p.atom)) ps ≡ false → All (λ c. goal_form c.atom ≡ indexed.atomic) cs
      go [] ps same simple right e = All-nil (λ c. goal_form c.atom ≡ indexed.atomic)
      go (c ∷ cs) [] same simple right e = absurd (cc)
      go (c ∷ cs) (p ∷ ps) same simple right e =
          let one : part_clause p ≡ c = cc in
          let rest : cs ≡ map part_clause ps = cc in
          let parts = or_parts (is_undetermined (kind_of p.atom)) (list_any (λ (p : Part). is_undetermined (kind_of p.atom)) ps) e in
          All-cons (λ c. goal_form c.atom ≡ indexed.atomic) c cs
          (simple_atom sg c.atom (All-head (IsPart sg (λ h. Unit {0}) []) c cs right).atom (All-head (λ c. goal_form c.atom ≡ indexed.compound → ⊥) c cs simple) (subst (λ (k : SpecClause (List ℕ)). is_undetermined (kind_of k.atom) ≡ false) one parts.0))
          (go cs ps rest (All-tail (λ c. goal_form c.atom ≡ indexed.compound → ⊥) c cs simple) (All-tail (IsPart sg (λ h. Unit {0}) []) c cs right) parts.1)

  abbrev Taken : List SpecRule → Type 0
  Taken rs = (list_any (λ (p : Part). is_undetermined (kind_of p.atom)) (parts_of F) ≡ false) × (rs ≡ map by_part (parts_of F))

  known_rules : (K : Read) (kind : Kind) (rs : List SpecRule) → rules_in_focus (parts_of K) kind ≡ Some rs → (list_any (λ (p : Part). is_undetermined (kind_of p.atom)) (parts_of K) ≡ false) × (rs ≡ map by_part (parts_of K))
  known_rules K undetermined rs e = absurd (let bad : None ≡ Some rs = e in cc)
  known_rules K compound rs e = go (list_any (λ (p : Part). is_undetermined (kind_of p.atom)) (parts_of K)) e
    where
      go : (b : Bool) → cond b None (Some (map by_part (parts_of K))) ≡ Some rs → (b ≡ false) × (rs ≡ map by_part (parts_of K))
      go true e = absurd (let bad : None ≡ Some rs = e in cc)
      go false e = (refl, (let whole : Some (map by_part (parts_of K)) ≡ Some rs = e in let same : map by_part (parts_of K) ≡ rs = cc in sym same))
  known_rules K atomic rs e = go (list_any (λ (p : Part). is_undetermined (kind_of p.atom)) (parts_of K)) e
    where
      go : (b : Bool) → cond b None (Some (map by_part (parts_of K))) ≡ Some rs → (b ≡ false) × (rs ≡ map by_part (parts_of K))
      go true e = absurd (let bad : None ≡ Some rs = e in cc)
      go false e = (refl, (let whole : Some (map by_part (parts_of K)) ≡ Some rs = e in let same : map by_part (parts_of K) ≡ rs = cc in sym same))

  pub focused_met : (cs : Program) (rs : List SpecRule) → rules_of cs j ≡ Some rs → (i : IsInstance sg cs j2 B) → (cells : List (Cell (List ℕ))) → AreKnown cells V → Found cells rs i.rule i.number
  focused_met cs rs e i cells known =
      let here = known_rules F (kind_of A) rs e in
      let after = known_rules F2 (kind_of A2) i.rules i.known in
      let p2 = Contains-from_map by_part (parts_of F2) i.rule (subst (λ l. Contains l i.rule) after.1 i.one) in
      let c2_in : Contains (taken_apart F2) (part_clause p2.0) = subst (λ l. Contains l (part_clause p2.0)) (sym (parts_same F2)) (Contains-map part_clause (parts_of F2) p2.0 p2.1) in
      let apart = apart-image (value_in same_number q) q_closed sg F (rigid here.0) in
      let c = Contains-from_map (clause_image q) (taken_apart F) (part_clause p2.0) (subst (λ l. Contains l (part_clause p2.0)) apart c2_in) in
      let p = Contains-from_map part_clause (parts_of F) c.0 (subst (λ l. Contains l c.0) (parts_same F) c.1) in
      let same : part_under q p.0 ≡ p2.0 = ap as_part (ap (clause_image q) p.2 ∙ c.2) in
      let comes : i.rule ≡ by_part (part_under q p.0) = sym p2.2 ∙ ap by_part (sym same) in
      let there2 : Contains (parts_of F2) (part_under q p.0) = subst (Contains (parts_of F2)) (sym same) p2.1 in
      let its : ByRule sg j2 B i.number (by_part (part_under q p.0)) = subst (ByRule sg j2 B i.number) comes (by_rule sg cs j2 B i) in
      record {
        part = p.0;
        among = p.1;
        listed = subst (λ l. Contains l (by_part p.0)) (sym here.1) (Contains-map by_part (parts_of F) p.0 p.1);
        comes = comes;
        met = λ ks taking others known2. subst (λ (bits : List Bool). (a : Answer (List ℕ)) → Solves x (problem_of (judgement_case s t name j (by_part p.0) others)) a
            → AnswerMeets (λ u w. opened.NearlyEqual u (taken_off bits ks w)) sg (scope_of others s) (demand_of (length others) plain j (by_part p.0)).body a q B)
            (sym (after_bits p.0 p.1 there2 i.number its))
            (met_by_part p.0 p.1 there2 i.number its others known2 ks
            (subst (λ (ds : List Bool). IsTaken sg ds (closed_in (clause_image q (part_clause p.0))) p.0.names ks) (before_bits p.0 p.1 there2 i.number its cells known)
            (subst (λ (es : List Bool). IsTaken sg (closes (length cells) p.0) es p.0.names ks) (after_bits p.0 p.1 there2 i.number its) taking)));
      }
