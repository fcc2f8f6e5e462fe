-- The name under which bodies are assumed changes nothing but that name.
use Rattle.std.proofs.Common.{◌≡◌, ◌≢◌, ℕ, ◌+◌, List, [], ◌∷◌, ◌++◌, map, length, true, false, refl, ◌∙◌, ap, subst, codes}
use Rattle.std.specs.Prelude.{bytes_eq, if◌then◌else◌, All}
use Rattle.std.proofs.lemmas.Bool.{false_from_ne_true}
use Rattle.std.proofs.lemmas.List.Elements.{All-head, All-tail}
use Rattle.std.proofs.lemmas.Slice.Eq.{bytes_eq-Decides}
use Rattle.ab_term.specs.Variables.{Substitution, image}
use Rattle.ab_term.specs.Sameness.{same_number}
use Rattle.ab_term.proofs.Translations.{map-append}
use Rattle.ab_term.specs.Terms.{Read}
use Rattle.ab_unifiers.specs.Replacements.{Cell}
use Rattle.ab_unifiers.specs.Clauses.{Each}
use Rattle.ab_unifiers.specs.Alternatives.{Alternative, alternative, on_left}
use Rattle.ab_formulas.specs.Sequents.{Variable, Hypothesis, Sequent, goal_names, over, assuming}
use Rattle.ab_theory.specs.Equations.{made, Naming, Named, changed, under}
use Rattle.ab_theory.specs.Splits.{Case, CaseOver, Arises, NeverArises, IsOpen, Split, done, never, arises, IsUnsplit, here, past_never, past_goal}
use Rattle.ab_theory.specs.Atoms.{Defined, Choice, choices_of}
use Rattle.ab_theory.specs.Judgements.{Judgement}
use Rattle.ab_theory.specs.SpecRules.{SpecRule, demand_of}
use Rattle.ab_theory.specs.JudgementCases.{judgement_case}
use Rattle.ab_theory.specs.Subjects.{Subject, an_atom, a_judgement, cases_by}
use Rattle.ab_theory.specs.Analysis.{scope_of, raised_goal, case_of}
use Rattle.ab_formulas.specs.BodyMarks.{mark_below, marked_in}
use Rattle.ab_effects.specs.Likeness.{relabelled_hypothesis, relabelled}
use Rattle.ab_effects.proofs.Namings.{HaveSameNames, IsByNames}
use Rattle.ab_effects.proofs.Carrying.{names_more}
use Rattle.ab_effects.proofs.SubjectsFollowing.{each_by}

abbrev Cells : Type 0
Cells = List (Cell (List ℕ))

-- what was named in one goal is named so in another one, whose variables have the same names
named_elsewhere : (IsName : Naming) → IsByNames IsName → (s u : Sequent) (n : ℕ) (xs ys : List Variable) → HaveSameNames s u → Named IsName s n xs ys → Named IsName u n xs ys
named_elsewhere IsName by s u n [] [] same d = tt
named_elsewhere IsName by s u n [] (y ∷ ys) same d = absurd d
named_elsewhere IsName by s u n (x ∷ xs) [] same d = absurd d
named_elsewhere IsName by s u n (x ∷ xs) (y ∷ ys) same d =
    (d.0, d.1, by s u x.name y.name same d.2, named_elsewhere IsName by (over y s) (over y u) (n + 1) xs ys (names_more s u y y same refl) d.3)

module _ (x y : List ℕ) where
  abbrev R : Sequent → Sequent
  R = relabelled x y

  abbrev H : Hypothesis → Hypothesis
  H = relabelled_hypothesis x y

  changed_hypotheses : (f : Read → Read) (hs : List Hypothesis)
      → map H (map (λ (h : Hypothesis). record { name = h.name; formula = f h.formula }) hs) ≡ map (λ (h : Hypothesis). record { name = h.name; formula = f h.formula }) (map H hs)
  changed_hypotheses f [] = refl
  changed_hypotheses f (h ∷ hs) = ap (λ l. H (record { name = h.name; formula = f h.formula }) ∷ l) (changed_hypotheses f hs)

  changed_relabelled : (f : Read → Read) (xs : List Variable) (s : Sequent) → R (changed f xs s) ≡ changed f xs (R s)
  changed_relabelled f xs s =
      let hypotheses = changed_hypotheses f s.hypotheses in
      λ i. record { variables = xs; hypotheses = hypotheses i; conclusion = f s.conclusion; counter = s.counter }

  under_relabelled : (cells more : Cells) (a : Substitution ℕ (List ℕ)) (ys : List Variable) (s : Sequent) → R (under cells more a ys s) ≡ under cells more a ys (R s)
  under_relabelled cells more a ys s = changed_relabelled _ _ s

  -- the hypotheses that don't have the name stay
  stays_named : (h : Hypothesis) → h.name ≢ x → H h ≡ h
  stays_named h ne =
      let other : bytes_eq h.name x ≡ false = false_from_ne_true (bytes_eq h.name x) (λ t. ne ((bytes_eq-Decides h.name x).0 t)) in
      ap (λ b. record { name = if b then y else h.name; formula = h.formula }) other

  stay_named : (hs : List Hypothesis) → All (λ (h : Hypothesis). h.name ≢ x) hs → map H hs ≡ hs
  stay_named [] all = refl
  stay_named (h ∷ hs) all =
      ap (λ k. k ∷ map H hs) (stays_named h (All-head (λ (h : Hypothesis). h.name ≢ x) h hs all))
      ∙ ap (λ l. h ∷ l) (stay_named hs (All-tail (λ (h : Hypothesis). h.name ≢ x) h hs all))

  assuming_relabelled : (F : Read) (s : Sequent) → map H s.hypotheses ≡ s.hypotheses → R (assuming x F s) ≡ assuming y F s
  assuming_relabelled F s keeps =
      let own : bytes_eq x x ≡ true = (bytes_eq-Decides x x).1 refl in
      let one : H (record { name = x; formula = F }) ≡ record { name = y; formula = F } = ap (λ b. record { name = if b then y else x; formula = F }) own in
      let last : Hypothesis = record { name = x; formula = F } in
      let hypotheses = map-append H s.hypotheses (last ∷ []) ∙ ap (λ l. map H s.hypotheses ++ l ∷ []) one ∙ ap (λ l. l ++ record { name = y; formula = F } ∷ []) keeps in
      λ i. record { variables = s.variables; hypotheses = hypotheses i; conclusion = s.conclusion; counter = s.counter }

  -- WHOLE LISTS OF CASES: the second is the first, but for the name

  abbrev AreRelabelled : CaseOver → CaseOver → Type 0
  AreRelabelled old new = (cells : Cells) → record (old cells) { goal = R (old cells).goal } ≡ new cells

  module _ (IsName : Naming) (by : IsByNames IsName) where
    arises_relabelled : (c : Case) (after : Cells) (g : Sequent) → Arises IsName c after g → Arises IsName (record c { goal = R c.goal }) after (R g)
    arises_relabelled c after g a = record {
      more = a.more;
      answer = a.answer;
      new = a.new;
      solved = a.solved;
      named = named_elsewhere IsName by c.goal (R c.goal) (length a.more) (made c.before a.more a.answer) a.new refl a.named;
      all = a.all;
      goal = ap R a.goal ∙ under_relabelled c.before a.more a.answer a.new c.goal;
    }

    split_by : (old new : List CaseOver) → Each AreRelabelled old new → (cells : Cells) (gs : List Sequent) → Split IsName cells old gs → Split IsName cells new (map R gs)
    split_by [] [] each cells [] done = done
    split_by [] [] each cells (g ∷ gs) s = elim s [ ]
    split_by [] (d ∷ ds) each cells gs s = absurd each
    split_by (c ∷ cs) [] each cells gs s = absurd each
    split_by (c ∷ cs) (d ∷ ds) each cells gs (never n rest) = never (subst NeverArises (each.0 cells) n) (split_by cs ds each.1 cells gs rest)
    split_by (c ∷ cs) (d ∷ ds) each cells (g ∷ gs) (arises {after = after} a rest) =
        arises (subst (λ e. Arises IsName e after (R g)) (each.0 cells) (arises_relabelled (c cells) after g a)) (split_by cs ds each.1 after gs rest)

    unsplit_by : (old new : List CaseOver) → Each AreRelabelled old new → (cells : Cells) (i : ℕ) → IsUnsplit IsName cells old i → IsUnsplit IsName cells new i
    unsplit_by [] ds each cells i s = elim s [ ]
    unsplit_by (c ∷ cs) [] each cells i s = absurd each
    unsplit_by (c ∷ cs) (d ∷ ds) each cells i (here o) = here (subst (λ e. IsOpen e i) (each.0 cells) o)
    unsplit_by (c ∷ cs) (d ∷ ds) each cells i (past_never n rest) = past_never (subst NeverArises (each.0 cells) n) (unsplit_by cs ds each.1 cells i rest)
    unsplit_by (c ∷ cs) (d ∷ ds) each cells i (past_goal {after = after} {g = g} a rest) =
        past_goal (subst (λ e. Arises IsName e after (R g)) (each.0 cells) (arises_relabelled (c cells) after g a)) (unsplit_by cs ds each.1 after i rest)

  module _ (goal rest : Sequent) (new : All (λ (h : Hypothesis). h.name ≢ x) rest.hypotheses) where
    raised_keeps : (a : Alternative (List ℕ)) → map H (raised_goal a rest).hypotheses ≡ (raised_goal a rest).hypotheses
    raised_keeps a =
        changed_hypotheses (image same_number a.raised) rest.hypotheses
        ∙ ap (map (λ (h : Hypothesis). record { name = h.name; formula = image same_number a.raised h.formula })) (stay_named rest.hypotheses new)

    choice_relabelled : (d : Defined) (c : Choice) → AreRelabelled (case_of goal rest x d c) (case_of goal rest y d c)
    choice_relabelled d c cells =
        let a = alternative (codes "x") (scope_of cells goal) d.arguments c.clause c.names on_left in
        ap (λ g. record (case_of goal rest y d c cells) { goal = g }) (assuming_relabelled (marked_in d.block.predicates (mark_below d.sign) a.body) (raised_goal a rest) (raised_keeps a))

    rule_relabelled : (j : Judgement) (r : SpecRule) → AreRelabelled (judgement_case goal rest x j r) (judgement_case goal rest y j r)
    rule_relabelled j r cells =
        let d = demand_of (length cells) (mark_below j.sign) j r in
        ap (λ g. record (judgement_case goal rest y j r cells) { goal = g }) (assuming_relabelled d.body rest (stay_named rest.hypotheses new))

    cases_relabelled : (z : Subject) → Each AreRelabelled (cases_by goal rest x z) (cases_by goal rest y z)
    cases_relabelled (an_atom d) = each_by AreRelabelled (case_of goal rest x d) (case_of goal rest y d) (choices_of (goal_names goal) d) (λ c m. choice_relabelled d c)
    cases_relabelled (a_judgement j rs) = each_by AreRelabelled (judgement_case goal rest x j) (judgement_case goal rest y j) rs (λ r m. rule_relabelled j r)

    module _ (IsName : Naming) (by : IsByNames IsName) (z : Subject) where
      pub split_relabelled : (cells : Cells) (gs : List Sequent) → Split IsName cells (cases_by goal rest x z) gs → Split IsName cells (cases_by goal rest y z) (map R gs)
      split_relabelled = split_by IsName by (cases_by goal rest x z) (cases_by goal rest y z) (cases_relabelled z)

      pub unsplit_relabelled : (cells : Cells) (i : ℕ) → IsUnsplit IsName cells (cases_by goal rest x z) i → IsUnsplit IsName cells (cases_by goal rest y z) i
      unsplit_relabelled = unsplit_by IsName by (cases_by goal rest x z) (cases_by goal rest y z) (cases_relabelled z)
