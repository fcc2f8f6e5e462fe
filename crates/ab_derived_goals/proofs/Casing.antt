-- WHAT `case` LEADS TO IS DERIVED: the hypothesis is put last under a name that nobody sees, taken apart there, and what comes of it is opened.
use Rattle.std.specs.Option.{IsSome}
use Rattle.std.specs.Prelude.{All, Contains, if◌then◌else◌, slice_get}
use Rattle.std.proofs.Common.{◌≡◌, ◌≢◌, ◌⊎◌, inl, inr, ℕ, Bool, true, false, List, [], ◌∷◌, ◌++◌, map, Option, Some, None, refl, sym, ◌∙◌, ap, subst}
use Rattle.std.proofs.lemmas.List.{same_from_push}
use Rattle.std.proofs.lemmas.List.Kept.{AllPairs-cons}
use Rattle.std.proofs.lemmas.List.Elements.{All-nil, All-cons, All-head, All-tail}
use Rattle.ab_term.specs.Types.{Ty}
use Rattle.ab_term.specs.Terms.{Read}
use Rattle.ab_term.proofs.Lists.{AllPairs-none, Contains-none, Contains-here, Contains-there, Contains-cases}
use Rattle.ab_unifiers.specs.Clauses.{Each}
use Rattle.ab_formulas.specs.BodyMarks.{MayBeAnalysed}
use Rattle.ab_formulas.specs.Declarations.{Declarations}
use Rattle.ab_formulas.specs.Forms as form
use Rattle.ab_formulas.specs.Forms.{Form, form_of, either_in, falsity_in, equal_in}
use Rattle.ab_formulas.specs.Members.{SameMembers}
use Rattle.ab_formulas.specs.NamedGoals.{named}
use Rattle.ab_formulas.specs.NewNames.{Label, given, Names, IsNoVariable, IsNamedFor}
use Rattle.ab_formulas.specs.Sequents.{Variable, Hypothesis, Sequent, IsSequent, IsUsed, formula_of, formulas, formulas_of, goal_names, assuming, without}
use Rattle.ab_theory.specs.Equations.{AreCells, AreApart, Becomes}
use Rattle.ab_theory.specs.Rules.{Rule}
use Rattle.ab_theory.specs.Splits.{cell_for, Split}
use Rattle.ab_theory.specs.Steps.{or_left, false_left, equal_left, definition_left}
use Rattle.ab_theory.specs.Subjects.{Subject, subject_of, sign_of, cases_by}
use Rattle.ab_theory.proofs.Naming.{named_new}
use Rattle.ab_theory.proofs.Sequents.{found_there, formula_names, names_within, goal_of, found_may, assuming_goal, without_goal, sequent_from}
use Rattle.ab_theory.proofs.SplitEquations.{split_more, arises_more}
use Rattle.ab_theory.proofs.Carried.{one_equation, becomes_arises, arises_becomes}
use Rattle.ab_search_proofs.proofs.Places.{some_cells}
use Rattle.ab_search_trees.proofs.MovedForms.{T}
use Rattle.ab_effects.specs.CaseAnalysis.{IsParted, AllOpened}
use Rattle.ab_effects.specs.Openings.{Opened}
use Rattle.ab_effects.specs.ProofCommands.{cases, opening}
use Rattle.ab_effects.specs.Row.{leads, Leads}
use Rattle.ab_effects.specs.Solutions.{IsSolved}
use Rattle.ab_consequences.proofs.Allowed.{found_last}
use Rattle.ab_consequences.proofs.Leading.{removed}
use Rattle.ab_derived_goals.specs.Derived.{AreSound, IsDerived, IsDerivedAlike}
use Rattle.ab_derived_goals.proofs.Hypotheses.{copied, renamed}
use Rattle.ab_derived_goals.proofs.Itself.{as_it_is, as_it_is_apart, goal_itself, terms_themselves}
use Rattle.ab_derived_goals.proofs.Named.{none_used, named_others, without_last}
use Rattle.ab_derived_goals.proofs.Opening.{opened, spoken_there, waits_there, spoken_here}
use Rattle.ab_derived_goals.proofs.Parting.{AreRenamed, split_there}
use Rattle.ab_derived_goals.proofs.Reaching.{Reaches, reached}
use Rattle.ab_derived_goals.proofs.Trees.{AreDerived, no_goals, and_these, all_left, stepped, closes, premises}
use Rattle.ab_derived_goals.proofs.Waiting.{IsHidden, Waits, hidden_name, waiting_or_left, cleared_within}

-- one goal whose last hypothesis is that in two ways
last_is_one : (x y : List ℕ) (F G : Read) (s t : Sequent) → assuming x F s ≡ assuming y G t → (F ≡ G) × (s ≡ t)
last_is_one x y F G s t e =
    let variables = ap (λ (k : Sequent). k.variables) e in
    let conclusion = ap (λ (k : Sequent). k.conclusion) e in
    let counter = ap (λ (k : Sequent). k.counter) e in
    let both = same_from_push s.hypotheses t.hypotheses (record { name = x; formula = F }) (record { name = y; formula = G }) (ap (λ (k : Sequent). k.hypotheses) e) in
    let hypotheses = both.0 in
    (ap (λ (h : Hypothesis). h.formula) both.1, λ i. record { variables = variables i; hypotheses = hypotheses i; conclusion = conclusion i; counter = counter i })

-- one formula waits, which stands last
pub waits_last : (l : Label) (z : List ℕ) (F : Read) (s : Sequent) → formula_of s z ≡ None → IsHidden l z → Waits l (assuming z F s) (z ∷ []) s (F ∷ [])
waits_last l z F s none hidden = record {
  rest = without_last s z F none;
  has = (found_last s.hypotheses z F none, tt);
  differ = AllPairs-cons (λ (x y : List ℕ). x ≢ y) z [] (All-nil (λ (y : List ℕ). z ≢ y)) (AllPairs-none (λ (x y : List ℕ). x ≢ y));
  hidden = All-cons (IsHidden l) z [] hidden (All-nil (IsHidden l));
}

module _ (D : Declarations) (sound : AreSound D) where
  -- it is opened
  pub opened_last : (l m : Label) (z : List ℕ) (F : Read) (s u : Sequent) → formula_of s z ≡ None → IsHidden l z → IsSequent D (assuming z F s) → Opened D (F ∷ []) l s m u → Reaches D (assuming z F s) u
  opened_last l m z F s u none hidden is o =
      opened D sound o as_it_is as_it_is_apart (assuming z F s) (z ∷ []) is
      (subst (λ t. Waits l (assuming z F s) (z ∷ []) t (map (T as_it_is) (F ∷ []))) (sym (goal_itself s))
      (subst (Waits l (assuming z F s) (z ∷ []) s) (sym (terms_themselves (F ∷ []))) (waits_last l z F s none hidden)))

  all_opened : {l : Label} {gs us : List Sequent} → AllOpened D l gs us → (x z : List ℕ) (hs : List Sequent) → Each (AreRenamed x z) gs hs → All (IsSequent D) hs → IsHidden l z
      → (qs : List Sequent) × AreDerived D hs qs [] × (map named qs ≡ map named us)
  all_opened AllOpened.none x z [] each are hidden = ([], no_goals D, refl)
  all_opened AllOpened.none x z (h ∷ hs) each are hidden = absurd each
  all_opened (AllOpened.one name o rest) x z [] each are hidden = absurd each
  all_opened {l = l} (AllOpened.one name {F = F} {m = m} {s = s} {u = u} {gs = gs} {us = us} o rest) x z (h ∷ hs) each are hidden =
      let r = each.0 in
      let one = last_is_one name x F r.body s r.rest r.first in
      let none : formula_of s z ≡ None = ap (λ t. formula_of t z) one.1 ∙ r.new in
      let same : h ≡ assuming z F s = r.second ∙ sym (ap (λ E. assuming z E r.rest) one.0) ∙ sym (ap (assuming z F) one.1) in
      let is = subst (IsSequent D) same (All-head (IsSequent D) h hs are) in
      let first = reached D (assuming z F s) u (opened_last l m z F s u none hidden is o) in
      let others = all_opened rest x z hs each.1 (All-tail (IsSequent D) h hs are) hidden in (
        first.0 ∷ others.0,
        and_these D h hs (first.0 ∷ []) others.0 [] [] (subst (λ t. IsDerived D t (first.0 ∷ []) []) (sym same) first.1) others.1,
        ap (λ g. g ∷ map named others.0) first.2 ∙ ap (λ gs. named u ∷ gs) others.2,
      )

  -- A HYPOTHESIS OF THE GOAL, which stays or doesn't
  module _ (s : Sequent) (is : IsSequent D s) (H : List ℕ) (F : Read) (has : formula_of s H ≡ Some F) (keep : Bool) (l : Label) where
    abbrev rest : Sequent
    rest = if keep then s else without H s

    abbrev z : List ℕ
    z = (hidden_name l s).0

    z_new : ¬ IsUsed s z
    z_new = (hidden_name l s).1.new

    z_hidden : IsHidden l z
    z_hidden = (hidden_name l s).1.hidden

    abbrev begun : Sequent
    begun = assuming z F rest

    unused_before : formula_of s z ≡ None
    unused_before = none_used (formula_of s z) z_new

    unused : formula_of rest z ≡ None
    unused = go keep
      where
        go : (b : Bool) → formula_of (if b then s else without H s) z ≡ None
        go true = unused_before
        go false = elsewhere
          where
            elsewhere : formula_of (without H s) z ≡ None
            elsewhere = named_others s.hypotheses H z (λ e. z_new (subst (IsUsed s) e (subst (λ (o : Option Read). IsSome o) (sym has) refl))) ∙ unused_before

    begun_is : IsSequent D begun
    begun_is =
        let g = goal_of D s is in
        let may = found_may D (goal_names s) s H F g has in
        let none : ¬ IsUsed rest z = λ used. let clash : false ≡ true = subst (λ (o : Option Read). IsSome o) unused used in cc in
        go keep none
      where
        go : (b : Bool) → ¬ IsUsed (if b then s else without H s) z → IsSequent D (assuming z F (if b then s else without H s))
        go true none = sequent_from D (goal_names s) (assuming z F s) is.one_type (assuming_goal D (goal_names s) s z F (goal_of D s is) none (found_may D (goal_names s) s H F (goal_of D s is) has))
        go false none =
            sequent_from D (goal_names s) (assuming z F (without H s)) is.one_type
            (assuming_goal D (goal_names s) (without H s) z F (without_goal D (goal_names s) s H (goal_of D s is)) none (found_may D (goal_names s) s H F (goal_of D s is) has))

    -- the goal is derived from it
    begin : (ps : List Sequent) → IsDerived D begun ps [] → IsDerived D s ps []
    begin ps d = go keep d
      where
        go : (b : Bool) → IsDerived D (assuming z F (if b then s else without H s)) ps [] → IsDerived D s ps []
        go true k = copied D sound s H z F ps [] is has z_new (λ it. k)
        go false k = renamed D sound s H z F ps [] is has z_new (λ it. k)

    waits : Waits l begun (z ∷ []) rest (F ∷ [])
    waits = waits_last l z F rest unused z_hidden

    -- it holds what the goal holds
    formulas_stay : (b : Bool) (E : Read) → Contains (formulas_of s) E → Contains (formulas_of (if b then s else without H s)) E ⊎ Contains (F ∷ []) E
    formulas_stay true E c = inl c
    formulas_stay false E c = elim (Contains-cases s.conclusion (formulas s.hypotheses) E c) [
      | inl e ↦ inl (subst (Contains (formulas_of (without H s))) e (Contains-here s.conclusion (formulas (without H s).hypotheses)))
      | inr d ↦ elim (waiting_or_left (H ∷ []) (F ∷ []) s E is.labels_differ (AllPairs-cons (λ (x y : List ℕ). x ≢ y) H [] (All-nil (λ (y : List ℕ). H ≢ y)) (AllPairs-none (λ (x y : List ℕ). x ≢ y))) (has, tt) d) [
        | inl k ↦ inr k
        | inr k ↦ inl (Contains-there s.conclusion (formulas (without H s).hypotheses) E k)
      ]
    ]

    formulas_were : (b : Bool) (E : Read) → Contains (formulas_of (if b then s else without H s)) E → Contains (formulas_of s) E
    formulas_were true E c = c
    formulas_were false E c = elim (Contains-cases s.conclusion (formulas (without H s).hypotheses) E c) [
      | inl e ↦ subst (Contains (formulas_of s)) e (Contains-here s.conclusion (formulas s.hypotheses))
      | inr d ↦ Contains-there s.conclusion (formulas s.hypotheses) E (cleared_within (H ∷ []) s E d)
    ]

    own_formula : (E : Read) → Contains (F ∷ []) E → Contains (formulas_of s) E
    own_formula E c = elim (Contains-cases F [] E c) [
      | inl e ↦ subst (Contains (formulas_of s)) e (Contains-there s.conclusion (formulas s.hypotheses) F (found_there s.hypotheses H F has))
      | inr d ↦ absurd (Contains-none E d)
    ]

    same_constants : SameMembers (goal_names s) (goal_names begun)
    same_constants a = (
      λ c.
          names_within (goal_names begun) (formulas_of s)
          (λ E there b d.
          formula_names (formulas_of begun) E b
          (elim (formulas_stay keep E there) [
            | inl k ↦ spoken_there D l begun (z ∷ []) rest (F ∷ []) begun_is waits E k
            | inr k ↦ waits_there D l begun (z ∷ []) rest (F ∷ []) begun_is waits E k
          ]) d) a c,
      λ c.
          names_within (goal_names s) (formulas_of begun)
          (λ E there b d.
          formula_names (formulas_of s) E b
          (elim (spoken_here D l begun (z ∷ []) rest (F ∷ []) begun_is waits E there) [ inl k ↦ formulas_were keep E k | inr k ↦ own_formula E k ]) d) a c,
    )

    variables_of_rest : rest.variables ≡ s.variables
    variables_of_rest = go keep
      where
        go : (b : Bool) → (if b then s else without H s).variables ≡ s.variables
        go true = refl
        go false = refl

    found : formula_of begun z ≡ Some F
    found = found_last rest.hypotheses z F unused

    gone : without z begun ≡ rest
    gone = without_last rest z F unused

    -- ONE FORMULA IS OPENED
    by_opening : (ps : List Sequent) → Leads (opening D F l rest (λ t. leads (t ∷ []))) ps → IsDerivedAlike D s ps []
    by_opening ps (p, o, e) =
        let r = reached D begun p.1 (opened_last l p.0 z F rest p.1 unused z_hidden begun_is o) in
        (r.0 ∷ [], begin (r.0 ∷ []) r.1, ap (λ g. g ∷ []) r.2 ∙ sym (ap (map named) e))

    -- A DISJUNCTION

    abbrev IsLeft : Sequent → Sequent → Type 0
    IsLeft k p = (v : Sequent) × IsDerived D k (v ∷ []) [] × (named v ≡ named p)

    -- each of two goals leaves one
    two_left : (k j p q : Sequent) → Rule D (or_left z (given z)) begun (k ∷ j ∷ []) → IsLeft k p → IsLeft j q → IsDerivedAlike D s (p ∷ q ∷ []) []
    two_left k j p q rule (v, d, same) (w, e, also) = (
      v ∷ w ∷ [],
      begin (v ∷ w ∷ [])
          (stepped D (or_left z (given z)) begun (k ∷ j ∷ []) (v ∷ w ∷ []) [] rule (and_these D k (j ∷ []) (v ∷ []) (w ∷ []) [] [] d (and_these D j [] (w ∷ []) [] [] [] e (no_goals D)))),
      ap (λ g. g ∷ named w ∷ []) same ∙ ap (λ g. named p ∷ g ∷ []) also,
    )

    by_either : (A B : Read) (ps : List Sequent) → form_of F ≡ form.either A B → Leads (opening D A l rest (λ t. opening D B l rest (λ u. leads (t ∷ u ∷ [])))) ps → IsDerivedAlike D s ps []
    by_either A B ps e (p, o, (q, n, are)) =
        let at = some_cells begun begun_is.numbers_differ in
        let first = assuming z A rest in
        let second = assuming z B rest in
        let new : ¬ IsUsed rest z = λ used. let clash : false ≡ true = subst (λ (o : Option Read). IsSome o) unused used in cc in
        let rule : Rule D (or_left z (given z)) begun (first ∷ second ∷ []) =
        (at.0, at.1, (F, found, ((A, B), ap either_in e, (z, rest, subst (λ k. Names (given z) k z rest) (sym gone) (new, refl, refl), refl)))) in
        let both = premises D sound (or_left z (given z)) begun (first ∷ second ∷ []) begun_is rule in
        subst (λ qs. IsDerivedAlike D s qs []) (sym are)
        (two_left first second p.1 q.1 rule
        (reached D first p.1 (opened_last l p.0 z A rest p.1 unused z_hidden (All-head (IsSequent D) first (second ∷ []) both) o))
        (reached D second q.1 (opened_last l q.0 z B rest q.1 unused z_hidden (All-head (IsSequent D) second [] (All-tail (IsSequent D) first (second ∷ []) both)) n)))

    by_falsity : (ps : List Sequent) → form_of F ≡ form.falsity → ps ≡ [] → IsDerivedAlike D s ps []
    by_falsity ps e none =
        let at = some_cells begun begun_is.numbers_differ in
        ([], begin [] (closes D sound (false_left z) begun refl (at.0, at.1, (F, found, (tt, ap falsity_in e, refl)))), sym (ap (map named) none))

    -- AN EQUATION IS SOLVED
    by_equation : (A : Ty) (t u : Read) (ps : List Sequent) → form_of F ≡ form.equal A t u → IsSolved D rest t u ps → IsDerivedAlike D s ps []
    by_equation A t u ps e (cells, are, solved) =
        let rule : Rule D (equal_left z) begun ps = (cells, are, (F, found, ((t, u), ap equal_in e, subst (λ k. ((g : Sequent) × Becomes (λ k hint name. IsNoVariable k name) cells k t u g × (ps ≡ g ∷ [])) ⊎ (AreApart cells k t u × (ps ≡ []))) (sym gone) (outcome solved)))) in
        (ps, begin ps (stepped D (equal_left z) begun ps ps [] rule (all_left D ps)), refl)
      where
        outcome : ((g : Sequent) × Becomes (IsNamedFor D) cells rest t u g × (ps ≡ g ∷ [])) ⊎ (AreApart cells rest t u × (ps ≡ []))
            → ((g : Sequent) × Becomes (λ k hint name. IsNoVariable k name) cells rest t u g × (ps ≡ g ∷ [])) ⊎ (AreApart cells rest t u × (ps ≡ []))
        outcome (inl (g, b, e)) =
            inl (
              g,
              arises_becomes (λ k hint name. IsNoVariable k name) cells rest g t u (b.0 ++ map cell_for b.3.0)
                  (arises_more (IsNamedFor D) (λ k hint name. IsNoVariable k name) (named_new D) (one_equation cells rest t u) (b.0 ++ map cell_for b.3.0) g (becomes_arises (IsNamedFor D) cells rest g t u b)),
              e,
            )
        outcome (inr a) = inr a

    -- A DEFINED ATOM OR A JUDGEMENT
    by_subject : (x : Subject) (gs ps : List Sequent) → subject_of D F ≡ Some x → MayBeAnalysed (sign_of x) → IsParted D s rest x gs → AllOpened D l gs ps → IsDerivedAlike D s ps []
    by_subject x gs ps is_subject may (cells, are, name, split) o =
        let there = split_there s begun rest name z (sym variables_of_rest) unused D same_constants x cells gs split in
        let free = split_more (IsNamedFor D) (λ k hint y. IsNoVariable k y) (named_new D) cells (cases_by begun rest z x) there.0 there.1 in
        let new : ¬ IsUsed (without z begun) z = λ used. let clash : false ≡ true = subst (λ (o : Option Read). IsSome o) (removed begun.hypotheses z) used in cc in
        let cells_are : AreCells cells begun = subst (λ (xs : List Variable). All (λ (y : Variable). slice_get cells y.number ≡ Some (record { hint = y.name; type = y.type })) xs) (sym variables_of_rest) are in
        let rule : Rule D (definition_left z (given z)) begun there.0 =
        (cells, cells_are, (F, found, (x, is_subject, (may, (z, without z begun, (new, refl, refl), subst (λ k. Split (λ t hint y. IsNoVariable t y) cells (cases_by begun k z x) there.0) (sym gone) free))))) in
        let opened_so = all_opened o name z there.0 there.2 (premises D sound (definition_left z (given z)) begun there.0 begun_is rule) z_hidden in
        (opened_so.0, begin opened_so.0 (stepped D (definition_left z (given z)) begun there.0 opened_so.0 [] rule opened_so.1), opened_so.2)

    -- BY THE FORM of the hypothesis
    pub cased : (g : Form) (ps : List Sequent) → form_of F ≡ g → Leads (cases D g F l s rest) ps → IsDerivedAlike D s ps []
    cased form.truth ps e h = by_opening ps h
    cased (form.both A B) ps e h = by_opening ps h
    cased (form.exists A t) ps e h = by_opening ps h
    cased (form.nabla A t) ps e h = by_opening ps h
    cased (form.either A B) ps e h = by_either A B ps e h
    cased form.falsity ps e h = by_falsity ps e h
    cased (form.implies A B) ps e h = let no = h.0 in absurd (cc)
    cased (form.equal A t u) ps e (gs, solved, are) = subst (λ l. IsDerivedAlike D s l []) (sym are) (by_equation A t u gs e solved)
    cased (form.for_all A t) ps e h = let no = h.0 in absurd (cc)
    cased (form.marked m t) ps e (x, is_subject, (u, may, (gs, parted, (us, o, are)))) = subst (λ l. IsDerivedAlike D s l []) (sym are) (by_subject x gs us is_subject may parted o)
    cased form.other ps e (x, is_subject, (u, may, (gs, parted, (us, o, are)))) = subst (λ l. IsDerivedAlike D s l []) (sym are) (by_subject x gs us is_subject may parted o)
