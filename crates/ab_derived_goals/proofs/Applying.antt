-- WHAT A USE OF A FORMULA LEADS TO IS DERIVED: the formula is a hypothesis, or a theorem that is taken; what is awaited is left to be shown;
-- and the result is opened beside terms that are given.
use Rattle.std.specs.Option.{IsSome}
use Rattle.std.specs.Prelude.{All, Contains, is_some}
use Rattle.std.proofs.Common.{◌≡◌, ◌≢◌, inl, inr, ℕ, List, [], ◌∷◌, ◌++◌, map, false, true, Option, Some, None, refl, sym, ◌∙◌, ap, subst}
use Rattle.std.proofs.lemmas.List.{map-append}
use Rattle.std.proofs.lemmas.List.Elements.{All-nil, All-cons, Contains-append_left, Contains-append_right, Contains-append_cases}
use Rattle.ab_term.specs.Terms.{Nominal, Read}
use Rattle.ab_term.specs.Names.{HasOneTypeEach}
use Rattle.ab_term.specs.Variables.{variables}
use Rattle.ab_term.proofs.Lists.{Contains-none, Contains-here, Contains-there, Contains-cases, All-from_contains}
use Rattle.ab_unifiers.proofs.Changes.{agreeing}
use Rattle.ab_formulas.specs.Declarations.{Declarations, signature_in, theorem_in}
use Rattle.ab_formulas.specs.NamedGoals.{named}
use Rattle.ab_formulas.specs.NewNames.{Label, auto, given, Names}
use Rattle.ab_formulas.specs.Sequents.{Hypothesis, Sequent, IsSequent, IsUsed, Fits, in_terms, formula_of, formulas, formulas_of, goal_names, proving, assuming, without}
use Rattle.ab_theory.specs.Pieces.{Piece, Given}
use Rattle.ab_theory.specs.Steps.{use_theorem}
use Rattle.ab_theory.specs.UseAnswers.{Using, IsUsedFor, awaited, result_in}
use Rattle.ab_theory.proofs.RulesParts.{MayStand}
use Rattle.ab_theory.proofs.Sequents.{IsGoal, goal_of, found_may, names_more, assuming_goal, proving_goal, sequent_from}
use Rattle.ab_search_proofs.proofs.Places.{some_cells}
use Rattle.ab_search_trees.proofs.MovedForms.{T}
use Rattle.ab_effects.specs.Debts.{taken_unless}
use Rattle.ab_effects.specs.FormulaUses.{formula_or, formula_named, using, given_that, OpenedBeside}
use Rattle.ab_effects.specs.Openings.{Opened}
use Rattle.ab_effects.specs.ProofCommands.{is_used, cleared}
use Rattle.ab_effects.proofs.Renumbered.{moved_goal, named_moved}
use Rattle.ab_consequences.specs.UsesFollow.{MayUse, spoken_of}
use Rattle.ab_consequences.specs.UseRows.{AreFitting, constants_given}
use Rattle.ab_consequences.proofs.Allowed.{found_last}
use Rattle.ab_consequences.proofs.Leading.{formula_fits, found_before}
use Rattle.ab_derived_goals.specs.Derived.{AreSound, IsDerived, IsDerivedAlike}
use Rattle.ab_derived_goals.specs.GivenTerms.{AreApart}
use Rattle.ab_derived_goals.proofs.Asking.{GivenBy, given_still, used}
use Rattle.ab_derived_goals.proofs.Casing.{opened_last}
use Rattle.ab_derived_goals.proofs.Givens.{all_put, given_moved, that_moved, that_may, stripped, unwound}
use Rattle.ab_derived_goals.proofs.Hypotheses.{cut_in, all_dropped}
use Rattle.ab_derived_goals.proofs.Named.{none_used, used_some, without_last}
use Rattle.ab_derived_goals.proofs.Reaching.{Reaches}
use Rattle.ab_derived_goals.proofs.Remaining.{what_is_left_stands}
use Rattle.ab_derived_goals.proofs.Trees.{left, goes_on}
use Rattle.ab_derived_goals.proofs.Waiting.{IsHidden, hidden_name, cleared_assuming}

cleared_proving : (xs : List (List ℕ)) (A : Read) (w : Sequent) → cleared xs (proving A w) ≡ proving A (cleared xs w)
cleared_proving [] A w = refl
cleared_proving (x ∷ xs) A w = cleared_proving xs A (without x w)

-- opening keeps the conclusion
opened_conclusion : {D : Declarations} {Fs : List Read} {l m : Label} {s v : Sequent} → Opened D Fs l s m v → v.conclusion ≡ s.conclusion
opened_conclusion Opened.none = refl
opened_conclusion (Opened.nothing e d) = opened_conclusion d
opened_conclusion (Opened.parts e d) = opened_conclusion d
opened_conclusion (Opened.variable e k d) = opened_conclusion d ∙ ap (λ (t : Sequent). t.conclusion) k.goal
opened_conclusion (Opened.constant e l d) = opened_conclusion d
opened_conclusion (Opened.hypothesis {l = l} {s = s} x v w n d) = opened_conclusion d ∙ labelled_conclusion l s x v n
  where
    labelled_conclusion : (l : Label) (s : Sequent) (x : List ℕ) (v : Sequent) → Names l s x v → v.conclusion ≡ s.conclusion
    labelled_conclusion auto s x v n = ap (λ (t : Sequent). t.conclusion) n.3
    labelled_conclusion (given y) s x v n = ap (λ (t : Sequent). t.conclusion) n.2

-- THE RESULT IS OPENED, beside terms that are given
module _ (D : Declarations) (sound : AreSound D) (N : List Nominal) (one : HasOneTypeEach N) (s : Sequent) (z : List ℕ) (R : Read) (g : IsGoal D N (assuming z R s)) (none : formula_of s z ≡ None) where
  pub beside : (gs : List Given) (l : Label) (t : Sequent) → All (λ (g : Given). Fits D s g.value g.type) gs → ((a : Nominal) → Contains (constants_given gs) a → Contains N a) → IsHidden l z → OpenedBeside D gs R l s t
      → IsDerivedAlike D (assuming z R s) (t ∷ []) []
  beside gs l t fits within hidden (m, v, o, e) =
      let w = assuming z R s in
      let C = s.conclusion in
      let E = given_that gs C in
      let may : MayStand (signature_in D) s.variables N E = that_may D s N gs C fits within g.conclusion in
      let start = proving E w in
      let r : Reaches D start v = opened_last D sound l m z R (proving E s) v none hidden (sequent_from D N start one (proving_goal D N w E g may)) o in
      let u = moved_goal r.by v in
      let goal = proving (T r.by C) u in
      let others = map (given_moved r.by) gs in
      let same : proving (given_that others (T r.by C)) u ≡ r.goal =
      ap (λ F. proving F u) (sym (that_moved r.by gs C) ∙ ap (T r.by) (sym (opened_conclusion o))) ∙ sym r.is in
      let y = hidden_name auto w in (
        goal ∷ [],
        cut_in D sound w E y.0 (goal ∷ []) [] [] [] (sequent_from D N w one g) (formula_fits D N one w E g may) may.formula y.1.new
            (λ it.
            r.goes (goal ∷ []) [] (λ last.
            subst (λ k. IsDerived D k (goal ∷ []) []) same
            (stripped D sound others u (T r.by C) (goal ∷ []) [] (subst (IsSequent D) (sym same) last) (λ end. left D goal))))
            (λ it. unwound D sound gs (assuming y.0 E w) y.0 C it (found_last w.hypotheses y.0 E (none_used (formula_of w y.0) y.1.new)) refl),
        ap (λ k. k ∷ []) (named_moved r.by (agreeing r.by r.apart) (proving C v) ∙ sym (ap named e)),
      )

-- THE GOAL HAS THE FORMULA, as a hypothesis of its own or one more
pub record HasFormula (D : Declarations) (s : Sequent) (F : Read) (k : Sequent) (x : List ℕ) (xs : List (List ℕ)) : Type 0 where
  pub goal : IsGoal D (goal_names s) k
  pub variables : k.variables ≡ s.variables
  pub conclusion : k.conclusion ≡ s.conclusion
  pub formula : formula_of k x ≡ Some F
  pub keeps : (w : List ℕ) (G : Read) → formula_of s w ≡ Some G → formula_of k w ≡ Some G
  pub spoken : (h : Hypothesis) → Contains k.hypotheses h → Contains (formulas_of s ++ F ∷ []) h.formula
  pub left : cleared xs k ≡ s
  pub used : (y : List ℕ) → ¬ IsUsed k y → All (λ z. y ≢ z) xs × (¬ IsUsed s y)

hypothesis_formula : (hs : List Hypothesis) (h : Hypothesis) → Contains hs h → Contains (formulas hs) h.formula
hypothesis_formula [] h c = absurd (Contains-none h c)
hypothesis_formula (g ∷ hs) h c = elim (Contains-cases g hs h c) [
  | inl e ↦ subst (λ (k : Hypothesis). Contains (g.formula ∷ formulas hs) k.formula) e (Contains-here g.formula (formulas hs))
  | inr d ↦ Contains-there g.formula (formulas hs) h.formula (hypothesis_formula hs h d)
]

module _ (D : Declarations) (sound : AreSound D) (s : Sequent) (is : IsSequent D s) where
  own_spoken : (F : Read) (h : Hypothesis) → Contains s.hypotheses h → Contains (formulas_of s ++ F ∷ []) h.formula
  own_spoken F h c = Contains-append_left (formulas_of s) (F ∷ []) h.formula (Contains-there s.conclusion (formulas s.hypotheses) h.formula (hypothesis_formula s.hypotheses h c))

  own_formula : (H : List ℕ) (F : Read) → formula_of s H ≡ Some F → HasFormula D s F s H []
  own_formula H F has = record {
    goal = goal_of D s is;
    variables = refl;
    conclusion = refl;
    formula = has;
    keeps = λ w G e. e;
    spoken = own_spoken F;
    left = refl;
    used = λ y new. (All-nil (λ z. y ≢ z), new);
  }

  theorem_may : (H : List ℕ) (F : Read) → theorem_in D H ≡ Some F → MayStand (signature_in D) s.variables (goal_names s) F
  theorem_may H F e =
      let sentence = sound.sentences H F e in
      record {
        formula = sentence.formula;
        closed = All-from_contains (Contains (map in_terms s.variables)) (variables F) (λ v c. absurd (Contains-none v (subst (λ l. Contains l v) sentence.closed c)));
        names = λ a c. absurd (Contains-none a (subst (λ l. Contains l a) sentence.nameless c));
      }

  theorem_taken_in : (H x : List ℕ) (F : Read) → theorem_in D H ≡ Some F → ¬ IsUsed s x → HasFormula D s F (assuming x F s) x (x ∷ [])
  theorem_taken_in H x F e new =
      let none = none_used (formula_of s x) new in
      let last : Hypothesis = record { name = x; formula = F } in
      record {
        goal = assuming_goal D (goal_names s) s x F (goal_of D s is) new (theorem_may H F e);
        variables = refl;
        conclusion = refl;
        formula = found_last s.hypotheses x F none;
        keeps = λ w G has. found_before s.hypotheses last w G has;
        spoken = λ h c. elim (Contains-append_cases s.hypotheses (last ∷ []) h c) [
          | inl d ↦ own_spoken F h d
          | inr d ↦ elim (Contains-cases last [] h d) [
            | inl same ↦ subst (λ (k : Hypothesis). Contains (formulas_of s ++ F ∷ []) k.formula) same (Contains-append_right (formulas_of s) (F ∷ []) F (Contains-here F []))
            | inr n ↦ absurd (Contains-none h n)
          ]
        ];
        left = without_last s x F none;
        used = λ y unused. (
          All-cons (λ z. y ≢ z) x [] (λ same. unused (subst (IsUsed (assuming x F s)) (sym same) (used_some (found_last s.hypotheses x F none)))) (All-nil (λ z. y ≢ z)),
          λ used. unused (used_later y (formula_of s y) refl used),
        );
      }
    where
      used_later : (y : List ℕ) (o : Option Read) → formula_of s y ≡ o → IsUsed s y → IsUsed (assuming x F s) y
      used_later y None none used = let clash : false ≡ true = subst (λ (o : Option Read). IsSome o) none used in cc
      used_later y (Some G) has used = used_some (found_before s.hypotheses (record { name = x; formula = F }) y G has)

  -- BY THE NAME of the formula
  pub by_name : (H : List ℕ) (F : Read) (ps : List Sequent) → formula_named D s H ≡ Some F → ((k : Sequent) (x : List ℕ) (xs : List (List ℕ)) → HasFormula D s F k x xs → IsDerivedAlike D k ps [])
      → IsDerivedAlike D s ps (taken_unless (is_used s H) H)
  by_name H F ps e core = go (formula_of s H) (theorem_in D H) refl refl e
    where
      go : (o p : Option Read) → formula_of s H ≡ o → theorem_in D H ≡ p → formula_or o p ≡ Some F → IsDerivedAlike D s ps (taken_unless (is_used s H) H)
      go (Some G) p has there named =
          subst (λ b. IsDerivedAlike D s ps (taken_unless b H)) (sym (ap is_some has)) (core s H [] (own_formula H F (has ∙ named)))
      go None (Some G) has there named =
          let x = hidden_name auto s in
          let theorem : theorem_in D H ≡ Some F = there ∙ named in
          let k = assuming x.0 F s in
          let c = core k x.0 (x.0 ∷ []) (theorem_taken_in H x.0 F theorem x.1.new) in
          let at = some_cells s is.numbers_differ in
          subst (λ b. IsDerivedAlike D s ps (taken_unless b H)) (sym (ap is_some has))
          (c.0, goes_on D sound (use_theorem H (given x.0)) s k c.0 [] is (at.0, at.1, (F, theorem, (x.0, s, (x.1.new, refl, refl), refl))) (λ it. c.1), c.2)
      go None None has there named = absurd (cc)

  -- the formula that is used may stand
  pub named_may : (H : List ℕ) (F : Read) → formula_named D s H ≡ Some F → MayStand (signature_in D) s.variables (goal_names s) F
  named_may H F e = go (formula_of s H) (theorem_in D H) refl refl e
    where
      go : (o p : Option Read) → formula_of s H ≡ o → theorem_in D H ≡ p → formula_or o p ≡ Some F → MayStand (signature_in D) s.variables (goal_names s) F
      go (Some G) p has there named = found_may D (goal_names s) s H F (goal_of D s is) (has ∙ named)
      go None (Some G) has there named = theorem_may H F (there ∙ named)
      go None None has there named = absurd (cc)

  -- WHAT IS AWAITED, where the formula is a hypothesis
  spoken_more : (u : Using) (K E : Read) → u.goal ≡ s → Contains (formulas_of s ++ u.formula ∷ []) E → Contains (spoken_of u K) E
  spoken_more u K E same c = elim (Contains-append_cases (formulas_of s) (u.formula ∷ []) E c) [
    | inl d ↦ Contains-append_left (formulas_of u.goal) (u.formula ∷ result_in u.aim.hypotheses K ∷ awaited u.aim.hypotheses K) E (subst (λ t. Contains (formulas_of t) E) (sym same) d)
    | inr d ↦ Contains-append_right (formulas_of u.goal) (u.formula ∷ result_in u.aim.hypotheses K ∷ awaited u.aim.hypotheses K) E (elim (Contains-cases u.formula [] E d) [
      | inl e ↦ subst (Contains (u.formula ∷ result_in u.aim.hypotheses K ∷ awaited u.aim.hypotheses K)) e (Contains-here u.formula (result_in u.aim.hypotheses K ∷ awaited u.aim.hypotheses K))
      | inr n ↦ absurd (Contains-none E n)
    ])
  ]

  -- THE CONCLUSION FOLLOWS from what is awaited
  pub backchained : (F : Read) (gs : List Given) (qs : List Piece) (hs : List (Option Read)) (K : Read) → let u = using s gs qs (record { hypotheses = hs; conclusion = Some s.conclusion }) F in
      MayUse D u → IsUsedFor u K → GivenBy s hs [] → (k : Sequent) (x : List ℕ) (xs : List (List ℕ)) → HasFormula D s F k x xs → IsDerived D k (map (λ A. proving A s) (awaited hs K)) []
  backchained F gs qs hs K may uses named_so k x xs h =
      let u = using s gs qs (record { hypotheses = hs; conclusion = Some s.conclusion }) F in
      let st = what_is_left_stands D u K may uses in
      used D sound u K may uses st k x [] xs (record {
        goal = names_more D (goal_names s) st.constants st.more k h.goal;
        variables = h.variables;
        formula = h.formula;
        given = given_still s k h.keeps hs [] named_so;
        spoken = λ q c. spoken_more u K q.formula refl (h.spoken q c);
        asked = h.conclusion;
        left = λ A. cleared_proving xs A k ∙ ap (proving A) h.left;
      })

  -- THE RESULT FOLLOWS from what is awaited, and is opened
  pub applied : (F : Read) (gs : List Given) (qs : List Piece) (hs : List (Option Read)) (ws : List (List ℕ)) (K : Read) (l : Label) (t : Sequent) → let u = using s gs qs (record { hypotheses = hs; conclusion = None }) F in
      MayUse D u → IsUsedFor u K → AreFitting D s qs gs → AreApart gs → GivenBy s hs ws → OpenedBeside D gs (result_in hs K) l s t
      → (k : Sequent) (x : List ℕ) (xs : List (List ℕ)) → HasFormula D s F k x xs → IsDerivedAlike D k (map (λ A. proving A s) (awaited hs K) ++ t ∷ []) []
  applied F gs qs hs ws K l t may uses fitting apart named_so o k x xs h =
      let u = using s gs qs (record { hypotheses = hs; conclusion = None }) F in
      let st = what_is_left_stands D u K may uses in
      let N = st.constants in
      let R = result_in hs K in
      let As = map (λ A. proving A s) (awaited hs K) in
      let g = names_more D (goal_names s) N st.more k h.goal in
      let z = hidden_name l k in
      let apart_z = h.used z.0 z.1.new in
      let may_R : MayStand (signature_in D) s.variables N R = st.stands R (Contains-here R (awaited hs K)) in
      let may_there : MayStand (signature_in D) k.variables N R = subst (λ ys. MayStand (signature_in D) ys N R) (sym h.variables) may_R in
      let none = none_used (formula_of s z.0) apart_z.1 in
      let result = assuming z.0 R s in
      let b = beside D sound N st.one_type s z.0 R (assuming_goal D N s z.0 R (names_more D (goal_names s) N st.more s (goal_of D s is)) apart_z.1 may_R) none gs l t fitting.fits
      (λ a c. st.given a (all_put qs gs fitting.named apart a c)) z.1.hidden o in
      let same : cleared xs (assuming z.0 R k) ≡ result = cleared_assuming xs z.0 R k apart_z.0 ∙ ap (assuming z.0 R) h.left in (
        As ++ b.0,
        cut_in D sound k R z.0 As b.0 [] [] (sequent_from D N k st.one_type g) (formula_fits D N st.one_type k R g may_there) may_there.formula z.1.new
            (λ it.
            used D sound u K may uses st (proving R k) x ws xs (record {
              goal = proving_goal D N k R g may_there;
              variables = h.variables;
              formula = h.formula;
              given = given_still s (proving R k) h.keeps hs ws named_so;
              spoken = λ q c. spoken_more u K q.formula refl (h.spoken q c);
              asked = refl;
              left = λ A. cleared_proving xs A k ∙ ap (proving A) h.left;
            }))
            (λ it. all_dropped D sound xs (assuming z.0 R k) b.0 [] it (λ last. subst (λ q. IsDerived D q b.0 []) (sym same) b.1)),
        map-append named As b.0 ∙ ap (λ l. map named As ++ l) b.2 ∙ sym (map-append named As (t ∷ [])),
      )
