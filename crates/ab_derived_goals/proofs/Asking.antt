-- FORMULAS ARE ASKED FOR, one after another: each is left to be shown in the goal as it was, and is a hypothesis then.
use Rattle.std.specs.Prelude.{Contains, if◌then◌else◌, is_some}
use Rattle.std.proofs.Common.{◌≡◌, ◌⊎◌, inl, inr, ℕ, zero, suc, Option, List, [], ◌∷◌, map, Some, None, refl, sym, ◌∙◌, ap, subst}
use Rattle.std.proofs.lemmas.List.Elements.{Contains-append_right, Contains-append_cases}
use Rattle.ab_term.specs.Terms.{Nominal, Read}
use Rattle.ab_term.specs.Names.{HasOneTypeEach}
use Rattle.ab_term.proofs.Lists.{All-from_contains, Contains-none, Contains-here, Contains-there, Contains-cases}
use Rattle.ab_formulas.specs.Declarations.{Declarations, signature_in}
use Rattle.ab_formulas.specs.NewNames.{auto}
use Rattle.ab_formulas.specs.Sequents.{Hypothesis, Sequent, formula_of, formulas_of, proving, assuming}
use Rattle.ab_grammar.specs.CommandTrees as command
use Rattle.ab_grammar.specs.CommandTrees.{Argument}
use Rattle.ab_meaning.specs.Refusals.{no_hypothesis}
use Rattle.ab_theory.proofs.RulesParts.{MayStand}
use Rattle.ab_theory.proofs.Sequents.{IsGoal, assuming_goal, sequent_from}
use Rattle.ab_theory.specs.UseAnswers.{Using, IsUsedFor, awaited, result_in}
use Rattle.ab_effects.specs.FormulaUses.{names_in, formulas_in}
use Rattle.ab_effects.specs.ProofCommands.{cleared, missing, repeated}
use Rattle.ab_consequences.specs.Leading.{HasNamed}
use Rattle.ab_consequences.specs.UsesFollow.{MayUse, met_by, asked_of, spoken_of}
use Rattle.ab_consequences.proofs.Allowed.{found_last}
use Rattle.ab_consequences.proofs.Leading.{formula_fits, found_before}
use Rattle.ab_consequences.proofs.UsesFollow.{follows}
use Rattle.ab_derived_goals.specs.Derived.{AreSound, IsDerived}
use Rattle.ab_derived_goals.proofs.Hypotheses.{cut_in, all_dropped}
use Rattle.ab_derived_goals.proofs.Named.{none_used, without_last}
use Rattle.ab_derived_goals.proofs.Remaining.{IsStanding}
use Rattle.ab_derived_goals.proofs.Trees.{left}
use Rattle.ab_derived_goals.proofs.Waiting.{hidden_name}

-- A GOAL WITH THESE FORMULAS MORE, under these names
pub record HasMore (D : Declarations) (N : List Nominal) (k j : Sequent) (zs : List (List ℕ)) (As : List Read) : Type 0 where
  pub goal : IsGoal D N j
  pub variables : j.variables ≡ k.variables
  pub conclusion : j.conclusion ≡ k.conclusion
  pub keeps : (x : List ℕ) (F : Read) → formula_of k x ≡ Some F → formula_of j x ≡ Some F
  pub has : HasNamed j zs As
  pub spoken : (h : Hypothesis) → Contains j.hypotheses h → Contains k.hypotheses h ⊎ Contains As h.formula

module _ (D : Declarations) (sound : AreSound D) (N : List Nominal) (one : HasOneTypeEach N) (s : Sequent) where
  abbrev asked_in : List Read → List Sequent
  asked_in As = map (λ A. proving A s) As

  -- without some hypotheses the goal is that in which they are left to be shown
  pub each_asked : (As : List Read) (k : Sequent) (ys : List (List ℕ)) → ((A : Read) → cleared ys (proving A k) ≡ proving A s) → IsGoal D N k → ((A : Read) → Contains As A → MayStand (signature_in D) k.variables N A)
      → ((j : Sequent) (zs : List (List ℕ)) → HasMore D N k j zs As → IsDerived D j [] []) → IsDerived D k (asked_in As) []
  each_asked [] k ys same g may rest = rest k [] (record { goal = g; variables = refl; conclusion = refl; keeps = λ x F e. e; has = tt; spoken = λ h c. inl c })
  each_asked (A ∷ As) k ys same g may rest =
      let y = hidden_name auto k in
      let none = none_used (formula_of k y.0) y.1.new in
      let first = may A (Contains-here A As) in
      let is = sequent_from D N k one g in
      let next = assuming y.0 A k in
      let last : Hypothesis = record { name = y.0; formula = A } in
      cut_in D sound k A y.0 (proving A s ∷ []) (asked_in As) [] [] is (formula_fits D N one k A g first) first.formula y.1.new
      (λ it. all_dropped D sound ys (proving A k) (proving A s ∷ []) [] it (λ end. subst (λ t. IsDerived D t (proving A s ∷ []) []) (sym (same A)) (left D (proving A s))))
      (λ it.
      each_asked As next (y.0 ∷ ys) (λ B. ap (cleared ys) (without_last (proving B k) y.0 A none) ∙ same B) (assuming_goal D N k y.0 A g y.1.new first)
      (λ B c. may B (Contains-there A As B c))
      (λ j zs m.
      rest j (y.0 ∷ zs) (record {
        goal = m.goal;
        variables = m.variables;
        conclusion = m.conclusion;
        keeps = λ x F e. m.keeps x F (found_before k.hypotheses last x F e);
        has = (m.keeps y.0 A (found_last k.hypotheses y.0 A none), m.has);
        spoken = λ h c. elim (m.spoken h c) [
          | inl d ↦ elim (Contains-append_cases k.hypotheses (last ∷ []) h d) [
            | inl b ↦ inl b
            | inr b ↦ elim (Contains-cases last [] h b) [ inl e ↦ inr (subst (Contains (A ∷ As)) (ap (λ (q : Hypothesis). q.formula) e) (Contains-here A As)) | inr n ↦ absurd (Contains-none h n) ]
          ]
          | inr d ↦ inr (Contains-there A As h.formula d)
        ];
      })))

-- WHAT IS GIVEN has names in the goal

abbrev pub GivenBy : Sequent → List (Option Read) → List (List ℕ) → Type 0
GivenBy k [] [] = Unit {0}
GivenBy k [] (w ∷ ws) = ⊥
GivenBy k (None ∷ hs) ws = GivenBy k hs ws
GivenBy k (Some G ∷ hs) [] = ⊥
GivenBy k (Some G ∷ hs) (w ∷ ws) = (formula_of k w ≡ Some G) × GivenBy k hs ws

-- hypotheses that are named have their formulas
pub named_there : (s : Sequent) (vs : List Argument) → missing (names_in vs) s ≡ None → GivenBy s (formulas_in s vs) (names_in vs)
named_there s [] none = tt
named_there s (command.hole ∷ vs) none = named_there s vs none
named_there s (command.named H ∷ vs) none = go (formula_of s H) refl (named_there s vs) none
  where
    go : (o : Option Read) → formula_of s H ≡ o → (missing (names_in vs) s ≡ None → GivenBy s (formulas_in s vs) (names_in vs)) → (if is_some o then missing (names_in vs) s else Some (no_hypothesis H)) ≡ None
        → GivenBy s (o ∷ formulas_in s vs) (H ∷ names_in vs)
    go None e rest none = absurd (cc)
    go (Some G) e rest none = (e, rest none)

-- where nothing is given
pub none_given : (s : Sequent) (n : ℕ) → GivenBy s (repeated n) []
none_given s zero = tt
none_given s (suc n) = none_given s n

-- the names of what is given, with those of what is awaited between them
abbrev merged : List (Option Read) → List (List ℕ) → List (List ℕ) → List (List ℕ)
merged [] ws zs = []
merged (None ∷ hs) ws [] = []
merged (None ∷ hs) ws (z ∷ zs) = z ∷ merged hs ws zs
merged (Some G ∷ hs) [] zs = []
merged (Some G ∷ hs) (w ∷ ws) zs = w ∷ merged hs ws zs

met_there : (k : Sequent) (hs : List (Option Read)) (ws zs : List (List ℕ)) (As : List Read) → GivenBy k hs ws → HasNamed k zs As → HasNamed k (merged hs ws zs) (met_by hs As)
met_there k [] ws zs As given has = tt
met_there k (None ∷ hs) ws [] [] given has = tt
met_there k (None ∷ hs) ws [] (A ∷ As) given has = absurd has
met_there k (None ∷ hs) ws (z ∷ zs) [] given has = absurd has
met_there k (None ∷ hs) ws (z ∷ zs) (A ∷ As) given has = (has.0, met_there k hs ws zs As given has.1)
met_there k (Some G ∷ hs) [] zs As given has = absurd given
met_there k (Some G ∷ hs) (w ∷ ws) zs As given has = (given.0, met_there k hs ws zs As given.1 has)

pub given_still : (k j : Sequent) → ((x : List ℕ) (F : Read) → formula_of k x ≡ Some F → formula_of j x ≡ Some F) → (hs : List (Option Read)) (ws : List (List ℕ)) → GivenBy k hs ws → GivenBy j hs ws
given_still k j keeps [] [] given = tt
given_still k j keeps [] (w ∷ ws) given = absurd given
given_still k j keeps (None ∷ hs) ws given = given_still k j keeps hs ws given
given_still k j keeps (Some G ∷ hs) [] given = absurd given
given_still k j keeps (Some G ∷ hs) (w ∷ ws) given = (keeps w G given.0, given_still k j keeps hs ws given.1)

-- THE USE: what is awaited is left to be shown, and then what is asked for follows
pub record UsedAt (D : Declarations) (N : List Nominal) (u : Using) (K : Read) (k : Sequent) (x : List ℕ) (ws ys : List (List ℕ)) : Type 0 where
  pub goal : IsGoal D N k
  pub variables : k.variables ≡ u.goal.variables
  pub formula : formula_of k x ≡ Some u.formula
  pub given : GivenBy k u.aim.hypotheses ws
  pub spoken : (h : Hypothesis) → Contains k.hypotheses h → Contains (spoken_of u K) h.formula
  pub asked : k.conclusion ≡ asked_of u K
  pub left : (A : Read) → cleared ys (proving A k) ≡ proving A u.goal

-- what is awaited is spoken of
awaited_spoken : (u : Using) (K E : Read) → Contains (awaited u.aim.hypotheses K) E → Contains (spoken_of u K) E
awaited_spoken u K E c =
    let R = result_in u.aim.hypotheses K in
    let As = awaited u.aim.hypotheses K in
    Contains-append_right (formulas_of u.goal) (u.formula ∷ R ∷ As) E (Contains-there u.formula (R ∷ As) E (Contains-there R As E c))

pub used : (D : Declarations) (sound : AreSound D) (u : Using) (K : Read) → MayUse D u → IsUsedFor u K → (st : IsStanding D u K) (k : Sequent) (x : List ℕ) (ws ys : List (List ℕ)) → UsedAt D st.constants u K k x ws ys
    → IsDerived D k (map (λ A. proving A u.goal) (awaited u.aim.hypotheses K)) []
used D sound u K may is st k x ws ys at =
    let hs = u.aim.hypotheses in
    let As = awaited hs K in
    each_asked D sound st.constants st.one_type u.goal As k ys at.left at.goal
    (λ A c. subst (λ xs. MayStand (signature_in D) xs st.constants A) (sym at.variables) (st.stands A (Contains-there (result_in hs K) As A c)))
    (λ j zs m.
    let w = follows D u K may is j x (merged hs ws zs) (record {
      variables = m.variables ∙ at.variables;
      labels = m.goal.labels_differ;
      formula = m.keeps x u.formula at.formula;
      met = met_there j hs ws zs As (given_still k j m.keeps hs ws at.given) m.has;
      spoken = All-from_contains (λ (h : Hypothesis). Contains (spoken_of u K) h.formula) j.hypotheses (λ h c. elim (m.spoken h c) [ inl d ↦ at.spoken h d | inr d ↦ awaited_spoken u K h.formula d ]);
      asked = m.conclusion ∙ at.asked;
    }) in
    (w.0, record { derives = w.1.derives; valid = w.1.valid; leaves = w.1.closed; owes = w.1.nothing_owed }))
