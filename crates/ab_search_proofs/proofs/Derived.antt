-- BY INDUCTION: a sequent like a goal that is proved has a whole derivation.
use Rattle.std.proofs.Common.{◌≡◌, ◌≢◌, ℕ, List, [], ◌∷◌, ◌++◌, map, codes, true, false, refl, sym, ◌∙◌, ap, subst}
use Rattle.std.specs.Prelude.{All}
use Rattle.std.proofs.lemmas.List.Elements.{All-head, All-tail}
use Rattle.ab_term.specs.Terms as tree
use Rattle.ab_term.specs.Terms.{Read}
use Rattle.ab_term.specs.Names.{support}
use Rattle.ab_term.specs.Substitution.{instance}
use Rattle.ab_term.specs.Abstraction.{over}
use Rattle.ab_unifiers.specs.Clauses.{name_term}
use Rattle.ab_unifiers.specs.Choices.{in_order}
use Rattle.ab_unifiers.specs.Member.{HasMember}
use Rattle.ab_formulas.specs.Declarations.{Declarations, HaveSentences, HaveDefinitions, signature_in}
use Rattle.ab_formulas.specs.GoalTerms.{HoldsOnly}
use Rattle.ab_formulas.specs.NewNames.{given}
use Rattle.ab_formulas.specs.Programs.{HavePrograms}
use Rattle.ab_formulas.specs.Sequents.{Sequent, IsSequent}
use Rattle.ab_theory.specs.Derivations.{Derivation, by, Derivations, none, more, roots, AllValid, all_open_goals, debts_of, all_debts}
use Rattle.ab_theory.specs.Rules.{Rule}
use Rattle.ab_theory.specs.Steps.{Step, initial, true_right, and_right, or_right, arrow_right, for_all_right, exists_right, nabla_right, equal_right, definition_right}
use Rattle.ab_theory.proofs.Keeping.{kept_by_rule}
use Rattle.ab_search_trees.specs.Guesses.{a_variable}
use Rattle.ab_search_proofs.specs.Likeness.{StandIn, replaced, IsLikeGoal, AreLike}
use Rattle.ab_search_proofs.specs.Taking.{LeadsTo}
use Rattle.ab_search_proofs.specs.Proved.{Proved, by_truth, by_hypothesis, by_equality, by_both, by_left, by_right, by_assuming, by_constant, by_term, by_variable, by_clause, by_rule, IsByClause, IsByRule, body_by}
use Rattle.ab_search_proofs.specs.Coming as coming
use Rattle.ab_search_proofs.specs.Coming.{ComesTo, it_is}
use Rattle.ab_search_proofs.specs.Whole.{IsWhole}
use Rattle.ab_search_proofs.proofs.Connectives.{truth_step, equality_step, both_step, left_step, right_step, assuming_step}
use Rattle.ab_search_proofs.proofs.Served.{hypothesis_step}
use Rattle.ab_search_proofs.proofs.Constants.{constant_step}
use Rattle.ab_search_proofs.proofs.Witnesses.{term_step}
use Rattle.ab_search_proofs.proofs.Generic.{variable_step}
use Rattle.ab_search_proofs.proofs.Unfolds.{clause_step}
use Rattle.ab_search_proofs.proofs.Ruled.{rule_step}
use Rattle.ab_search_proofs.proofs.Places.{some_cells, some_label}

-- a whole derivation for each sequent
abbrev pub AreWhole : Declarations → List Sequent → Derivations → Type 0
AreWhole D ps ds = (roots ds ≡ ps) × AllValid D ds × (all_open_goals ds ≡ []) × (all_debts ds ≡ [])

abbrev pub Whole : Declarations → Sequent → Type 0
Whole D s = (d : Derivation) × IsWhole D s d

one_more : (D : Declarations) (s : Sequent) (ps : List Sequent) → Whole D s → (ds : Derivations) × AreWhole D ps ds → (ds : Derivations) × AreWhole D (s ∷ ps) ds
one_more D s ps (d, w) (ds, (r, v, o, n)) = (
  more d ds,
  (
    ap (λ t. t ∷ roots ds) w.derives ∙ ap (λ l. s ∷ l) r,
    (w.valid, v),
    ap (λ l. l ++ all_open_goals ds) w.closed ∙ o,
    ap (λ l. l ++ all_debts ds) w.nothing_owed ∙ n,
  ),
)

module _ (D : Declarations) (sentences : HaveSentences D) (definitions : HaveDefinitions D) (programs : HavePrograms D) (has : HasMember (signature_in D)) where
  -- a step, and derivations of what it leads to
  stepped : (step : Step) (s : Sequent) (ps : List Sequent) → debts_of step ≡ [] → Rule D step s ps → (ds : Derivations) × AreWhole D ps ds → Whole D s
  stepped step s ps free rule (ds, (r, v, o, n)) = (
    by step s ds,
    record { derives = refl; valid = (subst (Rule D step s) (sym r) rule, v); closed = o; nothing_owed = ap (λ l. l ++ all_debts ds) free ∙ n },
  )

  -- what a step leads to is derived
  pub after : (P : List Sequent → Type 0) (step : Step) (s : Sequent) → IsSequent D s → debts_of step ≡ [] → LeadsTo D step s P → ((ps : List Sequent) → P ps → All (IsSequent D) ps → (ds : Derivations) × AreWhole D ps ds) → Whole D s
  after P step s is free l derive =
      let at = some_cells s is.numbers_differ in
      let t = l.some at.0 at.1 in
      let rule : Rule D step s t.0 = (at.0, at.1, t.1) in
      stepped step s t.0 free rule (derive t.0 (l.all t.0 rule) (kept_by_rule D sentences definitions programs has step s t.0 is rule))

  pub no_premise : (vs : List StandIn) (Hs : List Read) (ps : List Sequent) → AreLike D vs Hs [] ps → (ds : Derivations) × AreWhole D ps ds
  no_premise vs Hs [] l = (none, (refl, tt, refl, refl))
  no_premise vs Hs (p ∷ ps) l = absurd l

  -- any sequent like the goal
  abbrev pub Derives : List StandIn → List Read → Read → Type 0
  Derives vs Hs C = (s : Sequent) → IsSequent D s → IsLikeGoal D vs Hs C s → Whole D s

  pub one_premise : (vs : List StandIn) (Hs : List Read) (A : Read) → Derives vs Hs A → (ps : List Sequent) → AreLike D vs Hs (A ∷ []) ps → All (IsSequent D) ps → (ds : Derivations) × AreWhole D ps ds
  one_premise vs Hs A a [] l is = absurd l
  one_premise vs Hs A a (p ∷ []) l is = one_more D p [] (a p (All-head (IsSequent D) p [] is) l.0) (none, (refl, tt, refl, refl))
  one_premise vs Hs A a (p ∷ q ∷ ps) l is = absurd l.1

  pub two_premises : (vs : List StandIn) (Hs : List Read) (A B : Read) → Derives vs Hs A → Derives vs Hs B → (ps : List Sequent) → AreLike D vs Hs (A ∷ B ∷ []) ps → All (IsSequent D) ps → (ds : Derivations) × AreWhole D ps ds
  two_premises vs Hs A B a b [] l is = absurd l
  two_premises vs Hs A B a b (p ∷ ps) l is = one_more D p ps (a p (All-head (IsSequent D) p ps is) l.0) (one_premise vs Hs B b ps l.1 (All-tail (IsSequent D) p ps is))

  pub one_sequent : (t : Sequent) → (IsSequent D t → Whole D t) → (ps : List Sequent) → ps ≡ t ∷ [] → All (IsSequent D) ps → (ds : Derivations) × AreWhole D ps ds
  one_sequent t w ps e is =
      subst (λ qs. (ds : Derivations) × AreWhole D qs ds) (sym e) (one_more D t [] (w (All-head (IsSequent D) t [] (subst (All (IsSequent D)) e is))) (none, (refl, tt, refl, refl)))

  -- what comes to a sequent like the goal
  pub comes : (vs : List StandIn) (Hs : List Read) (C : Read) → Derives vs Hs C → (s : Sequent) → ComesTo D vs Hs C s → IsSequent D s → Whole D s
  comes vs Hs C derive s (it_is l) is = derive s is l
  comes vs Hs C derive s (coming.by_term u t l rest) is = after (λ ps. ps ≡ t ∷ []) (exists_right u) s is refl l (λ ps e k. one_sequent t (λ j. comes vs Hs C derive t rest j) ps e k)
  comes vs Hs C derive s (coming.by_constant t l rest) is = after (λ ps. ps ≡ t ∷ []) nabla_right s is refl l (λ ps e k. one_sequent t (λ j. comes vs Hs C derive t rest j) ps e k)

  pub derived : (ys : List (tree.Variable ℕ)) (Hs : List Read) (C : Read) → Proved D ys Hs C → (vs : List StandIn) → map replaced vs ≡ ys → Derives vs Hs C
  derived ys Hs C (by_truth e) vs q s is l = after (AreLike D vs Hs []) true_right s is refl (truth_step D vs Hs C s l e) (λ ps k j. no_premise vs Hs ps k)
  derived ys Hs C (by_hypothesis B m e serves) vs q s is l = let h = hypothesis_step D vs Hs C B s is l m e serves in after (AreLike D vs Hs []) (initial h.0) s is refl h.1 (λ ps k j. no_premise vs Hs ps k)
  derived ys Hs C (by_equality {A = A} {t = t} {u = u} e same) vs q s is l = after (AreLike D vs Hs []) equal_right s is refl (equality_step D vs Hs C s l A t u e same) (λ ps k j. no_premise vs Hs ps k)
  derived ys Hs C (by_both {A = A} {B = B} e a b) vs q s is l =
      after (AreLike D vs Hs (A ∷ B ∷ [])) and_right s is refl (both_step D vs Hs C s l A B e) (two_premises vs Hs A B (derived ys Hs A a vs q) (derived ys Hs B b vs q))
  derived ys Hs C (by_left {A = A} {B = B} e a) vs q s is l = after (AreLike D vs Hs (A ∷ [])) (or_right true) s is refl (left_step D vs Hs C s l A B e) (one_premise vs Hs A (derived ys Hs A a vs q))
  derived ys Hs C (by_right {A = A} {B = B} e b) vs q s is l = after (AreLike D vs Hs (B ∷ [])) (or_right false) s is refl (right_step D vs Hs C s l A B e) (one_premise vs Hs B (derived ys Hs B b vs q))
  derived ys Hs C (by_assuming {A = A} {B = B} e b) vs q s is l =
      let x = some_label s in
      after (AreLike D vs (Hs ++ A ∷ []) (B ∷ [])) (arrow_right (given x.0)) s is refl (assuming_step D vs Hs C s l A B (given x.0) x.0 s e (x.1, refl, refl)) (one_premise vs (Hs ++ A ∷ []) B (derived ys (Hs ++ A ∷ []) B b vs q))
  derived ys Hs C (by_constant {F = F} {A = A} a e t out p) vs q s is l =
      after (AreLike D vs Hs (instance F (name_term (codes "x") a) ∷ [])) nabla_right s is refl (constant_step D vs Hs C s l A F a e t out) (one_premise vs Hs (instance F (name_term (codes "x") a)) (derived ys Hs (instance F (name_term (codes "x") a)) p vs q))
  derived ys Hs C (by_term {F = F} {A = A} t e typed known p) vs q s is l =
      let w = term_step D vs Hs C s is l A F t e typed (subst (λ ks. HoldsOnly ks t) (sym q) known) in
      after (AreLike D vs Hs (instance F t ∷ [])) (exists_right w.0) s is refl w.1 (one_premise vs Hs (instance F t) (derived ys Hs (instance F t) p vs q))
  derived ys Hs C (by_variable {F = F} {A = A} n e new p) vs q s is l =
      let x : tree.Variable ℕ = record { name = n; type = over (in_order (support C)) A } in
      let asked = instance F (a_variable n (in_order (support C)) A) in
      after (λ ps. (v : StandIn) × (replaced v ≡ x) × AreLike D (v ∷ vs) Hs (asked ∷ []) ps) for_all_right s is refl
      (variable_step D vs Hs C s l A F n e (subst (All (λ (y : tree.Variable ℕ). y.name ≢ n)) (sym q) new))
      (λ ps k j. one_premise (k.0 ∷ vs) Hs asked (derived (x ∷ ys) Hs asked p (k.0 ∷ vs) (ap (λ z. z ∷ map replaced vs) k.1 ∙ ap (λ z. x ∷ z) q)) ps k.2 j)
  derived ys Hs C (by_clause d c us ns i p) vs q s is l =
      let step = clause_step D definitions vs Hs C s is l d c us ns (subst (λ ks. IsByClause D ks C d c us ns) (sym q) i) in
      after (λ ps. (t : Sequent) × (ps ≡ t ∷ []) × ComesTo D vs Hs (body_by d c us ns) t) (definition_right step.0) s is refl step.1
      (λ ps k j. one_sequent k.0 (λ h. comes vs Hs (body_by d c us ns) (derived ys Hs (body_by d c us ns) p vs q) k.0 k.2 h) ps k.1 j)
  derived ys Hs C (by_rule us B i p) vs q s is l =
      let step = rule_step D programs has vs Hs C s is l us B (subst (λ ks. IsByRule D ks C us B) (sym q) i) in
      after (λ ps. (t : Sequent) × (ps ≡ t ∷ []) × ComesTo D vs Hs B t) (definition_right step.0) s is refl step.1
      (λ ps k j. one_sequent k.0 (λ h. comes vs Hs B (derived ys Hs B p vs q) k.0 k.2 h) ps k.1 j)
