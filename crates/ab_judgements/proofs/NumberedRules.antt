-- What is told of a judgement's rules once they are listed, in terms of the world before; and what a conclusion becomes.
use Rattle.std.proofs.Common.{◌≡◌, ℕ, ◌+◌, ◌<◌, ◌≤◌, List, [], ◌∷◌, ◌++◌, take, drop, length, Option, Some, None, sym, ◌∙◌, ap, subst, arith, length-append}
use Rattle.std.proofs.lemmas.List.Elements.{All-append}
use Rattle.ab_norm.specs.ab_store.specs.declared.node.TermId.{TermId}
use Rattle.ab_norm.specs.ab_store.specs.Trees.{Contents}
use Rattle.ab_unifiers.specs.Replacements.{Cell}
use Rattle.ab_unify.specs.Problem.{cells_read}
use Rattle.ab_formulas.specs.Sequents.{Sequent, proving}
use Rattle.ab_logic.specs.Worlds.{read}
use Rattle.ab_logic.specs.SequentReadings.{sequent_of, HoldsSequent}
use Rattle.ab_logic.specs.declared.world.World.{World}
use Rattle.ab_logic.specs.declared.sequent.Sequent.{Sequent as Kept}
use Rattle.ab_logic.proofs.Growing.{same_sequent}
use Rattle.ab_theory.specs.JudgementCases.{judgement_unfolding}
use Rattle.ab_theory.specs.Judgements as plain
use Rattle.ab_theory.specs.SpecRules.{SpecRule}
use Rattle.ab_theory.specs.Splits.{NeverArises}
use Rattle.ab_theory.specs.Subjects.{Way, a_judgement, way_by_rule}
use Rattle.ab_alternatives.specs.CaseSteps.{IsLater}
use Rattle.ab_alternatives.specs.ab_instances.proofs.Bound.{same_tree}
use Rattle.ab_alternatives.specs.declared.first_choice.Found.{Found}
use Rattle.ab_alternatives.specs.declared.first_choice.Found.TheVariants.{Nothing}
use Rattle.ab_judgement_forms.specs.JudgementReadings.{judgement_read, HoldsJudgement}
use Rattle.ab_judgements.specs.RuleSteps.{UnfoldsBy, NoneOf, IsFoundBy}
use Rattle.ab_judgements.specs.RuleWalks.{slots, rules_in, rule_in, HasListed, IsRuled}
use Rattle.ab_judgements.specs.SubjectAnswers.{IsUnfoldedBy, FindsWay}
use Rattle.ab_judgement_forms.specs.declared.judgements.Judgement.{Judgement}
use Rattle.ab_judgements.specs.declared.rule_places.Ruled.{Ruled}
use Rattle.ab_judgements.proofs.LaterJudgements.{judgement_same, same_listed}
use Rattle.ab_judgements.proofs.LaterRules.{same_slots, same_judgement}
use Rattle.ab_judgements.proofs.NextPlace.{one_list}
use Rattle.ab_judgements.proofs.PlaceLists.{taken, parted, last_parted, rules_both}
use Rattle.ab_judgements.proofs.SubjectForms.{found_by, found_none}

abbrev Cells : Type 0
Cells = List (Cell (List ℕ))

-- the goal with the conclusion, once what was bound is undone
pub unfolded_by : (w x : World) (X : Contents) (later : IsLater w (record { types = x.types; store = X; additions = x.additions })) → X.nodes ≡ x.store.nodes → X.cells ≡ x.store.cells → (s p : Kept) → HoldsSequent w s
    → (cells : Cells) (y : Way) (t : TermId)
    → sequent_of (record { types = x.types; store = X; additions = x.additions }) p
    ≡ proving (read (record { types = x.types; store = X; additions = x.additions }) t) (sequent_of (record { types = x.types; store = X; additions = x.additions }) s)
    → UnfoldsBy cells y x.types x.store t → IsUnfoldedBy cells (sequent_of w s) y (sequent_of (record { types = x.types; store = X; additions = x.additions }) p)
unfolded_by w x X later nodes cells_same s p held cells y t e u =
    let v : World = record { types = x.types; store = X; additions = x.additions } in (
      u.0,
      u.1,
      u.2,
      e ∙ ap (proving (read v t)) (same_sequent w v later.grows s held) ∙ ap (λ F. proving F (sequent_of w s)) (same_tree x.types x.store X nodes cells_same t ∙ u.3),
    )

module _ (w u : World) (later : IsLater w u) (cells : cells_read u.types u.store ≡ cells_read w.types w.store) (j : Judgement) (held : HoldsJudgement w j) (x : Ruled) (is : x.judgement ≡ j) where
  pub judgement_before : judgement_read u x.judgement ≡ judgement_read w j
  judgement_before = ap (judgement_read u) is ∙ judgement_same w u later.grows j held

  -- the rules at places are those that were listed
  pub listed_same : (rs : List SpecRule) → HasListed w j rs → IsRuled u x → rules_in (slots u x.judgement x.source) ≡ rs
  listed_same rs listed r = one_list (rules_in (slots u x.judgement x.source)) rs _ r.rules (subst (λ k. HasListed u k rs) (sym is) (same_listed w u later j held rs listed))

  -- what is told of cells, goal and judgement
  pub as_before : (Q : Cells → Sequent → plain.Judgement → Type 0) → (g : Kept) → HoldsSequent w g → Q (cells_read u.types u.store) (sequent_of u g) (judgement_read u x.judgement) → Q (cells_read w.types w.store) (sequent_of w g) (judgement_read w j)
  as_before Q g goal q =
      subst (λ cs. Q cs (sequent_of w g) (judgement_read w j)) cells
      (subst (λ s. Q (cells_read u.types u.store) s (judgement_read w j)) (same_sequent w u later.grows g goal)
      (subst (Q (cells_read u.types u.store) (sequent_of u g)) judgement_before q))

  -- what is found among the rules at places
  pub found_before : (s : Sequent) (rs : List SpecRule) → HasListed w j rs → IsRuled u x → (f : Found) → FindsWay (cells_read u.types u.store) s (a_judgement (judgement_read u x.judgement) (rules_in (slots u x.judgement x.source))) f
      → FindsWay (cells_read w.types w.store) s (a_judgement (judgement_read w j) rs) f
  found_before s rs listed r f h =
      subst (λ cs. FindsWay cs s (a_judgement (judgement_read w j) rs) f) cells
      (subst (λ l. FindsWay (cells_read u.types u.store) s (a_judgement (judgement_read w j) l) f) (listed_same rs listed r)
      (subst (λ k. FindsWay (cells_read u.types u.store) s (a_judgement k (rules_in (slots u x.judgement x.source))) f) judgement_before h))

-- THE FIRST RULE, place by place
at_most_one : (x : Option SpecRule) → length (rules_in (x ∷ [])) ≤ 1
at_most_one None = omega arith
at_most_one (Some r) = omega arith

module _ (u v : World) (later : IsLater u v) (cells : cells_read v.types v.store ≡ cells_read u.types u.store) (x : Ruled) (r : IsRuled u x) where
  abbrev S : List (Option SpecRule)
  S = slots u x.judgement x.source

  abbrev here : World → ℕ → Option SpecRule
  here y i = rule_in (slots y x.judgement x.source) i

  abbrev None_u : Sequent → List SpecRule → Type 0
  None_u s = NoneOf (cells_read u.types u.store) s (judgement_read u x.judgement)

  none_here : (s : Sequent) (i : ℕ) → NoneOf (cells_read v.types v.store) s (judgement_read v x.judgement) (rules_in (here v i ∷ [])) → None_u s (rules_in (here u i ∷ []))
  none_here s i h =
      subst (λ cs. NoneOf cs s (judgement_read u x.judgement) (rules_in (here u i ∷ []))) cells
      (subst (λ j. NoneOf (cells_read v.types v.store) s j (rules_in (here u i ∷ []))) (same_judgement u v later x r)
      (subst (λ l. NoneOf (cells_read v.types v.store) s (judgement_read v x.judgement) (rules_in (rule_in l i ∷ []))) (same_slots u v later x r) h))

  -- one place more by which nothing unfolds
  pub none_more : (i : ℕ) → i < length S → (s : Sequent) → None_u s (rules_in (take i S)) → NoneOf (cells_read v.types v.store) s (judgement_read v x.judgement) (rules_in (here v i ∷ [])) → None_u s (rules_in (take (i + 1) S))
  none_more i low s before h =
      subst (None_u s) (sym (ap rules_in (taken S i low) ∙ rules_both (take i S) (here u i ∷ [])))
      (All-append (λ (q : SpecRule). NeverArises (judgement_unfolding s (judgement_read u x.judgement) q (cells_read u.types u.store))) (rules_in (take i S)) (rules_in (here u i ∷ [])) before (none_here s i h))

  pub counted_more : (i : ℕ) → i < length S → (n m : ℕ) → n ≡ length (rules_in (take i S)) → m ≡ n + length (rules_in (here v i ∷ [])) → m ≡ length (rules_in (take (i + 1) S))
  counted_more i low n m so more =
      let all = ap (λ (l : List SpecRule). length l) (ap rules_in (taken S i low) ∙ rules_both (take i S) (here u i ∷ [])) ∙ length-append (rules_in (take i S)) (rules_in (here u i ∷ [])) in
      let same = ap (λ l. length (rules_in (rule_in l i ∷ []))) (same_slots u v later x r) in
      omega (arith, so, more, all, same)

  pub low_more : (i n m : ℕ) → n ≤ i → m ≡ n + length (rules_in (here v i ∷ [])) → m ≤ i + 1
  low_more i n m low more = let one = at_most_one (here v i) in omega (arith, low, more, one)

  -- a rule is found there
  pub found_there : (s : Sequent) (i n : ℕ) → i < length S → n ≡ length (rules_in (take i S)) → None_u s (rules_in (take i S)) → (q : SpecRule) → here v i ≡ Some q → (f : Found)
      → IsFoundBy (cells_read v.types v.store) (way_by_rule s (judgement_read v x.judgement) q) n f → FindsWay (cells_read u.types u.store) s (a_judgement (judgement_read u x.judgement) (rules_in S)) f
  found_there s i n low so before q at f h =
      let D = drop (i + 1) S in
      let J = judgement_read u x.judgement in
      let C = cells_read u.types u.store in
      let at_u : here u i ≡ Some q = sym (ap (λ l. rule_in l i) (same_slots u v later x r)) ∙ at in
      let whole : rules_in S ≡ rules_in (take i S) ++ q ∷ rules_in D =
      ap rules_in (parted S i low) ∙ rules_both (take i S) (here u i ∷ D) ∙ ap (λ k. rules_in (take i S) ++ rules_in (k ∷ D)) at_u in
      let found : IsFoundBy C (way_by_rule s J q) (length (rules_in (take i S))) f =
      subst (λ k. IsFoundBy C (way_by_rule s J q) k f) so
      (subst (λ cs. IsFoundBy cs (way_by_rule s J q) n f) cells
      (subst (λ j. IsFoundBy (cells_read v.types v.store) (way_by_rule s j q) n f) (same_judgement u v later x r) h)) in
      subst (λ l. FindsWay C s (a_judgement J l) f) (sym whole) (found_by C s J (rules_in (take i S)) (rules_in D) q before f found)

  -- none is found at all
  pub nothing_there : (s : Sequent) (n : ℕ) → n + 1 ≡ length S → None_u s (rules_in (take n S)) → NoneOf (cells_read v.types v.store) s (judgement_read v x.judgement) (rules_in (here v n ∷ []))
      → FindsWay (cells_read u.types u.store) s (a_judgement (judgement_read u x.judgement) (rules_in S)) Nothing
  nothing_there s n e before h =
      found_none (cells_read u.types u.store) s (judgement_read u x.judgement) (rules_in S)
      (subst (None_u s) (sym (ap rules_in (last_parted S n e) ∙ rules_both (take n S) (here u n ∷ [])))
      (All-append (λ (q : SpecRule). NeverArises (judgement_unfolding s (judgement_read u x.judgement) q (cells_read u.types u.store))) (rules_in (take n S)) (rules_in (here u n ∷ [])) before (none_here s n h)))
