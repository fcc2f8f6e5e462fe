-- Place by place: what the case at the next place adds to the cases that were gone through.
use Rattle.std.proofs.Common.{◌≡◌, ℕ, ◌+◌, ◌<◌, List, [], ◌∷◌, ◌++◌, map, take, drop, length, Option, Some, sym, ◌∙◌, ap, subst, append_assoc, append-nil}
use Rattle.std.proofs.lemmas.List.{map-append}
use Rattle.ab_unify.specs.Problem.{cells_read}
use Rattle.ab_logic.specs.SequentReadings.{sequent_of, HoldsSequent}
use Rattle.ab_logic.specs.Worlds.{declarations_of}
use Rattle.ab_logic.specs.declared.world.World.{World}
use Rattle.ab_logic.specs.declared.sequent.Sequent.{Sequent as Kept}
use Rattle.ab_theory.specs.JudgementCases.{judgement_case}
use Rattle.ab_theory.specs.SpecRules.{SpecRule}
use Rattle.ab_formulas.specs.NewNames.{IsNamedFor}
use Rattle.ab_theory.specs.Splits.{CaseOver, Split, IsUnsplit}
use Rattle.ab_alternatives.specs.CaseSteps.{IsLater, ArePassed, AreStopped}
use Rattle.ab_alternatives.proofs.Passed.{passed_on, stopped_on, stopped_in, all_passed}
use Rattle.ab_judgement_forms.specs.JudgementReadings.{judgement_read, HoldsJudgement}
use Rattle.ab_judgements.specs.RuleSteps.{cases_at, IsSplitting}
use Rattle.ab_judgements.specs.RuleWalks.{slots, rules_in, rule_in, HasListed, IsRuled}
use Rattle.ab_judgement_forms.specs.declared.judgements.Judgement.{Judgement}
use Rattle.ab_judgements.specs.declared.rule_places.Ruled.{Ruled}
use Rattle.ab_judgements.proofs.LaterJudgements.{judgement_same, same_listed}
use Rattle.ab_judgements.proofs.LaterRules.{same_slots, same_judgement, still_ruled, splitting, same_cases}
use Rattle.ab_judgements.proofs.PlaceLists.{taken, parted, rules_both}

abbrev Slots : Type 0
Slots = List (Option SpecRule)

pub cases_both : (w : World) (x : Ruled) (g t : Kept) (name : List ℕ) (xs ys : Slots) → cases_at w x g t name (xs ++ ys) ≡ cases_at w x g t name xs ++ cases_at w x g t name ys
cases_both w x g t name xs ys =
    let f : SpecRule → CaseOver = judgement_case (sequent_of w g) (sequent_of w t) name (judgement_read w x.judgement) in
    ap (map f) (rules_both xs ys) ∙ map-append f (rules_in xs) (rules_in ys)

module _ (w v : World) (later : IsLater w v) (x : Ruled) (g t : Kept) (ready : IsSplitting w x g t) (name : List ℕ) where
  -- other cases may be tried then
  pub still_splitting : IsSplitting v x g t
  still_splitting = splitting w v later g t ready.goal ready.rest x (still_ruled w v later x ready.ruled) ready.formulas ready.same

  abbrev s : Slots
  s = slots w x.judgement x.source

  abbrev cases : Slots → List CaseOver
  cases = cases_at w x g t name

  here_same : (i : ℕ) → cases_at v x g t name (rule_in (slots v x.judgement x.source) i ∷ []) ≡ cases (rule_in s i ∷ [])
  here_same i =
      ap (λ l. cases_at v x g t name (rule_in l i ∷ [])) (same_slots w v later x ready.ruled)
      ∙ ap (λ j. map (judgement_case (sequent_of v g) (sequent_of v t) name j) (rules_in (rule_in s i ∷ []))) (same_judgement w v later x ready.ruled)
      ∙ same_cases w v later g t ready.goal ready.rest (judgement_read w x.judgement) name (rules_in (rule_in s i ∷ []))

  module _ (i : ℕ) (low : i < length s) (before now : List Kept) (passed : ArePassed w before (cases (take i s)) v now) where
    pub place_passed : (y : World) (then : List Kept) → ArePassed v now (cases_at v x g t name (rule_in (slots v x.judgement x.source) i ∷ [])) y then → ArePassed w before (cases (take (i + 1) s)) y then
    place_passed y then q =
        subst (λ cs. ArePassed w before cs y then) (sym (ap cases (taken s i low) ∙ cases_both w x g t name (take i s) (rule_in s i ∷ [])))
        (passed_on w v later before now (cases (take i s)) passed y (cases (rule_in s i ∷ [])) then (subst (λ cs. ArePassed v now cs y then) (here_same i) q))

    pub place_stopped : (n : ℕ) → AreStopped v (cases_at v x g t name (rule_in (slots v x.judgement x.source) i ∷ [])) n → AreStopped w (cases s) n
    place_stopped n q =
        let others = drop (i + 1) s in
        stopped_in w (cases (take i s) ++ cases (rule_in s i ∷ [])) (cases others) n
        (stopped_on w v later before now (cases (take i s)) passed (cases (rule_in s i ∷ [])) n (subst (λ cs. AreStopped v cs n) (here_same i) q))
        (cases s)
        (ap cases (parted s i low)
        ∙ cases_both w x g t name (take i s) (rule_in s i ∷ others)
        ∙ ap (λ l. cases (take i s) ++ l) (cases_both w x g t name (rule_in s i ∷ []) others)
        ∙ sym (append_assoc (cases (take i s)) (cases (rule_in s i ∷ [])) (cases others)))

pub one_list : {X : Type 0} (xs ys : List X) (o : Option (List X)) → o ≡ Some xs → o ≡ Some ys → xs ≡ ys
one_list xs ys o e f = cc

-- THE CASES at all places are those by the judgement's rules, as they were read before
pub listed_cases : (w u : World) (later : IsLater w u) (j : Judgement) (held : HoldsJudgement w j) (g t : Kept) → HoldsSequent w g → HoldsSequent w t → (name : List ℕ) (rs : List SpecRule) → HasListed w j rs → (x : Ruled) → x.judgement ≡ j → IsRuled u x
    → cases_at u x g t name (slots u x.judgement x.source) ≡ map (judgement_case (sequent_of w g) (sequent_of w t) name (judgement_read w j)) rs
listed_cases w u later j held g t goal rest name rs listed x is r =
    let all = rules_in (slots u x.judgement x.source) in
    let there : HasListed u x.judgement rs = subst (λ k. HasListed u k rs) (sym is) (same_listed w u later j held rs listed) in
    ap (map (judgement_case (sequent_of u g) (sequent_of u t) name (judgement_read u x.judgement))) (one_list all rs _ r.rules there)
    ∙ ap (λ k. map (judgement_case (sequent_of u g) (sequent_of u t) name (judgement_read u k)) rs) is
    ∙ ap (λ k. map (judgement_case (sequent_of u g) (sequent_of u t) name k) rs) (judgement_same w u later.grows j held)
    ∙ same_cases w u later g t goal rest (judgement_read w j) name rs

-- what came of all places, in terms of the rules
module _ (w u : World) (later : IsLater w u) (cells : cells_read u.types u.store ≡ cells_read w.types w.store) (j : Judgement) (held : HoldsJudgement w j) (g t : Kept) (goal : HoldsSequent w g) (rest : HoldsSequent w t) (name : List ℕ)
    (rs : List SpecRule) (listed : HasListed w j rs) (x : Ruled) (is : x.judgement ≡ j) (r : IsRuled u x) where
  abbrev all : List CaseOver
  all = cases_at u x g t name (slots u x.judgement x.source)

  abbrev by_rules : List CaseOver
  by_rules = map (judgement_case (sequent_of w g) (sequent_of w t) name (judgement_read w j)) rs

  turned : all ≡ by_rules
  turned = listed_cases w u later j held g t goal rest name rs listed x is r

  pub unsplit_there : (n : ℕ) → AreStopped u all n → IsUnsplit (IsNamedFor (declarations_of w)) (cells_read w.types w.store) by_rules n
  unsplit_there n stopped =
      subst (λ cs. IsUnsplit (IsNamedFor (declarations_of w)) (cells_read w.types w.store) cs n) turned
      (subst (λ l. IsUnsplit (IsNamedFor (declarations_of w)) l all n) cells
      (subst (λ D. IsUnsplit (IsNamedFor D) (cells_read u.types u.store) all n) later.declared
      (subst (λ l. IsUnsplit (IsNamedFor (declarations_of u)) (cells_read u.types u.store) l n) (append-nil all) (stopped []))))

  pub split_there : (y : World) (now : List Kept) → ArePassed u [] all y now → Split (IsNamedFor (declarations_of w)) (cells_read w.types w.store) by_rules (map (sequent_of y) now)
  split_there y now passed =
      subst (λ cs. Split (IsNamedFor (declarations_of w)) (cells_read w.types w.store) cs (map (sequent_of y) now)) turned
      (subst (λ l. Split (IsNamedFor (declarations_of w)) l all (map (sequent_of y) now)) cells
      (subst (λ D. Split (IsNamedFor D) (cells_read u.types u.store) all (map (sequent_of y) now)) later.declared
      (all_passed u y all now passed)))
