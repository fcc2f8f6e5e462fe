-- What the rule at the next place adds to the alternatives that were made.
use Rattle.std.proofs.Common.{◌≡◌, ℕ, ◌+◌, ◌<◌, List, [], ◌∷◌, ◌++◌, map, take, length, Option, Some, None, sym, ◌∙◌, ap, subst, append-nil}
use Rattle.std.proofs.lemmas.List.{map-append}
use Rattle.ab_unifiers.specs.Replacements.{Cell}
use Rattle.ab_unify.specs.Problem.{cells_read}
use Rattle.ab_logic.specs.declared.world.World.{World}
use Rattle.ab_theory.specs.SpecRules.{SpecRule}
use Rattle.ab_alternatives.specs.CaseSteps.{IsLater}
use Rattle.ab_judgements.specs.ab_judgement_forms.specs.JudgementReadings.{judgement_read, HoldsJudgement}
use Rattle.ab_judgements.specs.RuleWalks.{slots, rules_in, rule_in, HasListed, IsRuled}
use Rattle.ab_judgements.specs.ab_judgement_forms.specs.declared.judgements.Judgement.{Judgement}
use Rattle.ab_judgements.specs.declared.rule_places.Ruled.{Ruled}
use Rattle.ab_judgements.proofs.LaterJudgements.{judgement_same, same_listed}
use Rattle.ab_judgements.proofs.LaterRules.{same_slots, same_judgement}
use Rattle.ab_judgements.proofs.PlaceLists.{taken, rules_both}
use Rattle.ab_analyses.specs.Alternatives.{AlternativeOver, by_rule, all_with}
use Rattle.ab_analyses.specs.AlternativeReadings.{StandsFor, HoldsAlternative, AreMade}
use Rattle.ab_analyses.specs.declared.answers.Alternative.{Alternative as Kept}
use Rattle.ab_analyses.proofs.ListsMade.{one_more}

-- the alternatives by the rules at places
abbrev pub at_places : World → Ruled → List (Option SpecRule) → List AlternativeOver
at_places w x rs = map (by_rule (judgement_read w x.judgement)) (rules_in rs)

-- ONE PLACE
module _ (w : World) (x : Ruled) (list : List Kept) (makes : List AlternativeOver) (before : List (Cell (List ℕ))) (made : AreMade w list makes before) (o : Option SpecRule) where
  pub no_rule : o ≡ None → AreMade w list (makes ++ at_places w x (o ∷ [])) before
  no_rule none = subst (λ y. AreMade w list (makes ++ at_places w x (y ∷ [])) before) (sym none) (subst (λ l. AreMade w list l before) (sym (append-nil makes)) made)

  pub one_rule : (r : SpecRule) → Some r ≡ o → (v : World) → IsLater w v → (then : List Kept) (k : Kept) → then ≡ list ++ k ∷ [] → StandsFor v k (by_rule (judgement_read w x.judgement) r (cells_read w.types w.store)) → HoldsAlternative v k
      → cells_read v.types v.store ≡ all_with (by_rule (judgement_read w x.judgement) r (cells_read w.types w.store)) → AreMade v then (makes ++ at_places w x (o ∷ [])) before
  one_rule r some v later then k pushed stands held cells =
      subst (λ l. AreMade v l (makes ++ at_places w x (o ∷ [])) before) (sym pushed)
      (subst (λ y. AreMade v (list ++ k ∷ []) (makes ++ at_places w x (y ∷ [])) before) some
      (one_more w v list makes before made later k (by_rule (judgement_read w x.judgement) r) stands held cells))

-- PLACE BY PLACE
module _ (w v : World) (later : IsLater w v) (x : Ruled) (ruled : IsRuled w x) where
  abbrev s : List (Option SpecRule)
  s = slots w x.judgement x.source

  here_same : (i : ℕ) → at_places v x (rule_in (slots v x.judgement x.source) i ∷ []) ≡ at_places w x (rule_in s i ∷ [])
  here_same i =
      ap (λ l. at_places v x (rule_in l i ∷ [])) (same_slots w v later x ruled)
      ∙ ap (λ j. map (by_rule j) (rules_in (rule_in s i ∷ []))) (same_judgement w v later x ruled)

  pub next_place : (i : ℕ) → i < length s → (y : World) (then : List Kept) (before : List (Cell (List ℕ)))
      → AreMade y then (at_places w x (take i s) ++ at_places v x (rule_in (slots v x.judgement x.source) i ∷ [])) before → AreMade y then (at_places w x (take (i + 1) s)) before
  next_place i low y then before made =
      let f : SpecRule → AlternativeOver = by_rule (judgement_read w x.judgement) in
      subst (λ l. AreMade y then l before)
      (ap (λ l. at_places w x (take i s) ++ l) (here_same i)
      ∙ sym (ap (at_places w x) (taken s i low) ∙ ap (map f) (rules_both (take i s) (rule_in s i ∷ [])) ∙ map-append f (rules_in (take i s)) (rules_in (rule_in s i ∷ []))))
      made

one_list : {X : Type 0} (xs ys : List X) (o : Option (List X)) → o ≡ Some xs → o ≡ Some ys → xs ≡ ys
one_list xs ys o e f = cc

-- ALL PLACES have the judgement's rules, as it was read before
pub all_places : (w u : World) → IsLater w u → (j : Judgement) → HoldsJudgement w j → (rs : List SpecRule) → HasListed w j rs → (x : Ruled) → x.judgement ≡ j → IsRuled u x
    → at_places u x (slots u x.judgement x.source) ≡ map (by_rule (judgement_read w j)) rs
all_places w u later j held rs listed x is ruled =
    let all = rules_in (slots u x.judgement x.source) in
    let there : HasListed u x.judgement rs = subst (λ k. HasListed u k rs) (sym is) (same_listed w u later j held rs listed) in
    ap (map (by_rule (judgement_read u x.judgement))) (one_list all rs _ ruled.rules there)
    ∙ ap (λ k. map (by_rule (judgement_read u k)) rs) is
    ∙ ap (λ k. map (by_rule k) rs) (judgement_same w u later.grows j held)
