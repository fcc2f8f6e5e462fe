-- Which way by a rule stands at a place.
use Rattle.std.specs.Prelude.{slice_get, IfSome, IsSome}
use Rattle.std.specs.Option.{option_map}
use Rattle.std.proofs.Common.{◌≡◌, ℕ, zero, suc, ◌-◌, ◌≤◌, List, [], map, cond, true, false, Option, Some, None, refl, sym, ◌∙◌, ap, arith}
use Rattle.std.proofs.lemmas.Option.{slice_get-map}
use Rattle.ab_term.specs.Types.{o}
use Rattle.ab_term.specs.Terms.{Nominal}
use Rattle.ab_term.specs.Names.{support}
use Rattle.ab_norm.specs.ab_types.specs.Entries.{signature}
use Rattle.ab_norm.specs.ab_store.specs.declared.node.TermId.{TermId}
use Rattle.ab_norm.specs.ab_store.specs.Naming.{IsTerm}
use Rattle.ab_formulas.specs.Declarations.{Declarations}
use Rattle.ab_formulas.specs.Programs.{program_in}
use Rattle.ab_logic.specs.Worlds.{Holds, read, declarations_of}
use Rattle.ab_logic.specs.declared.world.World.{World}
use Rattle.ab_theory.specs.Judgements.{Judgement, as_judgement}
use Rattle.ab_theory.specs.Opening.{kind_of}
use Rattle.ab_theory.specs.SpecRules.{SpecRule, rules_of}
use Rattle.ab_theory.proofs.JudgementRules.{judgement_known}
use Rattle.ab_theory.proofs.RuleDemands.{FocusKnown, JudgementKnown}
use Rattle.ab_judgements.specs.ab_alternatives.specs.CaseSteps.{IsLater}
use Rattle.ab_judgements.specs.DemandReadings.{IsTypedJudgement}
use Rattle.ab_judgements.specs.ab_judgement_forms.specs.JudgementReadings.{judgement_read, HoldsJudgement}
use Rattle.ab_judgements.specs.RuleWalks.{slots, rules_in, IsRuled}
use Rattle.ab_judgements.specs.ab_judgement_forms.specs.declared.judgements.Judgement.{Judgement as Kept}
use Rattle.ab_judgements.specs.declared.rule_places.Ruled.{Ruled}
use Rattle.ab_judgements.proofs.LaterJudgements.{judgement_same}
use Rattle.ab_search_trees.specs.Goals as tree
use Rattle.ab_search_trees.specs.Goals.{Now}
use Rattle.ab_search_trees.specs.Judgements.{opens_by_layers, known, search_rules}
use Rattle.ab_search_trees.specs.Ways.{unfolds, by_rule, by_judgement}
use Rattle.ab_search_ways.specs.GoalReadings.{goal_read, IsFormulaIn}
use Rattle.ab_search_ways.specs.declared.goal.Goal.{Goal}
use Rattle.ab_next_ways.specs.Unfoldable.{HasRuleWays}

-- the way by the rule of this number
way_there : (D : Declarations) (now : Now) (g : tree.Goal) (j : Judgement) (o : Option Judgement) → o ≡ Some j → (n i : ℕ) (rs : List SpecRule)
    → 1 ≤ n → unfolds j.sign ≡ true → opens_by_layers j.focus (kind_of j.goal) ≡ false → rules_of (program_in D) j ≡ Some rs
    → slice_get (by_judgement D now g n o) i ≡ option_map (by_rule D now g (n - 1) j) (slice_get rs i)
way_there D now g j o is zero i rs l m e f = absurd (omega (arith, l))
way_there D now g j o is (suc n) i rs l m e f =
    ap (λ o. slice_get (by_judgement D now g (suc n) o) i) is
    ∙ ap (λ b. slice_get (cond b (map (by_rule D now g n j) (search_rules D j)) []) i) m
    ∙ ap (λ l. slice_get (map (by_rule D now g n j) l) i) (ap (λ b. cond b [] (known (rules_of (program_in D) j))) e ∙ ap known f)
    ∙ slice_get-map (by_rule D now g n j) rs i
    ∙ ap (λ k. option_map (by_rule D now g k j) (slice_get rs i)) (let e : n ≡ suc n - 1 = omega arith in e)

-- the judgement with its rules, as it was read before
module _ (w u : World) (later : IsLater w u) (k : Goal) (j : Kept) (has : HasRuleWays w k j) (x : Ruled) (is : x.judgement ≡ j) (ruled : IsRuled u x) where
  abbrev rules : List SpecRule
  rules = rules_in (slots u x.judgement x.source)

  same_judgement : judgement_read u x.judgement ≡ judgement_read w j
  same_judgement = ap (judgement_read u) is ∙ judgement_same w u later.grows j has.held

  listed : rules_of (program_in (declarations_of w)) (judgement_read w j) ≡ Some rules
  listed =
      ap (rules_of (program_in (declarations_of w))) (sym same_judgement)
      ∙ ap (λ (D : Declarations). rules_of (program_in D) (judgement_read u x.judgement)) (sym later.declared)
      ∙ ruled.rules

  pub way_at : (base : List TermId) (now : Now) (i : ℕ) (o : Option SpecRule) → o ≡ slice_get rules i
      → slice_get (by_judgement (declarations_of w) now (goal_read w base k) k.depth (as_judgement (read w k.conclusion))) i ≡ option_map (by_rule (declarations_of w) now (goal_read w base k) (k.depth - 1) (judgement_read u x.judgement)) o
  way_at base now i o e =
      let D = declarations_of w in
      let G = goal_read w base k in
      way_there D now G (judgement_read w j) (as_judgement (read w k.conclusion)) has.reads k.depth i rules has.deep has.unfolds has.by_rules listed
      ∙ ap (λ y. option_map (by_rule D now G (k.depth - 1) y) (slice_get rules i)) (sym same_judgement)
      ∙ ap (option_map (by_rule D now G (k.depth - 1) (judgement_read u x.judgement))) (sym e)

-- there are rules, and so it is as a subject
pub are_known : {A B : Type 0} (f : A → B) (o : Option A) → IsSome o → IsSome (option_map f o)
are_known f None h = h
are_known f (Some x) h = refl

-- a judgement that a formula is, is typed
module _ (w : World) (j : Kept) (held : HoldsJudgement w j) where
  typed_focus : (M : List Nominal) (f : Option TermId) → IfSome f (Holds w) → FocusKnown (signature w.types) (λ y. Unit {0}) M (option_map (read w) f) → IfSome f (λ F. IsTerm w.types w.store [] F o)
  typed_focus M None h a = h
  typed_focus M (Some F) h a = (h, a.typed)

  pub judgement_typed : (t : TermId) → IsFormulaIn w t → as_judgement (read w t) ≡ Some (judgement_read w j) → IsTypedJudgement w j
  judgement_typed t formula e =
      let M = support (read w t) in
      let a : JudgementKnown (signature w.types) (λ y. Unit {0}) M (judgement_read w j) =
      judgement_known (signature w.types) (λ y. Unit {0}) M (read w t) (judgement_read w j) e formula.1 (record { over = λ y c. tt; names = λ a c. c }) in
      record {
        context = (held.context, a.context.typed);
        focus = typed_focus M j.focus held.focus a.focus;
        goal = (held.goal, a.goal.typed);
      }
