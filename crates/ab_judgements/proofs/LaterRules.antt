-- A judgement with its rules in a later world: the rules stand at the same places and read as before, and so do the cases by them.
use Rattle.std.specs.Prelude.{IfSome}
use Rattle.std.specs.List.{All}
use Rattle.std.proofs.Common.{◌≡◌, ℕ, List, [], ◌∷◌, ◌++◌, map, Option, Some, None, refl, sym, ◌∙◌, ap, subst}
use Rattle.std.proofs.lemmas.List.Elements.{All-weaker}
use Rattle.ab_term.specs.Types.{Ty, o}
use Rattle.ab_term.specs.Terms.{Read}
use Rattle.ab_term.specs.Typing.{HasType}
use Rattle.ab_norm.specs.ab_types.specs.Entries.{signature}
use Rattle.ab_norm.specs.ab_types.specs.Ids.{type_of}
use Rattle.ab_norm.specs.ab_types.proofs.Entries.{same_type, type_still_held}
use Rattle.ab_norm.specs.ab_store.specs.declared.node.TermId.{TermId}
use Rattle.ab_norm.specs.ab_store.specs.Naming.{IsTerm}
use Rattle.ab_norm.specs.ab_store.specs.Trees.{tree_of}
use Rattle.ab_unifiers.specs.Replacements.{Cell}
use Rattle.ab_unify.proofs.Growth.{lifted}
use Rattle.ab_formulas.specs.Declarations.{Declarations, signature_in}
use Rattle.ab_formulas.specs.Formulas.{IsFormula}
use Rattle.ab_formulas.specs.Programs.{program_in}
use Rattle.ab_formulas.specs.Sequents.{formulas_of}
use Rattle.ab_logic.specs.Worlds.{Holds, read, declarations_of}
use Rattle.ab_logic.specs.SequentReadings.{sequent_of, HoldsSequent}
use Rattle.ab_logic.specs.declared.world.World.{World}
use Rattle.ab_logic.specs.declared.sequent.Sequent.{Sequent as Kept}
use Rattle.ab_logic.proofs.Growing.{map_same, same_sequent, still_held}
use Rattle.ab_theory.specs.JudgementCases.{judgement_case}
use Rattle.ab_theory.specs.Judgements as plain
use Rattle.ab_theory.specs.Parts as parts
use Rattle.ab_theory.specs.SpecRules.{SpecRule, by_clause, by_part, clauses_for}
use Rattle.ab_alternatives.specs.CaseSteps.{IsLater}
use Rattle.ab_alternatives.specs.ab_instances.proofs.Made.{names_stay, names_held}
use Rattle.ab_judgements.specs.DemandReadings.{IsTypedJudgement}
use Rattle.ab_judgement_forms.specs.JudgementReadings.{judgement_read, HoldsJudgement}
use Rattle.ab_judgement_forms.specs.PartReadings.{name_read, part_read, HoldsName, HoldsPart}
use Rattle.ab_judgements.specs.RuleSteps.{IsSplitting}
use Rattle.ab_judgements.specs.RuleWalks.{list_slot, slots, rules_in, IsSource, HasListed, IsRuled}
use Rattle.ab_judgement_forms.specs.declared.focus_parts.Part.{Part}
use Rattle.ab_judgement_forms.specs.declared.judgements.Judgement.{Judgement}
use Rattle.ab_judgement_forms.specs.declared.part_names.PartName.{PartName}
use Rattle.ab_judgements.specs.declared.rule_places.Source.{Source}
use Rattle.ab_judgements.specs.declared.rule_places.Source.TheVariants.{Program, Goal, Focus}
use Rattle.ab_judgements.specs.declared.rule_places.Ruled.{Ruled}
use Rattle.ab_judgements.proofs.LaterJudgements.{focus_same, judgement_same, same_listed}

-- what a typed judgement names is there
focus_held : (w : World) (f : Option TermId) → IfSome f (λ F. IsTerm w.types w.store [] F o) → IfSome f (Holds w)
focus_held w None h = h
focus_held w (Some F) h = h.0

pub typed_held : (w : World) (j : Judgement) → IsTypedJudgement w j → HoldsJudgement w j
typed_held w j t = record { context = t.context.0; focus = focus_held w j.focus t.focus; goal = t.goal.0 }

module _ (w v : World) (later : IsLater w v) where
  term_still : (t : TermId) (A : Ty) → IsTerm w.types w.store [] t A → IsTerm v.types v.store [] t A
  term_still t A h = (later.grows.ids t h.0, subst (λ u. HasType (signature v.types) [] u A) (sym (later.grows.readings t h.0)) (lifted w.types v.types later.grows.types h.1))

  focus_still : (f : Option TermId) → IfSome f (λ F. IsTerm w.types w.store [] F o) → IfSome f (λ F. IsTerm v.types v.store [] F o)
  focus_still None h = h
  focus_still (Some F) h = term_still F o h

  pub still_typed : (j : Judgement) → IsTypedJudgement w j → IsTypedJudgement v j
  still_typed j t = record { context = term_still j.context _ t.context; focus = focus_still j.focus t.focus; goal = term_still j.goal _ t.goal }

  name_same : (n : PartName) → HoldsName w.types n → name_read v.types n ≡ name_read w.types n
  name_same n h = ap (λ A. record { hint = n.hint; type = A }) (ap (λ T. type_of T n.ty) later.grows.types.1 ∙ same_type w.types later.grows.types.0 n.ty h)

  abbrev part_of : List (Cell (List ℕ)) → List Read → Read → parts.Part
  part_of ns gs A = record { names = ns; goals = gs; atom = A }

  part_same : (p : Part) → HoldsPart w.types w.store p → part_read v.types v.store p ≡ part_read w.types w.store p
  part_same p h =
      ap (λ ns. part_of ns (map (tree_of v.types v.store) p.goals.items) (tree_of v.types v.store p.atom)) (map_same (name_read v.types) (name_read w.types) (HoldsName w.types) name_same p.names.items h.names)
      ∙ ap (λ gs. part_of (map (name_read w.types) p.names.items) gs (tree_of v.types v.store p.atom)) (map_same (read v) (read w) (Holds w) later.grows.readings p.goals.items h.goals)
      ∙ ap (part_of (map (name_read w.types) p.names.items) (map (tree_of w.types w.store) p.goals.items)) (later.grows.readings p.atom h.atom)

  part_still : (p : Part) → HoldsPart w.types w.store p → HoldsPart v.types v.store p
  part_still p h = record {
    names = All-weaker (HoldsName w.types) (HoldsName v.types) (λ n k. type_still_held w.types v.types later.grows.types n.ty k) p.names.items h.names;
    goals = All-weaker (Holds w) (Holds v) later.grows.ids p.goals.items h.goals;
    atom = later.grows.ids p.atom h.atom;
  }

  source_still : (j : Judgement) → HoldsJudgement w j → (s : Source) → IsSource w j s → IsSource v j s
  source_still j held Program h = tt
  source_still j held Goal h = tt
  source_still j held (Focus ps) h = (
    All-weaker (HoldsPart w.types w.store) (HoldsPart v.types v.store) part_still ps.items h.0,
    h.1,
    focus_same w v later.grows j held j.focus held.focus ∙ h.2,
    map_same (part_read v.types v.store) (part_read w.types w.store) (HoldsPart w.types w.store) part_same ps.items h.0 ∙ h.3,
  )

  slots_same : (j : Judgement) → HoldsJudgement w j → (s : Source) → IsSource w j s → slots v j s ≡ slots w j s
  slots_same j held Program h =
      let found : Declarations → Read → Read → List (Option SpecRule) = λ D A L. map (λ c. Some (by_clause c)) (clauses_for A (program_in D)) ++ list_slot L ∷ [] in
      ap (λ D. found D (read v j.goal) (read v j.context)) later.declared
      ∙ ap (λ A. found (declarations_of w) A (read v j.context)) (later.grows.readings j.goal held.goal)
      ∙ ap (found (declarations_of w) (read w j.goal)) (later.grows.readings j.context held.context)
  slots_same j held Goal h = refl
  slots_same j held (Focus ps) h =
      ap (λ (l : List (Option SpecRule)). l ++ None ∷ [])
      (map_same (λ p. Some (by_part (part_read v.types v.store p))) (λ p. Some (by_part (part_read w.types w.store p))) (HoldsPart w.types w.store) (λ p k. ap (λ q. Some (by_part q)) (part_same p k)) ps.items h.0)

  module _ (x : Ruled) (r : IsRuled w x) where
    held : HoldsJudgement w x.judgement
    held = typed_held w x.judgement r.typed

    pub same_slots : slots v x.judgement x.source ≡ slots w x.judgement x.source
    same_slots = slots_same x.judgement held x.source r.source

    pub same_judgement : judgement_read v x.judgement ≡ judgement_read w x.judgement
    same_judgement = judgement_same w v later.grows x.judgement held

    pub still_ruled : IsRuled v x
    still_ruled = record {
      world = later.grows.world;
      typed = still_typed x.judgement r.typed;
      constants = names_stay w.types v.types later.grows.types x.constants.items r.constants_held ∙ r.constants ∙ ap plain.constants_of (sym same_judgement);
      constants_held = names_held w.types v.types later.grows.types x.constants.items r.constants_held;
      source = source_still x.judgement held x.source r.source;
      rules = subst (λ s. HasListed v x.judgement (rules_in s)) (sym same_slots) (same_listed w v later x.judgement held (rules_in (slots w x.judgement x.source)) r.rules);
    }

  module _ (g t : Kept) (goal : HoldsSequent w g) (rest : HoldsSequent w t) where
    -- a goal and what stays of it
    pub splitting : (x : Ruled) → IsRuled v x → All (IsFormula (signature_in (declarations_of w))) (formulas_of (sequent_of w t)) → t.variables ≡ g.variables → IsSplitting v x g t
    splitting x r formulas same = record {
      ruled = r;
      goal = still_held w v later.grows g goal;
      rest = still_held w v later.grows t rest;
      formulas =
          subst (λ (D : Declarations). All (IsFormula (signature_in D)) (formulas_of (sequent_of v t))) (sym later.declared)
          (subst (λ q. All (IsFormula (signature_in (declarations_of w))) (formulas_of q)) (sym (same_sequent w v later.grows t rest)) formulas);
      same = same;
    }

    -- THE CASES ARE THE SAME
    pub same_cases : (j : plain.Judgement) (name : List ℕ) (rs : List SpecRule) → map (judgement_case (sequent_of v g) (sequent_of v t) name j) rs ≡ map (judgement_case (sequent_of w g) (sequent_of w t) name j) rs
    same_cases j name rs =
        ap (λ q. map (judgement_case q (sequent_of v t) name j) rs) (same_sequent w v later.grows g goal)
        ∙ ap (λ q. map (judgement_case (sequent_of w g) q name j) rs) (same_sequent w v later.grows t rest)
