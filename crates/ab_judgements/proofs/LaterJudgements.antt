-- A judgement, its constants and its rules in a later world: they read as before.
use Rattle.std.specs.Prelude.{IfSome, IsSome}
use Rattle.std.specs.Option.{option_map}
use Rattle.std.proofs.Common.{◌≡◌, ◌⊎◌, inl, inr, List, map, Option, Some, None, refl, sym, ◌∙◌, ap, subst}
use Rattle.ab_term.specs.Terms.{Read}
use Rattle.ab_norm.specs.ab_store.specs.declared.node.TermId.{TermId}
use Rattle.ab_norm.specs.ab_store.specs.Trees.{Contents}
use Rattle.ab_norm.specs.NodeGrowth.{AddsTypedTerms}
use Rattle.ab_unify.specs.StoreChanges as changed
use Rattle.ab_unify.proofs.Growth.{grows_terms}
use Rattle.ab_formulas.specs.Declarations.{Declarations}
use Rattle.ab_formulas.specs.Programs.{program_in}
use Rattle.ab_logic.specs.WorldGrowth.{Grows}
use Rattle.ab_logic.specs.Worlds.{IsWorld, Holds, read, declarations_of}
use Rattle.ab_logic.specs.declared.world.World.{World}
use Rattle.ab_logic.proofs.Growing.{grows_store}
use Rattle.ab_theory.specs.Judgements as plain
use Rattle.ab_theory.specs.Opening as opening
use Rattle.ab_theory.specs.Parts.{parts_of}
use Rattle.ab_theory.specs.SpecRules.{SpecRule, by_part, clauses_for, rules_unfocused, rules_for, rules_of}
use Rattle.ab_theory.specs.Subjects as subjects
use Rattle.ab_alternatives.specs.CaseSteps.{IsLater}
use Rattle.ab_alternatives.specs.ab_equations.proofs.Going.{world_meanwhile}
use Rattle.ab_alternatives.specs.ab_equations.proofs.Restored.{declarations_same}
use Rattle.ab_judgement_forms.specs.JudgementReadings.{judgement_read, HoldsJudgement}
use Rattle.ab_judgement_forms.specs.KindReadings.{kind_read}
use Rattle.ab_judgement_forms.specs.declared.kinds.Kind.{Kind}
use Rattle.ab_judgement_forms.specs.declared.kinds.Kind.TheVariants.{Atomic, Undetermined}
use Rattle.ab_judgement_forms.specs.PartReadings.{part_read}
use Rattle.ab_judgements.specs.RuleWalks.{slots, rules_in, HasListed}
use Rattle.ab_judgements.specs.SubjectReadings.{HasRules}
use Rattle.ab_judgement_forms.specs.declared.focus_parts.Part.{Part as KeptPart}
use Rattle.ab_judgement_forms.specs.declared.judgements.Judgement.{Judgement}
use Rattle.ab_judgements.specs.declared.rule_places.Source.TheVariants.{Program}
use Rattle.ab_judgements.specs.declared.subjects.Subject.TheVariants as subject
use Rattle.ab_judgements.proofs.RuleSlots.{program_rules, part_slots, part_rules, focus_rules}

-- types, terms and cells were added
pub made_later : (w v : World) → changed.Grows w.types w.store v.types v.store → v.additions ≡ w.additions → Grows w v → IsWorld w → IsLater w v
made_later w v grown additions grows is = record { grown = grown; additions = additions; grows = grows; declared = declarations_same w v (world_meanwhile w is) grown additions }

-- terms were added
pub later_terms : (w : World) (S : Contents) → IsWorld w → AddsTypedTerms w.types w.store S → IsLater w (record { types = w.types; store = S; additions = w.additions })
later_terms w S is adds =
    let v : World = record { types = w.types; store = S; additions = w.additions } in
    let grown = grows_terms w.types w.store S adds in
    record {
      grown = grown;
      additions = refl;
      grows = grows_store w.types w.store S w.additions is adds.before adds.typed;
      declared = declarations_same w v (world_meanwhile w is) grown refl;
    }

module _ (w v : World) (grows : Grows w v) (j : Judgement) (held : HoldsJudgement w j) where
  pub focus_same : (o : Option TermId) → IfSome o (Holds w) → option_map (read v) o ≡ option_map (read w) o
  focus_same None h = refl
  focus_same (Some F) h = ap Some (grows.readings F h)

  pub judgement_same : judgement_read v j ≡ judgement_read w j
  judgement_same =
      let make : Read → Option Read → Read → plain.Judgement = λ L F G. record { sign = (judgement_read w j).sign; context = L; focus = F; goal = G } in
      ap (λ L. make L (option_map (read v) j.focus) (read v j.goal)) (grows.readings j.context held.context)
      ∙ ap (λ F. make (read w j.context) F (read v j.goal)) (focus_same j.focus held.focus)
      ∙ ap (make (read w j.context) (option_map (read w) j.focus)) (grows.readings j.goal held.goal)

-- the same rules
pub same_listed : (w v : World) → IsLater w v → (j : Judgement) → HoldsJudgement w j → (rs : List SpecRule) → HasListed w j rs → HasListed v j rs
same_listed w v later j held rs e =
    ap (λ (D : Declarations). rules_of (program_in D) (judgement_read v j)) later.declared
    ∙ ap (rules_of (program_in (declarations_of w))) (judgement_same w v later.grows j held) ∙ e

are_known : {A B : Type 0} (f : A → B) (o : Option A) → IsSome (option_map f o) → IsSome o
are_known f None h = h
are_known f (Some x) h = refl

module _ (w : World) (j : Judgement) where
  pub rules_known : HasRules w (subject.Judgement j) → IsSome (rules_of (program_in (declarations_of w)) (judgement_read w j))
  rules_known h = are_known (subjects.a_judgement (judgement_read w j)) (rules_of (program_in (declarations_of w)) (judgement_read w j)) h

  -- an atom has those by the clauses for it, and that by the list
  atom_listed : j.focus ≡ None → opening.kind_of (read w j.goal) ≡ opening.atomic → HasListed w j (rules_in (slots w j Program))
  atom_listed none kind =
      let cs = program_in (declarations_of w) in
      let L = read w j.context in
      let A = read w j.goal in
      ap (λ f. rules_for cs (option_map (read w) f) L A) none
      ∙ ap (rules_unfocused cs L A) kind
      ∙ ap Some (sym (program_rules (clauses_for A cs) L))

  pub program_listed : HasRules w (subject.Judgement j) → j.focus ≡ None → (k : Kind) → kind_read k ≡ opening.kind_of (read w j.goal) → (k ≡ Atomic) ⊎ (k ≡ Undetermined) → HasListed w j (rules_in (slots w j Program))
  program_listed has none k kind (inl e) = atom_listed none (sym kind ∙ ap kind_read e)
  program_listed has none k kind (inr e) =
      let cs = program_in (declarations_of w) in
      let L = read w j.context in
      let A = read w j.goal in
      let turn : rules_of cs (judgement_read w j) ≡ None = ap (λ f. rules_for cs (option_map (read w) f) L A) none ∙ ap (rules_unfocused cs L A) (sym kind ∙ ap kind_read e) in
      let known : IsSome {T = List SpecRule} None = subst (λ (o : Option (List SpecRule)). IsSome o) turn (rules_known has) in
      absurd (cc)

  -- one with a formula in focus has those by its parts
  pub focus_listed : (v : World) → IsLater w v → HoldsJudgement w j → HasRules w (subject.Judgement j) → (F : TermId) → j.focus ≡ Some F → (ps : List KeptPart) → map (part_read v.types v.store) ps ≡ parts_of (read w F)
      → HasListed v j (rules_in (part_slots (part_read v.types v.store) ps))
  focus_listed v later held has F is ps reads =
      let cs = program_in (declarations_of w) in
      let L = read w j.context in
      let A = read w j.goal in
      let turn : rules_of cs (judgement_read w j) ≡ rules_for cs (Some (read w F)) L A = ap (λ f. rules_for cs (option_map (read w) f) L A) is in
      let known : IsSome (rules_for cs (Some (read w F)) L A) = subst (λ (o : Option (List SpecRule)). IsSome o) turn (rules_known has) in
      same_listed w v later j held (rules_in (part_slots (part_read v.types v.store) ps))
      (turn ∙ focus_rules (parts_of (read w F)) (opening.kind_of A) known
      ∙ ap Some (sym (part_rules (part_read v.types v.store) ps ∙ ap (map by_part) reads)))
