-- The body that a rule demands of a typed judgement is a formula.
use Rattle.std.specs.Prelude.{Contains, IfSome}
use Rattle.std.specs.Option.{option_map}
use Rattle.std.proofs.Common.{ℕ, List, [], ◌++◌, Option, Some, None, subst}
use Rattle.std.proofs.lemmas.List.Elements.{Contains-append_left, Contains-append_right}
use Rattle.ab_term.specs.Types.{Ty, o, olist}
use Rattle.ab_term.specs.Terms as tree
use Rattle.ab_term.specs.Terms.{Nominal, Read}
use Rattle.ab_term.specs.Typing.{Signature, HasType}
use Rattle.ab_term.specs.Names.{support}
use Rattle.ab_norm.specs.ab_store.specs.Naming.{IsTerm}
use Rattle.ab_norm.specs.ab_store.specs.declared.node.TermId.{TermId}
use Rattle.ab_norm.specs.ab_types.specs.Entries.{signature}
use Rattle.ab_formulas.specs.Declarations.{signature_in}
use Rattle.ab_formulas.specs.Formulas.{IsFormula}
use Rattle.ab_formulas.specs.Marks.{Sign}
use Rattle.ab_formulas.proofs.ProgramClauses.{is_program_clause}
use Rattle.ab_typing.specs.DefinitionReadings.{clause_of}
use Rattle.ab_formulas.specs.Programs.{IsProgramClause}
use Rattle.ab_logic.specs.Worlds.{IsWorld, read, clause_read, declarations_of}
use Rattle.ab_logic.specs.declared.world.World.{World}
use Rattle.ab_logic.proofs.BuiltIn.{has_member}
use Rattle.ab_logic.proofs.Growing.{same_constants}
use Rattle.ab_theory.specs.Judgements.{support_of_focus}
use Rattle.ab_theory.specs.SpecRules.{demand_of}
use Rattle.ab_theory.proofs.RuleDemands.{FocusKnown, JudgementKnown, IsRuleOf, rule_well}
use Rattle.ab_judgements.specs.DemandReadings.{rule_read, IsTypedJudgement, IsRuleFor}
use Rattle.ab_judgement_forms.specs.JudgementReadings.{judgement_read}
use Rattle.ab_judgements.specs.declared.demands.Rule.{Rule}
use Rattle.ab_judgements.specs.declared.demands.Rule.TheVariants.{Clause, Item, Opening, Part}
use Rattle.ab_judgement_forms.specs.declared.judgements.Judgement.{Judgement}

abbrev Any : tree.Variable ℕ → Type 0
Any y = Unit {0}

module _ (w : World) (is : IsWorld w) (j : Judgement) (typed : IsTypedJudgement w j) where
  abbrev sg : Signature
  sg = signature_in (declarations_of w)

  here : (t : TermId) (A : Ty) → IsTerm w.types w.store [] t A → HasType sg [] (read w t) A
  here t A h = subst (λ (s : Signature). HasType s [] (read w t) A) (same_constants w is) h.1

  abbrev of_focus : List Nominal
  of_focus = support_of_focus (option_map (read w) j.focus)

  abbrev all : List Nominal
  all = support (read w j.context) ++ (of_focus ++ support (read w j.goal))

  focus_known : (f : Option TermId) → IfSome f (λ F. IsTerm w.types w.store [] F o) → ((a : Nominal) → Contains (support_of_focus (option_map (read w) f)) a → Contains all a) → FocusKnown sg Any all (option_map (read w) f)
  focus_known None h within = tt
  focus_known (Some F) h within = record { typed = here F o h; known = record { over = λ y c. tt; names = within } }

  known : JudgementKnown sg Any all (judgement_read w j)
  known = record {
    context = record {
      typed = here j.context olist typed.context;
      known = record { over = λ y c. tt; names = λ a c. Contains-append_left (support (read w j.context)) (of_focus ++ support (read w j.goal)) a c };
    };
    focus = focus_known j.focus typed.focus (λ a c. Contains-append_right (support (read w j.context)) (of_focus ++ support (read w j.goal)) a (Contains-append_left of_focus (support (read w j.goal)) a c));
    goal = record {
      typed = here j.goal o typed.goal;
      known = record {
        over = λ y c. tt;
        names = λ a c. Contains-append_right (support (read w j.context)) (of_focus ++ support (read w j.goal)) a (Contains-append_right of_focus (support (read w j.goal)) a c);
      };
    };
  }

  rule_is : (r : Rule) → IsRuleFor w j r → IsRuleOf sg (judgement_read w j) (rule_read w r)
  rule_is (Clause c) h =
      (subst (λ (s : Signature). IsProgramClause s (clause_read w c)) (same_constants w is) (is_program_clause (signature w.types) (clause_of w.types w.store c) (h.0).well), h.1, h.2)
  rule_is Item h = tt
  rule_is Opening h = tt
  rule_is (Part p) h = (h.1, h.2, h.3)

  pub body_formula : (r : Rule) → IsRuleFor w j r → (n : ℕ) (m : Sign) → IsFormula sg (demand_of n m (judgement_read w j) (rule_read w r)).body
  body_formula r h n m = (rule_well sg (has_member w is) Any Any (λ y p. tt) n all m (judgement_read w j) known (rule_read w r) (rule_is r h) (λ y p. tt)).formula
