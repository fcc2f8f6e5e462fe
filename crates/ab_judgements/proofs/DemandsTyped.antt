-- What a rule demands of a typed judgement has typed equations.
use Rattle.std.proofs.Common.{◌≡◌, ℕ, ◌+◌, List, [], ◌∷◌, ◌++◌, Option, Some, None, sym, ap, subst}
use Rattle.std.specs.Prelude.{Contains, IfSome}
use Rattle.std.specs.List.{All}
use Rattle.std.specs.Option.{option_map}
use Rattle.std.proofs.lemmas.List.Elements.{All-nil, All-cons, All-head, All-tail, Contains-append_left, Contains-append_right}
use Rattle.ab_term.specs.Types.{o}
use Rattle.ab_term.specs.Constants.{type_in}
use Rattle.ab_term.specs.Terms as tree
use Rattle.ab_term.specs.Terms.{Nominal, Read}
use Rattle.ab_term.specs.Typing.{Signature}
use Rattle.ab_term.specs.Names.{support}
use Rattle.ab_norm.specs.ab_types.specs.Entries.{Table, signature}
use Rattle.ab_norm.specs.ab_store.specs.declared.node.Equation.{Equation}
use Rattle.ab_norm.specs.ab_store.specs.declared.node.TermId.{TermId}
use Rattle.ab_norm.specs.ab_store.specs.Trees.{Contents, Holds}
use Rattle.ab_norm.specs.ab_store.specs.Naming.{IsTerm}
use Rattle.ab_unifiers.specs.Member.{HasMember}
use Rattle.ab_unifiers.specs.Unifiers.{AreTyped}
use Rattle.ab_typing.specs.DefinitionReadings.{clause_of}
use Rattle.ab_formulas.specs.Marks.{Sign}
use Rattle.ab_formulas.proofs.ProgramClauses.{is_program_clause}
use Rattle.ab_unify.specs.StoreChanges.{Grows}
use Rattle.ab_unify.specs.UnifyAnswers.{IsTypedPair}
use Rattle.ab_logic.specs.Worlds.{read, IsWorld}
use Rattle.ab_logic.specs.declared.world.World.{World}
use Rattle.ab_logic.proofs.BuiltIn.{has_member}
use Rattle.ab_logic.proofs.Growing.{same_constants}
use Rattle.ab_theory.specs.Judgements.{support_of_focus}
use Rattle.ab_theory.specs.SpecRules.{demand_of}
use Rattle.ab_theory.proofs.Demanded.{IsWellMade}
use Rattle.ab_theory.proofs.RuleDemands.{FocusKnown, JudgementKnown, IsRuleOf, rule_well}
use Rattle.ab_alternatives.specs.LeftAlternatives.{trees_from}
use Rattle.ab_judgement_forms.specs.JudgementReadings.{judgement_read}
use Rattle.ab_judgements.specs.DemandReadings.{rule_read, IsTypedJudgement, IsRuleFor, IsDemandMade, IsDemandTerm}
use Rattle.ab_judgements.specs.declared.demands.DemandTerm.{DemandTerm}
use Rattle.ab_judgements.specs.declared.demands.Rule.{Rule}
use Rattle.ab_judgements.specs.declared.demands.Rule.TheVariants.{Clause, Item, Opening, Part}
use Rattle.ab_judgement_forms.specs.declared.judgements.Judgement.{Judgement}

pairs_typed : (U : Table) (V : Contents) (k : ℕ) (es : List Equation) → AreTyped (signature U) (trees_from U V k es) → All (λ (e : Equation). Holds V e.left × Holds V e.right) es → All (IsTypedPair U V) es
pairs_typed U V k [] d h = All-nil (IsTypedPair U V)
pairs_typed U V k (e ∷ es) d h =
    let held = All-head (λ (q : Equation). Holds V q.left × Holds V q.right) e es h in
    All-cons (IsTypedPair U V) e es ((d.0).0, (d.0).1, (held.0, (d.0).2), (held.1, (d.0).3))
    (pairs_typed U V (k + 1) es d.1 (All-tail (λ (q : Equation). Holds V q.left × Holds V q.right) e es h))

module _ (w : World) (is : IsWorld w) (j : Judgement) (typed : IsTypedJudgement w j) (r : Rule) (fits : IsRuleFor w j r) where
  abbrev sg : Signature
  sg = signature w.types

  abbrev Any : tree.Variable ℕ → Type 0
  Any y = Unit {0}

  lists : HasMember sg
  lists = subst HasMember (sym (same_constants w is)) (has_member w is)

  abbrev its_focus : Option Read
  its_focus = option_map (read w) j.focus

  abbrev M : List Nominal
  M = support (read w j.context) ++ (support_of_focus its_focus ++ support (read w j.goal))

  known_focus : (f : Option TermId) → IfSome f (λ F. IsTerm w.types w.store [] F o) → ((a : Nominal) → Contains (support_of_focus (option_map (read w) f)) a → Contains M a) → FocusKnown sg Any M (option_map (read w) f)
  known_focus None d names = tt
  known_focus (Some F) d names = record { typed = d.1; known = record { over = λ y m. tt; names = names } }

  known : JudgementKnown sg Any M (judgement_read w j)
  known = record {
    context = record { typed = typed.context.1; known = record { over = λ y m. tt; names = λ a m. Contains-append_left (support (read w j.context)) (support_of_focus its_focus ++ support (read w j.goal)) a m } };
    focus = known_focus j.focus typed.focus (λ a m. Contains-append_right (support (read w j.context)) (support_of_focus its_focus ++ support (read w j.goal)) a (Contains-append_left (support_of_focus its_focus) (support (read w j.goal)) a m));
    goal = record { typed = typed.goal.1; known = record { over = λ y m. tt; names = λ a m. Contains-append_right (support (read w j.context)) (support_of_focus its_focus ++ support (read w j.goal)) a (Contains-append_right (support_of_focus its_focus) (support (read w j.goal)) a m) } };
  }

  is_rule : (q : Rule) → IsRuleFor w j q → IsRuleOf sg (judgement_read w j) (rule_read w q)
  is_rule (Clause c) f = (is_program_clause sg (clause_of w.types w.store c) (f.0).well, f.1, f.2)
  is_rule Item f = tt
  is_rule Opening f = tt
  is_rule (Part p) f = (f.1, f.2, f.3)

  pub demanded : (n : ℕ) (m : Sign) (U : Table) (V : Contents) → Grows w.types w.store U V → (made : DemandTerm) → IsDemandTerm w.types w.store (demand_of n m (judgement_read w j) (rule_read w r)) U V made
      → IsDemandMade w.types w.store (demand_of n m (judgement_read w j) (rule_read w r)) U V made
  demanded n m U V grown made d =
      let D = demand_of n m (judgement_read w j) (rule_read w r) in
      let well : IsWellMade sg Any M D = rule_well sg lists Any Any (λ y p. tt) n M m (judgement_read w j) known (rule_read w r) (is_rule r fits) (λ y h. tt) in
      let same : signature U ≡ sg = ap type_in grown.constants in
      let equal : AreTyped (signature U) (trees_from U V 0 made.equations.items) =
      subst (λ s. AreTyped s (trees_from U V 0 made.equations.items)) (sym same) (subst (AreTyped sg) (sym d.equations) well.typed) in
      record { cells = d.cells; own = d.own; equations = d.equations; typed = pairs_typed U V 0 made.equations.items equal d.sides_held; held = d.held; body = d.body }
