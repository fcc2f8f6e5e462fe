-- The step by a rule of the specification logic: what the conclusion unfolds to comes to a sequent like the goal that is left.
use Rattle.std.proofs.Common.{◌≡◌, ◌≢◌, ◌⊎◌, inl, inr, ℕ, List, [], ◌∷◌, ◌++◌, map, length, drop, codes, true, Some, refl, sym, ◌∙◌, ap, subst, arith, length-append}
use Rattle.std.specs.Option.{option_map}
use Rattle.std.specs.Prelude.{All, AllPairs, Contains, slice_get}
use Rattle.std.proofs.lemmas.List.Elements.{All-nil, All-contains, Contains-append_left, Contains-append_right}
use Rattle.std.proofs.lemmas.Option.{slice_get_within}
use Rattle.ab_term.specs.Types.{prop}
use Rattle.ab_term.specs.Terms as tree
use Rattle.ab_term.specs.Terms.{Nominal, constant, spine, terms_of, Read}
use Rattle.ab_term.specs.Typing.{Signature, HasType}
use Rattle.ab_term.specs.Names.{support, support_of_all, rename, rename_all, permute, moved_by, HasOneTypeEach}
use Rattle.ab_term.specs.Translation.{forget}
use Rattle.ab_term.specs.Variables.{Substitution, variables, image, image_all}
use Rattle.ab_term.specs.Sameness.{same_number}
use Rattle.ab_term.proofs.Compositions.{image_typed}
use Rattle.ab_term.proofs.Lists.{All-from_contains}
use Rattle.ab_unifiers.specs.Replacements.{Cell, holds}
use Rattle.ab_unifiers.specs.Unifiers.{AreKnown}
use Rattle.ab_unifiers.specs.Clauses.{numbered}
use Rattle.ab_unifiers.specs.Member.{HasMember}
use Rattle.ab_unifiers.proofs.Choosing.{contains_kept, kept_pairs}
use Rattle.ab_unifiers.proofs.Problems.{answer_typed, answer_clean}
use Rattle.ab_unifiers.proofs.Rows.{numbered_within}
use Rattle.ab_formulas.specs.BodyMarks.{MayBeUnfolded, mark_above}
use Rattle.ab_formulas.specs.Declarations.{Declarations, signature_in}
use Rattle.ab_formulas.specs.Programs.{HavePrograms, program_in}
use Rattle.ab_formulas.specs.Sequents.{Variable, Sequent, IsSequent, formulas, goal_names, names_of, proving}
use Rattle.ab_theory.specs.Equations.{AreCells, stays, made, variables_from}
use Rattle.ab_theory.specs.Judgements.{Judgement, as_judgement}
use Rattle.ab_theory.specs.Row.{Takes}
use Rattle.ab_theory.specs.Rules.{row, any_name, by_hint, IsNew}
use Rattle.ab_theory.specs.SpecInstances.{first_own}
use Rattle.ab_theory.specs.SpecRules.{SpecRule, Demand, demand_of}
use Rattle.ab_theory.specs.Steps.{definition_right}
use Rattle.ab_theory.specs.Subjects.{a_judgement, with_rules, atom_or, subject_of, way_by_rule}
use Rattle.ab_theory.specs.Unfolding.{exists_all}
use Rattle.ab_theory.proofs.Demanded.{IsWellMade}
use Rattle.ab_theory.proofs.JudgementRules.{is_rule_of, judgement_known}
use Rattle.ab_theory.proofs.JudgementSequents.{IsOneOf}
use Rattle.ab_theory.proofs.OneAnswer.{taken_or_stuck, names_by_hint}
use Rattle.ab_theory.proofs.OneList.{one_list_of}
use Rattle.ab_theory.proofs.RuleDemands.{JudgementKnown, IsRuleOf, rule_well}
use Rattle.ab_theory.proofs.Sequents.{goal_of}
use Rattle.ab_theory.proofs.SubjectParts.{made_there, listed_at}
use Rattle.ab_search_proofs.specs.Likeness.{StandIn, replaced, replacing, IsLike, IsLikeGoal}
use Rattle.ab_search_proofs.specs.Taking.{LeadsTo}
use Rattle.ab_search_proofs.specs.Coming.{ComesTo}
use Rattle.ab_search_proofs.specs.Proved.{IsRuleSolved, IsByRule}
use Rattle.ab_search_proofs.proofs.StandIns.{under_support}
use Rattle.ab_search_proofs.proofs.JudgementsAlike.{JudgementLike, judgement_like}
use Rattle.ab_search_proofs.proofs.Witnesses.{qs, qs_permutes, qs_same, sorts}
use Rattle.ab_search_proofs.proofs.Comes.{terms_come}
use Rattle.ab_search_proofs.proofs.Unfolds.{from_number, from_differ, names_inside}
use Rattle.ab_search_proofs.proofs.Taken.{leads_to}

abbrev Cells : Type 0
Cells = List (Cell (List ℕ))

-- some terms as one: it has their constants
abbrev together : List Read → Read
together us = spine (constant []) (terms_of us)

together_holds : (m : Nominal → Nominal) (r : Substitution ℕ (List ℕ)) (us : List Read) → names_of (map (λ u. rename m (image same_number r u)) us) ≡ support_of_all (rename_all m (image_all same_number r (terms_of us)))
together_holds m r [] = refl
together_holds m r (u ∷ us) = ap (λ l. support (rename m (image same_number r u)) ++ l) (together_holds m r us)

module _ (D : Declarations) (programs : HavePrograms D) (has : HasMember (signature_in D)) (vs : List StandIn) (Hs : List Read) (C : Read) (s : Sequent) (is : IsSequent D s) (l : IsLikeGoal D vs Hs C s)
    (us : List Read) (B : Read) (i : IsByRule D (map replaced vs) C us B) where
  abbrev sg : Signature
  sg = signature_in D

  pub like_judgement : JudgementLike D vs (l.conclusion.same).0 i.judgement s.conclusion
  like_judgement = judgement_like D vs C s.conclusion l.conclusion i.judgement i.is

  abbrev j : Judgement
  j = like_judgement.judged

  abbrev ps : List (Nominal × Nominal)
  ps = qs D vs Hs C s is l (together us)

  abbrev K : Read
  K = permute ps (image same_number (replacing vs) B)

  finish : (G : Read) → forget G ≡ forget K → IsLike D vs B G
  finish G e = record { formula = i.formula; known = i.known; same = (ps, qs_permutes D vs Hs C s is l (together us), sym e) }

  one_type : HasOneTypeEach (goal_names s ++ names_of (map (λ u. permute ps (image same_number (replacing vs) u)) us))
  one_type = subst (λ k. HasOneTypeEach (goal_names s ++ k)) (sym (together_holds (moved_by ps) (replacing vs) us)) (sorts D vs Hs C s is l (together us))

  known : JudgementKnown sg (IsOneOf s.variables) (goal_names s) j
  known =
      let may = (goal_of D s is).conclusion in
      judgement_known sg (IsOneOf s.variables) (goal_names s) s.conclusion j like_judgement.is may.formula.typed
      (record { over = λ y c. All-contains (IsOneOf s.variables) (variables s.conclusion) y may.closed c; names = may.names })

  -- at these cells
  module _ (cells : Cells) (are : AreCells cells s) (r : SpecRule) (rule : IsRuleOf sg j r) (so : IsRuleSolved D s j r cells K) where
    abbrev d : Demand
    d = demand_of (length cells) (mark_above j.sign) j r

    abbrev front : Cells
    front = cells ++ d.passing

    abbrev flexible : List (tree.Variable ℕ)
    flexible = numbered (length front) d.own

    -- the sequent's variables and the rule's own
    abbrev Here : tree.Variable ℕ → Type 0
    Here y = IsOneOf s.variables y ⊎ (holds (numbered (first_own (length cells) d) d.own) y ≡ true)

    pub well : IsWellMade sg Here (goal_names s) d
    well = rule_well sg has (IsOneOf s.variables) Here (λ y m. inl m) (length cells) (goal_names s) (mark_above j.sign) j known r rule (λ y h. inr h)

    flexible_known : AreKnown (front ++ d.own) flexible
    flexible_known y h = let low = (numbered_within (length front) d.own y h).1 in let long = length-append front d.own in omega (arith, low, long)

    abbrev F : Read
    F = image same_number so.answer d.body

    F_typed : HasType sg [] F prop
    F_typed = image_typed sg same_number so.answer (answer_typed sg (codes "x") d.equations (front ++ d.own) flexible well.typed flexible_known so.more so.answer so.solved) well.formula.typed

    F_held : (a : Nominal) → Contains (support F) a → Contains (goal_names s) a
    F_held a m = well.body.names a (under_support so.answer (answer_clean sg (codes "x") d.equations (front ++ d.own) flexible well.typed flexible_known so.more so.answer so.solved) d.body a m)

    abbrev M : List Nominal
    M = goal_names s ++ names_of so.terms

    abbrev ws : List Variable
    ws = made front so.more so.answer

    new : All (λ (w : Variable). IsNew w.number s) ws
    new = All-from_contains (λ (w : Variable). IsNew w.number s) ws (λ w m.
        let high = from_number (length front) (drop (length front) so.more) w (contains_kept (stays so.answer) (variables_from (length front) (drop (length front) so.more)) w m).0 in
        All-from_contains (λ (x : Variable). x.number ≢ w.number) s.variables (λ x n q.
        let low = slice_get_within cells x.number (record { hint = x.name; type = x.type }) (All-contains (λ (x : Variable). slice_get cells x.number ≡ Some (record { hint = x.name; type = x.type })) s.variables x are n) in
        let long = length-append cells d.passing in
        omega (arith, low, high, q, long)))

    differ : AllPairs (λ (v w : Variable). v.number ≢ w.number) ws
    differ = kept_pairs (stays so.answer) (λ (v w : Variable). v.number ≢ w.number) (variables_from (length front) (drop (length front) so.more)) (from_differ (length front) (drop (length front) so.more))

    pub ruled_comes : ComesTo D vs Hs B (proving (exists_all ws F) s)
    ruled_comes =
        terms_come D vs Hs C s l B K finish M so.one_type (λ a m. Contains-append_left (goal_names s) (names_of so.terms) a (Contains-append_right (support s.conclusion) (names_of (formulas s.hypotheses)) a m)) [] []
        ws so.terms F (exists_all ws F) F_typed so.typed so.known new differ (All-nil (λ a. ¬ Contains (support F) a)) (All-from_contains (λ t. All (λ a. ¬ Contains (support t) a) []) so.terms (λ t m. All-nil (λ a. ¬ Contains (support t) a)))
        (λ a m. Contains-append_left (goal_names s) (names_of so.terms) a (F_held a m)) (All-from_contains (λ t. (a : Nominal) → Contains (support t) a → Contains M a) so.terms (λ t m a k. Contains-append_right (goal_names s) (names_of so.terms) a (names_inside so.terms t a m k)))
        so.body refl

  -- WHERE IT LEADS
  abbrev pub Comes : List Sequent → Type 0
  Comes qs = (t : Sequent) × (qs ≡ t ∷ []) × ComesTo D vs Hs B t

  pub rule_step : (place : ℕ) × LeadsTo D (definition_right place) s Comes
  rule_step =
      let at = i.solved vs s ps j refl l.variables is (qs_permutes D vs Hs C s is l (together us)) (qs_same D vs Hs C s is l (together us)) like_judgement.is one_type in
      let rs = at.rules in
      let r = at.rule in
      let rule : IsRuleOf sg j r = is_rule_of sg (program_in D) programs j rs at.known r (listed_at rs at.place r at.there) in
      let subject : subject_of D s.conclusion ≡ Some (a_judgement j rs) =
      ap (λ o. atom_or o (with_rules D (as_judgement s.conclusion))) like_judgement.no_atom ∙ ap (with_rules D) like_judgement.is ∙ ap (option_map (a_judgement j)) at.known in
      let may : MayBeUnfolded j.sign = subst MayBeUnfolded (sym like_judgement.sign) i.may in
      let way = made_there (way_by_rule s j) rs at.place r at.there in
      let so : (cells : Cells) → AreCells cells s → IsRuleSolved D s j r cells K = at.solved in
      let next : (cells : Cells) → AreCells cells s → Sequent = λ cells are. proving (exists_all (made (cells ++ (demand_of (length cells) (mark_above j.sign) j r).passing) (so cells are).more (so cells are).answer) (F cells are r rule (so cells are))) s in
      let taken : (cells : Cells) (are : AreCells cells s) → Takes (row D (any_name cells) (definition_right at.place) s) (next cells are ∷ []) =
      λ cells are. (a_judgement j rs, subject, (may, (way_by_rule s j r, way, ((so cells are).more, (so cells are).answer, (so cells are).solved, refl)))) in (
        at.place,
        leads_to D (definition_right at.place) s Comes (λ cells are. (next cells are ∷ [], taken cells are))
            (λ cells are k f. taken_or_stuck (row D (by_hint D cells) (definition_right at.place) s) (names_by_hint D cells (definition_right at.place) s) (next cells are ∷ []) k (taken cells are) f)
            (λ cells are qs t. (next cells are, one_list_of D cells s is (definition_right at.place) qs (next cells are ∷ []) t (taken cells are), ruled_comes cells are r rule (so cells are))),
      )
