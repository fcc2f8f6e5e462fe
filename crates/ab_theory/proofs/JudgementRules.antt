-- A RULE IS ONE OF ITS JUDGEMENT; and the parts of a judgement are typed and known, where the formula is that says it.
use Rattle.std.proofs.Common.{◌≡◌, inl, inr, ℕ, List, [], ◌∷◌, ◌++◌, map, Bool, true, false, bytes_eq, Option, Some, None, refl, sym, ◌∙◌, ap, subst}
use Rattle.std.specs.Prelude.{All, Contains, if◌then◌else◌}
use Rattle.std.specs.List.{list_any}
use Rattle.std.proofs.lemmas.List.Elements.{All-contains, Contains-append_cases, Contains-append_left, Contains-append_right}
use Rattle.std.proofs.lemmas.Slice.Eq.{bytes_eq-Decides}
use Rattle.ab_term.specs.Types.{Ty, arrow, prop, o, olist}
use Rattle.ab_term.specs.Logical as logic
use Rattle.ab_term.specs.Terms as tree
use Rattle.ab_term.specs.Terms.{Nominal, constant, logical, nominal, variable, index, lam, spine, Terms, no_terms, term, Read}
use Rattle.ab_term.specs.Typing.{Signature, HasType, TakeType, typed_spine, take_term}
use Rattle.ab_term.specs.Names.{support}
use Rattle.ab_term.specs.Variables.{variables}
use Rattle.ab_term.proofs.Lists.{Contains-none, Contains-cases, Contains-from_map}
use Rattle.ab_unifiers.specs.Clauses.{Clause}
use Rattle.ab_unifiers.proofs.Choosing.{contains_kept}
use Rattle.ab_formulas.specs.Forms as forms
use Rattle.ab_formulas.specs.Forms.{Form, form_of}
use Rattle.ab_formulas.specs.Marks.{Sign, plain as unmarked}
use Rattle.ab_formulas.specs.Programs.{Program, IsProgramClause}
use Rattle.ab_theory.specs.Judgements.{Judgement, judgement_as, judgement_in, as_judgement, unless_focused, parts_unfocused, as_unfocused}
use Rattle.ab_theory.specs.Opening.{Kind, compound, atomic, undetermined, kind_of, is_undetermined}
use Rattle.ab_theory.specs.Parts.{Part, parts_of}
use Rattle.ab_theory.specs.SpecRules.{SpecRule, by_clause, by_list, by_opening, by_part, clauses_for, is_nil, list_rules, rules_unfocused, rules_in_focus, rules_for, rules_of}
use Rattle.ab_theory.proofs.Known.{Known, known_first, known_second}
use Rattle.ab_theory.proofs.Marked.{with_mark_support, with_mark_variables}
use Rattle.ab_theory.proofs.Sized.{marked_form, unmarked_typed}
use Rattle.ab_theory.proofs.Demanded.{IsKnown}
use Rattle.ab_theory.proofs.RuleDemands.{JudgementKnown, IsRuleOf}

clause_of_head : (sg : Signature) (cs : Program) → All (IsProgramClause sg) cs → (G : Read) (c : Clause (List ℕ)) → Contains (clauses_for G cs) c → IsProgramClause sg c × (ts : Terms ℕ (List ℕ)) × (G ≡ spine (constant c.predicate) ts)
clause_of_head sg cs all (spine (constant p) ts) c m =
    let w = contains_kept (λ (c : Clause (List ℕ)). bytes_eq c.predicate p) cs c m in
    (All-contains (IsProgramClause sg) cs c all w.0, ts, ap (λ q. spine (constant q) ts) (sym ((bytes_eq-Decides c.predicate p).0 w.1)))
clause_of_head sg cs all (lam A x t) c m = absurd (Contains-none c m)
clause_of_head sg cs all (spine (logical l) ts) c m = absurd (Contains-none c m)
clause_of_head sg cs all (spine (nominal a) ts) c m = absurd (Contains-none c m)
clause_of_head sg cs all (spine (variable y) ts) c m = absurd (Contains-none c m)
clause_of_head sg cs all (spine (index i) ts) c m = absurd (Contains-none c m)

module _ (sg : Signature) (cs : Program) (all : All (IsProgramClause sg) cs) (j : Judgement) where
  abbrev Is : SpecRule → Type 0
  Is = IsRuleOf sg j

  of_list : (b : Bool) (r : SpecRule) → Contains (if b then [] else (by_list ∷ [])) r → Is r
  of_list true r m = absurd (Contains-none r m)
  of_list false r m = elim (Contains-cases by_list [] r m) [ inl e ↦ subst Is e tt | inr n ↦ absurd (Contains-none r n) ]

  of_unfocused : (k : Kind) (rs : List SpecRule) → rules_unfocused cs j.context j.goal k ≡ Some rs → (r : SpecRule) → Contains rs r → Is r
  of_unfocused undetermined rs e r m = absurd (cc)
  of_unfocused compound rs e r m =
      let same : by_opening ∷ [] ≡ rs = cc in
      elim (Contains-cases by_opening [] r (subst (λ l. Contains l r) (sym same) m)) [ inl f ↦ subst Is f tt | inr n ↦ absurd (Contains-none r n) ]
  of_unfocused atomic rs e r m =
      let same : map by_clause (clauses_for j.goal cs) ++ list_rules j.context ≡ rs = cc in
      elim (Contains-append_cases (map by_clause (clauses_for j.goal cs)) (list_rules j.context) r (subst (λ l. Contains l r) (sym same) m)) [
        | inl a ↦ (let w = Contains-from_map by_clause (clauses_for j.goal cs) r a in subst Is w.2 (clause_of_head sg cs all j.goal w.0 w.1))
        | inr a ↦ of_list (is_nil j.context) r a
      ]

  of_parts : (F : Read) → j.focus ≡ Some F → (b : Bool) (rs : List SpecRule) → (if b then None else Some (map by_part (parts_of F))) ≡ Some rs → (r : SpecRule) → Contains rs r → Is r
  of_parts F f true rs e r m = absurd (cc)
  of_parts F f false rs e r m =
      let same : map by_part (parts_of F) ≡ rs = cc in
      let w = Contains-from_map by_part (parts_of F) r (subst (λ l. Contains l r) (sym same) m) in
      subst Is w.2 (F, f, w.1)

  of_focused : (F : Read) → j.focus ≡ Some F → (k : Kind) (rs : List SpecRule) → rules_in_focus (parts_of F) k ≡ Some rs → (r : SpecRule) → Contains rs r → Is r
  of_focused F f undetermined rs e r m = absurd (cc)
  of_focused F f compound rs e r m = of_parts F f (list_any (λ (p : Part). is_undetermined (kind_of p.atom)) (parts_of F)) rs e r m
  of_focused F f atomic rs e r m = of_parts F f (list_any (λ (p : Part). is_undetermined (kind_of p.atom)) (parts_of F)) rs e r m

  of_rules : (o : Option Read) → j.focus ≡ o → (rs : List SpecRule) → rules_for cs o j.context j.goal ≡ Some rs → (r : SpecRule) → Contains rs r → Is r
  of_rules None f rs e r m = of_unfocused (kind_of j.goal) rs e r m
  of_rules (Some F) f rs e r m = of_focused F f (kind_of j.goal) rs e r m

  -- EACH OF THE RULES is one of the judgement
  pub is_rule_of : (rs : List SpecRule) → rules_of cs j ≡ Some rs → (r : SpecRule) → Contains rs r → IsRuleOf sg j r
  is_rule_of rs e r m = of_rules j.focus refl rs e r m

-- THE PARTS OF A JUDGEMENT are typed and known

module _ (sg : Signature) (P : tree.Variable ℕ → Type 0) (M : List Nominal) where
  abbrev K : Read → Type 0
  K = Known P M

  second_of_three : (L F A : Read) → K (spine (logical logic.focused_judgement) (term L (term F (term A no_terms)))) → K F
  second_of_three L F A k = record {
    over = λ y m. k.over y (Contains-append_right (variables L) (variables F ++ (variables A ++ [])) y (Contains-append_left (variables F) (variables A ++ []) y m));
    names = λ a m. k.names a (Contains-append_right (support L) (support F ++ (support A ++ [])) a (Contains-append_left (support F) (support A ++ []) a m));
  }

  third_of_three : (L F A : Read) → K (spine (logical logic.focused_judgement) (term L (term F (term A no_terms)))) → K A
  third_of_three L F A k = record {
    over = λ y m. k.over y (Contains-append_right (variables L) (variables F ++ (variables A ++ [])) y (Contains-append_right (variables F) (variables A ++ []) y (Contains-append_left (variables A) [] y m)));
    names = λ a m. k.names a (Contains-append_right (support L) (support F ++ (support A ++ [])) a (Contains-append_right (support F) (support A ++ []) a (Contains-append_left (support A) [] a m)));
  }

  arguments_taken : {l : logic.Logical} {ts : Terms ℕ (List ℕ)} {A : Ty} → HasType sg [] (spine (logical l) ts) A → TakeType sg [] ts (logic.logical_type l) A
  arguments_taken {l = l} {ts = ts} {A = A} (typed_spine {A = D} e ds) = let same : D ≡ logic.logical_type l = cc in subst (λ E. TakeType sg [] ts E A) same ds

  first_taken : {A B C : Ty} {t : Read} {ts : Terms ℕ (List ℕ)} → TakeType sg [] (term t ts) (arrow A B) C → HasType sg [] t A
  first_taken (take_term d ds) = d

  rest_taken : {A B C : Ty} {t : Read} {ts : Terms ℕ (List ℕ)} → TakeType sg [] (term t ts) (arrow A B) C → TakeType sg [] ts B C
  rest_taken (take_term d ds) = ds

  as_parts : (m : Sign) (C : Read) (j : Judgement) → judgement_as m C ≡ Some j → HasType sg [] C prop → K C → JudgementKnown sg P M j
  as_parts m (spine (logical logic.judgement) (term L (term G no_terms))) j e d k =
      let made : Judgement = record { sign = m; context = L; focus = None; goal = G } in
      let same : made ≡ j = cc in
      let ds = arguments_taken d in
      subst (JudgementKnown sg P M) same
      (record {
        context = record { typed = first_taken ds; known = known_first P M logic.judgement L (term G no_terms) k };
        focus = tt;
        goal = record { typed = first_taken (rest_taken ds); known = known_second P M logic.judgement L G k };
      })
  as_parts m (spine (logical logic.focused_judgement) (term L (term F (term A no_terms)))) j e d k =
      let made : Judgement = record { sign = m; context = L; focus = Some F; goal = A } in
      let same : made ≡ j = cc in
      let ds = arguments_taken d in
      let es = rest_taken ds in
      subst (JudgementKnown sg P M) same
      (record {
        context = record { typed = first_taken ds; known = known_first P M logic.focused_judgement L (term F (term A no_terms)) k };
        focus = record { typed = first_taken es; known = second_of_three L F A k };
        goal = record { typed = first_taken (rest_taken es); known = third_of_three L F A k };
      })
  as_parts m _ j e d k = absurd (cc)

  pub judgement_known : (F : Read) (j : Judgement) → as_judgement F ≡ Some j → HasType sg [] F prop → Known P M F → JudgementKnown sg P M j
  judgement_known F j e d k = go (form_of F) refl e
    where
      go : (f : Form) → form_of F ≡ f → judgement_in f F ≡ Some j → JudgementKnown sg P M j
      go (forms.marked m A) q e =
          let is = (marked_form F m A q).0 in
          as_parts m A j e (unmarked_typed sg m A (subst (λ G. HasType sg [] G prop) is d))
          (record {
            over = λ y c. k.over y (subst (λ l. Contains l y) (sym (ap variables is ∙ with_mark_variables m A)) c);
            names = λ a c. k.names a (subst (λ l. Contains l a) (sym (ap support is ∙ with_mark_support m A)) c);
          })
      go forms.other q e = as_parts unmarked F j e d k
      go _ q e = absurd (cc)

  -- list and goal, where nothing is in focus
  pub unfocused_known : (F : Read) (p : Read × Read) → as_unfocused F ≡ Some p → HasType sg [] F prop → Known P M F → IsKnown sg P M olist p.0 × IsKnown sg P M o p.1
  unfocused_known F p e d k = go (as_judgement F) refl e
    where
      of_focus : (j : Judgement) (f : Option Read) → JudgementKnown sg P M j → unless_focused f (j.context, j.goal) ≡ Some p → IsKnown sg P M olist p.0 × IsKnown sg P M o p.1
      of_focus j None a e = let same : (j.context, j.goal) ≡ p = cc in subst (λ (q : Read × Read). IsKnown sg P M olist q.0 × IsKnown sg P M o q.1) same (a.context, a.goal)
      of_focus j (Some G) a e = absurd (cc)

      go : (j : Option Judgement) → as_judgement F ≡ j → parts_unfocused j ≡ Some p → IsKnown sg P M olist p.0 × IsKnown sg P M o p.1
      go None q e = absurd (cc)
      go (Some j) q e = of_focus j j.focus (judgement_known F j q d k) e
