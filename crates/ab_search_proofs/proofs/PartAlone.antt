-- A PART OF THE FORMULA IN FOCUS that has no names of its own: where its atom is the goal, it is solved wherever the judgement may come to stand.
use Rattle.std.proofs.Common.{◌≡◌, inl, inr, ℕ, List, [], ◌∷◌, map, Some, refl, sym, ◌∙◌, ap, subst}
use Rattle.std.specs.Prelude.{Contains}
use Rattle.std.proofs.lemmas.Bool.{false≢true}
use Rattle.ab_term.specs.Types.{Ty, o}
use Rattle.ab_term.specs.Logical.{conjunction}
use Rattle.ab_term.specs.Terms as tree
use Rattle.ab_term.specs.Terms.{Nominal, Read}
use Rattle.ab_term.specs.Typing.{Signature, HasType}
use Rattle.ab_term.specs.Names.{support, rename, permute, moved_by}
use Rattle.ab_term.specs.Translation.{forget, EqualPastHints}
use Rattle.ab_term.specs.Variables.{variables, image, IsTyped}
use Rattle.ab_term.specs.Sameness.{same_number}
use Rattle.ab_term.proofs.Lists.{Contains-none, Contains-here, Contains-there, Contains-cases, All-from_contains}
use Rattle.ab_term.proofs.Translations.{translate-rename}
use Rattle.ab_unifiers.specs.Replacements.{Cell}
use Rattle.ab_unifiers.specs.Clauses.{Each}
use Rattle.ab_unifiers.specs.Member.{HasMember}
use Rattle.ab_unifiers.specs.Unification.{Equation}
use Rattle.ab_unifiers.proofs.Ruling.{image_none, image_past_hints}
use Rattle.ab_formulas.specs.BodyMarks.{MayBeUnfolded, mark_above}
use Rattle.ab_formulas.specs.Declarations.{Declarations, signature_in}
use Rattle.ab_formulas.specs.Formulas.{IsFormula}
use Rattle.ab_formulas.specs.GoalTerms.{HoldsOnly}
use Rattle.ab_formulas.specs.Marks.{Sign}
use Rattle.ab_formulas.specs.Programs.{program_in}
use Rattle.ab_theory.specs.Judgements.{Judgement, as_judgement}
use Rattle.ab_theory.specs.Opening.{both, open_goal, conjunction_from, conjunction_of}
use Rattle.ab_theory.specs.Parts.{Part, parts_of, put_under}
use Rattle.ab_theory.specs.SpecRules.{SpecRule, by_part, rules_of, demand_of}
use Rattle.ab_theory.proofs.Demanded.{AllGoals, IsWellMade}
use Rattle.ab_theory.proofs.FocusParts.{part_put}
use Rattle.ab_theory.proofs.RuleDemands.{rule_well}
use Rattle.ab_search_proofs.specs.Likeness.{StandIn, replacing}
use Rattle.ab_search_proofs.specs.Proved.{IsByRule}
use Rattle.ab_search_proofs.proofs.StandIns.{stand_ins_typed}
use Rattle.ab_search_proofs.proofs.OpenedAlike.{Like, like_two, opened_like}
use Rattle.ab_search_proofs.proofs.PartThere.{parts, in_focus, found, part_there, IsSolvedThere, by_this_part}
use Rattle.ab_search_proofs.proofs.Alone.{bringing_none, same_sides, solved_so}

-- CONJUNCTIONS of opened goals are like
module _ (sg : Signature) (vs : List StandIn) (typed : IsTyped sg (replacing vs)) (ps : List (Nominal × Nominal)) (k : Sign) (Γ : List Ty) (L M : Read) (lists : Like sg vs typed ps L M) where
  conjoined_like : (F K : Read) (Gs Ks : List Read) → ((G : Read) → Contains Gs G → HasType sg Γ G o) → Each (Like sg vs typed ps) Gs Ks → Like sg vs typed ps F K → Like sg vs typed ps (conjunction_from F (map (open_goal k L) Gs)) (conjunction_from K (map (open_goal k M) Ks))
  conjoined_like F K [] [] d e f = f
  conjoined_like F K [] (H ∷ Ks) d e f = absurd e
  conjoined_like F K (G ∷ Gs) [] d e f = absurd e
  conjoined_like F K (G ∷ Gs) (H ∷ Ks) d e f =
      conjoined_like (both F (open_goal k L G)) (both K (open_goal k M H)) Gs Ks (λ X m. d X (Contains-there G Gs X m)) e.1
      (like_two sg vs typed ps conjunction F (open_goal k L G) K (open_goal k M H) f (opened_like sg vs typed ps k Γ L M G H (d G (Contains-here G Gs)) lists e.0))

  pub conjunction_like : (Gs Ks : List Read) → ((G : Read) → Contains Gs G → HasType sg Γ G o) → Each (Like sg vs typed ps) Gs Ks → Like sg vs typed ps (conjunction_of (map (open_goal k L) Gs)) (conjunction_of (map (open_goal k M) Ks))
  conjunction_like [] [] d e = refl
  conjunction_like [] (H ∷ Ks) d e = absurd e
  conjunction_like (G ∷ Gs) [] d e = absurd e
  conjunction_like (G ∷ Gs) (H ∷ Ks) d e =
      conjoined_like (open_goal k L G) (open_goal k M H) Gs Ks (λ X m. d X (Contains-there G Gs X m)) e.1 (opened_like sg vs typed ps k Γ L M G H (d G (Contains-here G Gs)) lists e.0)

-- NO NAMES
no_names : (cs : List (Cell (List ℕ))) → [] ≡ map (λ (c : Cell (List ℕ)). c.type) cs → cs ≡ []
no_names [] e = refl
no_names (c ∷ cs) e = absurd (cc)

abbrev pub nameless : List Read → Read → Part
nameless Gs A = record { names = []; goals = Gs; atom = A }

as_they_are : (Gs : List Read) → map (put_under [] []) Gs ≡ Gs
as_they_are [] = refl
as_they_are (G ∷ Gs) = ap (λ l. G ∷ l) (as_they_are Gs)

pub nameless_body : (m : Sign) (L : Read) (Gs : List Read) → image same_number [] (conjunction_of (map (open_goal m L) (map (put_under [] []) Gs))) ≡ conjunction_of (map (open_goal m L) Gs)
nameless_body m L Gs = image_none (conjunction_of (map (open_goal m L) (map (put_under [] []) Gs))) ∙ ap (λ l. conjunction_of (map (open_goal m L) l)) (as_they_are Gs)

pub nameless_demand : (n : ℕ) (m : Sign) (j : Judgement) (Gs : List Read) (A : Read)
    → demand_of n m j (by_part (nameless Gs A)) ≡ bringing_none (record { place = 0; left = image same_number [] A; right = j.goal } ∷ []) (image same_number [] (conjunction_of (map (open_goal m j.context) (map (put_under [] []) Gs))))
nameless_demand n m j Gs A = refl

goals_typed : (sg : Signature) (P : tree.Variable ℕ → Type 0) (M : List Nominal) (Gs : List Read) → AllGoals sg P M (map (put_under [] []) Gs) → (G : Read) → Contains Gs G → HasType sg [] G o
goals_typed sg P M [] a G m = absurd (Contains-none G m)
goals_typed sg P M (H ∷ Gs) a G m = elim (Contains-cases H Gs G m) [ inl e ↦ subst (λ t. HasType sg [] t o) e (a.0).typed | inr n ↦ goals_typed sg P M Gs a.1 G n ]

module _ (D : Declarations) (has : HasMember (signature_in D)) (ys : List (tree.Variable ℕ)) (C : Read) (formula : IsFormula (signature_in D) C) (known : HoldsOnly ys C) (j : Judgement) (is : as_judgement C ≡ Some j) (may : MayBeUnfolded j.sign)
    (F : Read) (focused : j.focus ≡ Some F) (rs : List SpecRule) (rules : rules_of (program_in D) j ≡ Some rs) (Gs : List Read) (A : Read) (there : Contains (parts_of F) (nameless Gs A)) (meets : EqualPastHints A j.goal) where
  abbrev sg : Signature
  sg = signature_in D

  all_typed : (G : Read) → Contains Gs G → HasType sg [] G o
  all_typed = goals_typed sg (Contains ys) (support C) Gs (part_put sg (Contains ys) (support C) F (in_focus D ys C formula known j is may F focused rs rules) (nameless Gs A) there 0 (λ y m. absurd (Contains-none y m))).1

  -- what is left
  abbrev B : Read
  B = conjunction_of (map (open_goal (mark_above j.sign) j.context) Gs)

  well : IsWellMade sg (Contains ys) (support C) (demand_of 0 (mark_above j.sign) j (by_part (nameless Gs A)))
  well = rule_well sg has (Contains ys) (Contains ys) (λ y m. m) 0 (support C) (mark_above j.sign) j (parts D ys C formula known j is may F focused rs rules) (by_part (nameless Gs A)) (F, focused, there) (λ y h. absurd (false≢true h))

  B_formula : IsFormula sg B
  B_formula = subst (IsFormula sg) (nameless_body (mark_above j.sign) j.context Gs) well.formula

  B_known : HoldsOnly ys B
  B_known = subst (HoldsOnly ys) (nameless_body (mark_above j.sign) j.context Gs) (All-from_contains (Contains ys) (variables (demand_of 0 (mark_above j.sign) j (by_part (nameless Gs A))).body) well.body.over)

  -- SOLVED at once
  solved : IsSolvedThere D ys C formula known j is may F focused rs rules (nameless Gs A) there [] B
  solved vs s ps e are sequent table same one_type cells are_cells =
      let judged = (found D ys C formula known j is may F focused rs rules (nameless Gs A) there vs s ps e are sequent table same) in
      let typed = stand_ins_typed s vs are sg in
      let here = part_there D ys C formula known j is may F focused rs rules (nameless Gs A) there vs s ps e are sequent table same in
      let q = here.0 in
      let no_names_there : q ≡ nameless q.goals q.atom = (λ i. record { names = no_names q.names here.2.names i; goals = q.goals; atom = q.atom }) in
      let sides : Equation (List ℕ) = record { place = 0; left = image same_number [] q.atom; right = judged.judged.goal } in
      let sides_same : EqualPastHints (image same_number [] q.atom) judged.judged.goal =
      ap forget (image_none q.atom) ∙ sym here.2.atom
      ∙ (translate-rename (λ k. k) (λ h. tt) (moved_by ps) (image same_number (replacing vs) A)
      ∙ ap (rename (moved_by ps)) (image_past_hints (replacing vs) A j.goal meets)
      ∙ sym (translate-rename (λ k. k) (λ h. tt) (moved_by ps) (image same_number (replacing vs) j.goal)))
      ∙ judged.goal in
      let X = image same_number [] (conjunction_of (map (open_goal (mark_above judged.judged.sign) judged.judged.context) (map (put_under [] []) q.goals))) in
      let body_there : EqualPastHints X (permute ps (image same_number (replacing vs) B)) =
      ap forget (nameless_body (mark_above judged.judged.sign) judged.judged.context q.goals)
      ∙ ap (λ z. forget (conjunction_of (map (open_goal (mark_above z) judged.judged.context) q.goals))) judged.sign
      ∙ sym (conjunction_like sg vs typed ps (mark_above j.sign) [] j.context judged.judged.context judged.context Gs q.goals all_typed here.2.goals) in
      solved_so D s sequent judged.judged (by_part q) (sides ∷ []) X
      (λ n. ap (λ p. demand_of n (mark_above judged.judged.sign) judged.judged (by_part p)) no_names_there ∙ nameless_demand n (mark_above judged.judged.sign) judged.judged q.goals q.atom)
      (λ cells. same_sides cells sides sides_same) (permute ps (image same_number (replacing vs) B)) body_there cells

  -- THE RULE IS THERE
  pub nameless_part : IsByRule D ys C [] (conjunction_of (map (open_goal (mark_above j.sign) j.context) Gs))
  nameless_part = by_this_part D ys C formula known j is may F focused rs rules (nameless Gs A) there [] B B_formula B_known solved

pub part_without_names : (D : Declarations) → HasMember (signature_in D) → (ys : List (tree.Variable ℕ)) (C : Read) → IsFormula (signature_in D) C → HoldsOnly ys C → (j : Judgement) → as_judgement C ≡ Some j → MayBeUnfolded j.sign → (F : Read) → j.focus ≡ Some F
    → (rs : List SpecRule) → rules_of (program_in D) j ≡ Some rs → (p : Part) → Contains (parts_of F) p → p.names ≡ [] → EqualPastHints p.atom j.goal → IsByRule D ys C [] (conjunction_of (map (open_goal (mark_above j.sign) j.context) p.goals))
part_without_names D has ys C formula known j is may F focused rs rules p there none meets =
    let same : p ≡ nameless p.goals p.atom = (λ i. record { names = none i; goals = p.goals; atom = p.atom }) in
    nameless_part D has ys C formula known j is may F focused rs rules p.goals p.atom (subst (Contains (parts_of F)) same there) meets
