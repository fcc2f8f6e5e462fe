-- Steps at a hypothesis: of a conjunction both parts become hypotheses, and a name of `nabla` or `exists` becomes a constant or a variable.
use Rattle.std.specs.Prelude.{All, Contains}
use Rattle.std.proofs.Common.{◌≡◌, ◌≢◌, ℕ, List, [], ◌∷◌, ◌++◌, map, length, codes, Some, refl, sym, ◌∙◌, ap, subst}
use Rattle.ab_term.specs.Types.{Ty}
use Rattle.ab_term.specs.Terms as tree
use Rattle.ab_term.specs.Terms.{Nominal, Read}
use Rattle.ab_term.specs.Names.{support, permute, IsSupport}
use Rattle.ab_term.specs.Translation.{forget}
use Rattle.ab_term.specs.Variables.{image}
use Rattle.ab_term.specs.Sameness.{same_number}
use Rattle.ab_term.specs.Substitution.{instance}
use Rattle.ab_term.specs.Abstraction.{over}
use Rattle.ab_unifiers.specs.Clauses.{name_term}
use Rattle.ab_unifiers.specs.Choices.{in_order}
use Rattle.ab_unifiers.specs.Replacements.{Cell}
use Rattle.ab_unifiers.proofs.Choosing.{ordered_pairs, ordered_contains, contains_ordered}
use Rattle.ab_unifiers.proofs.Ordered.{ordered_sorted}
use Rattle.ab_formulas.specs.Declarations.{Declarations, signature_in}
use Rattle.ab_formulas.specs.Forms.{both, nabla, exists, form_of, as_both, both_in, as_nabla, nabla_in, as_exists, exists_in}
use Rattle.ab_formulas.specs.NewNames.{given}
use Rattle.ab_formulas.specs.Sequents.{Variable, Sequent, IsSequent, formulas, proving, assuming, without, over as with_variable}
use Rattle.ab_theory.specs.Derivations.{debts_of}
use Rattle.ab_theory.specs.Row.{Takes}
use Rattle.ab_theory.specs.Rules as rules
use Rattle.ab_theory.specs.Rules.{row, any_name, raised, applied}
use Rattle.ab_theory.specs.Steps.{Step, and_left, nabla_left, exists_left}
use Rattle.ab_theory.proofs.NewNumbers.{new_number}
use Rattle.ab_theory.proofs.One.{some_name}
use Rattle.ab_theory.proofs.OneList.{one_list_of}
use Rattle.ab_search_trees.specs.Guesses.{a_variable}
use Rattle.ab_search_proofs.specs.Likeness.{StandIn, replaced, replacing, IsLike, IsLikeGoal, AreLike}
use Rattle.ab_search_proofs.specs.Taking.{LeadsTo}
use Rattle.ab_search_proofs.proofs.Alike.{like_both, like_nabla, like_exists, exists_known}
use Rattle.ab_search_proofs.proofs.Connectives.{kept_stand_ins, like_proving, like_assuming, same_option}
use Rattle.ab_search_proofs.proofs.Constants.{constant_like}
use Rattle.ab_search_proofs.proofs.Generic.{stand_in, generic_like, more_like, all_more_like}
use Rattle.ab_search_proofs.proofs.Least.{least_constant}
use Rattle.ab_search_proofs.proofs.Parts.{IsScope}
use Rattle.ab_search_proofs.proofs.Places.{some_label}
use Rattle.ab_search_proofs.proofs.Taken.{leads_to}
use Rattle.ab_search_layers.proofs.TakenOut.{TakenOut}

module _ (D : Declarations) (vs : List StandIn) (Hs : List Read) (C B : Read) (s : Sequent) (is : IsSequent D s) (l : IsLikeGoal D vs Hs C s) (t : TakenOut D vs C B s) where
  abbrev bare : Sequent
  bare = without t.name s

  abbrev label : List ℕ
  label = (some_label bare).0

  -- one hypothesis in its place
  abbrev With : Read → List Read
  With F = t.rest ++ F ∷ []

  abbrev one_left : (F G : Read) → IsLike D vs F G → IsLikeGoal D vs (With F) C (assuming label G bare)
  one_left F G k = like_assuming D vs t.rest C F G bare label t.left k

  -- BOTH PARTS
  pub both_left : (E F : Read) → form_of B ≡ both E F → (step : Step) × (debts_of step ≡ []) × LeadsTo D step s (AreLike D vs (With E ++ F ∷ []) (C ∷ []))
  both_left E F e =
      let b = like_both D vs B t.formula E F t.like e in
      let q : as_both t.formula ≡ Some (b.0, b.1) = ap both_in b.2 in
      let first : Sequent = assuming label b.0 bare in
      let y = some_label first in
      let step : Step = and_left t.name (given label) (given y.0) in
      let qs : List Sequent = assuming y.0 b.1 first ∷ [] in
      let taken : (cells : List (Cell (List ℕ))) → Takes (row D (any_name cells) step s) qs =
      λ cells. (t.formula, t.found, ((b.0, b.1), q, (label, bare, ((some_label bare).1, refl, refl), (y.0, first, (y.1, refl, refl), refl)))) in
      let like : AreLike D vs (With E ++ F ∷ []) (C ∷ []) qs = (like_assuming D vs (With E) C F b.1 first y.0 (one_left E b.0 b.3) b.4, tt) in
      (step, refl, leads_to D step s (AreLike D vs (With E ++ F ∷ []) (C ∷ [])) (λ cells are. (qs, taken cells)) (λ cells are i f. f.2.2.3.3) (λ cells are ps k. subst (AreLike D vs (With E ++ F ∷ []) (C ∷ [])) (sym (one_list_of D cells s is step ps qs k (taken cells))) like))

  -- A CONSTANT
  pub nabla_left_step : (A : Ty) (F : Read) (a : Nominal) → form_of B ≡ nabla A F → a.type ≡ A → ¬ Contains (support B) a → (step : Step) × (debts_of step ≡ []) × LeadsTo D step s (AreLike D vs (With (instance F (name_term (codes "x") a))) (C ∷ []))
  nabla_left_step A F a e at out =
      let asked = instance F (name_term (codes "x") a) in
      let k = like_nabla D vs B t.formula A F t.like e in
      let q : as_nabla t.formula ≡ Some (A, k.0) = ap nabla_in k.1 in
      let n = least_constant s t.formula A in
      let b : Nominal = record { number = n.0; type = A } in
      let found : Read = instance k.0 (rules.name_term b) in
      let step : Step = nabla_left t.name (given label) in
      let qs : List Sequent = assuming label found bare ∷ [] in
      let taken : (cells : List (Cell (List ℕ))) → Takes (row D (any_name cells) step s) qs =
      λ cells. (t.formula, t.found, ((A, k.0), q, (label, bare, ((some_label bare).1, refl, refl), (n.0, n.1, refl)))) in
      let turned : IsLikeGoal D vs Hs B (proving t.formula s) = like_proving D vs Hs C B t.formula s l t.like in
      let like : AreLike D vs (With asked) (C ∷ []) qs = (one_left asked found (constant_like D vs Hs B (proving t.formula s) turned A F k.0 a b e at refl out ((n.1).has).outside k.1), tt) in
      (step, refl, leads_to D step s (AreLike D vs (With asked) (C ∷ [])) (λ cells are. (qs, taken cells)) (λ cells are i f. f.2.2.3) (λ cells are ps k. subst (AreLike D vs (With asked) (C ∷ [])) (sym (one_list_of D cells s is step ps qs k (taken cells))) like))

  -- A VARIABLE
  module _ (A : Ty) (F : Read) (n : ℕ) (e : form_of B ≡ exists A F) (new : All (λ (y : tree.Variable ℕ). y.name ≢ n) (map replaced vs)) where
    abbrev pub asked : Read
    asked = instance F (a_variable n (in_order (support B)) A)

    abbrev pub Left : List Sequent → Type 0
    Left qs = (v : StandIn) × (replaced v ≡ record { name = n; type = over (in_order (support B)) A }) × AreLike D (v ∷ vs) (With asked) (C ∷ []) qs

    abbrev turned : IsLikeGoal D vs Hs B (proving t.formula s)
    turned = record { variables = kept_stand_ins vs s (proving t.formula s) (λ x m. m) l.variables; hypotheses = l.hypotheses; conclusion = t.like }

    scope : IsScope (signature_in D) (map replaced vs) A F
    scope = exists_known D vs B t.formula A F t.like e

    -- where the rule takes a variable of this number and name over these constants
    varied : (H : Read) → form_of t.formula ≡ exists A H → forget (permute ((t.like).same).0 (image same_number (replacing vs) F)) ≡ forget H
        → (number : ℕ) (name : List ℕ) (names : List Nominal) → IsSupport t.formula names → All (λ (x : Variable). x.number ≢ number) s.variables
        → Left (assuming label (instance H (applied (raised number name A names) names)) (with_variable (raised number name A names) bare) ∷ [])
    varied H eh same number name names held other =
        let x = raised number name A names in
        let v = stand_in D vs Hs B (proving t.formula s) turned A F n scope new number name names held other in
        let g = generic_like D vs Hs B (proving t.formula s) turned A F n scope new number name names held other H same in
        let before : IsLikeGoal D (v ∷ vs) t.rest C (with_variable x bare) = record {
          variables = kept_stand_ins (v ∷ vs) (proving (instance H (applied x names)) (with_variable x (proving t.formula s))) (with_variable x bare) (λ y m. m) g.variables;
          hypotheses = all_more_like D vs v new t.rest (formulas bare.hypotheses) (t.left).hypotheses;
          conclusion = more_like D vs v new C s.conclusion l.conclusion;
        } in
        (v, refl, (like_assuming D (v ∷ vs) t.rest C asked (instance H (applied x names)) (with_variable x bare) label before g.conclusion, tt))

    pub exists_left_step : (step : Step) × (debts_of step ≡ []) × LeadsTo D step s Left
    exists_left_step =
        let k = like_exists D vs B t.formula A F t.like e in
        let H = k.0 in
        let q : as_exists t.formula ≡ Some (A, H) = ap exists_in k.1 in
        let names = in_order (support t.formula) in
        let held : IsSupport t.formula names = record { same = λ a. (contains_ordered (support t.formula) a, ordered_contains (support t.formula) a); once = ordered_pairs (support t.formula); order = ordered_sorted (support t.formula) } in
        let free = some_name s (rules.hint_of H) in
        let step : Step = exists_left t.name (given label) in (
          step,
          refl,
          leads_to D step s Left
              (λ cells are. let x = raised (length cells) free.0 A names in (assuming label (instance H (applied x names)) (with_variable x bare) ∷ [], (t.formula, t.found, ((A, H), q, (label, bare, ((some_label bare).1, refl, refl), ((names, free.0), (held, free.1), refl))))))
              (λ cells are i f. f.2.2.3)
              (λ cells are qs h.
              let formula : h.0 ≡ t.formula = same_option (sym h.1 ∙ t.found) in
              let pair : (h.2).0 ≡ (A, H) = same_option (sym (h.2).1 ∙ ap as_exists formula ∙ q) in
              let named = (((h.2).2).2) in
              let p = (((h.2).2).3).0 in
              let support_is : IsSupport t.formula p.0 = subst (λ z. IsSupport z p.0) formula ((((h.2).2).3).1).0 in
              let leads = (((h.2).2).3).2 in
              subst Left
              (sym (leads
              ∙ ap (λ (z : Ty × Read). assuming (((h.2).2).0) (instance z.1 (applied (raised (length cells) p.1 z.0 p.0) p.0)) (with_variable (raised (length cells) p.1 z.0 p.0) (((h.2).2).1)) ∷ []) pair
              ∙ ap (λ z. assuming z (instance H (applied (raised (length cells) p.1 A p.0) p.0)) (with_variable (raised (length cells) p.1 A p.0) (((h.2).2).1)) ∷ []) named.1
              ∙ ap (λ z. assuming label (instance H (applied (raised (length cells) p.1 A p.0) p.0)) (with_variable (raised (length cells) p.1 A p.0) z) ∷ []) named.2))
              (varied H k.1 k.2 (length cells) p.1 p.0 support_is (new_number cells s are))),
        )
