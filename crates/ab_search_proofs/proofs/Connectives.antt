-- The steps at a connective.
use Rattle.std.proofs.Common.{◌≡◌, ℕ, List, [], ◌∷◌, ◌++◌, true, false, Some, refl, sym, ◌∙◌, ap, subst}
use Rattle.std.specs.Prelude.{Contains}
use Rattle.std.proofs.lemmas.List.Elements.{All-weaker}
use Rattle.ab_term.specs.Types.{Ty}
use Rattle.ab_term.specs.Terms.{Read}
use Rattle.ab_term.specs.Translation.{EqualPastHints}
use Rattle.ab_unifiers.specs.Clauses.{Each}
use Rattle.ab_formulas.specs.Declarations.{Declarations}
use Rattle.ab_formulas.specs.Forms.{truth, equal, both, either, implies, form_of, as_truth, truth_in, as_both, both_in, as_either, either_in, as_implies, implies_in, as_equal, equal_in}
use Rattle.ab_formulas.specs.NewNames.{Label, auto, given, Names}
use Rattle.ab_formulas.specs.Sequents.{Variable, Hypothesis, Sequent, formulas, proving, assuming, counted}
use Rattle.ab_theory.specs.Steps.{true_right, and_right, or_right, arrow_right, equal_right}
use Rattle.ab_search_proofs.specs.Likeness.{StandIn, IsStandIn, AreStandIns, IsLike, IsLikeGoal, AreLike}
use Rattle.ab_search_proofs.specs.Taking.{LeadsTo}
use Rattle.ab_search_proofs.proofs.Alike.{like_truth, like_both, like_either, like_implies, like_equal}
use Rattle.ab_search_proofs.proofs.Taken.{leads_to}

pub same_option : {X : Type 0} {x y : X} → Some x ≡ Some y → x ≡ y
same_option {x = x} {y = y} e = let q : x ≡ y = cc in q

-- where all variables stay, what stands in still does
pub kept_stand_ins : (vs : List StandIn) (s u : Sequent) → ((x : Variable) → Contains s.variables x → Contains u.variables x) → AreStandIns s vs → AreStandIns u vs
kept_stand_ins vs s u more are = record {
  all = All-weaker (IsStandIn s) (IsStandIn u) (λ v i. record { there = more v.variable i.there; typed = i.typed; same = i.same; once = i.once; once_reordered = i.once_reordered }) vs are.all;
  numbers_differ = are.numbers_differ;
  variables_differ = are.variables_differ;
}

module _ (D : Declarations) (vs : List StandIn) where
  -- another conclusion
  pub like_proving : (Hs : List Read) (C A G : Read) (s : Sequent) → IsLikeGoal D vs Hs C s → IsLike D vs A G → IsLikeGoal D vs Hs A (proving G s)
  like_proving Hs C A G s l a = record {
    variables = kept_stand_ins vs s (proving G s) (λ x m. m) l.variables;
    hypotheses = l.hypotheses;
    conclusion = a;
  }

  each_push : (Hs : List Read) (A G : Read) (hs : List Hypothesis) (x : List ℕ) → Each (IsLike D vs) Hs (formulas hs) → IsLike D vs A G → Each (IsLike D vs) (Hs ++ A ∷ []) (formulas (hs ++ record { name = x; formula = G } ∷ []))
  each_push [] A G [] x e a = (a, tt)
  each_push [] A G (h ∷ hs) x e a = absurd e
  each_push (B ∷ Hs) A G [] x e a = absurd e
  each_push (B ∷ Hs) A G (h ∷ hs) x e a = (e.0, each_push Hs A G hs x e.1 a)

  -- a hypothesis more
  pub like_assuming : (Hs : List Read) (C A G : Read) (s : Sequent) (x : List ℕ) → IsLikeGoal D vs Hs C s → IsLike D vs A G → IsLikeGoal D vs (Hs ++ A ∷ []) C (assuming x G s)
  like_assuming Hs C A G s x l a = record {
    variables = kept_stand_ins vs s (assuming x G s) (λ y m. m) l.variables;
    hypotheses = each_push Hs A G s.hypotheses x l.hypotheses a;
    conclusion = l.conclusion;
  }

  pub like_counted : (Hs : List Read) (C : Read) (s : Sequent) (n : ℕ) → IsLikeGoal D vs Hs C s → IsLikeGoal D vs Hs C (counted n s)
  like_counted Hs C s n l = record {
    variables = kept_stand_ins vs s (counted n s) (λ x m. m) l.variables;
    hypotheses = l.hypotheses;
    conclusion = l.conclusion;
  }

  module _ (Hs : List Read) (C : Read) (s : Sequent) (l : IsLikeGoal D vs Hs C s) where
    pub truth_step : form_of C ≡ truth → LeadsTo D true_right s (AreLike D vs Hs [])
    truth_step e =
        let q : as_truth s.conclusion ≡ Some tt = ap truth_in (like_truth D vs C s.conclusion l.conclusion e) in
        leads_to D true_right s (AreLike D vs Hs []) (λ cells are. ([], (tt, q, refl))) (λ cells are i f. f.2) (λ cells are ps t. subst (AreLike D vs Hs []) (sym t.2) tt)

    pub equality_step : (A : Ty) (t u : Read) → form_of C ≡ equal A t u → EqualPastHints t u → LeadsTo D equal_right s (AreLike D vs Hs [])
    equality_step A t u e same =
        let b = like_equal D vs C s.conclusion A t u l.conclusion e same in
        let q : as_equal s.conclusion ≡ Some (b.1, b.2) = ap equal_in b.3 in
        leads_to D equal_right s (AreLike D vs Hs []) (λ cells are. ([], ((b.1, b.2), q, (b.4, refl)))) (λ cells are i f. f.2.1) (λ cells are ps k. subst (AreLike D vs Hs []) (sym k.2.1) tt)

    pub both_step : (A B : Read) → form_of C ≡ both A B → LeadsTo D and_right s (AreLike D vs Hs (A ∷ B ∷ []))
    both_step A B e =
        let b = like_both D vs C s.conclusion A B l.conclusion e in
        let q : as_both s.conclusion ≡ Some (b.0, b.1) = ap both_in b.2 in
        leads_to D and_right s (AreLike D vs Hs (A ∷ B ∷ [])) (λ cells are. (proving b.0 s ∷ proving b.1 s ∷ [], ((b.0, b.1), q, refl))) (λ cells are i f. f.2)
        (λ cells are ps k.
        let p : k.0 ≡ (b.0, b.1) = same_option (sym k.1 ∙ q) in
        subst (AreLike D vs Hs (A ∷ B ∷ [])) (sym (k.2 ∙ ap (λ (z : Read × Read). proving z.0 s ∷ proving z.1 s ∷ []) p)) (like_proving Hs C A b.0 s l b.3, (like_proving Hs C B b.1 s l b.4, tt)))

    pub left_step : (A B : Read) → form_of C ≡ either A B → LeadsTo D (or_right true) s (AreLike D vs Hs (A ∷ []))
    left_step A B e =
        let b = like_either D vs C s.conclusion A B l.conclusion e in
        let q : as_either s.conclusion ≡ Some (b.0, b.1) = ap either_in b.2 in
        leads_to D (or_right true) s (AreLike D vs Hs (A ∷ [])) (λ cells are. (proving b.0 s ∷ [], ((b.0, b.1), q, refl))) (λ cells are i f. f.2)
        (λ cells are ps k.
        let p : k.0 ≡ (b.0, b.1) = same_option (sym k.1 ∙ q) in
        subst (AreLike D vs Hs (A ∷ [])) (sym (k.2 ∙ ap (λ (z : Read × Read). proving z.0 s ∷ []) p)) (like_proving Hs C A b.0 s l b.3, tt))

    pub right_step : (A B : Read) → form_of C ≡ either A B → LeadsTo D (or_right false) s (AreLike D vs Hs (B ∷ []))
    right_step A B e =
        let b = like_either D vs C s.conclusion A B l.conclusion e in
        let q : as_either s.conclusion ≡ Some (b.0, b.1) = ap either_in b.2 in
        leads_to D (or_right false) s (AreLike D vs Hs (B ∷ [])) (λ cells are. (proving b.1 s ∷ [], ((b.0, b.1), q, refl))) (λ cells are i f. f.2)
        (λ cells are ps k.
        let p : k.0 ≡ (b.0, b.1) = same_option (sym k.1 ∙ q) in
        subst (AreLike D vs Hs (B ∷ [])) (sym (k.2 ∙ ap (λ (z : Read × Read). proving z.1 s ∷ []) p)) (like_proving Hs C B b.1 s l b.4, tt))

    -- the goal in which a name was found
    named_goal : (lab : Label) (x : List ℕ) (u : Sequent) → Names lab s x u → IsLikeGoal D vs Hs C u
    named_goal auto x u (n, least, same, e) = subst (IsLikeGoal D vs Hs C) (sym e) (like_counted Hs C s n l)
    named_goal (given y) x u (free, same, e) = subst (IsLikeGoal D vs Hs C) (sym e) l

    pub assuming_step : (A B : Read) (lab : Label) (x : List ℕ) (u : Sequent) → form_of C ≡ implies A B → Names lab s x u → LeadsTo D (arrow_right lab) s (AreLike D vs (Hs ++ A ∷ []) (B ∷ []))
    assuming_step A B lab x u e named =
        let b = like_implies D vs C s.conclusion A B l.conclusion e in
        let q : as_implies s.conclusion ≡ Some (b.0, b.1) = ap implies_in b.2 in
        leads_to D (arrow_right lab) s (AreLike D vs (Hs ++ A ∷ []) (B ∷ [])) (λ cells are. (proving b.1 (assuming x b.0 u) ∷ [], ((b.0, b.1), q, (x, u, named, refl)))) (λ cells are i f. f.2.3)
        (λ cells are ps k.
        let p : k.0 ≡ (b.0, b.1) = same_option (sym k.1 ∙ q) in
        let v : Sequent = (k.2).1 in
        let g : IsLikeGoal D vs Hs C v = named_goal lab (k.2).0 v (k.2).2 in
        subst (AreLike D vs (Hs ++ A ∷ []) (B ∷ [])) (sym ((k.2).3 ∙ ap (λ (z : Read × Read). proving z.1 (assuming (k.2).0 z.0 v) ∷ []) p))
        (like_proving (Hs ++ A ∷ []) C B b.1 (assuming (k.2).0 b.0 v) (like_assuming Hs C A b.0 v (k.2).0 g b.3) b.4, tt))
