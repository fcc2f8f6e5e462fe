-- Goals that are opened before terms are put in: they open to the goals that are opened after.
use Rattle.std.specs.Prelude.{Contains}
use Rattle.std.proofs.Common.{◌≡◌, ℕ, zero, suc, List, [], ◌∷◌, map, Option, Some, None, sym, ◌∙◌, ap, subst, arith}
use Rattle.std.proofs.lemmas.Bool.{false_from_ne_true}
use Rattle.ab_term.specs.Logical as plain
use Rattle.ab_term.specs.Terms as tree
use Rattle.ab_term.specs.Terms.{logical, variable, lam, spine, no_terms, term, Read}
use Rattle.ab_term.specs.Typing.{Signature}
use Rattle.ab_term.specs.Substitution.{shift}
use Rattle.ab_term.specs.Abstraction.{close}
use Rattle.ab_term.specs.Variables.{Substitution, variables, value_in, image, IsTyped}
use Rattle.ab_term.specs.Sameness.{same_number, same_numbered}
use Rattle.ab_term.proofs.ClosedMaps.{IsClosedMap}
use Rattle.ab_term.proofs.ClosingImages.{LeavesAlone, close-image}
use Rattle.ab_term.proofs.ClosingThrough.{close-shift}
use Rattle.ab_term.proofs.Compositions.{map_typed}
use Rattle.ab_term.proofs.Images.{closed_map, shift-image_by}
use Rattle.ab_term.proofs.Lists.{Contains-here, Contains-there}
use Rattle.ab_term.proofs.Same.{same_numbered-Decides}
use Rattle.ab_unifiers.specs.Member.{before}
use Rattle.ab_formulas.specs.Marks.{plain as unmarked}
use Rattle.ab_formulas.specs.Sequents.{Variable, in_terms}
use Rattle.ab_theory.specs.Opening.{both, open_goal, conjunction_from, conjunction_of}
use Rattle.ab_theory.specs.Unfolding.{exists_all}
use Rattle.ab_search_trees.specs.Judgements.{judged, layer_of, opened_once}
use Rattle.ab_search_proofs.proofs.Connectives.{same_option}
use Rattle.ab_search_layers.specs.Layered.{OpensTo, it_stays, a_layer, in_both, in_nabla, in_exists}
use Rattle.ab_search_layers.proofs.Opens.{goal_opens}

module _ (sg : Signature) (r : Substitution ℕ (List ℕ)) (typed : IsTyped sg r) where
  abbrev f : tree.Variable ℕ → Option Read
  f = value_in same_number r

  abbrev T : Read → Read
  T = image same_number r

  shifted : (L : Read) → shift zero (T L) ≡ T (shift zero L)
  shifted L = shift-image_by sg ℕ (List ℕ) f (map_typed sg same_number r typed) L zero

  -- A GOAL
  pub goal_early : (L G : Read) → OpensTo (T (open_goal unmarked L G)) (open_goal unmarked (T L) (T G))
  goal_early L (spine (logical (plain.spec_universal A)) (term (lam B x G) no_terms)) =
      in_nabla (subst (λ K. OpensTo (T (open_goal unmarked (shift zero L) G)) (open_goal unmarked K (T G))) (sym (shifted L)) (goal_early (shift zero L) G))
  goal_early L (spine (logical plain.spec_implication) (term F (term G no_terms))) = goal_early (before F L) G
  goal_early L (spine (logical plain.spec_conjunction) (term F (term G no_terms))) = in_both (goal_early L F) (goal_early L G)
  goal_early L G = goal_opens (T L) (T G)

  -- SOME GOALS, in a conjunction
  more_early : (L F E : Read) (Gs : List Read) → OpensTo (T F) E → OpensTo (T (conjunction_from F (map (open_goal unmarked L) Gs))) (conjunction_from E (map (open_goal unmarked (T L)) (map T Gs)))
  more_early L F E [] o = o
  more_early L F E (G ∷ Gs) o = more_early L (both F (open_goal unmarked L G)) (both E (open_goal unmarked (T L) (T G))) Gs (in_both o (goal_early L G))

  goals_early : (L : Read) (Gs : List Read) → OpensTo (T (conjunction_of (map (open_goal unmarked L) Gs))) (conjunction_of (map (open_goal unmarked (T L)) (map T Gs)))
  goals_early L [] = it_stays
  goals_early L (G ∷ Gs) = more_early L (open_goal unmarked L G) (open_goal unmarked (T L) (T G)) Gs (goal_early L G)

  -- CLOSED over variables that are left alone
  abbrev pub IsLeftAlone : Variable → Type 0
  IsLeftAlone y = (value_in same_number r (in_terms y) ≡ None) × ((z : tree.Variable ℕ) (u : Read) → value_in same_number r z ≡ Some u → ¬ Contains (variables u) (in_terms y))

  leaves_alone : (y : Variable) → IsLeftAlone y → LeavesAlone (variable (in_terms y)) f
  leaves_alone y a z u e = (
    false_from_ne_true (same_numbered z (in_terms y)) (λ q. let bad : Some u ≡ None = sym e ∙ ap f ((same_numbered-Decides z (in_terms y)).0 q) ∙ a.0 in absurd (cc)),
    a.1 z u e,
  )

  closed : IsClosedMap f
  closed = closed_map sg ℕ (List ℕ) f (map_typed sg same_number r typed)

module _ (y : tree.Variable ℕ) where
  abbrev C : ℕ → Read → Read
  C k t = close k (variable y) t

  some_closed : (k : ℕ) {E F : Read} → Some E ≡ Some F → Some (C k E) ≡ Some (C k F)
  some_closed k e = ap (λ t. Some (C k t)) (same_option e)

  layer_closed : (k : ℕ) (L G F : Read) → layer_of L G ≡ Some F → layer_of (C k L) (C k G) ≡ Some (C k F)
  layer_closed k L (spine (logical (plain.spec_universal A)) (term (lam B x G) no_terms)) F e =
      ap (λ K. Some (spine (logical (plain.nabla A)) (term (lam A x (judged K (C (suc k) G))) no_terms))) (sym (close-shift zero k (variable y) L (omega arith))) ∙ some_closed k e
  layer_closed k L (spine (logical plain.spec_implication) (term E (term G no_terms))) F e = some_closed k e
  layer_closed k L (spine (logical plain.spec_conjunction) (term E (term G no_terms))) F e = some_closed k e
  layer_closed k L _ F e = absurd (cc)

  opened_closed : (k : ℕ) (E F : Read) → opened_once E ≡ Some F → opened_once (C k E) ≡ Some (C k F)
  opened_closed k (spine (logical plain.judgement) (term L (term G no_terms))) F e = layer_closed k L G F e
  opened_closed k _ F e = absurd (cc)

  opens_closed : (k : ℕ) {F G : Read} → OpensTo F G → OpensTo (C k F) (C k G)
  opens_closed k it_stays = it_stays
  opens_closed k (a_layer {F = F} {G = G} e o) = a_layer (opened_closed k F G e) (opens_closed k o)
  opens_closed k (in_both a b) = in_both (opens_closed k a) (opens_closed k b)
  opens_closed k (in_nabla o) = in_nabla (opens_closed (suc k) o)
  opens_closed k (in_exists o) = in_exists (opens_closed (suc k) o)

module _ (sg : Signature) (r : Substitution ℕ (List ℕ)) (typed : IsTyped sg r) where
  pub body_early : (L : Read) (Gs : List Read) (ys : List Variable) → ((y : Variable) → Contains ys y → IsLeftAlone sg r typed y)
      → OpensTo (image same_number r (exists_all ys (conjunction_of (map (open_goal unmarked L) Gs)))) (exists_all ys (conjunction_of (map (open_goal unmarked (image same_number r L)) (map (image same_number r) Gs))))
  body_early L Gs [] alone = goals_early sg r typed L Gs
  body_early L Gs (y ∷ ys) alone =
      let rest = body_early L Gs ys (λ z m. alone z (Contains-there y ys z m)) in
      in_exists (subst (λ t. OpensTo t (close zero (variable (in_terms y)) (exists_all ys (conjunction_of (map (open_goal unmarked (image same_number r L)) (map (image same_number r) Gs))))))
      (close-image (value_in same_number r) (closed sg r typed) zero (variable (in_terms y)) (leaves_alone sg r typed y (alone y (Contains-here y ys))) (exists_all ys (conjunction_of (map (open_goal unmarked L) Gs))))
      (opens_closed (in_terms y) zero rest))
