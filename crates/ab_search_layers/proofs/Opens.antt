-- What opens by layers: a judgement opens to all that the rules open it to; so do terms that are put in; and what form it then has.
use Rattle.std.proofs.Common.{◌≡◌, ◌⊎◌, inl, inr, ℕ, zero, suc, List, Some, refl, sym, ◌∙◌, ap, subst, arith}
use Rattle.std.specs.Prelude.{Contains}
use Rattle.ab_term.specs.Types.{Ty}
use Rattle.ab_term.specs.Logical as plain
use Rattle.ab_term.specs.Terms as tree
use Rattle.ab_term.specs.Terms.{Nominal, logical, lam, spine, no_terms, term, Read}
use Rattle.ab_term.specs.Names.{support}
use Rattle.ab_term.specs.Substitution.{shift, substitute, instance}
use Rattle.ab_term.proofs.Shifts.{shift-substitute_low, shift-reduce}
use Rattle.ab_unifiers.specs.Member.{before}
use Rattle.ab_formulas.specs.Forms.{Form, both, exists, nabla, other, form_of}
use Rattle.ab_formulas.specs.Marks as marks
use Rattle.ab_theory.specs.Opening.{compound, kind_of, open_goal}
use Rattle.ab_theory.proofs.Known.{Known, known_one, known_two, known_given, known_under, known_body, known_first, known_second, known_shift}
use Rattle.ab_search_trees.specs.Judgements.{judged, layer_of, opened_once}
use Rattle.ab_search_proofs.proofs.Connectives.{same_option}
use Rattle.ab_search_layers.specs.Layered.{OpensTo, it_stays, a_layer, in_both, in_nabla, in_exists}

-- DOWN TO ALL LAYERS
pub goal_opens : (L G : Read) → OpensTo (judged L G) (open_goal marks.plain L G)
goal_opens L (spine (logical (plain.spec_universal A)) (term (lam B x G) no_terms)) = a_layer refl (in_nabla (goal_opens (shift zero L) G))
goal_opens L (spine (logical plain.spec_implication) (term F (term G no_terms))) = a_layer refl (goal_opens (before F L) G)
goal_opens L (spine (logical plain.spec_conjunction) (term F (term G no_terms))) = a_layer refl (in_both (goal_opens L F) (goal_opens L G))
goal_opens L G = it_stays

-- what has a layer is a judgement, and what the layer leaves opens to all that it opens to
pub record HasLayer (C F : Read) : Type 0 where
  pub context : Read
  pub goal : Read
  pub is : C ≡ judged context goal
  pub kind : kind_of goal ≡ compound
  pub opens : OpensTo F (open_goal marks.plain context goal)

layer_leaves : (L G F : Read) → layer_of L G ≡ Some F → (kind_of G ≡ compound) × OpensTo F (open_goal marks.plain L G)
layer_leaves L (spine (logical (plain.spec_universal A)) (term (lam B x G) no_terms)) F e =
    (refl, subst (λ k. OpensTo k (open_goal marks.plain L (spine (logical (plain.spec_universal A)) (term (lam B x G) no_terms)))) (same_option e) (in_nabla (goal_opens (shift zero L) G)))
layer_leaves L (spine (logical plain.spec_implication) (term E (term G no_terms))) F e = (refl, subst (λ k. OpensTo k (open_goal marks.plain (before E L) G)) (same_option e) (goal_opens (before E L) G))
layer_leaves L (spine (logical plain.spec_conjunction) (term E (term G no_terms))) F e =
    (refl, subst (λ k. OpensTo k (open_goal marks.plain L (spine (logical plain.spec_conjunction) (term E (term G no_terms))))) (same_option e) (in_both (goal_opens L E) (goal_opens L G)))
layer_leaves L _ F e = absurd (cc)

pub layer : (C F : Read) → opened_once C ≡ Some F → HasLayer C F
layer (spine (logical plain.judgement) (term L (term G no_terms))) F e = let k = layer_leaves L G F e in record { context = L; goal = G; is = refl; kind = k.0; opens = k.1 }
layer _ F e = absurd (cc)

-- WHERE A TERM IS PUT IN
module _ (A : Ty) where
  abbrev put : Read → ℕ → Read → Read
  put u k t = substitute A u k t

  some_put : (u : Read) (k : ℕ) {E F : Read} → Some E ≡ Some F → Some (put u k E) ≡ Some (put u k F)
  some_put u k e = ap (λ t. Some (put u k t)) (same_option e)

  layer_put : (u : Read) (k : ℕ) (L G F : Read) → layer_of L G ≡ Some F → layer_of (put u k L) (put u k G) ≡ Some (put u k F)
  layer_put u k L (spine (logical (plain.spec_universal C)) (term (lam B x G) no_terms)) F e =
      ap (λ K. Some (spine (logical (plain.nabla C)) (term (lam C x (judged K (put (shift zero u) (suc k) G))) no_terms))) (shift-substitute_low L _ u zero k (shift-reduce A) (omega arith)) ∙ some_put u k e
  layer_put u k L (spine (logical plain.spec_implication) (term E (term G no_terms))) F e = some_put u k e
  layer_put u k L (spine (logical plain.spec_conjunction) (term E (term G no_terms))) F e = some_put u k e
  layer_put u k L _ F e = absurd (cc)

  opened_put : (u : Read) (k : ℕ) (C F : Read) → opened_once C ≡ Some F → opened_once (put u k C) ≡ Some (put u k F)
  opened_put u k (spine (logical plain.judgement) (term L (term G no_terms))) F e = layer_put u k L G F e
  opened_put u k _ F e = absurd (cc)

  pub opens_put : (u : Read) (k : ℕ) {F G : Read} → OpensTo F G → OpensTo (put u k F) (put u k G)
  opens_put u k it_stays = it_stays
  opens_put u k (a_layer {F = F} {G = G} e o) = a_layer (opened_put u k F G e) (opens_put u k o)
  opens_put u k (in_both a b) = in_both (opens_put u k a) (opens_put u k b)
  opens_put u k (in_nabla o) = in_nabla (opens_put (shift zero u) (suc k) o)
  opens_put u k (in_exists o) = in_exists (opens_put (shift zero u) (suc k) o)

-- WHAT IT OPENS TO, by its form
abbrev Scopes : Read → Read → Type 0
Scopes F G = (t : Read) → OpensTo (instance F t) (instance G t)

abbrev pub Opened : Read → Read → Form → Type 0
Opened C E (both A B) = (F : Read) × (G : Read) × (form_of E ≡ both F G) × OpensTo A F × OpensTo B G
Opened C E (nabla A F) = (G : Read) × (form_of E ≡ nabla A G) × Scopes F G
Opened C E (exists A F) = (G : Read) × (form_of E ≡ exists A G) × Scopes F G
Opened C E other = (E ≡ C) ⊎ ((F : Read) × (opened_once C ≡ Some F) × OpensTo F E)
Opened C E _ = E ≡ C

as_it_is : (C : Read) (k : Form) → form_of C ≡ k → Opened C C k
as_it_is C (both A B) e = (A, B, e, it_stays, it_stays)
as_it_is C (nabla A F) e = (F, e, λ t. it_stays)
as_it_is C (exists A F) e = (F, e, λ t. it_stays)
as_it_is C other e = inl refl
as_it_is C _ e = refl

pub opened : {C E : Read} → OpensTo C E → Opened C E (form_of C)
opened (it_stays {F = C}) = as_it_is C (form_of C) refl
opened (a_layer {F = C} {G = F} {H = E} e o) = subst (λ k. opened_once k ≡ Some F → Opened k E (form_of k)) (sym (layer C F e).is) (λ q. inr (F, q, o)) e
opened (in_both {C = F} {E = G} a b) = (F, G, refl, a, b)
opened (in_nabla {B = B} {x = x} {G = G} o) = (lam B x G, refl, λ t. opens_put B t zero o)
opened (in_exists {B = B} {x = x} {G = G} o) = (lam B x G, refl, λ t. opens_put B t zero o)

-- NO CONSTANT COMES
module _ (M : List Nominal) where
  abbrev P : tree.Variable ℕ → Type 0
  P y = Unit {0}

  abbrev K : Read → Type 0
  K = Known P M

  layer_known : (L G F : Read) → K (judged L G) → layer_of L G ≡ Some F → K F
  layer_known L (spine (logical (plain.spec_universal A)) (term (lam B x G) no_terms)) F k e =
      let l = known_first P M plain.judgement L _ k in
      let g = known_body P M B x G (known_first P M (plain.spec_universal A) (lam B x G) _ (known_second P M plain.judgement L _ k)) in
      subst K (same_option e) (known_one P M (plain.nabla A) _ (known_under P M A x _ (known_two P M plain.judgement (shift zero L) G (known_shift P M zero L l) g)))
  layer_known L (spine (logical plain.spec_implication) (term E (term G no_terms))) F k e =
      let l = known_first P M plain.judgement L _ k in
      let g = known_second P M plain.judgement L _ k in
      subst K (same_option e) (known_two P M plain.judgement (before E L) G (known_given P M _ E L (known_first P M plain.spec_implication E _ g) l) (known_second P M plain.spec_implication E G g))
  layer_known L (spine (logical plain.spec_conjunction) (term E (term G no_terms))) F k e =
      let l = known_first P M plain.judgement L _ k in
      let g = known_second P M plain.judgement L _ k in
      subst K (same_option e) (known_two P M plain.conjunction _ _ (known_two P M plain.judgement L E l (known_first P M plain.spec_conjunction E _ g)) (known_two P M plain.judgement L G l (known_second P M plain.spec_conjunction E G g)))
  layer_known L _ F k e = absurd (cc)

  opened_known : (C F : Read) → K C → opened_once C ≡ Some F → K F
  opened_known (spine (logical plain.judgement) (term L (term G no_terms))) F k e = layer_known L G F k e
  opened_known _ F k e = absurd (cc)

  opens_known : {F G : Read} → OpensTo F G → K F → K G
  opens_known it_stays k = k
  opens_known (a_layer {F = F} {G = G} e o) k = opens_known o (opened_known F G k e)
  opens_known (in_both {A = A} {B = B} {C = C} {E = E} a b) k = known_two P M plain.conjunction C E (opens_known a (known_first P M plain.conjunction A _ k)) (opens_known b (known_second P M plain.conjunction A B k))
  opens_known (in_nabla {A = A} {B = B} {x = x} {F = F} {G = G} o) k = known_one P M (plain.nabla A) (lam B x G) (known_under P M B x G (opens_known o (known_body P M B x F (known_first P M (plain.nabla A) (lam B x F) _ k))))
  opens_known (in_exists {A = A} {B = B} {x = x} {F = F} {G = G} o) k =
      known_one P M (plain.existential A) (lam B x G) (known_under P M B x G (opens_known o (known_body P M B x F (known_first P M (plain.existential A) (lam B x F) _ k))))

pub opens_support : {F G : Read} → OpensTo F G → (a : Nominal) → Contains (support G) a → Contains (support F) a
opens_support {F = F} o a m = (opens_known (support F) o (record { over = λ y n. tt; names = λ b n. n })).names a m
