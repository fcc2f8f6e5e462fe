-- THE NAMES OF A PART where its judgement has come to stand: they stand in atom and goals there as they do here, so that the same ones are closed by `exists`.
use Rattle.std.proofs.Common.{◌≡◌, ℕ, suc, List, [], ◌∷◌, map, length, Bool, true, false, ◌&&◌, ◌||◌, not, refl, sym, ◌∙◌, ap}
use Rattle.std.specs.Prelude.{Contains}
use Rattle.std.specs.List.{list_any}
use Rattle.std.proofs.lemmas.Bool.{false≢true}
use Rattle.ab_term.specs.Types.{Ty}
use Rattle.ab_term.specs.Terms.{Nominal, Head, constant, logical, nominal, variable, index, lam, spine, Terms, no_terms, term, Read}
use Rattle.ab_term.specs.Typing.{Signature, HasType}
use Rattle.ab_term.specs.Names.{rename_head, rename, rename_all, moved_by}
use Rattle.ab_term.specs.Substitution.{lower_head}
use Rattle.ab_term.specs.Translation.{translate_head, forget, forget_all}
use Rattle.ab_term.specs.Variables.{Substitution, value_in, image, IsTyped}
use Rattle.ab_term.specs.Sameness.{same_number}
use Rattle.ab_term.proofs.ClosedMaps.{IsClosedMap, shift-image}
use Rattle.ab_term.proofs.Compositions.{map_typed}
use Rattle.ab_term.proofs.Images.{closed_map}
use Rattle.ab_term.proofs.Lists.{Contains-here, Contains-there}
use Rattle.ab_unifiers.specs.Replacements.{Cell}
use Rattle.ab_unifiers.specs.Clauses.{Each}
use Rattle.ab_formulas.specs.GoalTerms.{HoldsOnly}
use Rattle.ab_formulas.specs.Sequents.{Sequent}
use Rattle.ab_coverage.proofs.IndexedGoals.{is_binder_at, stands, stands_all, lower}
use Rattle.ab_coverage.proofs.IndexedSpecClauses.{in_goals_only}
use Rattle.ab_coverage.proofs.Lowered.{lowered, stands-shift}
use Rattle.ab_search_proofs.specs.Likeness.{StandIn, replaced, replacing, AreStandIns}
use Rattle.ab_search_proofs.proofs.Back.{back, back_typed, taken_back}
use Rattle.ab_search_proofs.proofs.OpenedAlike.{Like}
use Rattle.ab_search_proofs.proofs.StandIns.{stand_ins_typed}

-- hints and constants leave names where they are
head_forgotten : (k : ℕ) (h : Head ℕ) → is_binder_at (lower_head k (translate_head (λ (v : ℕ). v) h)) ≡ is_binder_at (lower_head k h)
head_forgotten k (constant c) = refl
head_forgotten k (logical l) = refl
head_forgotten k (nominal a) = refl
head_forgotten k (variable y) = refl
head_forgotten k (index i) = refl

head_renamed : (m : Nominal → Nominal) (k : ℕ) (h : Head ℕ) → is_binder_at (lower_head k (rename_head m h)) ≡ is_binder_at (lower_head k h)
head_renamed m k (constant c) = refl
head_renamed m k (logical l) = refl
head_renamed m k (nominal a) = refl
head_renamed m k (variable y) = refl
head_renamed m k (index i) = refl

mutual
  stands_forgotten : (k : ℕ) (t : Read) → stands k (forget t) ≡ stands k t
  stands_forgotten k (lam A x t) = stands_forgotten (suc k) t
  stands_forgotten k (spine h ts) = ap (λ b. b || stands_all k (forget_all ts)) (head_forgotten k h) ∙ ap (λ b. is_binder_at (lower_head k h) || b) (all_forgotten k ts)

  all_forgotten : (k : ℕ) (ts : Terms ℕ (List ℕ)) → stands_all k (forget_all ts) ≡ stands_all k ts
  all_forgotten k no_terms = refl
  all_forgotten k (term t ts) = ap (λ b. b || stands_all k (forget_all ts)) (stands_forgotten k t) ∙ ap (λ b. stands k t || b) (all_forgotten k ts)

mutual
  stands_renamed : (m : Nominal → Nominal) (k : ℕ) (t : Read) → stands k (rename m t) ≡ stands k t
  stands_renamed m k (lam A x t) = stands_renamed m (suc k) t
  stands_renamed m k (spine h ts) = ap (λ b. b || stands_all k (rename_all m ts)) (head_renamed m k h) ∙ ap (λ b. is_binder_at (lower_head k h) || b) (all_renamed m k ts)

  all_renamed : (m : Nominal → Nominal) (k : ℕ) (ts : Terms ℕ (List ℕ)) → stands_all k (rename_all m ts) ≡ stands_all k ts
  all_renamed m k no_terms = refl
  all_renamed m k (term t ts) = ap (λ b. b || stands_all k (rename_all m ts)) (stands_renamed m k t) ∙ ap (λ b. stands k t || b) (all_renamed m k ts)

pub stands_past_hints : (k : ℕ) (t u : Read) → forget t ≡ forget u → stands k t ≡ stands k u
stands_past_hints k t u e = sym (stands_forgotten k t) ∙ ap (stands k) e ∙ stands_forgotten k u

-- no name comes where terms are put in
pub none_comes : (sg : Signature) (r : Substitution ℕ (List ℕ)) → IsTyped sg r → (k : ℕ) (t : Read) → stands k t ≡ false → stands k (image same_number r t) ≡ false
none_comes sg r typed k t e =
    let closed : IsClosedMap (value_in same_number r) = closed_map sg ℕ (List ℕ) (value_in same_number r) (map_typed sg same_number r typed) in
    ap (λ z. stands k (image same_number r z)) (lowered k t e)
    ∙ ap (stands k) (sym (shift-image (value_in same_number r) closed (lower k t) k))
    ∙ stands-shift k (image same_number r (lower k t))

module _ (sg : Signature) (s : Sequent) (vs : List StandIn) (are : AreStandIns s vs) (ps : List (Nominal × Nominal)) where
  pub typed : IsTyped sg (replacing vs)
  typed = stand_ins_typed s vs are sg

  -- others stand in for variables: no name goes either
  stands_replaced : {G : List Ty} {A : Ty} (k : ℕ) (t : Read) → HasType sg G t A → HoldsOnly (map replaced vs) t → stands k (image same_number (replacing vs) t) ≡ stands k t
  stands_replaced k t d known = go (stands k t) refl
    where
      go : (b : Bool) → stands k t ≡ b → stands k (image same_number (replacing vs) t) ≡ stands k t
      go false e = none_comes sg (replacing vs) (stand_ins_typed s vs are sg) k t e ∙ sym e
      go true e = other (stands k (image same_number (replacing vs) t)) refl
        where
          other : (b : Bool) → stands k (image same_number (replacing vs) t) ≡ b → stands k (image same_number (replacing vs) t) ≡ stands k t
          other true f = f ∙ sym e
          other false f =
              let gone = none_comes sg (back vs) (back_typed sg s vs are) k (image same_number (replacing vs) t) f in
              absurd (false≢true (sym gone ∙ stands_past_hints k (image same_number (back vs) (image same_number (replacing vs) t)) t (taken_back sg s vs are d known) ∙ e))

  -- WHAT IS LIKE A TERM has the same names
  pub stands_like : {G : List Ty} {A : Ty} (k : ℕ) (t u : Read) → HasType sg G t A → HoldsOnly (map replaced vs) t → Like sg vs typed ps t u → stands k t ≡ stands k u
  stands_like k t u d known e =
      sym (stands_renamed (moved_by ps) k (image same_number (replacing vs) t) ∙ stands_replaced k t d known)
      ∙ stands_past_hints k (rename (moved_by ps) (image same_number (replacing vs) t)) u e

  any_like : {G : List Ty} {A : Ty} (k : ℕ) (Gs Ks : List Read) → ((t : Read) → Contains Gs t → HasType sg G t A × HoldsOnly (map replaced vs) t) → Each (Like sg vs typed ps) Gs Ks → list_any (stands k) Gs ≡ list_any (stands k) Ks
  any_like k [] [] f e = refl
  any_like k [] (u ∷ Ks) f e = absurd e
  any_like k (t ∷ Gs) [] f e = absurd e
  any_like k (t ∷ Gs) (u ∷ Ks) f e =
      let one = f t (Contains-here t Gs) in
      ap (λ b. b || list_any (stands k) Gs) (stands_like k t u one.0 one.1 e.0)
      ∙ ap (λ b. stands k u || b) (any_like k Gs Ks (λ z m. f z (Contains-there t Gs z m)) e.1)

  -- THE SAME NAMES ARE CLOSED
  pub bits_like : {G : List Ty} {A B : Ty} (bs cs : List (Cell (List ℕ))) (Gs Ks : List Read) (F K : Read) → length bs ≡ length cs → ((t : Read) → Contains Gs t → HasType sg G t A × HoldsOnly (map replaced vs) t) → Each (Like sg vs typed ps) Gs Ks
      → HasType sg G F B → HoldsOnly (map replaced vs) F → Like sg vs typed ps F K → in_goals_only bs Gs F ≡ in_goals_only cs Ks K
  bits_like [] [] Gs Ks F K n f e d h l = refl
  bits_like [] (c ∷ cs) Gs Ks F K n f e d h l = absurd (cc)
  bits_like (b ∷ bs) [] Gs Ks F K n f e d h l = absurd (cc)
  bits_like (b ∷ bs) (c ∷ cs) Gs Ks F K n f e d h l =
      let rest : length bs ≡ length cs = cc in
      ap (λ x. x ∷ in_goals_only bs Gs F)
      (ap (λ x. x && not (stands (length bs) F)) (any_like (length bs) Gs Ks f e) ∙ ap (λ x. list_any (stands (length bs)) Ks && not x) (stands_like (length bs) F K d h l)
      ∙ ap (λ i. list_any (stands i) Ks && not (stands i K)) rest)
      ∙ ap (λ z. (list_any (stands (length cs)) Ks && not (stands (length cs) K)) ∷ z) (bits_like bs cs Gs Ks F K rest f e d h l)
