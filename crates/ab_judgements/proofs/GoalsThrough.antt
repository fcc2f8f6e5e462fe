-- Goals are opened before or after variables are closed, and before or after other variables take the places of some: a goal whose
-- head is a variable stays undetermined.
use Rattle.std.proofs.Common.{◌≡◌, ℕ, zero, suc, List, [], ◌∷◌, map, length, Bool, true, false, cond, Option, Some, None, refl, sym, ◌∙◌, ap, arith}
use Rattle.ab_term.specs.Types.{Ty, kind, arrow}
use Rattle.ab_term.specs.Logical.{truth, existential, nabla, spec_universal, spec_implication, spec_conjunction}
use Rattle.ab_term.specs.Terms as tree
use Rattle.ab_term.specs.Terms.{Head, constant, logical, nominal, variable, index, lam, spine, Terms, no_terms, term, with_last, Read}
use Rattle.ab_term.specs.Typing.{Signature, HasType, typed_lam, typed_spine, take_term}
use Rattle.ab_term.specs.Substitution.{shift, shift_all, reduce, substitute, substitute_by}
use Rattle.ab_term.specs.Expansion.{expansion_of, expansion}
use Rattle.ab_term.specs.Variables.{image_by, image_all_by, put_for}
use Rattle.ab_term.specs.Sameness.{same_numbered}
use Rattle.ab_term.specs.Abstraction.{close, close_all}
use Rattle.ab_term.proofs.ClosedMaps.{IsClosedMap, shift-image}
use Rattle.ab_term.proofs.ClosingThrough.{close-shift}
use Rattle.ab_unifiers.specs.Replacements.{Cell}
use Rattle.ab_unifiers.specs.Member.{before}
use Rattle.ab_formulas.specs.Marks.{Sign, plain, star_of, at_of, plus_of, hash_of}
use Rattle.ab_formulas.specs.Sequents.{Variable, in_terms}
use Rattle.ab_theory.specs.Judgements.{marked_judgement}
use Rattle.ab_theory.specs.Splits.{cell_for}
use Rattle.ab_theory.specs.Unfolding.{exists_all}
use Rattle.ab_theory.specs.Opening.{both, open_goal, conjunction_from, conjunction_of}
use Rattle.ab_judgement_forms.specs.DemandWalks.{exists_names}
use Rattle.ab_judgement_forms.proofs.ClosedInTurn.{closed_all, exists_closed}

-- CLOSED
close_judged : (k : ℕ) (y : tree.Variable ℕ) (m : Sign) (L G : Read) → close k (variable y) (marked_judgement m L G) ≡ marked_judgement m (close k (variable y) L) (close k (variable y) G)
close_judged k y plain L G = refl
close_judged k y (star_of i) L G = refl
close_judged k y (at_of i) L G = refl
close_judged k y (plus_of i) L G = refl
close_judged k y (hash_of i) L G = refl

pub close_opened : (k : ℕ) (y : tree.Variable ℕ) (m : Sign) (L G : Read) → close k (variable y) (open_goal m L G) ≡ open_goal m (close k (variable y) L) (close k (variable y) G)
close_opened k y m L (spine (logical (spec_universal A)) (term (lam B x G) no_terms)) =
    ap (λ t. spine (logical (nabla A)) (term (lam A x t) no_terms))
    (close_opened (suc k) y m (shift zero L) G ∙ ap (λ K. open_goal m K (close (suc k) (variable y) G)) (close-shift zero k (variable y) L (omega arith)))
close_opened k y m L (spine (logical spec_implication) (term F (term G no_terms))) = close_opened k y m (before F L) G
close_opened k y m L (spine (logical spec_conjunction) (term F (term G no_terms))) =
    ap (λ t. both t (close k (variable y) (open_goal m L G))) (close_opened k y m L F) ∙ ap (both (open_goal m (close k (variable y) L) (close k (variable y) F))) (close_opened k y m L G)
close_opened k y m L (spine (variable z) ts) = close_judged k y m L (spine (variable z) ts) ∙ go (same_numbered z y)
  where
    go : (b : Bool) → marked_judgement m (close k (variable y) L) (spine (cond b (index k) (variable z)) (close_all k (variable y) ts)) ≡ open_goal m (close k (variable y) L) (spine (cond b (index k) (variable z)) (close_all k (variable y) ts))
    go true = refl
    go false = refl
close_opened k y m L G = close_judged k y m L G

closed_opened : (ys : List Variable) (m : Sign) (L G : Read) → closed_all ys (open_goal m L G) ≡ open_goal m (closed_all ys L) (closed_all ys G)
closed_opened [] m L G = refl
closed_opened (y ∷ ys) m L G = ap (close (length ys) (variable (in_terms y))) (closed_opened ys m L G) ∙ close_opened (length ys) (in_terms y) m (closed_all ys L) (closed_all ys G)

-- what stands under `pi` is an abstraction, so that it may be opened
abbrev pub IsOpenable : Read → Type 0
IsOpenable (spine (logical (spec_universal A)) (term (lam B x G) no_terms)) = IsOpenable G
IsOpenable (spine (logical (spec_universal A)) (term (spine h ss) us)) = ⊥
IsOpenable (spine (logical spec_implication) (term F (term G no_terms))) = IsOpenable G
IsOpenable (spine (logical spec_conjunction) (term F (term G no_terms))) = IsOpenable F × IsOpenable G
IsOpenable G = Unit {0}

module _ (sg : Signature) where
  -- of some type
  abbrev Typed : List Ty → Read → Type 0
  Typed G t = (A : Ty) × HasType sg G t A

  inside : {G : List Ty} {A B : Ty} {x : List ℕ} {t : Read} → HasType sg G (lam B x t) A → Typed (B ∷ G) t
  inside (typed_lam {B = C} d) = (C, d)

  first_given : {G : List Ty} {A : Ty} {h : Head ℕ} {t : Read} {ts : Terms ℕ (List ℕ)} → HasType sg G (spine h (term t ts)) A → Typed G t
  first_given (typed_spine e (take_term {A = D} d ds)) = (D, d)

  second_given : {G : List Ty} {A : Ty} {h : Head ℕ} {s t : Read} {ts : Terms ℕ (List ℕ)} → HasType sg G (spine h (term s (term t ts))) A → Typed G t
  second_given (typed_spine e (take_term c (take_term {A = D} d ds))) = (D, d)

  no_scope : {G : List Ty} {A C : Ty} {h : Head ℕ} {ss ts : Terms ℕ (List ℕ)} → HasType sg G (spine (logical (spec_universal A)) (term (spine h ss) ts)) C → ⊥
  no_scope (typed_spine e (take_term (typed_spine f fs) ds)) = cc

  -- a typed goal is such a one
  pub goal_openable : (G : List Ty) (t : Read) (A : Ty) → HasType sg G t A → IsOpenable t
  goal_openable G (spine (logical (spec_universal A)) (term (lam B x t) no_terms)) C d = let s = first_given d in let i = inside s.1 in goal_openable (B ∷ G) t i.0 i.1
  goal_openable G (spine (logical (spec_universal A)) (term (spine h ss) us)) C d = no_scope d
  goal_openable G (spine (logical spec_implication) (term F (term t no_terms))) C d = let s = second_given d in goal_openable G t s.0 s.1
  goal_openable G (spine (logical spec_conjunction) (term F (term t no_terms))) C d = let r = first_given d in let s = second_given d in (goal_openable G F r.0 r.1, goal_openable G t s.0 s.1)
  goal_openable G t C d = tt

-- OTHER VARIABLES in the places of some, given constants
abbrev pub IsLoose : Read → Type 0
IsLoose (lam A x t) = IsLoose t
IsLoose (spine (variable z) ts) = Unit {0}
IsLoose (spine (constant c) ts) = ⊥
IsLoose (spine (logical l) ts) = ⊥
IsLoose (spine (nominal a) ts) = ⊥
IsLoose (spine (index i) ts) = ⊥

substitute_loose : (r : Read → Terms ℕ (List ℕ) → Read) (u : Read) (k : ℕ) (t : Read) → IsLoose t → IsLoose (substitute_by r u k t)
substitute_loose r u k (lam A x t) l = substitute_loose r (shift zero u) (suc k) t l
substitute_loose r u k (spine (variable z) ts) l = tt
substitute_loose r u k (spine (constant c) ts) l = absurd l
substitute_loose r u k (spine (logical c) ts) l = absurd l
substitute_loose r u k (spine (nominal a) ts) l = absurd l
substitute_loose r u k (spine (index i) ts) l = absurd l

reduce_loose : (A : Ty) (u : Read) (ts : Terms ℕ (List ℕ)) → IsLoose u → IsLoose (reduce A u ts)
reduce_loose (kind c) u ts l = l
reduce_loose (arrow A B) (lam C x t) no_terms l = l
reduce_loose (arrow A B) (lam C x t) (term v vs) l = reduce_loose B (substitute A v zero t) vs (substitute_loose (reduce A) v zero t l)
reduce_loose (arrow A B) (spine h ss) ts l = l

pub expansion_loose : (x : List ℕ) (A : Ty) (z : tree.Variable ℕ) (ts : Terms ℕ (List ℕ)) → IsLoose (expansion_of x A (variable z) ts)
expansion_loose x (kind c) z ts = tt
expansion_loose x (arrow A B) z ts = expansion_loose x B z (with_last (shift_all zero ts) (expansion x A (index zero)))

loose_opened : (m : Sign) (L t : Read) → IsLoose t → open_goal m L t ≡ marked_judgement m L t
loose_opened m L (lam A x t) l = refl
loose_opened m L (spine (variable z) ts) l = refl
loose_opened m L (spine (constant c) ts) l = absurd l
loose_opened m L (spine (logical c) ts) l = absurd l
loose_opened m L (spine (nominal a) ts) l = absurd l
loose_opened m L (spine (index i) ts) l = absurd l

-- these goals may be opened once the variables are closed
abbrev pub AllOpenable : List Variable → List Read → Type 0
AllOpenable ys [] = Unit {0}
AllOpenable ys (G ∷ Gs) = IsOpenable (closed_all ys G) × AllOpenable ys Gs

module _ (f : tree.Variable ℕ → Option Read) (closed : IsClosedMap f) (loose : (y : tree.Variable ℕ) (u : Read) → f y ≡ Some u → IsLoose u) where
  image_judged : (m : Sign) (L G : Read) → image_by f (marked_judgement m L G) ≡ marked_judgement m (image_by f L) (image_by f G)
  image_judged plain L G = refl
  image_judged (star_of i) L G = refl
  image_judged (at_of i) L G = refl
  image_judged (plus_of i) L G = refl
  image_judged (hash_of i) L G = refl

  put_opened : (m : Sign) (L : Read) (z : tree.Variable ℕ) (r : Option Read) → f z ≡ r → (ts : Terms ℕ (List ℕ)) → marked_judgement m L (put_for z r ts) ≡ open_goal m L (put_for z r ts)
  put_opened m L z None e ts = refl
  put_opened m L z (Some u) e ts = sym (loose_opened m L (reduce z.type u ts) (reduce_loose z.type u ts (loose z u e)))

  image_opened : (m : Sign) (L G : Read) → IsOpenable G → image_by f (open_goal m L G) ≡ open_goal m (image_by f L) (image_by f G)
  image_opened m L (spine (logical (spec_universal A)) (term (lam B x G) no_terms)) i =
      ap (λ t. spine (logical (nabla A)) (term (lam A x t) no_terms)) (image_opened m (shift zero L) G i ∙ ap (λ K. open_goal m K (image_by f G)) (sym (shift-image f closed L zero)))
  image_opened m L (spine (logical (spec_universal A)) (term (spine h ss) us)) i = absurd i
  image_opened m L (spine (logical spec_implication) (term F (term G no_terms))) i = image_opened m (before F L) G i
  image_opened m L (spine (logical spec_conjunction) (term F (term G no_terms))) i =
      ap (λ t. both t (image_by f (open_goal m L G))) (image_opened m L F i.0) ∙ ap (both (open_goal m (image_by f L) (image_by f F))) (image_opened m L G i.1)
  image_opened m L (spine (variable z) ts) i = image_judged m L (spine (variable z) ts) ∙ put_opened m (image_by f L) z (f z) refl (image_all_by f ts)
  image_opened m L G i = image_judged m L G

  image_names : (cs : List (Cell (List ℕ))) (F : Read) → image_by f (exists_names cs F) ≡ exists_names cs (image_by f F)
  image_names [] F = refl
  image_names (c ∷ cs) F = ap (λ t. spine (logical (existential c.type)) (term (lam c.type c.hint t) no_terms)) (image_names cs F)

  -- BOTH, one after the other
  module _ (ys : List Variable) where
    abbrev pub through : Read → Read
    through t = image_by f (closed_all ys t)

    through_opened : (m : Sign) (L G : Read) → IsOpenable (closed_all ys G) → through (open_goal m L G) ≡ open_goal m (through L) (through G)
    through_opened m L G i = ap (image_by f) (closed_opened ys m L G) ∙ image_opened m (closed_all ys L) (closed_all ys G) i

    closed_both : (zs : List Variable) (E F : Read) → closed_all zs (both E F) ≡ both (closed_all zs E) (closed_all zs F)
    closed_both [] E F = refl
    closed_both (z ∷ zs) E F = ap (close (length zs) (variable (in_terms z))) (closed_both zs E F)

    through_both : (E F : Read) → through (both E F) ≡ both (through E) (through F)
    through_both E F = ap (image_by f) (closed_both ys E F)

    closed_truth : (zs : List Variable) → closed_all zs (spine (logical truth) no_terms) ≡ spine (logical truth) no_terms
    closed_truth [] = refl
    closed_truth (z ∷ zs) = ap (close (length zs) (variable (in_terms z))) (closed_truth zs)

    conjoined_through : (F : Read) (Gs : List Read) → through (conjunction_from F Gs) ≡ conjunction_from (through F) (map through Gs)
    conjoined_through F [] = refl
    conjoined_through F (G ∷ Gs) = conjoined_through (both F G) Gs ∙ ap (λ E. conjunction_from E (map through Gs)) (through_both F G)

    conjunction_through : (Gs : List Read) → through (conjunction_of Gs) ≡ conjunction_of (map through Gs)
    conjunction_through [] = ap (image_by f) (closed_truth ys)
    conjunction_through (G ∷ Gs) = conjoined_through G Gs

    all_opened : (m : Sign) (L : Read) (Gs : List Read) → AllOpenable ys Gs → map through (map (open_goal m L) Gs) ≡ map (λ G. open_goal m (through L) (through G)) Gs
    all_opened m L [] a = refl
    all_opened m L (G ∷ Gs) a = ap (λ t. t ∷ map through (map (open_goal m L) Gs)) (through_opened m L G a.0) ∙ ap (λ l. open_goal m (through L) (through G) ∷ l) (all_opened m L Gs a.1)

    -- goals opened in a list, closed by `exists`
    pub body_through : (m : Sign) (L : Read) (Gs : List Read) → AllOpenable ys Gs
        → image_by f (exists_all ys (conjunction_of (map (open_goal m L) Gs))) ≡ exists_names (map cell_for ys) (conjunction_of (map (λ G. open_goal m (through L) (through G)) Gs))
    body_through m L Gs a =
        ap (image_by f) (exists_closed ys (conjunction_of (map (open_goal m L) Gs)))
        ∙ image_names (map cell_for ys) (closed_all ys (conjunction_of (map (open_goal m L) Gs)))
        ∙ ap (exists_names (map cell_for ys)) (conjunction_through (map (open_goal m L) Gs) ∙ ap conjunction_of (all_opened m L Gs a))
